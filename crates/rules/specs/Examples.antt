-- Worked examples: a small index of berths, with 4 places and one ring, from a making in tables with
-- any old contents. Each part of the day goes on where the one before it ended.
use Rattle.std.specs.Prelude.{◌≡◌, ℕ, true, List, [], ◌∷◌, ◌++◌, map, replicate, Some, None, Ok, Err, Option, Result}
use Rattle.std.specs.List.{slice_get}
use Rattle.std.specs.Option.{option_map}
use Rattle.calls.specs.declared.call.Action.{Action}
use Rattle.calls.specs.declared.call.Action.TheVariants as action
use Rattle.calls.specs.declared.call.Call.{Call}
use Rattle.calls.specs.declared.fault.IndexFault.{IndexFault}
use Rattle.calls.specs.declared.fault.IndexFault.TheVariants.{NoPlace}
use Rattle.calls.specs.declared.operation.Operation.{Operation}
use Rattle.calls.specs.declared.operation.Operation.TheVariants.{Find, Insert, Replace, Remove}
use Rattle.calls.specs.declared.reply.Progress.TheVariants.{Moved, Again, Held, Claimed, Ended}
use Rattle.calls.specs.declared.reply.Reply.{Reply}
use Rattle.calls.specs.declared.reply.Reply.TheVariants.{Begun, Turned, Collected, Abandoned}
use Rattle.keys.specs.declared.berth.Berth.{Berth}
use Rattle.keys.specs.Berths.{by_berth, berth_hash}
use Rattle.tables.specs.declared.item.Item.{Item}
use Rattle.tables.specs.declared.item.ItemState.{ItemState}
use Rattle.tables.specs.declared.item.ItemState.TheVariants.{Out, SetAside, InRing}
use Rattle.tables.specs.Reads.{none}
use Rattle.rules.specs.States.{State, state}
use Rattle.rules.specs.Making.{new_core, make}
use Rattle.rules.specs.Steps.{played}
use Rattle.rules.specs.Runs.{Event, Run, plain_after}
use Rattle.rules.specs.RunLaw.{Ring}

abbrev pub berth : ℕ → Berth
berth b = record { harbour = 0; berth = b }

-- tables that held something else before
abbrev pub old_item : Item Berth ℕ
old_item = record { state = InRing; key = berth 9; value = 5; next = 77; occupied = true }

abbrev pub old_tables : State Berth ℕ
old_tables = state (new_core 3 2) (7 ∷ []) (replicate 4 old_item) (replicate 16 (record { key = berth 9; value = 5 }))

abbrev pub dawn : State Berth ℕ
dawn = (make 0 old_tables).1

-- a call of session s, and what it is answered
abbrev pub Answered : Type 0
Answered = Call Berth ℕ × Result (Reply ℕ) IndexFault

abbrev pub call : ℕ → Action Berth ℕ → Call Berth ℕ
call s a = record { session = s; action = a }

abbrev pub begins : ℕ → Operation → ℕ → ℕ → Answered
begins s o b v = (call s (action.Begin (record { operation = o; key = berth b; value = v })), Ok Begun)

abbrev pub moves : ℕ → Answered
moves s = (call s action.Turn, Ok (Turned Moved))

abbrev pub tries : ℕ → Answered
tries s = (call s action.Turn, Ok (Turned Again))

abbrev pub waits : ℕ → Answered
waits s = (call s action.Turn, Ok (Turned Held))

abbrev pub claims : ℕ → Answered
claims s = (call s action.Turn, Ok (Turned Claimed))

abbrev pub ends : ℕ → Answered
ends s = (call s action.Turn, Ok (Turned Ended))

abbrev pub answers : ℕ → Option ℕ → Answered
answers s v = (call s action.Collect, Ok (Collected v))

abbrev pub gives_up : ℕ → Answered
gives_up s = (call s action.Abandon, Ok Abandoned)

-- berth 1 is inserted in one turn; berth 2 is not found
abbrev pub morning : List Answered
morning = begins 0 Insert 1 10 ∷ ends 0 ∷ answers 0 None ∷ begins 0 Find 2 0 ∷ moves 0 ∷ ends 0 ∷ answers 0 None ∷ []

-- berth 2 is inserted behind it
abbrev pub noon : List Answered
noon = begins 0 Insert 2 20 ∷ moves 0 ∷ ends 0 ∷ answers 0 None ∷ []

-- while session 0 replaces berth 2, session 1 inserts berth 4: it waits behind the claimed item, and
-- starts again when that is gone
abbrev pub afternoon : List Answered
afternoon =
    begins 0 Replace 2 21 ∷ begins 1 Insert 4 40 ∷ moves 0 ∷ claims 0 ∷ moves 1 ∷ moves 1 ∷ waits 1 ∷ ends 0 ∷ tries 1 ∷ moves 1 ∷ moves 1 ∷ ends 1
    ∷ answers 0 (Some 20) ∷ answers 1 None ∷ []

-- one place is left, and then none
abbrev pub evening : List Answered
evening =
    begins 0 Insert 3 30
    ∷ (call 1 (action.Begin (record { operation = Insert; key = berth 5; value = 50 })), Err NoPlace)
    ∷ []

-- session 0 gives its insert up, then claims berth 2 and gives that up too; session 1 claims it and removes it
abbrev pub night : List Answered
night =
    gives_up 0 ∷ begins 0 Remove 2 0 ∷ moves 0 ∷ claims 0 ∷ gives_up 0 ∷ begins 1 Remove 2 0 ∷ moves 1 ∷ claims 1 ∷ ends 1 ∷ answers 1 (Some 21) ∷ []

-- the other two are removed, the last from a ring of one
abbrev pub midnight : List Answered
midnight =
    begins 0 Remove 4 0 ∷ moves 0 ∷ claims 0 ∷ ends 0 ∷ answers 0 (Some 40)
    ∷ begins 0 Remove 1 0 ∷ moves 0 ∷ claims 0 ∷ ends 0 ∷ answers 0 (Some 10)
    ∷ []

abbrev pub after : List Answered → State Berth ℕ
after day = (played by_berth berth_hash dawn (map (λ c. c.0) day)).1

-- the day is answered as written
abbrev pub Plays : List Answered → Type 0
Plays day = (played by_berth berth_hash dawn (map (λ c. c.0) day)).0 ≡ map (λ c. c.1) day

-- the next of a place, and its state
abbrev pub next_at : State Berth ℕ → ℕ → Option ℕ
next_at st p = option_map (λ it. it.next) (slice_get st.items p)

abbrev pub state_at : State Berth ℕ → ℕ → Option ItemState
state_at st p = option_map (λ it. it.state) (slice_get st.items p)

abbrev pub WorkedDay : Type 0
WorkedDay =
    Plays (morning ++ noon ++ afternoon ++ evening ++ night ++ midnight)
    -- berth 1 lies alone at place 0
    × ((after morning).heads ≡ 0 ∷ [])
    × (next_at (after morning) 0 ≡ Some 0)
    -- places 0 and 1 lead to each other
    × ((after (morning ++ noon)).heads ≡ 0 ∷ [])
    × (next_at (after (morning ++ noon)) 0 ≡ Some 1)
    × (next_at (after (morning ++ noon)) 1 ≡ Some 0)
    -- the ring is 0, 2, 3
    × ((after (morning ++ noon ++ afternoon)).heads ≡ 0 ∷ [])
    × (next_at (after (morning ++ noon ++ afternoon)) 0 ≡ Some 2)
    × (next_at (after (morning ++ noon ++ afternoon)) 2 ≡ Some 3)
    × (next_at (after (morning ++ noon ++ afternoon)) 3 ≡ Some 0)
    -- place 1 is set aside
    × (state_at (after (morning ++ noon ++ afternoon ++ evening)) 1 ≡ Some SetAside)
    -- place 1 is out again, and the ring is 0, 3
    × (state_at (after (morning ++ noon ++ afternoon ++ evening ++ night)) 1 ≡ Some Out)
    × (next_at (after (morning ++ noon ++ afternoon ++ evening ++ night)) 0 ≡ Some 3)
    × (next_at (after (morning ++ noon ++ afternoon ++ evening ++ night)) 3 ≡ Some 0)
    -- there is no ring
    × ((after (morning ++ noon ++ afternoon ++ evening ++ night ++ midnight)).heads ≡ none ∷ [])

-- calls and their answers, in order, as events before earlier ones, the newest first
abbrev pub events_of : List Answered → List (Event Berth ℕ) → List (Event Berth ℕ)
events_of [] es = es
events_of (a ∷ rest) es = events_of rest (record { call = a.0; reply = a.1 } ∷ es)

abbrev pub worked_day : List Answered
worked_day = morning ++ noon ++ afternoon

-- the day is a run, so that the run law speaks of something: with its plain table, and its ring of the places 0, 2 and 3
abbrev pub WorkedRun : Type 0
WorkedRun =
    Run by_berth berth_hash (events_of worked_day []) (after worked_day)
    × ((plain_after by_berth (events_of worked_day [])).entries ≡ (berth 1, 10) ∷ (berth 2, 21) ∷ (berth 4, 40) ∷ [])
    × Ring by_berth berth_hash (after worked_day) (plain_after by_berth (events_of worked_day [])) 0 (0 ∷ 2 ∷ 3 ∷ [])
    × Run by_berth berth_hash (events_of (worked_day ++ evening) []) (after (worked_day ++ evening))
