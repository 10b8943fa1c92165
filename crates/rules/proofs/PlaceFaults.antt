-- Only begin is refused for want of a place.
use Rattle.std.proofs.Common.{◌≡◌, ℕ, Bool, true, false, Some, None, Ok, Err, Option, Result, refl, arith}
use Rattle.std.specs.List.{slice_get}
use Rattle.std.specs.declared.cmp.Ordering.{Ordering}
use Rattle.calls.specs.declared.call.Action.{Action}
use Rattle.calls.specs.declared.call.Action.TheVariants.{Begin, Turn, Collect, Abandon}
use Rattle.calls.specs.declared.call.Task.{Task}
use Rattle.calls.specs.declared.fault.IndexFault.{IndexFault}
use Rattle.calls.specs.declared.fault.IndexFault.TheVariants.{HeadBits, TableLengths, NotAsMade, NoSession, NotIdle, NoPlace, Idle, Ended, UnderWay, OutsideTable}
use Rattle.calls.specs.declared.reply.Reply.{Reply}
use Rattle.calls.specs.declared.reply.Reply.TheVariants.{Begun, Turned, Collected, Abandoned}
use Rattle.keys.specs.Hashes.{Hash}
use Rattle.tables.specs.declared.item.Item.{Item}
use Rattle.tables.specs.declared.moves.Move.{Move}
use Rattle.tables.specs.declared.request.Request.{Request}
use Rattle.tables.specs.declared.session.Job.{Job}
use Rattle.tables.specs.declared.session.Session.{Session}
use Rattle.tables.specs.declared.session.Stage.{Stage}
use Rattle.tables.specs.declared.session.Stage.TheVariants as stage
use Rattle.tables.specs.declared.session.Work.{Work}
use Rattle.tables.specs.declared.session.Work.TheVariants.{Seeking, Replacing, Removing}
use Rattle.rules.specs.States.{State, seat}
use Rattle.rules.specs.Abandon.{abandon, abandon_seat}
use Rattle.rules.specs.Begin.{begin}
use Rattle.rules.specs.Collect.{collect, collect_seat}
use Rattle.rules.specs.Decide.{on_item, decide}
use Rattle.rules.specs.Steps.{replied, step_by}
use Rattle.rules.specs.Turn.{turn, turn_move, turn_request, turn_stage, turn_seat}

-- the fault is the want of a place
abbrev is_no_place : IndexFault → Bool
is_no_place HeadBits = false
is_no_place TableLengths = false
is_no_place NotAsMade = false
is_no_place NoSession = false
is_no_place NotIdle = false
is_no_place NoPlace = true
is_no_place Idle = false
is_no_place Ended = false
is_no_place UnderWay = false
is_no_place OutsideTable = false

-- refused for want of a place
abbrev wants_place : {A : Type 0} → Result A IndexFault → Bool
wants_place (Ok a) = false
wants_place (Err f) = is_no_place f

-- neither the seat of a session nor the two reads are refused for it
seat_wants_none : {K V : Type 0} (st : State K V) (s : ℕ) → wants_place (seat st s) ≡ false
seat_wants_none st s = grind arith

-- nor what a turn decides, stage by stage
module _ {K V : Type 0} (order : K → K → Ordering) (digest : K → Hash) (st : State K V) (q : K) where
  item_wants_none : (j : Job) (c : ℕ) (o : Option (Item K V)) → wants_place (on_item order digest st q j c o) ≡ false
  item_wants_none j c None = refl
  item_wants_none j c (Some it) =
      grind arith

  decide_wants_none : (w : Work) → wants_place (decide order digest st q w) ≡ false
  decide_wants_none (Seeking j None) = grind arith
  decide_wants_none (Seeking j (Some c)) = item_wants_none j c (slice_get st.items c)
  decide_wants_none (Replacing x pair) =
      grind arith
  decide_wants_none (Removing pair) =
      grind arith

module _ {K V : Type 0} (order : K → K → Ordering) (digest : K → Hash) (st : State K V) (s : ℕ) where
  -- nor a turn
  move_wants_none : (w : Work) (finds : ℕ) (r : Request K V) (m : Result (Move V) IndexFault) → wants_place m ≡ false → wants_place (turn_move order digest st s w finds r m).0 ≡ false
  move_wants_none w finds r (Ok m) h = refl
  move_wants_none w finds r (Err f) h = h

  request_wants_none : (w : Work) (finds : ℕ) (o : Option (Request K V)) → wants_place (turn_request order digest st s w finds o).0 ≡ false
  request_wants_none w finds None = refl
  request_wants_none w finds (Some r) = move_wants_none w finds r (decide order digest st r.key w) (decide_wants_none order digest st r.key w)

  stage_wants_none : (finds : ℕ) (g : Stage) → wants_place (turn_stage order digest st s finds g).0 ≡ false
  stage_wants_none finds stage.Idle = refl
  stage_wants_none finds (stage.UnderWay w) = request_wants_none w finds (slice_get st.requests s)
  stage_wants_none finds (stage.Ended o present) = refl

  turn_wants_none : (r : Result Session IndexFault) → wants_place r ≡ false → wants_place (turn_seat order digest st s r).0 ≡ false
  turn_wants_none (Ok session) h = stage_wants_none session.finds session.stage
  turn_wants_none (Err f) h = h

-- nor a collect or an abandon
module _ {K V : Type 0} (st : State K V) (s : ℕ) where
  collect_wants_none : (r : Result Session IndexFault) → wants_place r ≡ false → wants_place (collect_seat st s r).0 ≡ false
  collect_wants_none r h = grind arith

  abandon_wants_none : (r : Result Session IndexFault) → wants_place r ≡ false → wants_place (abandon_seat st s r).0 ≡ false
  abandon_wants_none r h = grind arith

-- a reply that is refused for want of a place
replied_wants : {A V : Type 0} (reply : A → Reply V) (r : Result A IndexFault) → replied reply r ≡ Err NoPlace → r ≡ Err NoPlace
replied_wants reply (Ok a) h = absurd cc
replied_wants reply (Err f) h = cc

-- is the reply to a begin
pub refused_begins : {K V : Type 0} (order : K → K → Ordering) (digest : K → Hash) (st : State K V) (s : ℕ) (a : Action K V) → (step_by order digest st s a).0 ≡ Err NoPlace →
    (t : Task K V) × ((begin st s t).0 ≡ Err NoPlace)
refused_begins order digest st s (Begin t) h = (t, replied_wants (λ _. Begun) (begin st s t).0 h)
refused_begins order digest st s Turn h =
    let t = turn_wants_none order digest st s (seat st s) (seat_wants_none st s) in
    let e = replied_wants Turned (turn order digest st s).0 h in
    absurd cc
refused_begins order digest st s Collect h =
    let t = collect_wants_none st s (seat st s) (seat_wants_none st s) in
    let e = replied_wants Collected (collect st s).0 h in
    absurd cc
refused_begins order digest st s Abandon h =
    let t = abandon_wants_none st s (seat st s) (seat_wants_none st s) in
    let e = replied_wants (λ _. Abandoned) (abandon st s).0 h in
    absurd cc
