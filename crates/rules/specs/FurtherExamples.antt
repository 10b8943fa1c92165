-- Further worked examples, from the same making: how heads and the hand move, a swing that gives up, and misses.
use Rattle.std.specs.Prelude.{◌≡◌, ℕ, List, [], ◌∷◌, ◌++◌, Some, None, Option}
use Rattle.std.specs.List.{slice_get}
use Rattle.std.specs.Option.{option_map}
use Rattle.calls.specs.declared.operation.Operation.{Operation}
use Rattle.calls.specs.declared.operation.Operation.TheVariants.{Find, Insert, Write, Replace, Remove, Point}
use Rattle.keys.specs.declared.berth.Berth.{Berth}
use Rattle.tables.specs.declared.item.ItemState.TheVariants.{Out, SetAside}
use Rattle.rules.specs.States.{State}
use Rattle.rules.specs.Examples.{Answered, begins, moves, tries, claims, ends, answers, gives_up, after, Plays, next_at, state_at}

-- berths 1 and 2 at the places 0 and 1; the head is place 0
abbrev pub two_berths : List Answered
two_berths = begins 0 Insert 1 10 ∷ ends 0 ∷ answers 0 None ∷ begins 0 Insert 2 20 ∷ moves 0 ∷ ends 0 ∷ answers 0 None ∷ []

-- berth 2 is pointed at
abbrev pub pointed : List Answered
pointed = begins 0 Point 2 0 ∷ moves 0 ∷ moves 0 ∷ ends 0 ∷ answers 0 (Some 20) ∷ []

-- session s finds berth 1, from the head at place 1
abbrev pub found_once : ℕ → List Answered
found_once s = begins s Find 1 0 ∷ moves s ∷ moves s ∷ ends s ∷ answers s (Some 10) ∷ []

abbrev pub found_four_times : ℕ → List Answered
found_four_times s = found_once s ++ found_once s ++ found_once s ++ found_once s

-- session s finds no berth 4
abbrev pub found_none : ℕ → List Answered
found_none s = begins s Find 4 0 ∷ moves s ∷ ends s ∷ answers s None ∷ []

-- an insert is given up, and begun again
abbrev pub begun_twice : List Answered
begun_twice = begins 0 Insert 4 40 ∷ gives_up 0 ∷ begins 0 Insert 4 41 ∷ []

-- session 0 has claimed berth 2 when session 1 links berth 3 in front of it: session 0 starts again
abbrev pub started_again : List Answered
started_again =
    begins 0 Remove 2 0 ∷ moves 0 ∷ claims 0 ∷ begins 1 Insert 3 30 ∷ moves 1 ∷ ends 1 ∷ tries 0 ∷ moves 0 ∷ moves 0 ∷ claims 0 ∷ ends 0
    ∷ answers 0 (Some 20) ∷ answers 1 None ∷ []

-- berth 4 is missed between the two
abbrev pub missed : Operation → List Answered
missed o = begins 0 o 4 1 ∷ moves 0 ∷ moves 0 ∷ ends 0 ∷ answers 0 None ∷ []

abbrev pub finds_of : State Berth ℕ → ℕ → Option ℕ
finds_of st s = option_map (λ session. session.finds) (slice_get st.core.sessions s)

abbrev pub FurtherDays : Type 0
FurtherDays =
    Plays (two_berths ++ pointed ++ found_four_times 2 ++ found_once 2)
    -- point moves the head, four finds do not, and the fifth does
    × ((after (two_berths ++ pointed)).heads ≡ 1 ∷ [])
    × ((after (two_berths ++ pointed ++ found_four_times 2)).heads ≡ 1 ∷ [])
    × (finds_of (after (two_berths ++ pointed ++ found_four_times 2)) 2 ≡ Some 4)
    × ((after (two_berths ++ pointed ++ found_four_times 2 ++ found_once 2)).heads ≡ 0 ∷ [])
    × (finds_of (after (two_berths ++ pointed ++ found_four_times 2 ++ found_once 2)) 2 ≡ Some 0)
    -- a fifth find that misses moves no head, and counts
    × Plays (two_berths ++ pointed ++ found_four_times 3 ++ found_none 3)
    × ((after (two_berths ++ pointed ++ found_four_times 3 ++ found_none 3)).heads ≡ 1 ∷ [])
    × (finds_of (after (two_berths ++ pointed ++ found_four_times 3 ++ found_none 3)) 3 ≡ Some 0)
    -- the hand moves on: the second insert sets place 3 aside, though place 2 is out again
    × Plays (two_berths ++ begun_twice)
    × (state_at (after (two_berths ++ begun_twice)) 2 ≡ Some Out)
    × (state_at (after (two_berths ++ begun_twice)) 3 ≡ Some SetAside)
    × ((after (two_berths ++ begun_twice)).core.hand ≡ 3)
    -- a swing whose pair is parted gives up, and berth 2 is removed from behind berth 3
    × Plays (two_berths ++ started_again)
    × (next_at (after (two_berths ++ started_again)) 0 ≡ Some 2)
    × (next_at (after (two_berths ++ started_again)) 2 ≡ Some 0)
    -- a miss in a ring ends absent, whatever is sought
    × Plays (two_berths ++ missed Write ++ missed Replace ++ missed Remove ++ missed Point)
