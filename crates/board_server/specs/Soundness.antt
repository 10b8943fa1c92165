-- What the run law says of a state with no history at hand.
use Rattle.std.specs.Prelude.{List}
use Rattle.std.specs.declared.cmp.Ordering.{Ordering}
use Rattle.keys.specs.Hashes.{Hash}
use Rattle.rules.specs.RunLaw.{Sound}
use Rattle.rules.specs.Runs.{Event, Run}
use Rattle.rules.specs.States.{State}

-- some list of events is a run to this state, and that run is sound
abbrev pub IsSound : {K V : Type 0} → (K → K → Ordering) → (K → Hash) → State K V → Type 0
IsSound {K} {V} order digest st = ∥ ((es : List (Event K V)) × Run order digest es st × Sound order digest es st) ∥₁
