-- A sound state, made new and after a call more.
use Rattle.std.proofs.Common.{[], ◌∷◌}
use Rattle.std.specs.declared.cmp.Ordering.{Ordering}
use mathlib.Core.Logic.{∥∥₁_map}
use Rattle.keys.specs.Hashes.{Hash}
use Rattle.rules.specs.RunLaw.{GoesOn, Starts}
use Rattle.rules.specs.Runs.{Event}
use Rattle.rules.specs.States.{State}
use Rattle.board_server.specs.Soundness.{IsSound}

module _ {K V : Type 0} (order : K → K → Ordering) (digest : K → Hash) where
  pub sound_new : (st : State K V) → Starts order digest st → IsSound order digest st
  sound_new st starts = ∣ ([], starts.0, starts.1) ∣₁

  pub sound_after : (e : Event K V) (st after : State K V) → IsSound order digest st → GoesOn order digest st e after → IsSound order digest after
  sound_after e st after sound law =
      ∥∥₁_map sound (λ r. let on = law r.0 r.1 in (e ∷ r.0, on.0, on.1))
