use Rattle.std.proofs.Common.{◌≡◌, ◌<◌, ◌-◌}
use Rattle.std.specs.List.{slice_get}
use Rattle.rules.specs.Free.{is_free_item, first_from, first_free_in, place_after}
use Rattle.index.proofs.free.first_free.Given as goal

-- the search from the next place on finds what the whole search finds
abbrev pub invariant-loop-step : goal.invariant-loop-step
invariant-loop-step g l =
    (l.place < l.core.places)
    × (first_from (λ p. is_free_item l.core.sessions p (slice_get l.items p)) l.core.places (place_after l.core.places l.place) (l.core.places - l.step) ≡ first_free_in l.core l.items)
