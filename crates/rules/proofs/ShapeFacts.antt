-- What the shape of an index says of its parts: it is as made, its sessions are seated, and it has an item.
use Rattle.std.proofs.Common.{◌≡◌, ℕ, true, Some, arith}
use Rattle.std.specs.List.{slice_get}
use Rattle.std.specs.Option.{ok_or}
use Rattle.std.proofs.lemmas.Bool.{cond-true}
use Rattle.calls.specs.declared.fault.IndexFault.TheVariants.{NoSession}
use Rattle.tables.specs.declared.item.Item.{Item}
use Rattle.rules.specs.States.{State, is_as_made, seat}
use Rattle.rules.proofs.Invariant.{Shape}
use Rattle.rules.proofs.Reading.{nth_within}

module _ {K V : Type 0} (st : State K V) (shape : Shape st) where
  -- the first check of every call passes
  pub as_made : is_as_made st ≡ true
  as_made =
      grind arith

  -- so a session is refused only where the record has none
  pub seat_of : (s : ℕ) → seat st s ≡ ok_or (slice_get st.core.sessions s) NoSession
  seat_of s = cond-true (is_as_made st) _ _ as_made

  -- there is an item at place 0
  pub first_item : (it : Item K V) × (slice_get st.items 0 ≡ Some it)
  first_item = nth_within st.items 0 (let l = shape.items_long in let p = shape.some_place in omega arith)
