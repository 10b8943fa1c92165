-- What it says that a place is free, that one was found, and that none was.
use Rattle.std.proofs.Common.{◌≡◌, ℕ, zero, suc, ◌+◌, ◌<◌, ◌≤◌, Bool, true, false, ◌⊎◌, List, [], ◌∷◌, Some, None, Option, refl, inl, inr, arith}
use Rattle.std.specs.List.{slice_get}
use Rattle.std.proofs.lemmas.Bool.{cases_eq, cases_Bool}
use Rattle.tables.specs.declared.item.Item.{Item}
use Rattle.tables.specs.declared.item.ItemState.TheVariants.{Out}
use Rattle.tables.specs.declared.session.Session.{Session}
use Rattle.rules.specs.States.{State}
use Rattle.rules.specs.Free.{stands_on, is_stood_on, place_after, first_from, is_free, first_free}
use Rattle.rules.proofs.Invariant.{Shape}
use Rattle.rules.proofs.Reading.{nth_within, nth_bound}
use Rattle.rules.proofs.Views.{whole, stage_in, cursor_at}

-- if p is not stood on, no session has its cursor there
not_stood_on : (p : ℕ) (ss : List Session) → is_stood_on p ss ≡ false → (s : ℕ) → cursor_at (stage_in (slice_get ss s)) ≡ Some p → ⊥
not_stood_on p [] h s e = grind arith
not_stood_on p (x ∷ ss) h zero e = grind arith
not_stood_on p (x ∷ ss) h (suc s) e = not_stood_on p ss (grind arith) s e

-- if p is stood on, some session has its cursor there
stood_on : (p : ℕ) (ss : List Session) → is_stood_on p ss ≡ true → (s : ℕ) × (cursor_at (stage_in (slice_get ss s)) ≡ Some p)
stood_on p [] h = absurd (grind arith)
stood_on p (x ∷ ss) h =
    elim (cases_Bool (stands_on p x.stage)) [
      | inl here ↦ grind arith
      | inr not-here ↦ let more = stood_on p ss (grind arith) in (suc more.0, more.1)
    ]

-- the place that was found passes the test
first_passes : (test : ℕ → Bool) (n p left x : ℕ) → first_from test n p left ≡ Some x → test x ≡ true
first_passes test n p zero x e = absurd (grind arith)
first_passes test n p (suc left) x e = let ih = first_passes test n (place_after n p) left x in grind arith

-- if none was found in so many places from p on, round a table of n, none of them passes
none_passes : (test : ℕ → Bool) (n p left : ℕ) → first_from test n p left ≡ None → p < n →
    (q : ℕ) → q < n → ((p ≤ q) × (q < p + left)) ⊎ (q + n < p + left) → test q ≡ false
none_passes test n p zero e p-in q q-in reach = absurd (grind arith)
none_passes test n p (suc left) e p-in q q-in reach =
    let after-in : place_after n p < n = grind arith in
    let ih = none_passes test n (place_after n p) left (grind arith) after-in q q-in in
    elim (cases_eq q p) [
      | inl here ↦ grind arith
      | inr ahead ↦ ih (grind arith)
    ]

module _ {K V : Type 0} (d : K) (e : V) (st : State K V) (shape : Shape st) where
  -- the first free place lies in the table, its item is out, and no session under way has its cursor there
  pub first_free_is_free :
      (x : ℕ) → first_free st ≡ Some x →
      (x < st.core.places) × ((whole d e st).state x ≡ Out) × ((s : ℕ) → cursor_at ((whole d e st).stage s) ≡ Some x → ⊥)
  first_free_is_free x found = go (slice_get st.items x) refl
    where
      passes : is_free st x ≡ true
      passes = first_passes (is_free st) st.core.places (place_after st.core.places st.core.hand) st.core.places x found

      go :
          (o : Option (Item K V)) → slice_get st.items x ≡ o →
          (x < st.core.places) × ((whole d e st).state x ≡ Out) × ((s : ℕ) → cursor_at ((whole d e st).stage s) ≡ Some x → ⊥)
      go None at = absurd (grind (arith, passes))
      go (Some it) at =
          let p = passes in
          let b = nth_bound st.items x it at in
          let long = shape.items_long in
          (omega arith, grind arith, not_stood_on x st.core.sessions (grind arith))

  -- if no free place was found, every place of the table whose item is out has the cursor of a session on it
  pub none_free :
      first_free st ≡ None → (p : ℕ) → p < st.core.places → (whole d e st).state p ≡ Out →
      (s : ℕ) × (cursor_at ((whole d e st).stage s) ≡ Some p)
  none_free found p p-in out =
      let n = st.core.places in
      let hand = shape.hand_within in
      let after-in : place_after n st.core.hand < n = grind arith in
      let fails = none_passes (is_free st) n (place_after n st.core.hand) n found after-in p p-in (grind arith) in
      let long = shape.items_long in
      let here = nth_within st.items p (omega arith) in
      let at = here.1 in
      stood_on p st.core.sessions (grind arith)
