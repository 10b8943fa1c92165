-- Steps of the search for a free place.
use Rattle.std.proofs.Common.{◌≡◌, ℕ, suc, ◌+◌, ◌-◌, ◌<◌, Bool, true, false, cond, Some, Option, sym, refl, ap, ◌∙◌, subst, arith}
use Rattle.std.proofs.lemmas.Bool.Decides.{nat_tests}
use Rattle.rules.specs.Free.{first_from, place_after}

pub after_below : (n p : ℕ) → p < n → place_after n p < n
after_below n p h = grind (arith, nat_tests)

module _ (free : ℕ → Bool) (n p : ℕ) where
  rest : (b : Bool) (o : Option ℕ) → b ≡ false → cond b (Some p) o ≡ o
  rest true o h = cc
  rest false o h = refl

  -- p, the place after q, does not pass
  pub scan_next : (q i : ℕ) → q < n → i < n → p ≡ place_after n q → free p ≡ false →
      (p < n) × (first_from free n (place_after n p) (n - (i + 1)) ≡ first_from free n (place_after n q) (n - i))
  scan_next q i h k e f =
      let left = n - (i + 1) in
      let one : n - i ≡ suc left = omega arith in (
        subst (λ x. x < n) (sym e) (after_below n q h),
        sym (ap (first_from free n (place_after n q)) one ∙ ap (λ x. first_from free n x (suc left)) (sym e) ∙ rest (free p) (first_from free n (place_after n p) left) f),
      )
