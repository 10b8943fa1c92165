-- The moves by which a session claims the item ahead of it, to replace or to remove it.
use Rattle.std.proofs.Common.{◌≡◌, ℕ, Bool, true, false, cond, eqb, Some, None, sym, refl, ap, ◌∙◌, arith}
use Rattle.std.specs.declared.cmp.Ordering.{Ordering}
use Rattle.std.specs.declared.cmp.Ordering.TheVariants.{Equal}
use Rattle.tables.specs.declared.item.ItemState.TheVariants.{InRing}
use Rattle.tables.specs.declared.moves.Move.TheVariants.{ClaimToReplace, ClaimToRemove}
use Rattle.tables.specs.declared.session.Stage.TheVariants.{UnderWay}
use Rattle.tables.specs.declared.session.Work.{Work}
use Rattle.tables.specs.declared.session.Work.TheVariants.{Replacing, Removing}
use Rattle.tables.specs.Items.{is_in_ring}
use Rattle.tables.specs.Sessions.{aside_of, claim_of, cursor_of, job_of, operation_of}
use Rattle.rules.specs.Plain.{Plain, asked}
use Rattle.rules.proofs.Views.{Whole, aside_at, changed, set_stage, act_view}
use Rattle.rules.proofs.Invariant.{Kept}
use Rattle.rules.proofs.Grounds.{Grounds, Ahead}
use Rattle.rules.proofs.KindLaws.{Kind}
use Rattle.rules.proofs.Frames.{absent_present, kept_own, own_work, own_working}
use Rattle.rules.proofs.Quiet.{changed_here, changed_elsewhere, in_ring_is, quiet_kept}

-- the same state but for the nexts and one more mark
abbrev pub claimed : {K V : Type 0} → (ℕ → ℕ) → ℕ → Whole K V → Whole K V
claimed nexts m w = record { state = w.state; key = w.key; value = w.value; next = nexts; mark = changed m true w.mark; head = w.head; stage = w.stage; want = w.want; gift = w.gift }

-- session s of v, whose work is under way and claims nothing, claims m, which is in ring, not marked, and has its key; only its own
-- aside gets another next
module _ {K V : Type 0} {order rank : K → K → Ordering} {bucket : K → ℕ} {plain : Plain K V} {n : ℕ} {v : Whole K V} {s : ℕ} {work : Work}
    (k : Kept order rank bucket plain n v) (e : v.stage s ≡ UnderWay work) (none : claim_of work ≡ None)
    (m : ℕ) (ring : v.state m ≡ InRing) (alike : order (v.key m) (v.want s) ≡ Equal) (free : v.mark m ≡ false)
    (nexts : ℕ → ℕ) (rest : (p : ℕ) → (aside_at (v.stage s) ≡ Some p → ⊥) → nexts p ≡ v.next p) where
  -- it goes on as the claim's work
  pub claim_made :
      (work' : Work) → claim_of work' ≡ Some m → job_of work ≡ job_of work' → cursor_of work ≡ cursor_of work' →
      ((x : ℕ) → aside_at (v.stage s) ≡ Some x → nexts x ≡ cond (eqb (v.next m) m) x (v.next m)) →
      Kept order rank bucket plain n (set_stage s (UnderWay work') (claimed nexts m v))
  claim_made work' claim job cursor ahead =
      let stage = changed_here s (UnderWay work') v.stage in
      let own = own_work work e (kept_own k s) in
      let aside = ap aside_at e in
      let old = λ (x : ℕ) (i : aside_of (job_of work') ≡ Some x). ap aside_of job ∙ i in
      let only = λ (p : ℕ) (i : claim_of work' ≡ Some p). let same : p ≡ m = cc in same in
      quiet_kept {plain = plain} {plain' = plain} s k
      (record {
        stages = grind arith;
        wants = λ t differs. refl;
        gifts = λ t differs. refl;
        cursors = λ t c differs i. grind arith;
        asides = λ t x differs i. grind arith;
        claims = λ t p differs i. grind arith;
      })
      (λ t differs. refl)
      (own_working work' stage (k.under_way s work e ∙ ap (λ a. asked (record { operation = operation_of a; key = v.want s; value = v.gift s })) job)
      (record {
        cursor_within = λ c i. grind arith;
        cursor_state = λ c i. grind arith;
        cursor_bucket = λ c i. grind arith;
        aside_state = λ x i. grind arith;
        aside_key = λ x i. grind arith;
        aside_value = λ x i. grind arith;
        claim_state = λ p i. grind arith;
        claim_mark = λ p i. grind arith;
        claim_key = λ p i. grind arith;
        claim_next = λ p x i j. grind arith;
      }))
      (record {
        aside_new = λ t x differs i j. grind arith;
        aside_left = λ x a. grind arith;
        claim_new = λ t p differs i j. grind arith;
        claim_left = λ p i. grind arith;
      })
      (record { same = λ p. refl; keys = λ p i. refl; nexts = λ p i. grind arith; heads = λ b. refl })
      (λ p i. refl) (λ p out used. absurd (used out)) refl

module _ {K V : Type 0} {order rank : K → K → Ordering} {bucket : K → ℕ} {plain : Plain K V} {n : ℕ} {w : Whole K V} {s : ℕ} {work : Work}
    (kind : Kind order rank bucket) (k : Kept order rank bucket plain n w) (e : w.stage s ≡ UnderWay work) (fifth : Bool) where
  -- what is ahead is in ring
  ahead_in_ring : (c m : ℕ) → Ahead order rank bucket n w s c m → w.state m ≡ InRing
  ahead_in_ring c m a = in_ring_is (w.state m) (ap (λ q. is_in_ring (w.state q)) (sym a.leads) ∙ k.rings.next_in_ring c (ap is_in_ring a.stands))

  -- to claim an item for its replacement keeps the invariant
  pub claim_to_replace_kept :
      (x : ℕ) (pair : ℕ × ℕ) (ahead : ℕ) → Grounds order rank bucket n w s work (ClaimToReplace x pair ahead) →
      Kept order rank bucket plain n (act_view s (job_of work) fifth (bucket (w.want s)) (ClaimToReplace x pair ahead) w)
  claim_to_replace_kept x pair ahead g =
      let stage = e ∙ ap UnderWay g.0 in
      let aside = ap aside_at stage in
      let a = g.1 in
      claim_made k stage refl pair.1 (ahead_in_ring pair.0 pair.1 a) a.alike a.free (changed x ahead w.next)
      (λ p i. changed_elsewhere x ahead w.next p (λ j. i (aside ∙ ap Some (sym j))))
      (Replacing x pair) refl refl refl
      (λ y i. let same : y ≡ x = cc in let here = changed_here x ahead w.next in let h = g.2 in (cc))

  -- to claim an item for its removal keeps it
  pub claim_to_remove_kept :
      (pair : ℕ × ℕ) → Grounds order rank bucket n w s work (ClaimToRemove pair) →
      Kept order rank bucket plain n (act_view s (job_of work) fifth (bucket (w.want s)) (ClaimToRemove pair) w)
  claim_to_remove_kept pair g =
      let stage = e ∙ ap UnderWay g.0 in
      let a = g.1 in
      claim_made k stage refl pair.1 (ahead_in_ring pair.0 pair.1 a) a.alike a.free w.next (λ p i. refl)
      (Removing pair) refl refl refl (λ y i. absurd (absent_present (ap aside_at stage) i))
