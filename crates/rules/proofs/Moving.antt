-- The moves by which a session goes on seeking: it steps, leaves where it stood, gives up its claim, or waits.
use Rattle.std.proofs.Common.{◌≡◌, ℕ, Bool, false, Some, None, Option, sym, refl, ap, ◌∙◌, arith}
use Rattle.std.specs.declared.cmp.Ordering.{Ordering}
use Rattle.tables.specs.declared.item.ItemState.TheVariants.{InRing}
use Rattle.tables.specs.declared.moves.Move.TheVariants.{Step, Leave, GiveUp, Wait}
use Rattle.tables.specs.declared.session.Stage.TheVariants.{UnderWay}
use Rattle.tables.specs.declared.session.Work.{Work}
use Rattle.tables.specs.declared.session.Work.TheVariants.{Seeking, Replacing, Removing}
use Rattle.tables.specs.Sessions.{claim_of, job_of}
use Rattle.rules.specs.Plain.{Plain}
use Rattle.rules.proofs.Views.{Whole, aside_at, claim_at, changed, set_stage, release_view, act_view}
use Rattle.rules.proofs.Invariant.{Kept}
use Rattle.rules.proofs.Grounds.{Grounds, Seeks}
use Rattle.rules.proofs.KindLaws.{Kind}
use Rattle.rules.proofs.Frames.{absent_present, kept_own, own_work, own_working}
use Rattle.rules.proofs.Quiet.{changed_here, changed_elsewhere, quiet_kept, in_use}

-- the same state but for the marks
abbrev pub remarked : {K V : Type 0} → (ℕ → Bool) → Whole K V → Whole K V
remarked marks w = record { state = w.state; key = w.key; value = w.value; next = w.next; mark = marks; head = w.head; stage = w.stage; want = w.want; gift = w.gift }

-- session s of v, whose work is under way, and its claim, if any, given up
module _ {K V : Type 0} {order rank : K → K → Ordering} {bucket : K → ℕ} {plain : Plain K V} {n : ℕ} {v : Whole K V} {s : ℕ} {work : Work}
    (k : Kept order rank bucket plain n v) (e : v.stage s ≡ UnderWay work) (marks : ℕ → Bool)
    (off : (p : ℕ) → claim_of work ≡ Some p → marks p ≡ false) (rest : (p : ℕ) → (claim_of work ≡ Some p → ⊥) → marks p ≡ v.mark p) where
  -- a claim of another session is not this one's
  other_claim : (t p : ℕ) → (t ≡ s → ⊥) → claim_at (v.stage t) ≡ Some p → claim_of work ≡ Some p → ⊥
  other_claim t p differs i j = differs (k.claim_apart t s p i (ap claim_at e ∙ j))

  -- it goes on seeking from a place in ring in its key's bucket, or from none
  seek_with :
      (cursor : Option ℕ) → ((c : ℕ) → cursor ≡ Some c → (v.state c ≡ InRing) × (bucket (v.key c) ≡ bucket (v.want s))) →
      Kept order rank bucket plain n (set_stage s (UnderWay (Seeking (job_of work) cursor)) (remarked marks v))
  seek_with cursor stands =
      let stage = changed_here s (UnderWay (Seeking (job_of work) cursor)) v.stage in
      let own = own_work work e (kept_own k s) in
      let aside = ap aside_at e in
      quiet_kept {plain = plain} {plain' = plain} s k
      (record {
        stages = grind arith;
        wants = λ t differs. refl;
        gifts = λ t differs. refl;
        cursors = λ t c differs i. grind arith;
        asides = λ t x differs i. grind arith;
        claims = λ t p differs i. record { state = refl; key = refl; next = refl; mark = rest p (other_claim t p differs i) };
      })
      (λ t differs. refl)
      (own_working (Seeking (job_of work) cursor) stage (k.under_way s work e)
      (record {
        cursor_within = λ c i. k.within c (in_use (stands c i).0);
        cursor_state = λ c i a. grind arith;
        cursor_bucket = λ c i r. (stands c i).1;
        aside_state = own.aside_state;
        aside_key = own.aside_key;
        aside_value = own.aside_value;
        claim_state = λ p i. absurd (absent_present refl i);
        claim_mark = λ p i. absurd (absent_present refl i);
        claim_key = λ p i. absurd (absent_present refl i);
        claim_next = λ p x i j. absurd (absent_present refl i);
      }))
      (record {
        aside_new = λ t x differs i j. grind arith;
        aside_left = λ x a. grind arith;
        claim_new = λ t p differs i j. grind arith;
        claim_left = λ p i. grind arith;
      })
      (record { same = λ p. refl; keys = λ p i. refl; nexts = λ p i. refl; heads = λ b. refl })
      (λ p i. refl) (λ p out used. absurd (used out)) refl

module _ {K V : Type 0} {order rank : K → K → Ordering} {bucket : K → ℕ} {plain : Plain K V} {n : ℕ} {v : Whole K V} {s : ℕ} {work : Work}
    (k : Kept order rank bucket plain n v) (e : v.stage s ≡ UnderWay work) where
  -- a session that gives up its claim, if it has one, and goes on seeking
  pub seek_kept :
      (claim cursor : Option ℕ) → claim_of work ≡ claim → ((c : ℕ) → cursor ≡ Some c → (v.state c ≡ InRing) × (bucket (v.key c) ≡ bucket (v.want s))) →
      Kept order rank bucket plain n (set_stage s (UnderWay (Seeking (job_of work) cursor)) (release_view claim v))
  seek_kept None cursor h stands = seek_with k e v.mark (λ p i. absurd (absent_present h i)) (λ p i. refl) cursor stands
  seek_kept (Some m) cursor h stands =
      seek_with k e (changed m false v.mark) (λ p i. (let same : p ≡ m = cc in ap (changed m false v.mark) same ∙ changed_here m false v.mark))
      (λ p other. changed_elsewhere m false v.mark p (λ i. other (h ∙ ap Some (sym i)))) cursor stands

-- a session that seeks has claimed nothing
pub seeks_free : (work : Work) → Seeks work → claim_of work ≡ None
seeks_free (Seeking j cursor) h = refl
seeks_free (Replacing x pair) h = absurd h
seeks_free (Removing pair) h = absurd h

module _ {K V : Type 0} {order rank : K → K → Ordering} {bucket : K → ℕ} {plain : Plain K V} {n : ℕ} {w : Whole K V} {s : ℕ} {work : Work}
    (kind : Kind order rank bucket) (k : Kept order rank bucket plain n w) (e : w.stage s ≡ UnderWay work) (fifth : Bool) where
  -- a step keeps the invariant
  pub step_kept : (p : ℕ) → Grounds order rank bucket n w s work (Step p) → Kept order rank bucket plain n (act_view s (job_of work) fifth (bucket (w.want s)) (Step p) w)
  step_kept p g = seek_kept k e None (Some p) (seeks_free work g.0) (λ c i. let same : p ≡ c = cc in (ap w.state (sym same) ∙ g.1, ap (λ q. bucket (w.key q)) (sym same) ∙ g.2))

  -- to leave where it stood keeps it
  pub leave_kept : Grounds order rank bucket n w s work Leave → Kept order rank bucket plain n (act_view s (job_of work) fifth (bucket (w.want s)) Leave w)
  leave_kept g = seek_kept k e None None (seeks_free work g) (λ c i. absurd (absent_present refl i))

  -- to give up a claim keeps it
  pub give_up_kept : (p : ℕ) → Grounds order rank bucket n w s work (GiveUp p) → Kept order rank bucket plain n (act_view s (job_of work) fifth (bucket (w.want s)) (GiveUp p) w)
  give_up_kept p g = seek_kept k e (Some p) None g (λ c i. absurd (absent_present refl i))

  -- to wait changes nothing
  pub wait_kept : Grounds order rank bucket n w s work Wait → Kept order rank bucket plain n (act_view s (job_of work) fifth (bucket (w.want s)) Wait w)
  wait_kept g = k
