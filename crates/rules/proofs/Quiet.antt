-- Changes that leave the shape of the rings alone: nothing enters or leaves a ring.
use Rattle.std.proofs.Common.{◌≡◌, ℕ, suc, ◌<◌, true, eqb, ◌⊎◌, length, Some, Option, sym, refl, ap, subst, inl, inr, arith}
use Rattle.std.proofs.lemmas.Bool.{cond-true, cond-false, eq-eqb, ne_eqb}
use Rattle.std.specs.declared.cmp.Ordering.{Ordering}
use Rattle.rings.proofs.Nexts.{untouched_keeps_sound}
use Rattle.rings.specs.Moves.{Untouched}
use Rattle.rings.specs.Rings.{Sound, View}
use Rattle.tables.specs.declared.item.ItemState.{ItemState}
use Rattle.tables.specs.declared.item.ItemState.TheVariants.{Out, SetAside, InRing}
use Rattle.tables.specs.Items.{is_in_ring}
use Rattle.rules.specs.Plain.{Plain, found, Apart}
use Rattle.rules.proofs.Views.{Whole, rings_of, changed, set_head}
use Rattle.rules.proofs.Invariant.{Kept}
use Rattle.rules.proofs.Frames.{Agrees, Frame, Holdings, Own, frame_kept, frame_own, kept_agrees, kept_own, parts_kept}

module _ {X : Type 0} where
  -- where a function is changed it has the new value
  pub changed_here : (i : ℕ) (x : X) (f : ℕ → X) → changed i x f i ≡ x
  changed_here i x f = cond-true (eqb i i) x (f i) (eq-eqb i i refl)

  -- elsewhere it has the value that it had
  pub changed_elsewhere : (i : ℕ) (x : X) (f : ℕ → X) (j : ℕ) → (j ≡ i → ⊥) → changed i x f j ≡ f j
  changed_elsewhere i x f j differs = cond-false (eqb j i) x (f j) (ne_eqb j i differs)

-- an item that passes the test is in ring
pub in_ring_is : (a : ItemState) → is_in_ring a ≡ true → a ≡ InRing
in_ring_is Out e = absurd cc
in_ring_is SetAside e = absurd cc
in_ring_is InRing e = refl

-- an item in ring is in use
pub in_use : {a : ItemState} → a ≡ InRing → a ≡ Out → ⊥
in_use i o = cc

-- an item is out or not
out_cases : (a : ItemState) → (a ≡ Out) ⊎ (a ≡ Out → ⊥)
out_cases Out = inl refl
out_cases SetAside = inr (λ e. cc)
out_cases InRing = inr (λ e. cc)

module _ {K V : Type 0} {order : K → K → Ordering} {plain plain' : Plain K V} {n : ℕ} {v w : Whole K V} where
  -- the plain table still has what is in ring, if keys have the values that they had
  pub untouched_agrees :
      Untouched (rings_of v) (rings_of w) → ((p : ℕ) → v.state p ≡ InRing → w.value p ≡ v.value p) →
      ((x : K) → found order x plain'.entries ≡ found order x plain.entries) →
      Apart order plain'.entries → length plain'.entries ≡ length plain.entries →
      Agrees order plain n v → Agrees order plain' n w
  untouched_agrees u values same apart long a = record {
    held = grind arith;
    known = grind arith;
    apart = apart;
    counted = grind arith;
  }

module _ {K V : Type 0} {order rank : K → K → Ordering} {bucket : K → ℕ} {plain plain' : Plain K V} {n : ℕ} {v w : Whole K V} where
  -- a call that frames the others and leaves the rings, the values in ring and the entries alone
  pub quiet_kept :
      (s : ℕ) → Kept order rank bucket plain n v → Frame v w s → ((t : ℕ) → (t ≡ s → ⊥) → plain'.notes t ≡ plain.notes t) →
      Own order bucket plain' n w s → Holdings v w s → Untouched (rings_of v) (rings_of w) →
      ((p : ℕ) → v.state p ≡ InRing → w.value p ≡ v.value p) → ((p : ℕ) → v.state p ≡ Out → (w.state p ≡ Out → ⊥) → p < n) →
      plain'.entries ≡ plain.entries → Kept order rank bucket plain' n w
  quiet_kept s k f notes own h u values new entries =
      frame_kept s k f notes own h (untouched_keeps_sound rank bucket (rings_of v) (rings_of w) k.rings u)
      (λ p used. elim (out_cases (v.state p)) [ inl out ↦ new p out used | inr was ↦ k.within p was ])
      (untouched_agrees u values (λ x. ap (found order x) entries) (subst (Apart order) (sym entries) k.apart) (ap length entries) (kept_agrees k))

-- every number has another
another : (t : ℕ) → t ≡ suc t → ⊥
another t e = omega arith

-- the same state but for values and heads
abbrev pub revalued : {K V : Type 0} → (ℕ → V) → (ℕ → Option ℕ) → Whole K V → Whole K V
revalued values heads w = record { state = w.state; key = w.key; value = values; next = w.next; mark = w.mark; head = heads; stage = w.stage; want = w.want; gift = w.gift }

-- no session moves, whichever the call is on, if what they have set aside keeps its values
revalued_frame :
    {K V : Type 0} {order rank : K → K → Ordering} {bucket : K → ℕ} {plain : Plain K V} {n : ℕ} {w : Whole K V} (values : ℕ → V) (heads : ℕ → Option ℕ) →
    Kept order rank bucket plain n w → ((x : ℕ) → w.state x ≡ SetAside → values x ≡ w.value x) → (s : ℕ) → Frame w (revalued values heads w) s
revalued_frame values heads k asides s = record {
  stages = λ t differs. refl;
  wants = λ t differs. refl;
  gifts = λ t differs. refl;
  cursors = λ t c differs i. grind arith;
  asides = λ t x differs i. grind arith;
  claims = λ t p differs i. grind arith;
}

-- other values and heads keep the invariant, if what is set aside keeps its values, the rings are sound with these heads, and the
-- plain table agrees
pub revalued_kept :
    {K V : Type 0} {order rank : K → K → Ordering} {bucket : K → ℕ} (plain plain' : Plain K V) {n : ℕ} (w : Whole K V) (values : ℕ → V) (heads : ℕ → Option ℕ) →
    Kept order rank bucket plain n w → ((x : ℕ) → w.state x ≡ SetAside → values x ≡ w.value x) → Sound rank bucket (rings_of (revalued values heads w)) →
    ((s : ℕ) → plain'.notes s ≡ plain.notes s) → Agrees order plain' n (revalued values heads w) → Kept order rank bucket plain' n (revalued values heads w)
revalued_kept plain plain' w values heads k asides rings notes agrees =
    parts_kept rings k.within
    (λ t. frame_own {plain = plain} {plain' = plain'} (suc t) t (revalued_frame values heads k asides (suc t)) (another t) (notes t) (kept_own k t))
    (record { aside_apart = k.aside_apart; aside_owned = k.aside_owned; claim_apart = k.claim_apart; claim_owned = k.claim_owned })
    agrees

-- the same state by a plain table in which each key has the same value
pub entries_kept :
    {K V : Type 0} {order rank : K → K → Ordering} {bucket : K → ℕ} (plain plain' : Plain K V) {n : ℕ} (w : Whole K V) →
    ((s : ℕ) → plain'.notes s ≡ plain.notes s) → ((x : K) → found order x plain'.entries ≡ found order x plain.entries) →
    Apart order plain'.entries → length plain'.entries ≡ length plain.entries →
    Kept order rank bucket plain n w → Kept order rank bucket plain' n w
entries_kept plain plain' w notes same apart long k =
    revalued_kept plain plain' w w.value w.head k (λ x a. refl) k.rings notes
    (untouched_agrees (record { same = λ p. refl; keys = λ p i. refl; nexts = λ p i. refl; heads = λ b. refl }) (λ p i. refl) same apart long (kept_agrees k))

-- a place in ring may become the head of its bucket
head_sound :
    {K : Type 0} {rank : K → K → Ordering} {bucket : K → ℕ} (v : View K) (b p : ℕ) → Sound rank bucket v → v.in_ring p ≡ true → bucket (v.key p) ≡ b →
    Sound rank bucket (record { in_ring = v.in_ring; key = v.key; next = v.next; head = changed b (Some p) v.head })
head_sound {bucket = bucket} v b p s i e = record {
  next_in_ring = s.next_in_ring;
  next_in_bucket = s.next_in_bucket;
  nothing_between = s.nothing_between;
  unlike = s.unlike;
  head_in_ring = λ a h j. grind arith;
  head_in_bucket = λ a h j. grind arith;
  no_head = λ q j none. grind arith;
}

-- a head that moves to a place in ring of its bucket keeps the invariant
pub head_kept :
    {K V : Type 0} {order rank : K → K → Ordering} {bucket : K → ℕ} (plain : Plain K V) {n : ℕ} (w : Whole K V) (b p : ℕ) →
    w.state p ≡ InRing → bucket (w.key p) ≡ b → Kept order rank bucket plain n w → Kept order rank bucket plain n (set_head b (Some p) w)
head_kept plain w b p i e k =
    revalued_kept plain plain w w.value (changed b (Some p) w.head) k (λ x a. refl) (head_sound (rings_of w) b p k.rings (ap is_in_ring i) e) (λ s. refl)
    (record { held = k.held; known = k.known; apart = k.apart; counted = k.counted })
