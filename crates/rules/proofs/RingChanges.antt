-- A move that ends a session's work and changes what is in ring: what it leaves to the other sessions, and when the plain
-- table agrees after it.
use Rattle.std.proofs.Common.{◌≡◌, ℕ, suc, ◌<◌, Bool, true, false, cond, length, Some, None, Option, sym, ap, ◌∙◌, subst, inl, inr, arith}
use mathlib.Core.Path.{fun_ext}
use Rattle.std.specs.declared.cmp.Ordering.{Ordering}
use Rattle.std.specs.declared.cmp.Ordering.TheVariants.{Equal}
use Rattle.calls.specs.declared.operation.Operation.{Operation}
use Rattle.keys.specs.Orders.{Lawful}
use Rattle.keys.proofs.Preorders.{total_preorder}
use Rattle.rings.specs.RingLists.{count_below}
use Rattle.rings.specs.Rings.{Sound}
use Rattle.rings.proofs.Counting.{without, count_one}
use Rattle.tables.specs.declared.item.ItemState.TheVariants.{Out, SetAside, InRing}
use Rattle.tables.specs.declared.session.Stage.TheVariants.{Ended}
use Rattle.tables.specs.Items.{is_in_ring}
use Rattle.rules.specs.Plain.{Plain, answer, found, put, Apart, do_task}
use Rattle.rules.proofs.Frames.{Frame, Holdings, Agrees, own_ended, frame_kept}
use Rattle.rules.proofs.Invariant.{Kept}
use Rattle.rules.proofs.PlainTables.{alike_cases, found_put_same, found_put_other, apart_put}
use Rattle.rules.proofs.Views.{Whole, rings_of, aside_at, claim_at}

-- one number below n that passes only the second of two tests, which are otherwise the same, adds one
pub count_more :
    (f g : ℕ → Bool) (m : ℕ) → f m ≡ false → g m ≡ true → ((p : ℕ) → (p ≡ m → ⊥) → g p ≡ f p) →
    (n : ℕ) → m < n → count_below g n ≡ suc (count_below f n)
count_more f g m fails passes same n l =
    let others : (p : ℕ) → without g m p ≡ f p = λ p. (grind arith) in
    count_one g m passes n l ∙ ap (λ test. suc (count_below test n)) (fun_ext others)

-- the plain table after session s has done this operation
abbrev pub done_by : {K V : Type 0} → (K → K → Ordering) → ℕ → Operation → Whole K V → Plain K V → Plain K V
done_by order s o v plain = do_task order s (record { operation = o; key = v.want s; value = v.gift s }) plain

-- session s ends its work: no key changes, the other sessions stand where they stood, and what they have set aside
-- or claimed is as it was; what s had set aside is so no more, and what it had claimed is marked no more
pub record Ending {K V : Type 0} (plain after : Plain K V) (v w : Whole K V) (s : ℕ) : Type 0 where
  pub keys : (p : ℕ) → w.key p ≡ v.key p
  pub wants : (t : ℕ) → w.want t ≡ v.want t
  pub gifts : (t : ℕ) → (t ≡ s → ⊥) → w.gift t ≡ v.gift t
  pub stages : (t : ℕ) → (t ≡ s → ⊥) → w.stage t ≡ v.stage t
  pub notes : (t : ℕ) → (t ≡ s → ⊥) → after.notes t ≡ plain.notes t
  pub operation : Operation
  pub present : Bool
  pub stage : w.stage s ≡ Ended operation present
  pub note : after.notes s ≡ answer (cond present (Some (w.gift s)) None)
  pub in_use : (p : ℕ) → (w.state p ≡ Out → ⊥) → v.state p ≡ Out → ⊥
  pub in_ring : (p : ℕ) → w.state p ≡ InRing → (v.state p ≡ SetAside → ⊥) → v.state p ≡ InRing
  pub set_aside : (p : ℕ) → w.state p ≡ SetAside → (v.state p ≡ SetAside) × (aside_at (v.stage s) ≡ Some p → ⊥)
  pub marked : (p : ℕ) → w.mark p ≡ true → (v.mark p ≡ true) × (claim_at (v.stage s) ≡ Some p → ⊥)
  pub aside_stays : (t x : ℕ) → (t ≡ s → ⊥) → aside_at (v.stage t) ≡ Some x → w.state x ≡ SetAside
  pub aside_value : (t x : ℕ) → (t ≡ s → ⊥) → aside_at (v.stage t) ≡ Some x → w.value x ≡ v.value x
  pub aside_next : (t x : ℕ) → (t ≡ s → ⊥) → aside_at (v.stage t) ≡ Some x → w.next x ≡ v.next x
  pub claim_stays : (t p : ℕ) → (t ≡ s → ⊥) → claim_at (v.stage t) ≡ Some p → w.state p ≡ InRing
  pub claim_mark : (t p : ℕ) → (t ≡ s → ⊥) → claim_at (v.stage t) ≡ Some p → w.mark p ≡ true
  pub claim_next : (t p : ℕ) → (t ≡ s → ⊥) → claim_at (v.stage t) ≡ Some p → w.next p ≡ v.next p

module _ {K V : Type 0} {order rank : K → K → Ordering} {bucket : K → ℕ} {plain after : Plain K V} {n : ℕ} {v w : Whole K V} {s : ℕ}
    (k : Kept order rank bucket plain n v) (e : Ending plain after v w s) where
  -- the other sessions keep what is theirs
  ending_frame : Frame v w s
  ending_frame = record {
    stages = e.stages;
    wants = λ t far. e.wants t;
    gifts = e.gifts;
    cursors = λ t c far h. grind arith;
    asides = λ t x far h. grind arith;
    claims = λ t p far h. grind arith;
  }

  -- s has set nothing aside and claimed nothing
  ending_holdings : Holdings v w s
  ending_holdings = record {
    aside_new = λ t x far h i. grind arith;
    aside_left = λ x i. grind arith;
    claim_new = λ t p far h i. grind arith;
    claim_left = λ p i. grind arith;
  }

  -- a move that ends a session's work keeps what holds, if the rings are sound after it and the plain table agrees
  pub ending_kept : Sound rank bucket (rings_of w) → Agrees order after n w → Kept order rank bucket after n w
  ending_kept rings agrees =
      frame_kept s k ending_frame e.notes (own_ended e.operation e.present e.stage e.note) ending_holdings rings
      (λ p h. k.within p (e.in_use p h)) agrees

-- the key q has o in the plain table after it: items with other keys stay in ring with their values, or out of it;
-- an item in ring with this key has this value, and there is one if there is a value
pub record Puts {K V : Type 0} (order : K → K → Ordering) (v w : Whole K V) (q : K) (o : Option V) : Type 0 where
  pub keys : (p : ℕ) → w.key p ≡ v.key p
  pub stayed : (p : ℕ) → (order (v.key p) q ≡ Equal → ⊥) → w.state p ≡ InRing → v.state p ≡ InRing
  pub values : (p : ℕ) → (order (v.key p) q ≡ Equal → ⊥) → w.state p ≡ InRing → w.value p ≡ v.value p
  pub stays : (p : ℕ) → (order (v.key p) q ≡ Equal → ⊥) → v.state p ≡ InRing → w.state p ≡ InRing
  pub here : (p : ℕ) → order (v.key p) q ≡ Equal → w.state p ≡ InRing → o ≡ Some (w.value p)
  pub there : (u : V) → o ≡ Some u → (p : ℕ) × (w.state p ≡ InRing) × (order (v.key p) q ≡ Equal)

module _ {K V : Type 0} {order rank : K → K → Ordering} {bucket : K → ℕ} {plain : Plain K V} {n : ℕ} {v w : Whole K V} {q : K} {o : Option V}
    (after : Plain K V) (entries : after.entries ≡ put order q o plain.entries) (laws : Lawful order) (k : Kept order rank bucket plain n v) (c : Puts order v w q o) where
  -- then the plain table with o put at q agrees, if its length does
  pub puts_agree : length after.entries ≡ count_below (λ p. is_in_ring (w.state p)) n → Agrees order after n w
  puts_agree counted = record {
    held = λ p i.
        let e = c.keys p in
        elim (alike_cases (order (v.key p) q)) [
          | inl same ↦
              (let f = found_put_same laws q (v.key p) o plain.entries k.apart ((total_preorder laws).alike_turned (v.key p) q same) in
              let h = c.here p same i in
              cc)
          | inr far ↦
              (let f = found_put_other laws q (v.key p) o plain.entries (λ z. far ((total_preorder laws).alike_turned q (v.key p) z)) in
              let h = k.held p (c.stayed p far i) in
              let u = c.values p far i in
              cc)
        ];
    known = λ x u f.
        let now = ap (found order x) (sym entries) ∙ f in
        elim (alike_cases (order q x)) [
          | inl same ↦
              (let t = c.there u (sym (found_put_same laws q x o plain.entries k.apart same) ∙ now) in
              let e = (total_preorder laws).alike_chained (v.key t.0) q x t.2 same in
              let r = c.keys t.0 in
              (t.0, t.1, cc))
          | inr far ↦
              (let t = k.known x u (sym (found_put_other laws q x o plain.entries far) ∙ now) in
              let unlike : order (v.key t.0) q ≡ Equal → ⊥ = λ z.
              far ((total_preorder laws).alike_chained q (v.key t.0) x ((total_preorder laws).alike_turned (v.key t.0) q z) t.2) in
              let r = c.keys t.0 in
              let i = t.2 in
              (t.0, c.stays t.0 unlike t.1, cc))
        ];
    apart = subst (Apart order) (sym entries) (apart_put laws q o plain.entries k.apart);
    counted = counted;
  }
