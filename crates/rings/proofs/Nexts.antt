-- What sound rings say of a place and its next.
use Rattle.std.proofs.Common.{◌≡◌, ℕ, true, arith}
use Rattle.std.specs.declared.cmp.Ordering.{Ordering}
use Rattle.std.specs.declared.cmp.Ordering.TheVariants.{Equal}
use Rattle.keys.specs.Orders.{Lawful}
use Rattle.rings.specs.Laws.{MissLaw, OneToOneLaw, AloneLaw, UntouchedLaw}
use Rattle.rings.specs.Rings.{View, Sound}
use Rattle.rings.proofs.Arcs.{arc_whole, arcs_with_one_end, alike_on_arc}

-- a change out of ring: sound rings are a matter of what is in ring
pub untouched_keeps_sound : {K : Type 0} (order : K → K → Ordering) (bucket : K → ℕ) → UntouchedLaw order bucket
untouched_keeps_sound order bucket v w s t =
    grind arith

module _ {K : Type 0} {order : K → K → Ordering} (laws : Lawful order) (bucket : K → ℕ) where
  -- a place has one predecessor at most: the arcs from two would end at it, and neither would hold the other's start
  pub next_one_to_one : OneToOneLaw order bucket
  next_one_to_one v p q s p-in q-in e =
      let a = s.next_in_bucket p p-in in
      let b = s.next_in_bucket q q-in in
      let c = s.nothing_between p q p-in q-in in
      let d = s.nothing_between q p q-in p-in in
      let j = arcs_with_one_end laws (v.key p) (v.key q) (v.key (v.next p)) in
      let u = s.unlike p q p-in q-in in
      grind arith

  -- a place that is another's next is not its own, so what is taken out behind another has a next to leave there
  pub not_own_next :
      (v : View K) (c p : ℕ) → Sound order bucket v →
      v.in_ring c ≡ true → v.next c ≡ p → (c ≡ p → ⊥) → v.next p ≡ p → ⊥
  not_own_next v c p s c-in c-next c-not-p e =
      grind (arith, next_one_to_one)

  -- a place that is its own next is alone: its arc goes all the way round
  pub alone_in_bucket : AloneLaw order bucket
  alone_in_bucket v p q s p-in own-next q-in b =
      let c = s.nothing_between p q p-in q-in b in
      let a = arc_whole laws (v.key p) (v.key q) in
      let u = s.unlike q p q-in p-in in
      grind arith

-- a miss is right: a place alike to q would lie on the arc on which q lies
pub miss_is_right :
    {K : Type 0} {order : K → K → Ordering} → Lawful order → (bucket : K → ℕ) →
    ((a b : K) → order a b ≡ Equal → bucket a ≡ bucket b) → MissLaw order bucket
miss_is_right laws bucket alike_bucket v c q s c-in b h p p-in e =
    let d = alike_bucket (v.key p) q e in
    let n = s.nothing_between c p c-in p-in in
    let a = alike_on_arc laws (v.key c) (v.key p) q (v.key (v.next c)) e in
    grind arith
