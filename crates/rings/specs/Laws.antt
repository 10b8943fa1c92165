-- The laws of rings, over an order of keys and a function that gives each key its bucket.
use Rattle.std.specs.Prelude.{◌≡◌, ℕ, ◌<◌, true, false, List, Some, None, ◌≢◌}
use Rattle.std.specs.declared.cmp.Ordering.{Ordering}
use Rattle.std.specs.declared.cmp.Ordering.TheVariants.{Equal}
use Rattle.rings.specs.Between.{between}
use Rattle.rings.specs.Moves.{Linked, LinkedAlone, Unlinked, UnlinkedLast, Replaced, Untouched}
use Rattle.rings.specs.RingLists.{RingList}
use Rattle.rings.specs.Rings.{View, Sound}

module _ {K : Type 0} (order : K → K → Ordering) (bucket : K → ℕ) where
  -- an insert keeps rings sound: x, out of ring, is linked behind c of its bucket, and its key falls between c's and that of c's next
  abbrev pub LinkLaw : Type 0
  LinkLaw =
      (v w : View K) (c x : ℕ) → Sound order bucket v → Linked v w c x →
      v.in_ring c ≡ true → v.in_ring x ≡ false → bucket (v.key x) ≡ bucket (v.key c) →
      between order (v.key c) (v.key x) (v.key (v.next c)) ≡ true → Sound order bucket w

  -- an insert into an empty bucket keeps rings sound: x, out of ring, is linked alone in its bucket, which has no head
  abbrev pub LinkAloneLaw : Type 0
  LinkAloneLaw =
      (v w : View K) (x : ℕ) → Sound order bucket v → LinkedAlone v w (bucket (v.key x)) x →
      v.in_ring x ≡ false → v.head (bucket (v.key x)) ≡ None → Sound order bucket w

  -- a remove keeps rings sound: p, the next of another place c in ring, is taken out
  abbrev pub UnlinkLaw : Type 0
  UnlinkLaw =
      (v w : View K) (c p : ℕ) → Sound order bucket v → Unlinked v w c p →
      v.in_ring c ≡ true → v.next c ≡ p → (c ≢ p) → Sound order bucket w

  -- a remove of the last place of a ring keeps rings sound: p, in ring and its own next, is taken out
  abbrev pub UnlinkLastLaw : Type 0
  UnlinkLastLaw =
      (v w : View K) (p : ℕ) → Sound order bucket v → UnlinkedLast v w p →
      v.in_ring p ≡ true → v.next p ≡ p → Sound order bucket w

  -- a replace keeps rings sound: x, out of ring, takes the place of p, the next of c in ring, and their keys are alike
  abbrev pub ReplaceLaw : Type 0
  ReplaceLaw =
      (v w : View K) (c p x : ℕ) → Sound order bucket v → Replaced v w c p x →
      v.in_ring c ≡ true → v.next c ≡ p → v.in_ring x ≡ false → order (v.key x) (v.key p) ≡ Equal → Sound order bucket w

  -- a change of places out of ring keeps rings sound, as where an item is set aside with a new key
  abbrev pub UntouchedLaw : Type 0
  UntouchedLaw = (v w : View K) → Sound order bucket v → Untouched v w → Sound order bucket w

  -- a miss is right: if q falls between a place in ring in q's bucket and its next, no place in ring has a key alike to q
  abbrev pub MissLaw : Type 0
  MissLaw =
      (v : View K) (c : ℕ) (q : K) → Sound order bucket v →
      v.in_ring c ≡ true → bucket (v.key c) ≡ bucket q → between order (v.key c) q (v.key (v.next c)) ≡ true →
      (p : ℕ) → v.in_ring p ≡ true → order (v.key p) q ≢ Equal

  -- next is one-to-one in ring: a place has one predecessor at most, so a remove has one place to change
  abbrev pub OneToOneLaw : Type 0
  OneToOneLaw =
      (v : View K) (p q : ℕ) → Sound order bucket v →
      v.in_ring p ≡ true → v.in_ring q ≡ true → v.next p ≡ v.next q → p ≡ q

  -- a place in ring that is its own next is alone in its bucket, so its removal empties the bucket
  abbrev pub AloneLaw : Type 0
  AloneLaw =
      (v : View K) (p q : ℕ) → Sound order bucket v →
      v.in_ring p ≡ true → v.next p ≡ p → v.in_ring q ≡ true → bucket (v.key q) ≡ bucket (v.key p) → q ≡ p

  -- the ring of a bucket with a head is a list of places, if all places in ring lie below n
  abbrev pub ListLaw : Type 0
  ListLaw =
      (v : View K) (n b h : ℕ) → Sound order bucket v →
      ((p : ℕ) → v.in_ring p ≡ true → p < n) → v.head b ≡ Some h → (places : List ℕ) × RingList order bucket v n b h places

  -- the laws together; they hold of every lawful order, and of every function by which alike keys have one bucket
  pub record RingLaws : Type 0 where
    pub link : LinkLaw
    pub link_alone : LinkAloneLaw
    pub unlink : UnlinkLaw
    pub unlink_last : UnlinkLastLaw
    pub replace : ReplaceLaw
    pub untouched : UntouchedLaw
    pub miss : MissLaw
    pub next_one_to_one : OneToOneLaw
    pub alone : AloneLaw
    pub list_form : ListLaw
