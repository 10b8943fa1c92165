-- The ring of every bucket, as the list of its places.
use Rattle.std.proofs.Common.{◌≡◌, ℕ, ◌^◌, ◌<◌, true, eqb, List, [], ◌∷◌, Some, None, Option, sym, refl, ap, ◌∙◌, subst, inl, inr, arith}
use Rattle.std.specs.List.{slice_get}
use Rattle.std.proofs.lemmas.Bool.{eqb-true, cases_Bool}
use Rattle.std.specs.declared.cmp.Ordering.{Ordering}
use Rattle.keys.specs.Hashes.{Hash}
use Rattle.keys.proofs.Preorders.{total_preorder}
use Rattle.keys.specs.Ranks.{LawfulKind, by_rank, bucket_of}
use Rattle.rings.specs.RingLists.{Follows, RingList}
use Rattle.rings.proofs.Walks.{list_form}
use Rattle.tables.specs.declared.item.Item.{Item}
use Rattle.tables.specs.declared.item.ItemState.TheVariants.{InRing}
use Rattle.tables.specs.Items.{is_in_ring}
use Rattle.tables.specs.Reads.{none}
use Rattle.rules.specs.States.{State}
use Rattle.rules.specs.Plain.{Plain}
use Rattle.rules.specs.RunLaw.{first, Leads, Ring}
use Rattle.rules.proofs.Views.{whole, rings_of, state_in, key_in, next_in, head_in}
use Rattle.rules.proofs.Invariant.{Kept, Inv}
use Rattle.rules.proofs.KindLaws.{kind_of}
use Rattle.rules.proofs.Quiet.{in_ring_is}
use Rattle.rules.proofs.Reading.{nth_within}
use Rattle.rules.proofs.ShapeFacts.{first_item}

-- the first place of a list
first_is : (places : List ℕ) → first places ≡ slice_get places 0
first_is [] = refl
first_is (p ∷ ps) = refl

-- a head that is read is the number that is written
head_written : (o : Option ℕ) (h : ℕ) → head_in o ≡ Some h → o ≡ Some h
head_written None h e = absurd cc
head_written (Some x) h e = grind arith

-- where none is read, the number that stands for none is written
no_head_written : (x : ℕ) → head_in (Some x) ≡ None → x ≡ none
no_head_written x e = elim (cases_Bool (eqb x none)) [ inl t ↦ eqb-true x none t | inr f ↦ absurd (grind arith) ]

-- what is in ring lies in the table
item_in_ring : {K V : Type 0} (o : Option (Item K V)) → is_in_ring (state_in o) ≡ true → (it : Item K V) × (o ≡ Some it) × (it.state ≡ InRing)
item_in_ring None e = absurd cc
item_in_ring (Some it) e = (it, refl, in_ring_is it.state e)

-- a way by the nexts of the view is one by the nexts of the items
leads_from : {K V : Type 0} (items : List (Item K V)) (from : ℕ) (places : List ℕ) (to : ℕ) →
    Follows (λ p. next_in (slice_get items p)) from places to → Leads items from places to
leads_from items from [] to f = f
leads_from items from (p ∷ ps) to f =
    (f.0, λ it e. leads_from items it.next ps to (subst (λ m. Follows (λ q. next_in (slice_get items q)) m ps to) (ap next_in e) f.1))

module _ {K V : Type 0} (order : K → K → Ordering) (digest : K → Hash) (laws : LawfulKind order digest) (plain : Plain K V) (st : State K V) (d : K) (e : V)
    (kept : Kept order (by_rank order digest st.core.bits) (bucket_of order digest st.core.bits) plain st.core.places (whole d e st)) (b : ℕ) where
  -- a bucket with a head: the list of its ring
  headed_ring : (h : ℕ) (places : List ℕ) → slice_get st.heads b ≡ Some h →
      RingList (by_rank order digest st.core.bits) (bucket_of order digest st.core.bits) (rings_of (whole d e st)) st.core.places b h places →
      Ring order digest st plain b places
  headed_ring h places written r =
      let starts : first places ≡ Some h = first_is places ∙ r.starts in
      let total = total_preorder laws.ordered in
      let kind = kind_of order digest laws st.core.bits in
      record {
        starts = grind arith;
        closes = λ g f. let same : g ≡ h = cc in subst (λ m. Leads st.items m places m) (sym same) (leads_from st.items h places h r.closes);
        once = r.once;
        holds = λ p i.
            let there = item_in_ring (slice_get st.items p) (r.all_in_ring p i) in
            let is = there.1 in
            let here = r.all_in_bucket p i in
            let held = kept.held p (ap state_in is ∙ there.2) in
            record { item = there.0; there = is; in_ring = there.2; in_bucket = cc; in_table = cc };
        all = λ x v here has.
            let k = kept.known x v has in
            let alike = k.2 in
            (k.0, r.all k.0 (ap is_in_ring k.1) (kind.one_bucket _ x alike ∙ here), λ it is. cc);
        unlike = λ p q x i j at_p at-q.
            let here = item_in_ring (slice_get st.items p) (r.all_in_ring p i) in
            let there = item_in_ring (slice_get st.items q) (r.all_in_ring q j) in
            let alike = total.alike_chained here.0.key x there.0.key (at_p here.0 here.1) (total.alike_turned there.0.key x (at-q there.0 there.1)) in
            let both = ap (λ o. order (key_in d o) (key_in d (slice_get st.items q))) here.1 ∙ ap (λ o. order here.0.key (key_in d o)) there.1 ∙ alike in
            kept.rings.unlike p q (r.all_in_ring p i) (r.all_in_ring q j) (kind.rank_same (key_in d (slice_get st.items p)) (key_in d (slice_get st.items q)) both);
        falls = λ g f. (
          r.top,
          r.top_in,
          λ x y is ys.
              let ahead : slice_get st.items (next_in (slice_get st.items r.top)) ≡ Some y = ap (λ o. slice_get st.items (next_in o)) is ∙ ys in
              let fall = r.falls in
              cc,
          λ p i other x y is ys.
              let ahead : slice_get st.items (next_in (slice_get st.items p)) ≡ Some y = ap (λ o. slice_get st.items (next_in o)) is ∙ ys in
              let up = r.rises p i other in
              cc,
        );
      }

  -- a bucket with no head: no place
  headless_ring : slice_get st.heads b ≡ Some none → head_in (slice_get st.heads b) ≡ None → Ring order digest st plain b []
  headless_ring written unread =
      grind arith

  -- by what is read at the bucket's head
  ring_by : (x : ℕ) → slice_get st.heads b ≡ Some x → (o : Option ℕ) → head_in (Some x) ≡ o → (places : List ℕ) × Ring order digest st plain b places
  ring_by x written None read =
      ([], headless_ring (written ∙ ap Some (no_head_written x read)) (ap head_in written ∙ read))
  ring_by x written (Some h) read =
      let kind = kind_of order digest laws st.core.bits in
      let listed = list_form kind.ranked (bucket_of order digest st.core.bits) (rings_of (whole d e st)) st.core.places b h kept.rings
      (λ p i. kept.within p (λ out. let k = ap is_in_ring out in absurd cc)) (ap head_in written ∙ read) in
      (listed.0, headed_ring h listed.0 (written ∙ head_written (Some x) h read) listed.1)

-- every bucket has its ring
pub ring_of_bucket : {K V : Type 0} (order : K → K → Ordering) (digest : K → Hash) → LawfulKind order digest → (plain : Plain K V) (st : State K V) → Inv order digest plain st →
    (b : ℕ) → b < 2 ^ st.core.bits → (places : List ℕ) × Ring order digest st plain b places
ring_of_bucket order digest laws plain st inv b small =
    let it = (first_item st inv.shape).0 in
    let long = inv.shape.heads_long in
    let w = nth_within st.heads b (omega arith) in
    ring_by order digest laws plain st it.key it.value (inv.kept it.key it.value) b w.0 w.1 (head_in (Some w.0)) refl
