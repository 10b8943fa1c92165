-- What a turn decides on, it has grounds for; and no head or next that it reads is ever outside the table.
use Rattle.std.proofs.Common.{◌≡◌, ℕ, ◌<◌, Bool, true, false, cond, not, ◌&&◌, eqb, ltb, ◌⊎◌, List, length, Some, None, Ok, Err, Option, Result, sym, refl, ap, ◌∙◌, subst, inl, inr, arith}
use Rattle.std.specs.List.{slice_get}
use Rattle.std.proofs.lemmas.Bool.{lt-ltb, eqb-true}
use Rattle.std.specs.Cmp.{Equal-is}
use Rattle.std.specs.declared.cmp.Ordering.{Ordering}
use Rattle.std.specs.declared.cmp.Ordering.TheVariants.{Equal}
use Rattle.calls.specs.declared.fault.IndexFault.{IndexFault}
use Rattle.calls.specs.declared.fault.IndexFault.TheVariants.{OutsideTable}
use Rattle.keys.specs.Hashes.{Hash}
use Rattle.keys.specs.Ranks.{LawfulKind, by_rank, bucket_of}
use Rattle.keys.proofs.RankOrder.{rank_laws}
use Rattle.rings.specs.Between.{between}
use Rattle.rings.proofs.Nexts.{miss_is_right}
use Rattle.tables.specs.declared.item.Item.{Item}
use Rattle.tables.specs.declared.item.ItemState.TheVariants.{InRing}
use Rattle.tables.specs.declared.moves.Move.{Move}
use Rattle.tables.specs.declared.moves.Move.TheVariants.{Step, Leave, Wait, ClaimToRemove, Link, Present}
use Rattle.tables.specs.declared.request.Request.{Request}
use Rattle.tables.specs.declared.session.Job.{Job}
use Rattle.tables.specs.declared.session.Job.TheVariants as job
use Rattle.tables.specs.declared.session.Stage.TheVariants.{UnderWay}
use Rattle.tables.specs.declared.session.Work.{Work}
use Rattle.tables.specs.declared.session.Work.TheVariants.{Seeking, Replacing, Removing}
use Rattle.tables.specs.Items.{is_in_ring}
use Rattle.tables.specs.Reads.{none, head_place}
use Rattle.tables.specs.Sessions.{cursor_of, claim_of}
use Rattle.rules.specs.Decide.{looks_ahead, miss_empty, claim_with, followed, heir, miss_between, may_swing, swing_in, swing_out, has_rank, head_here, next_of, hit_ahead, on_pair, on_next_item, on_next, on_ring, on_item, on_head, seek, swing_tests, swing_ready, replace_claimed, cut_out, remove_claimed, replace_if, remove_if, decide}
use Rattle.rules.specs.Plain.{Plain}
use Rattle.rules.specs.States.{State}
use Rattle.rules.proofs.Grounds.{MayMiss, MayHit, Ahead, MaySwing, Grounds}
use Rattle.rules.proofs.Invariant.{Shape, Kept}
use Rattle.rules.proofs.KindLaws.{kind_of}
use Rattle.rules.proofs.Quiet.{in_ring_is, in_use}
use Rattle.rules.proofs.Reading.{nth_within, nth_bound}
use Rattle.rules.proofs.Views.{Whole, whole, rings_of, state_in, key_in, value_in, next_in, mark_in, want_in, head_in, cursor_at, claim_at}

-- a turn that decides has grounds for its move, and none is refused
abbrev pub Decided : {K V : Type 0} → (K → K → Ordering) → (K → Hash) → K → V → State K V → ℕ → Work → Result (Move V) IndexFault → Type 0
Decided order digest d e st s work (Ok m) =
    Grounds order (by_rank order digest st.core.bits) (bucket_of order digest st.core.bits) st.core.places (whole d e st) s work m
Decided order digest d e st s work (Err fault) = ⊥

-- an item in ring is in its table
item_in_ring : {K V : Type 0} (items : List (Item K V)) (p : ℕ) → state_in (slice_get items p) ≡ InRing → (it : Item K V) × (slice_get items p ≡ Some it)
item_in_ring items p h = go (slice_get items p) refl
  where
    go : (o : Option (Item _ _)) → slice_get items p ≡ o → (it : Item _ _) × (slice_get items p ≡ Some it)
    go None at = absurd (grind arith)
    go (Some it) at = (it, at)

module _ {K V : Type 0} (order : K → K → Ordering) (digest : K → Hash) (laws : LawfulKind order digest) (plain : Plain K V) (st : State K V) (shape : Shape st) (d : K) (e : V)
    (kept : Kept order (by_rank order digest st.core.bits) (bucket_of order digest st.core.bits) plain st.core.places (whole d e st))
    (s : ℕ) (r : Request K V) (requested : slice_get st.requests s ≡ Some r) where
  -- the state by place
  abbrev w : Whole K V
  w = whole d e st

  -- the buckets of the index
  abbrev bucket : K → ℕ
  bucket = bucket_of order digest st.core.bits

  -- the order by rank in the index
  abbrev rank : K → K → Ordering
  rank = by_rank order digest st.core.bits

  -- what a decision of the session says
  abbrev Done : Work → Result (Move V) IndexFault → Type 0
  Done = Decided order digest d e st s

  -- the sought key is that of the request
  want_is : w.want s ≡ r.key
  want_is = ap (want_in d) requested

  -- an item in ring leads to an item in ring, which is in the table
  next_in_table : (c : ℕ) (it : Item K V) → slice_get st.items c ≡ Some it → it.state ≡ InRing → w.state it.next ≡ InRing
  next_in_table c it at ringed =
      let here : w.state c ≡ InRing = ap state_in at ∙ ringed in
      let n = kept.rings.next_in_ring c (ap is_in_ring here) in
      in_ring_is (w.state it.next) (ap (λ p. is_in_ring (w.state p)) (sym (ap next_in at)) ∙ n)

  -- so its next is read and not refused
  next_read : (c : ℕ) (it : Item K V) → slice_get st.items c ≡ Some it → it.state ≡ InRing → next_of order digest st r.key it ≡ Ok it.next
  next_read c it at ringed =
      let nx = item_in_ring st.items it.next (next_in_table c it at ringed) in
      let b = nth_bound st.items it.next nx.0 nx.1 in
      let l = shape.items_long in
      let t = lt-ltb it.next st.core.places (omega arith) in
      grind arith

  -- the head of the sought key's bucket is read and not refused
  head_read : head_here order digest st r.key ≡ Ok (w.head (bucket r.key))
  head_read = go (slice_get st.heads (bucket r.key)) refl
    where
      bucket_in : bucket r.key < length st.heads
      bucket_in = let b = (rank_laws laws st.core.bits).bucket_small r.key (let f = shape.few_bits in omega arith) in let l = shape.heads_long in omega arith

      ringed : (h : ℕ) → w.head (bucket r.key) ≡ Some h → h < st.core.places
      ringed h at =
          let i = in_ring_is (w.state h) (kept.rings.head_in_ring (bucket r.key) h at) in
          kept.within h (in_use i)

      go : (o : Option ℕ) → slice_get st.heads (bucket r.key) ≡ o → head_place st.core.places o ≡ Ok (head_in o)
      go None at = absurd (let x = nth_within st.heads (bucket r.key) bucket_in in let there = x.1 in grind arith)
      go (Some h) at = read (eqb h none) refl
        where
          read : (b : Bool) → eqb h none ≡ b → cond b (Ok None) (cond (ltb h st.core.places) (Ok (Some h)) (Err OutsideTable)) ≡ Ok (cond b None (Some h))
          read true t = refl
          read false t = let i = ringed h (ap head_in at ∙ ap (λ b. cond b None (Some h)) t) in grind arith

  -- an item with the rank of the sought key has a key alike to it
  alike_ranked : (p : ℕ) (it : Item K V) → slice_get st.items p ≡ Some it → has_rank order digest st r.key it.key ≡ true → order (w.key p) (w.want s) ≡ Equal
  alike_ranked p it at h =
      let a = (kind_of order digest laws st.core.bits).same_rank it.key r.key ((Equal-is _).0 h) in
      ap (λ k. order k (w.want s)) (ap (key_in d) at) ∙ ap (order it.key) want_is ∙ a

  -- the session seeks, and stands on the item `it` in ring
  module _ (j : Job) (c : ℕ) (under_way : w.stage s ≡ UnderWay (Seeking j (Some c))) (it : Item K V) (at : slice_get st.items c ≡ Some it) (ringed : it.state ≡ InRing) where
    -- the item stood on, by place
    stands : w.state c ≡ InRing
    stands = ap state_in at ∙ ringed

    -- it lies in the key's bucket
    in_bucket : bucket (w.key c) ≡ bucket (w.want s)
    in_bucket = kept.cursor_bucket s c (ap cursor_at under_way) stands

    -- the item stood on has the key
    present_here : looks_ahead j ≡ false → has_rank order digest st r.key it.key ≡ true → Done (Seeking j (Some c)) (Ok (Present c it.value))
    present_here looks h = (tt, may_hit j looks, stands, alike_ranked c it at h, sym (ap (value_in e) at))
      where
        may_hit : (i : Job) → looks_ahead i ≡ false → MayHit i
        may_hit job.Find l = tt
        may_hit (job.Insert x) l = tt
        may_hit job.Write l = tt
        may_hit (job.Replace x) l = absurd (grind arith)
        may_hit job.Remove l = absurd (grind arith)
        may_hit job.Point l = tt

    -- its next is the item `nx`
    module _ (nx : Item K V) (at_next : slice_get st.items it.next ≡ Some nx) where
      -- the next item is in ring
      next_ringed : w.state it.next ≡ InRing
      next_ringed = next_in_table c it at ringed

      -- the item stood on leads to it
      leads : w.next c ≡ it.next
      leads = ap next_in at

      -- the next item has the key, and is not occupied
      ahead : has_rank order digest st r.key nx.key ≡ true → nx.occupied ≡ false → Ahead order rank bucket st.core.places w s c it.next
      ahead h free = grind arith

      -- the key falls between the two, by place
      falls_here : between rank it.key r.key nx.key ≡ true → between rank (w.key c) (w.want s) (w.key it.next) ≡ true
      falls_here falls =
          ap (λ k. between rank k (w.want s) (w.key it.next)) (ap (key_in d) at) ∙ ap (λ k. between rank it.key k (w.key it.next)) want_is ∙
          ap (between rank it.key r.key) (ap (key_in d) at_next) ∙ falls

      -- so no item in ring has the key
      missed : between rank it.key r.key nx.key ≡ true → (p : ℕ) → w.state p ≡ InRing → order (w.key p) (w.want s) ≡ Equal → ⊥
      missed falls p p-in alike =
          let kind = kind_of order digest laws st.core.bits in
          miss_is_right kind.ranked bucket (λ a b h. kind.one_bucket a b (kind.same_rank a b h)) (rings_of w) c (w.want s) kept.rings (ap is_in_ring stands) in_bucket
          (ap (λ m. between rank (w.key c) (w.want s) (w.key m)) leads ∙ falls_here falls) p (ap is_in_ring p-in) (kind.rank_same _ _ alike)

      -- the work, by its job
      same_work : (i : Job) → i ≡ j → Seeking j (Some c) ≡ Seeking i (Some c)
      same_work i same = ap (λ k. Seeking k (Some c)) (sym same)

      -- a claim to replace: its next is read and not refused
      claim_decided : (x : ℕ) → job.Replace x ≡ j → has_rank order digest st r.key nx.key ≡ true → nx.occupied ≡ false → Done (Seeking j (Some c)) (claim_with x (c, it.next) (next_of order digest st r.key nx))
      claim_decided x same h free =
          subst (λ o. Done (Seeking j (Some c)) (claim_with x (c, it.next) o)) (sym (next_read it.next nx at_next (sym (ap state_in at_next) ∙ next_ringed)))
          (same_work (job.Replace x) same, ahead h free, ap (λ m. cond (eqb m it.next) x m) (sym (ap next_in at_next)))

      -- the next item has the key
      hit_decided : (i : Job) → i ≡ j → looks_ahead i ≡ true → has_rank order digest st r.key nx.key ≡ true → Done (Seeking j (Some c)) (hit_ahead order digest st r.key i (c, it.next) nx)
      hit_decided job.Find same looks h = absurd (grind arith)
      hit_decided (job.Insert x) same looks h = (tt, subst MayHit same tt, next_ringed, alike_ranked it.next nx at_next h, sym (ap (value_in e) at_next))
      hit_decided job.Write same looks h = absurd (grind arith)
      hit_decided (job.Replace x) same looks h = go nx.occupied refl
        where
          go : (b : Bool) → nx.occupied ≡ b → Done (Seeking j (Some c)) (cond b (Ok Wait) (claim_with x (c, it.next) (next_of order digest st r.key nx)))
          go true t = tt
          go false t = claim_decided x same h t
      hit_decided job.Remove same looks h = go nx.occupied refl
        where
          go : (b : Bool) → nx.occupied ≡ b → Done (Seeking j (Some c)) (Ok (cond b Wait (ClaimToRemove (c, it.next))))
          go true t = tt
          go false t = (same_work job.Remove same, ahead h t)
      hit_decided job.Point same looks h = absurd (grind arith)

      -- the key falls between the two items
      miss_decided : (i : Job) → i ≡ j → between rank it.key r.key nx.key ≡ true → Done (Seeking j (Some c)) (Ok (miss_between i (c, it.next) it))
      miss_decided job.Find same falls = (tt, subst MayMiss same tt, missed falls)
      miss_decided (job.Insert x) same falls = go it.occupied refl
        where
          go : (b : Bool) → it.occupied ≡ b → Done (Seeking j (Some c)) (Ok (cond b Wait (Link x (c, it.next))))
          go true t = tt
          go false t = (same_work (job.Insert x) same, stands, leads, ap mark_in at ∙ t, falls_here falls)
      miss_decided job.Write same falls = (tt, subst MayMiss same tt, missed falls)
      miss_decided (job.Replace x) same falls = (tt, subst MayMiss same tt, missed falls)
      miss_decided job.Remove same falls = (tt, subst MayMiss same tt, missed falls)
      miss_decided job.Point same falls = (tt, subst MayMiss same tt, missed falls)

      -- both items of the pair are at hand
      pair_decided : Done (Seeking j (Some c)) (on_pair order digest st r.key j (c, it.next) it nx)
      pair_decided = go (looks_ahead j) refl (has_rank order digest st r.key nx.key) refl (between rank it.key r.key nx.key) refl
        where
          onward : bucket (w.key it.next) ≡ bucket (w.want s)
          onward = ap (λ p. bucket (w.key p)) (sym leads) ∙ kept.rings.next_in_bucket c (ap is_in_ring stands) ∙ in_bucket

          further : (b : Bool) → between rank it.key r.key nx.key ≡ b → Done (Seeking j (Some c)) (cond b (Ok (miss_between j (c, it.next) it)) (Ok (Step it.next)))
          further true falls = miss_decided j refl falls
          further false falls = (tt, next_ringed, onward)

          go : (looks : Bool) → looks_ahead j ≡ looks → (has : Bool) → has_rank order digest st r.key nx.key ≡ has → (b : Bool) → between rank it.key r.key nx.key ≡ b →
              Done (Seeking j (Some c)) (cond (looks && has) (hit_ahead order digest st r.key j (c, it.next) nx) (cond b (Ok (miss_between j (c, it.next) it)) (Ok (Step it.next))))
          go true looks true h b falls = hit_decided j refl looks h
          go true looks false h b falls = further b falls
          go false looks has h b falls = further b falls

    -- the item stood on is in ring
    ring_decided : Done (Seeking j (Some c)) (on_ring order digest st r.key j c it)
    ring_decided = go (looks_ahead j) refl (has_rank order digest st r.key it.key) refl
      where
        further : Done (Seeking j (Some c)) (on_next order digest st r.key j c it (next_of order digest st r.key it))
        further =
            let nx = item_in_ring st.items it.next (next_in_table c it at ringed) in
            subst (λ o. Done (Seeking j (Some c)) (on_next order digest st r.key j c it o)) (sym (next_read c it at ringed))
            (subst (λ o. Done (Seeking j (Some c)) (on_next_item order digest st r.key j (c, it.next) it o)) (sym nx.1) (pair_decided nx.0 nx.1))

        go : (looks : Bool) → looks_ahead j ≡ looks → (has : Bool) → has_rank order digest st r.key it.key ≡ has →
            Done (Seeking j (Some c)) (cond (not looks && has) (Ok (Present c it.value)) (on_next order digest st r.key j c it (next_of order digest st r.key it)))
        go true looks has h = further
        go false looks true h = present_here looks h
        go false looks false h = further

  -- an item stood on is in the table
  cursor_item : (work : Work) → w.stage s ≡ UnderWay work → (c : ℕ) → cursor_of work ≡ Some c → (it : Item K V) × (slice_get st.items c ≡ Some it)
  cursor_item work under_way c stood =
      let i = kept.cursor_within s c (ap cursor_at under_way ∙ stood) in
      nth_within st.items c (let l = shape.items_long in omega arith)

  -- the session stands nowhere, or on an item
  head_decided : (j : Job) (o : Option ℕ) → w.head (bucket r.key) ≡ o → Done (Seeking j None) (on_head order digest st r.key j (Ok o))
  head_decided j None empty = go j
    where
      here : w.head (bucket (w.want s)) ≡ None
      here = ap (λ k. w.head (bucket k)) want_is ∙ empty

      missing : (p : ℕ) → w.state p ≡ InRing → order (w.key p) (w.want s) ≡ Equal → ⊥
      missing p p-in alike = kept.rings.no_head p (ap is_in_ring p-in) (ap w.head ((kind_of order digest laws st.core.bits).one_bucket _ _ alike) ∙ here)

      go : (i : Job) → Done (Seeking i None) (Ok (miss_empty i))
      go job.Find = (tt, tt, missing)
      go (job.Insert x) = (refl, here)
      go job.Write = (tt, tt, missing)
      go (job.Replace x) = (tt, tt, missing)
      go job.Remove = (tt, tt, missing)
      go job.Point = (tt, tt, missing)
  head_decided j (Some h) is =
      (tt, in_ring_is (w.state h) (kept.rings.head_in_ring (bucket r.key) h is), kept.rings.head_in_bucket (bucket r.key) h is ∙ ap bucket (sym want_is))

  -- a session that seeks decides on a move with grounds
  seek_decided : (j : Job) (cursor : Option ℕ) → w.stage s ≡ UnderWay (Seeking j cursor) → Done (Seeking j cursor) (seek order digest st r.key j cursor)
  seek_decided j None under_way = subst (λ o. Done (Seeking j None) (on_head order digest st r.key j o)) (sym head_read) (head_decided j (w.head (bucket r.key)) refl)
  seek_decided j (Some c) under_way =
      let it = cursor_item (Seeking j (Some c)) under_way c refl in
      subst (λ o. Done (Seeking j (Some c)) (on_item order digest st r.key j c o)) (sym it.1) (go it.0 it.1 (is_in_ring it.0.state) refl)
    where
      go : (it : Item K V) → slice_get st.items c ≡ Some it → (b : Bool) → is_in_ring it.state ≡ b → Done (Seeking j (Some c)) (cond b (on_ring order digest st r.key j c it) (Ok Leave))
      go it at true ringed = ring_decided j c under_way it at (in_ring_is _ ringed)
      go it at false ringed = tt

  -- a claim is held, and the session stands on the first of the pair
  module _ (pair : ℕ × ℕ) (it : Item K V) (at : slice_get st.items pair.0 ≡ Some it) (ringed : it.state ≡ InRing) where
    -- the tests of a swing
    swing_tested : may_swing pair it ≡ true → MaySwing order rank bucket st.core.places w s pair.0 pair.1
    swing_tested passes = record {
      stands = ap state_in at ∙ ringed;
      leads = grind arith;
      free = go it.occupied refl;
    }
      where
        go : (b : Bool) → it.occupied ≡ b → (w.mark pair.0 ≡ false) ⊎ (pair.0 ≡ pair.1)
        go true t = inr (eqb-true pair.0 pair.1 (grind arith))
        go false t = inl (ap mark_in at ∙ t)

  -- the tests of a swing are made and not refused
  swing_read :
      (work : Work) (pair : ℕ × ℕ) → w.stage s ≡ UnderWay work → cursor_of work ≡ Some pair.0 →
      (b : Bool) × (swing_ready order digest st r.key pair (slice_get st.items pair.0) ≡ Ok b) × (b ≡ true → MaySwing order rank bucket st.core.places w s pair.0 pair.1)
  swing_read work pair under_way stood =
      let it = cursor_item work under_way pair.0 stood in
      let made = go it.0 it.1 (is_in_ring it.0.state) refl in
      (made.0, ap (swing_ready order digest st r.key pair) it.1 ∙ made.1, made.2)
    where
      go :
          (it : Item K V) → slice_get st.items pair.0 ≡ Some it → (ring : Bool) → is_in_ring it.state ≡ ring →
          (b : Bool) × (cond ring (swing_tests order digest st r.key pair it (next_of order digest st r.key it)) (Ok false) ≡ Ok b) × (b ≡ true → MaySwing order rank bucket st.core.places w s pair.0 pair.1)
      go it at true ringed =
          (may_swing pair it, ap (swing_tests order digest st r.key pair it) (next_read pair.0 it at (in_ring_is _ ringed)), swing_tested pair it at (in_ring_is _ ringed))
      go it at false ringed = (false, refl, λ z. absurd (grind arith))

  -- the claimed item is in the table, and in ring
  claimed_item : (work : Work) → w.stage s ≡ UnderWay work → (p : ℕ) → claim_of work ≡ Some p → (it : Item K V) × (slice_get st.items p ≡ Some it) × (it.state ≡ InRing)
  claimed_item work under_way p claimed =
      let ringed = kept.claim_state s p (ap claim_at under_way ∙ claimed) in
      let it = item_in_ring st.items p ringed in
      (it.0, it.1, sym (ap state_in it.1) ∙ ringed)

  -- the head of the sought key's bucket, by the request or by place
  head_want : w.head (bucket r.key) ≡ w.head (bucket (w.want s))
  head_want = ap (λ k. w.head (bucket k)) (sym want_is)

  -- so does one that has claimed an item to replace
  replace_decided : (x : ℕ) (pair : ℕ × ℕ) → w.stage s ≡ UnderWay (Replacing x pair) → Done (Replacing x pair) (decide order digest st r.key (Replacing x pair))
  replace_decided x pair under_way =
      let ready = swing_read (Replacing x pair) pair under_way refl in
      subst (λ o. Done (Replacing x pair) (replace_if order digest st r.key x pair o)) (sym ready.1) (go ready.0 ready.2)
    where
      go : (b : Bool) → (b ≡ true → MaySwing order rank bucket st.core.places w s pair.0 pair.1) → Done (Replacing x pair) (replace_if order digest st r.key x pair (Ok b))
      go true tested =
          let p = claimed_item (Replacing x pair) under_way pair.1 refl in
          subst (λ o. Done (Replacing x pair) (replace_claimed order digest st r.key x pair o)) (sym p.1)
          (subst (λ o. Done (Replacing x pair) (swing_in x pair p.0 o)) (sym head_read)
          (refl, tested refl, ap (followed pair.1 (Some x)) head_want, sym (ap (value_in e) p.1)))
      go false tested = refl

  -- so does one that has claimed an item to remove
  remove_decided : (pair : ℕ × ℕ) → w.stage s ≡ UnderWay (Removing pair) → Done (Removing pair) (decide order digest st r.key (Removing pair))
  remove_decided pair under_way =
      let ready = swing_read (Removing pair) pair under_way refl in
      subst (λ o. Done (Removing pair) (remove_if order digest st r.key pair o)) (sym ready.1) (go ready.0 ready.2)
    where
      go : (b : Bool) → (b ≡ true → MaySwing order rank bucket st.core.places w s pair.0 pair.1) → Done (Removing pair) (remove_if order digest st r.key pair (Ok b))
      go true tested =
          let p = claimed_item (Removing pair) under_way pair.1 refl in
          subst (λ o. Done (Removing pair) (remove_claimed order digest st r.key pair o)) (sym p.1)
          (subst (λ o. Done (Removing pair) (cut_out order digest st r.key pair p.0 o)) (sym (next_read pair.1 p.0 p.1 p.2))
          (subst (λ o. Done (Removing pair) (swing_out pair p.0.next p.0 o)) (sym head_read)
          (refl, tested refl, sym (ap next_in p.1), ap (followed pair.1 (heir pair.1 p.0.next)) head_want, sym (ap (value_in e) p.1))))
      go false tested = refl

  -- a turn of a session under way decides on a move that it has grounds for
  pub decided : (work : Work) → w.stage s ≡ UnderWay work → Done work (decide order digest st r.key work)
  decided (Seeking j cursor) under_way = seek_decided j cursor under_way
  decided (Replacing x pair) under_way = replace_decided x pair under_way
  decided (Removing pair) under_way = remove_decided pair under_way

  -- so the move has its grounds
  pub decided_grounds : (work : Work) (m : Move V) → w.stage s ≡ UnderWay work → decide order digest st r.key work ≡ Ok m → Grounds order rank bucket st.core.places w s work m
  decided_grounds work m under_way is = subst (Done work) is (decided work under_way)

  -- and no head or next is ever outside the table
  pub never_outside_table : (work : Work) (fault : IndexFault) → w.stage s ≡ UnderWay work → decide order digest st r.key work ≡ Err fault → ⊥
  never_outside_table work fault under_way is = subst (Done work) is (decided work under_way)
