-- The two moves that swing a claimed item out of its ring: a replace puts the item it set aside in its place, and a
-- remove closes the ring behind it.
use Rattle.std.proofs.Common.{◌≡◌, ℕ, suc, Bool, true, false, Some, None, Option, sym, refl, ap, ◌∙◌, subst, inl, inr, arith}
use Rattle.std.proofs.lemmas.Bool.{cases_eq}
use Rattle.std.specs.declared.cmp.Ordering.{Ordering}
use Rattle.calls.specs.declared.operation.Operation.{Operation}
use Rattle.calls.specs.declared.operation.Operation.TheVariants as operation
use Rattle.keys.proofs.Preorders.{total_preorder}
use Rattle.rings.specs.Moves.{Replaced}
use Rattle.rings.specs.RingLists.{count_below}
use Rattle.rings.specs.Rings.{Sound}
use Rattle.rings.proofs.Counting.{without, count_one}
use Rattle.rings.proofs.Nexts.{not_own_next}
use Rattle.rings.proofs.Replacing.{replace_keeps_sound}
use Rattle.rings.proofs.Unlinking.{unlink_keeps_sound, unlink_last_keeps_sound}
use Rattle.tables.specs.declared.item.ItemState.{ItemState}
use Rattle.tables.specs.declared.item.ItemState.TheVariants.{Out, SetAside, InRing}
use Rattle.tables.specs.declared.moves.HeadMove.{HeadMove}
use Rattle.tables.specs.declared.moves.HeadMove.TheVariants.{Stays, Becomes}
use Rattle.tables.specs.declared.moves.Move.TheVariants.{SwingIn, SwingOut}
use Rattle.tables.specs.declared.session.Stage.TheVariants.{UnderWay, Ended}
use Rattle.tables.specs.declared.session.Work.{Work}
use Rattle.tables.specs.declared.session.Work.TheVariants.{Replacing, Removing}
use Rattle.tables.specs.Items.{is_in_ring}
use Rattle.tables.specs.Sessions.{job_of, operation_of}
use Rattle.rules.specs.Decide.{followed, heir}
use Rattle.rules.specs.Plain.{Plain, found, do_task}
use Rattle.rules.proofs.Ending.{present_found}
use Rattle.rules.proofs.Frames.{Agrees}
use Rattle.rules.proofs.Grounds.{Grounds, MaySwing}
use Rattle.rules.proofs.Invariant.{Kept}
use Rattle.rules.proofs.KindLaws.{Kind}
use Rattle.rules.proofs.PlainTables.{put_done, length_replaced, length_removed}
use Rattle.rules.proofs.RingChanges.{done_by, Ending, Puts, ending_kept, puts_agree, count_more}
use Rattle.rules.proofs.Views.{Whole, rings_of, aside_at, claim_at, changed, set_state, set_mark, set_next, head_view, ended_view, act_view}

-- the heads after a move of the head of bucket b
abbrev heads_after : HeadMove → ℕ → (ℕ → Option ℕ) → ℕ → Option ℕ
heads_after Stays b heads = heads
heads_after (Becomes o) b heads = changed b o heads

-- a head that was p becomes what follows it
head_follows : (heads : ℕ → Option ℕ) (p b : ℕ) (to : Option ℕ) (h : HeadMove) → h ≡ followed p to (heads b) → heads b ≡ Some p → heads_after h b heads b ≡ to
head_follows heads p b to h e i = grind arith

-- session s ends with the value u, and p, which it had claimed, is marked no more; states, nexts and heads are given
abbrev swung :
    {K V : Type 0} → ℕ → Operation → ℕ → V → (ℕ → ItemState) → (ℕ → ℕ) → (ℕ → Option ℕ) → Whole K V → Whole K V
swung s o p u state next head v = record {
  state = state;
  key = v.key;
  value = v.value;
  next = next;
  mark = changed p false v.mark;
  head = head;
  stage = changed s (Ended o true) v.stage;
  want = v.want;
  gift = changed s u v.gift;
}

module _ {K V : Type 0} {order rank : K → K → Ordering} {bucket : K → ℕ} (kind : Kind order rank bucket) {plain : Plain K V} {n : ℕ} (v : Whole K V)
    (s c p : ℕ) (work : Work) (k : Kept order rank bucket plain n v) (at : v.stage s ≡ UnderWay work) (claim : claim_at (UnderWay work) ≡ Some p)
    (may : MaySwing order rank bucket n v s c p) where
  -- p is in ring, and the only one there with the sought key
  claimed_in : v.state p ≡ InRing
  claimed_in = k.claim_state s p (ap claim_at at ∙ claim)

  -- what the plain table has for it is the value of p
  claimed_found : found order (v.want s) plain.entries ≡ Some (v.value p)
  claimed_found = present_found kind k (v.want s) p claimed_in (k.claim_key s p (ap claim_at at ∙ claim))

  -- a place that another session has claimed is neither p nor the one stood on
  other_claim : (t q : ℕ) → (t ≡ s → ⊥) → claim_at (v.stage t) ≡ Some q → (q ≡ p → ⊥) × (q ≡ c → ⊥)
  other_claim t q far h =
      let mine = ap claim_at at ∙ claim in
      let a = k.claim_apart t s q h in
      let m = k.claim_mark t q h in
      let f = may.free in
      (λ z. grind arith, λ z. grind arith)

  module _ (o : Operation) (u : V) (state : ℕ → ItemState) (next : ℕ → ℕ) (head : ℕ → Option ℕ) (value : u ≡ v.value p) (out : state p ≡ Out)
      (entered : (x : ℕ) → aside_at (v.stage s) ≡ Some x → state x ≡ InRing)
      (others : (q : ℕ) → (q ≡ p → ⊥) → (aside_at (v.stage s) ≡ Some q → ⊥) → state q ≡ v.state q)
      (rest : (q : ℕ) → (q ≡ c → ⊥) → next q ≡ v.next q) where
    -- the other sessions keep what is theirs
    swung_ends : Ending plain (done_by order s o v plain) v (swung s o p u state next head v) s
    swung_ends =
        let was_in = claimed_in in
        let had = claimed_found in
        let c-in = may.stands in
        record {
          keys = λ q. refl;
          wants = λ t. refl;
          gifts = λ t far. grind arith;
          stages = λ t far. grind arith;
          notes = λ t far. grind arith;
          operation = o;
          present = true;
          stage = grind arith;
          note = grind arith;
          in_use = grind arith;
          in_ring = grind arith;
          set_aside = grind arith;
          marked = λ q h. grind arith;
          aside_stays = grind arith;
          aside_value = λ t x far h. refl;
          aside_next = λ t x far h. grind arith;
          claim_stays = λ t q far h.
              let a = k.claim_state t q h in
              others q (other_claim t q far h).0 (λ z. let b = k.aside_state s q z in let y : ◌≡◌ {A = ℕ} 0 1 = cc in omega arith) ∙ a;
          claim_mark = grind arith;
          claim_next = λ t q far h. rest q (other_claim t q far h).1;
        }

module _ {K V : Type 0} {order rank : K → K → Ordering} {bucket : K → ℕ} (kind : Kind order rank bucket) {plain : Plain K V} {n : ℕ} (v : Whole K V)
    (s x c p : ℕ) (k : Kept order rank bucket plain n v) (at : v.stage s ≡ UnderWay (Replacing x (c, p))) (may : MaySwing order rank bucket n v s c p)
    (h : HeadMove) (follows : h ≡ followed p (Some x) (v.head (bucket (v.want s)))) (u : V) (value : u ≡ v.value p) where
  -- the states after a replace: p is out, and x in ring
  abbrev replaced_states : ℕ → ItemState
  replaced_states = changed x InRing (changed p Out v.state)

  -- all of it after a replace
  abbrev replaced_view : Whole K V
  replaced_view = swung s operation.Replace p u replaced_states (changed c x v.next) (heads_after h (bucket (v.want s)) v.head) v

  -- x is set aside
  set_aside : v.state x ≡ SetAside
  set_aside = k.aside_state s x (ap aside_at at)

  -- the other sessions keep what is theirs
  replaced_ends : Ending plain (done_by order s operation.Replace v plain) v replaced_view s
  replaced_ends =
      let a = set_aside in
      let b = k.claim_state s p (ap claim_at at) in
      let mine = ap aside_at at in
      swung_ends kind v s c p (Replacing x (c, p)) k at refl may operation.Replace u replaced_states (changed c x v.next)
      (heads_after h (bucket (v.want s)) v.head) value (grind arith) (λ y e. grind arith)
      (λ q far nor. grind arith) (λ q far. grind arith)

  -- the sought key has the session's value: x holds them
  replaced_puts : Puts order v replaced_view (v.want s) (Some (v.gift s))
  replaced_puts =
      let a = set_aside in
      let key = k.aside_key s x (ap aside_at at) in
      let given = k.aside_value s x (ap aside_at at) in
      let itself = (total_preorder kind.ordered).alike_itself (v.want s) in
      let alike = k.claim_key s p (ap claim_at at) in
      record {
        keys = λ q. refl;
        stayed = λ q far i. grind arith;
        values = λ q far i. refl;
        stays = λ q far i. grind arith;
        here = grind arith;
        there = λ w e. grind arith;
      }

  -- as many are in ring
  replaced_counted : count_below (λ q. is_in_ring (v.state q)) n ≡ count_below (λ q. is_in_ring (replaced_view.state q)) n
  replaced_counted =
      let a = set_aside in
      let b = k.claim_state s p (ap claim_at at) in
      let x-in = k.within x (λ z. grind arith) in
      let p-in = k.within p (λ z. grind arith) in
      count_one (λ q. is_in_ring (v.state q)) p (ap is_in_ring b) n p-in ∙
      sym (count_more (without (λ q. is_in_ring (v.state q)) p) (λ q. is_in_ring (replaced_view.state q)) x (grind arith) (grind arith)
      (λ q far. grind arith) n x-in)

  -- the plain table agrees
  replaced_agrees : Agrees order (done_by order s operation.Replace v plain) n replaced_view
  replaced_agrees =
      let had = claimed_found kind v s c p (Replacing x (c, p)) k at refl may in
      let done = put_done order operation.Replace (v.want s) (v.gift s) (Some (v.value p)) plain.entries had in
      let long = length_replaced order (v.want s) (v.gift s) (v.value p) plain.entries had in
      puts_agree (done_by order s operation.Replace v plain) done kind.ordered k replaced_puts
      (long ∙ k.counted ∙ replaced_counted)

  -- x takes the place of p in its ring
  replaced_rings : Replaced (rings_of v) (rings_of replaced_view) c p x
  replaced_rings =
      let a = set_aside in
      let b = k.claim_state s p (ap claim_at at) in
      let c-in = may.stands in
      let ahead = k.claim_next s p x (ap claim_at at) (ap aside_at at) in
      record {
        keys = λ q. refl;
        left = grind arith;
        entered = grind arith;
        others = λ q far nor. grind arith;
        behind = λ far. grind arith;
        ahead = λ far. grind arith;
        alone = λ e. grind arith;
        rest = λ q far nor neither. grind arith;
        headed = λ b e. let f = head_follows v.head p (bucket (v.want s)) (Some x) h follows in grind arith;
        heads = λ b far. grind arith;
      }

  -- what holds is kept
  replaced_kept : Kept order rank bucket (done_by order s operation.Replace v plain) n replaced_view
  replaced_kept =
      let o = total_preorder kind.ordered in
      let alike = o.alike_turned (v.key p) (v.want s) (k.claim_key s p (ap claim_at at)) in
      let same = ap (λ q. order q (v.key p)) (k.aside_key s x (ap aside_at at)) ∙ alike in
      ending_kept k replaced_ends
      (replace_keeps_sound kind.ranked bucket (λ a b e. kind.one_bucket a b (kind.same_rank a b e)) (rings_of v) (rings_of replaced_view) c p x k.rings
      replaced_rings (ap is_in_ring may.stands) may.leads (ap is_in_ring set_aside) (kind.rank_same (v.key x) (v.key p) same))
      replaced_agrees

module _ {K V : Type 0} {order rank : K → K → Ordering} {bucket : K → ℕ} (kind : Kind order rank bucket) {plain : Plain K V} {n : ℕ} (v : Whole K V)
    (s c p ahead : ℕ) (k : Kept order rank bucket plain n v) (at : v.stage s ≡ UnderWay (Removing (c, p))) (may : MaySwing order rank bucket n v s c p)
    (leads : ahead ≡ v.next p) (h : HeadMove) (follows : h ≡ followed p (heir p ahead) (v.head (bucket (v.want s)))) (u : V) (value : u ≡ v.value p) where
  -- all of it after a remove: p is out
  abbrev removed_view : Whole K V
  removed_view = swung s operation.Remove p u (changed p Out v.state) (changed c ahead v.next) (heads_after h (bucket (v.want s)) v.head) v

  -- p is in ring
  removed_in : v.state p ≡ InRing
  removed_in = k.claim_state s p (ap claim_at at)

  -- the other sessions keep what is theirs
  removed_ends : Ending plain (done_by order s operation.Remove v plain) v removed_view s
  removed_ends =
      let b = removed_in in
      let mine = ap aside_at at in
      swung_ends kind v s c p (Removing (c, p)) k at refl may operation.Remove u (changed p Out v.state) (changed c ahead v.next)
      (heads_after h (bucket (v.want s)) v.head) value (grind arith) (λ y e. grind arith)
      (λ q far nor. grind arith) (λ q far. grind arith)

  -- the sought key has no value: none in ring has the key
  removed_puts : Puts order v removed_view (v.want s) None
  removed_puts =
      let b = removed_in in
      let alike = k.claim_key s p (ap claim_at at) in
      record {
        keys = λ q. refl;
        stayed = λ q far i. grind arith;
        values = λ q far i. refl;
        stays = λ q far i. grind arith;
        here = grind arith;
        there = λ w e. absurd cc;
      }

  -- one less is in ring
  removed_counted : count_below (λ q. is_in_ring (v.state q)) n ≡ suc (count_below (λ q. is_in_ring (removed_view.state q)) n)
  removed_counted =
      let b = removed_in in
      let p-in = k.within p (λ z. grind arith) in
      count_more (λ q. is_in_ring (removed_view.state q)) (λ q. is_in_ring (v.state q)) p (grind arith) (ap is_in_ring b)
      (λ q far. grind arith) n p-in

  -- the plain table agrees
  removed_agrees : Agrees order (done_by order s operation.Remove v plain) n removed_view
  removed_agrees =
      let had = claimed_found kind v s c p (Removing (c, p)) k at refl may in
      let long = length_removed order (v.want s) (v.gift s) (v.value p) plain.entries had in
      let before = k.counted in
      let fewer = removed_counted in
      puts_agree (done_by order s operation.Remove v plain) refl kind.ordered k removed_puts
      (omega arith)

  -- the rings are sound: the one before p leads to what p led to, or p was alone
  removed_sound : Sound rank bucket (rings_of removed_view)
  removed_sound =
      let b = removed_in in
      let c-in = ap is_in_ring may.stands in
      elim (cases_eq c p) [
        | inl same ↦
            (let own : v.next p ≡ p = ap v.next (sym same) ∙ may.leads in
            unlink_last_keeps_sound kind.ranked bucket (rings_of v) (rings_of removed_view) p k.rings
            (record {
              keys = λ q. refl;
              left = grind arith;
              others = λ q far. grind arith;
              rest = λ q far. grind arith;
              headless = λ a e. grind arith;
              heads = λ a far. grind arith;
            })
            (ap is_in_ring b) own)
        | inr far ↦
            (let other = not_own_next kind.ranked bucket (rings_of v) c p k.rings c-in may.leads far in
            unlink_keeps_sound kind.ranked bucket (rings_of v) (rings_of removed_view) c p k.rings
            (record {
              keys = λ q. refl;
              left = grind arith;
              others = λ q far. grind arith;
              behind = grind arith;
              rest = λ q far nor. grind arith;
              headed = λ a e. let f = head_follows v.head p (bucket (v.want s)) (heir p ahead) h follows in grind arith;
              heads = λ a far. grind arith;
            })
            c-in may.leads far)
      ]

  -- what holds is kept
  removed_kept : Kept order rank bucket (done_by order s operation.Remove v plain) n removed_view
  removed_kept = ending_kept k removed_ends removed_sound removed_agrees

-- a move of a head changes the heads alone
head_view_is : {K V : Type 0} (h : HeadMove) (b : ℕ) (w : Whole K V) → head_view h b w ≡ record {
  state = w.state;
  key = w.key;
  value = w.value;
  next = w.next;
  mark = w.mark;
  head = heads_after h b w.head;
  stage = w.stage;
  want = w.want;
  gift = w.gift;
}
head_view_is Stays b w = refl
head_view_is (Becomes o) b w = refl

module _ {K V : Type 0} {order rank : K → K → Ordering} {bucket : K → ℕ} (kind : Kind order rank bucket) {plain : Plain K V} {n : ℕ} (v : Whole K V)
    (s : ℕ) (work : Work) (k : Kept order rank bucket plain n v) (at : v.stage s ≡ UnderWay work) (fifth : Bool) where
  -- what holds is kept when a replace swings its item in
  pub swing_in_kept :
      (x : ℕ) (pair : ℕ × ℕ) (h : HeadMove) (u : V) → Grounds order rank bucket n v s work (SwingIn x pair h u) →
      Kept order rank bucket (do_task order s (record { operation = operation_of (job_of work); key = v.want s; value = v.gift s }) plain) n
      (act_view s (job_of work) fifth (bucket (v.want s)) (SwingIn x pair h u) v)
  swing_in_kept x pair h u g =
      subst (λ (done : Work). Kept order rank bucket (done_by order s (operation_of (job_of done)) v plain) n
      (act_view s (job_of done) fifth (bucket (v.want s)) (SwingIn x pair h u) v))
      (sym g.0)
      (subst (λ w. Kept order rank bucket (done_by order s operation.Replace v plain) n
      (ended_view s (job_of (Replacing x pair)) (Some u) w))
      (sym (head_view_is h (bucket (v.want s)) (set_state x InRing (set_mark pair.1 false (set_state pair.1 Out (set_next pair.0 x v))))))
      (replaced_kept kind v s x pair.0 pair.1 k (at ∙ ap UnderWay g.0) g.1 h g.2 u g.3))

  -- what holds is kept when a remove swings its item out
  pub swing_out_kept :
      (pair : ℕ × ℕ) (ahead : ℕ) (h : HeadMove) (u : V) → Grounds order rank bucket n v s work (SwingOut pair ahead h u) →
      Kept order rank bucket (do_task order s (record { operation = operation_of (job_of work); key = v.want s; value = v.gift s }) plain) n
      (act_view s (job_of work) fifth (bucket (v.want s)) (SwingOut pair ahead h u) v)
  swing_out_kept pair ahead h u g =
      subst (λ (done : Work). Kept order rank bucket (done_by order s (operation_of (job_of done)) v plain) n
      (act_view s (job_of done) fifth (bucket (v.want s)) (SwingOut pair ahead h u) v))
      (sym g.0)
      (subst (λ w. Kept order rank bucket (done_by order s operation.Remove v plain) n
      (ended_view s (job_of (Removing pair)) (Some u) w))
      (sym (head_view_is h (bucket (v.want s)) (set_mark pair.1 false (set_state pair.1 Out (set_next pair.0 ahead v)))))
      (removed_kept kind v s pair.0 pair.1 ahead k (at ∙ ap UnderWay g.0) g.1 g.2 h g.3 u g.4))
