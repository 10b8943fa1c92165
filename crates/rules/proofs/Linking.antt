-- The two moves that link the item set aside by an insert: alone in its bucket, or behind an item of its ring.
use Rattle.std.proofs.Common.{◌≡◌, ℕ, suc, Bool, true, false, Some, None, Option, sym, refl, ap, ◌∙◌, subst, arith}
use Rattle.std.proofs.lemmas.Bool.{cases_eq}
use Rattle.std.proofs.lemmas.Bool.Decides.{nat_tests}
use Rattle.std.specs.declared.cmp.Ordering.{Ordering}
use Rattle.std.specs.declared.cmp.Ordering.TheVariants.{Equal}
use Rattle.calls.specs.declared.operation.Operation.TheVariants as operation
use Rattle.keys.proofs.Preorders.{total_preorder}
use Rattle.rings.specs.Between.{between}
use Rattle.rings.specs.Moves.{Linked, LinkedAlone}
use Rattle.rings.specs.RingLists.{count_below}
use Rattle.rings.specs.Rings.{Sound}
use Rattle.rings.proofs.Linking.{link_keeps_sound, link_alone_keeps_sound}
use Rattle.rings.proofs.Nexts.{miss_is_right}
use Rattle.tables.specs.declared.item.ItemState.TheVariants.{SetAside, InRing}
use Rattle.tables.specs.declared.moves.Move.TheVariants.{LinkAlone, Link}
use Rattle.tables.specs.declared.session.Job.TheVariants as job
use Rattle.tables.specs.declared.session.Stage.TheVariants.{UnderWay, Ended}
use Rattle.tables.specs.declared.session.Work.{Work}
use Rattle.tables.specs.declared.session.Work.TheVariants.{Seeking}
use Rattle.tables.specs.Items.{is_in_ring}
use Rattle.tables.specs.Sessions.{job_of, operation_of}
use Rattle.rules.specs.Plain.{Plain, found, do_task}
use Rattle.rules.proofs.Ending.{absent_found}
use Rattle.rules.proofs.Frames.{Agrees}
use Rattle.rules.proofs.Grounds.{Grounds}
use Rattle.rules.proofs.Invariant.{Kept}
use Rattle.rules.proofs.KindLaws.{Kind}
use Rattle.rules.proofs.PlainTables.{put_done, length_inserted}
use Rattle.rules.proofs.RingChanges.{done_by, Ending, Puts, ending_kept, puts_agree, count_more}
use Rattle.rules.proofs.Views.{Whole, rings_of, cursor_at, aside_at, claim_at, changed, act_view}

-- x, set aside by session s, comes into ring, and the insert of s ends
abbrev entered : {K V : Type 0} → ℕ → ℕ → (ℕ → ℕ) → (ℕ → Option ℕ) → Whole K V → Whole K V
entered s x next head v = record {
  state = changed x InRing v.state;
  key = v.key;
  value = v.value;
  next = next;
  mark = v.mark;
  head = head;
  stage = changed s (Ended operation.Insert false) v.stage;
  want = v.want;
  gift = v.gift;
}

module _ {K V : Type 0} {order rank : K → K → Ordering} {bucket : K → ℕ} (kind : Kind order rank bucket) {plain : Plain K V} {n : ℕ} (v : Whole K V)
    (s x : ℕ) (cursor : Option ℕ) (next : ℕ → ℕ) (head : ℕ → Option ℕ) (k : Kept order rank bucket plain n v)
    (at : v.stage s ≡ UnderWay (Seeking (job.Insert x) cursor))
    (unlike : (p : ℕ) → v.state p ≡ InRing → order (v.key p) (v.want s) ≡ Equal → ⊥)
    (claimed : (t p : ℕ) → claim_at (v.stage t) ≡ Some p → next p ≡ v.next p)
    (aside : (t y : ℕ) → (t ≡ s → ⊥) → aside_at (v.stage t) ≡ Some y → next y ≡ v.next y) where
  -- x is set aside
  was_aside : v.state x ≡ SetAside
  was_aside = k.aside_state s x (ap aside_at at)

  -- no key in ring is alike to the sought one, so the plain table has none
  was_absent : found order (v.want s) plain.entries ≡ None
  was_absent = absent_found kind k (v.want s) unlike

  -- the other sessions keep what is theirs: x was s's own
  entered_ends : Ending plain (done_by order s operation.Insert v plain) v (entered s x next head v) s
  entered_ends =
      let out = was_aside in
      let here = ap aside_at at in
      record {
        keys = λ p. refl;
        wants = λ t. refl;
        gifts = λ t far. refl;
        stages = λ t far. grind arith;
        notes = λ t far. grind arith;
        operation = operation.Insert;
        present = false;
        stage = grind arith;
        note = grind arith;
        in_use = λ p h z. grind arith;
        in_ring = λ p i h. grind (arith, nat_tests);
        set_aside = λ p i. grind arith;
        marked = λ p i. grind arith;
        aside_stays = λ t y far h.
            let a = k.aside_state t y h in
            let b = k.aside_apart t s y h in
            grind arith;
        aside_value = λ t y far h. refl;
        aside_next = aside;
        claim_stays = λ t p far h. grind arith;
        claim_mark = λ t p far h. grind arith;
        claim_next = λ t p far h. claimed t p h;
      }

  -- the sought key has the session's value: x holds them
  entered_puts : Puts order v (entered s x next head v) (v.want s) (Some (v.gift s))
  entered_puts =
      let out = was_aside in
      let same = k.aside_key s x (ap aside_at at) in
      let given = k.aside_value s x (ap aside_at at) in
      let itself = (total_preorder kind.ordered).alike_itself (v.want s) in
      record {
        keys = λ p. refl;
        stayed = λ p far i. grind (arith, nat_tests);
        values = λ p far i. refl;
        stays = λ p far i. grind arith;
        here = λ p h i. let d = cases_eq p x in let u = unlike p in grind (arith, nat_tests);
        there = λ u e. grind arith;
      }

  -- one more is in ring
  entered_counted : suc (count_below (λ p. is_in_ring (v.state p)) n) ≡ count_below (λ p. is_in_ring ((entered s x next head v).state p)) n
  entered_counted =
      let out = was_aside in
      let l = k.within x (λ z. grind arith) in
      sym (count_more (λ p. is_in_ring (v.state p)) (λ p. is_in_ring ((entered s x next head v).state p)) x (grind arith) (grind (arith, nat_tests)) (λ p far. grind (arith, nat_tests)) n l)

  -- the plain table agrees
  entered_agrees : Agrees order (done_by order s operation.Insert v plain) n (entered s x next head v)
  entered_agrees =
      let none = was_absent in
      let done = put_done order operation.Insert (v.want s) (v.gift s) None plain.entries none in
      let long = length_inserted order (v.want s) (v.gift s) plain.entries none in
      let more = entered_counted in
      let before = k.counted in
      puts_agree (done_by order s operation.Insert v plain) done kind.ordered k entered_puts (long ∙ ap suc before ∙ more)

  -- what holds is kept, if the rings are sound after it
  entered_kept :
      Sound rank bucket (rings_of (entered s x next head v)) →
      Kept order rank bucket (done_by order s operation.Insert v plain) n (entered s x next head v)
  entered_kept rings = ending_kept k entered_ends rings entered_agrees

module _ {K V : Type 0} {order rank : K → K → Ordering} {bucket : K → ℕ} (kind : Kind order rank bucket) {plain : Plain K V} {n : ℕ} (v : Whole K V)
    (s x : ℕ) (k : Kept order rank bucket plain n v) where
  -- an insert into a bucket with no head links its item alone there
  alone_kept :
      v.stage s ≡ UnderWay (Seeking (job.Insert x) None) → v.head (bucket (v.want s)) ≡ None →
      Kept order rank bucket (done_by order s operation.Insert v plain) n
      (entered s x (changed x x v.next) (changed (bucket (v.want s)) (Some x) v.head) v)
  alone_kept at headless =
      let aside = k.aside_state s x (ap aside_at at) in
      let key = k.aside_key s x (ap aside_at at) in
      let empty = ap (λ q. v.head (bucket q)) key ∙ headless in
      let w = entered s x (changed x x v.next) (changed (bucket (v.want s)) (Some x) v.head) v in
      let linked : LinkedAlone (rings_of v) (rings_of w) (bucket (v.key x)) x = record {
        keys = λ p. refl;
        entered = grind arith;
        others = λ p far. grind arith;
        alone = grind arith;
        rest = λ p far. grind arith;
        headed = grind arith;
        heads = λ b far. grind arith;
      } in
      entered_kept kind v s x None (changed x x v.next) (changed (bucket (v.want s)) (Some x) v.head) k at
      (λ p i e. grind arith)
      (λ t p h. grind arith)
      (λ t y far h. let j = ap aside_at at in grind arith)
      (link_alone_keeps_sound kind.ranked bucket (λ a b e. kind.one_bucket a b (kind.same_rank a b e)) (rings_of v) (rings_of w) x k.rings linked
      (ap is_in_ring aside) empty)

  -- an insert links its item behind the one stood on, if that one is unmarked and the sought key falls between it and its next
  behind_kept :
      (c m : ℕ) → v.stage s ≡ UnderWay (Seeking (job.Insert x) (Some c)) → v.state c ≡ InRing → v.next c ≡ m → v.mark c ≡ false →
      between rank (v.key c) (v.want s) (v.key m) ≡ true →
      Kept order rank bucket (done_by order s operation.Insert v plain) n
      (entered s x (changed c x (changed x m v.next)) v.head v)
  behind_kept c m at c-in leads free arc =
      let aside = k.aside_state s x (ap aside_at at) in
      let key = k.aside_key s x (ap aside_at at) in
      let stood = k.cursor_bucket s c (ap cursor_at at) c-in in
      let next = changed c x (changed x m v.next) in
      let w = entered s x next v.head v in
      let arc' : between rank (v.key c) (v.want s) (v.key (v.next c)) ≡ true = ap (λ p. between rank (v.key c) (v.want s) (v.key p)) leads ∙ arc in
      let one_bucket = λ (a b : K) (e : rank a b ≡ Equal). kind.one_bucket a b (kind.same_rank a b e) in
      let linked : Linked (rings_of v) (rings_of w) c x = record {
        keys = λ p. refl;
        heads = λ b. refl;
        entered = grind arith;
        others = λ p far. grind arith;
        behind = grind arith;
        ahead = grind arith;
        rest = λ p far nor. grind arith;
      } in
      entered_kept kind v s x (Some c) next v.head k at
      (λ p i e. miss_is_right kind.ranked bucket one_bucket (rings_of v) c (v.want s) k.rings (ap is_in_ring c-in) stood arc' p (ap is_in_ring i)
      (kind.rank_same (v.key p) (v.want s) e))
      (λ t p h. grind arith)
      (λ t y far h. let j = ap aside_at at in grind arith)
      (link_keeps_sound kind.ranked bucket one_bucket (rings_of v) (rings_of w) c x k.rings linked
      (ap is_in_ring c-in) (ap is_in_ring aside) (ap bucket key ∙ sym stood) (ap (λ q. between rank (v.key c) q (v.key (v.next c))) key ∙ arc'))

module _ {K V : Type 0} {order rank : K → K → Ordering} {bucket : K → ℕ} (kind : Kind order rank bucket) {plain : Plain K V} {n : ℕ} (v : Whole K V)
    (s : ℕ) (work : Work) (k : Kept order rank bucket plain n v) (at : v.stage s ≡ UnderWay work) (fifth : Bool) where
  -- what holds is kept when an insert links its item alone
  pub link_alone_kept :
      (x : ℕ) → Grounds order rank bucket n v s work (LinkAlone x) →
      Kept order rank bucket (do_task order s (record { operation = operation_of (job_of work); key = v.want s; value = v.gift s }) plain) n
      (act_view s (job_of work) fifth (bucket (v.want s)) (LinkAlone x) v)
  link_alone_kept x g =
      subst (λ (done : Work). Kept order rank bucket (done_by order s (operation_of (job_of done)) v plain) n
      (act_view s (job_of done) fifth (bucket (v.want s)) (LinkAlone x) v))
      (sym g.0) (alone_kept kind v s x k (at ∙ ap UnderWay g.0) g.1)

  -- what holds is kept when an insert links its item behind the one it stands on
  pub link_kept :
      (x : ℕ) (pair : ℕ × ℕ) → Grounds order rank bucket n v s work (Link x pair) →
      Kept order rank bucket (do_task order s (record { operation = operation_of (job_of work); key = v.want s; value = v.gift s }) plain) n
      (act_view s (job_of work) fifth (bucket (v.want s)) (Link x pair) v)
  link_kept x pair g =
      subst (λ (done : Work). Kept order rank bucket (done_by order s (operation_of (job_of done)) v plain) n
      (act_view s (job_of done) fifth (bucket (v.want s)) (Link x pair) v))
      (sym g.0) (behind_kept kind v s x k pair.0 pair.1 (at ∙ ap UnderWay g.0) g.1 g.2 g.3 g.4)
