-- The moves by which a session ends with a miss or a hit: no item enters or leaves a ring.
use Rattle.std.proofs.Common.{◌≡◌, ℕ, Bool, true, false, Some, None, Option, sym, refl, ap, ◌∙◌, subst, inl, inr, arith}
use Rattle.std.proofs.lemmas.Bool.{cases_eq}
use Rattle.std.specs.declared.cmp.Ordering.{Ordering}
use Rattle.std.specs.declared.cmp.Ordering.TheVariants.{Equal}
use Rattle.calls.specs.Operations.{inserted, leaves, written}
use Rattle.keys.proofs.Preorders.{total_preorder}
use Rattle.tables.specs.declared.item.ItemState.TheVariants.{InRing}
use Rattle.tables.specs.declared.moves.Move.TheVariants.{Absent, Present}
use Rattle.tables.specs.declared.session.Job.{Job}
use Rattle.tables.specs.declared.session.Job.TheVariants as job
use Rattle.tables.specs.declared.session.Stage.TheVariants.{UnderWay}
use Rattle.tables.specs.declared.session.Work.{Work}
use Rattle.tables.specs.declared.session.Work.TheVariants.{Seeking, Replacing, Removing}
use Rattle.tables.specs.Items.{is_in_ring}
use Rattle.tables.specs.Sessions.{aside_of, job_of, operation_of}
use Rattle.rules.specs.Plain.{Plain, answer, noting, found, put, do_task}
use Rattle.rules.proofs.Views.{Whole, changed, set_head, set_value, out_aside, written_view, pointed_view, ended_view, act_view}
use Rattle.rules.proofs.Invariant.{Kept}
use Rattle.rules.proofs.Grounds.{Grounds, MayMiss, MayHit}
use Rattle.rules.proofs.KindLaws.{Kind}
use Rattle.rules.proofs.PlainTables.{alike_cases, found_alike, found_put_same, found_put_other, found_put_back, apart_put, length_put_back, length_stored_present}
use Rattle.rules.proofs.Quiet.{changed_here, changed_elsewhere, entries_kept, head_kept, revalued_kept}
use Rattle.rules.proofs.Stopping.{seeker_ends}

-- a miss leaves the key absent
leaves_absent : {V : Type 0} (j : Job) (value : V) → MayMiss j → leaves (operation_of j) value None ≡ None
leaves_absent job.Find value m = refl
leaves_absent (job.Insert x) value m = absurd m
leaves_absent job.Write value m = refl
leaves_absent (job.Replace x) value m = refl
leaves_absent job.Remove value m = refl
leaves_absent job.Point value m = refl

-- the plain table with a key put
abbrev pub putting : {K V : Type 0} (order : K → K → Ordering) → K → Option V → Plain K V → Plain K V
putting order x o plain = record { entries = put order x o plain.entries; notes = plain.notes }

module _ {K V : Type 0} {order rank : K → K → Ordering} {bucket : K → ℕ} {plain : Plain K V} {n : ℕ} {w : Whole K V}
    (kind : Kind order rank bucket) (k : Kept order rank bucket plain n w) where
  -- to put back what a key had keeps the invariant
  pub put_back_kept : (x : K) (o : Option V) → found order x plain.entries ≡ o → Kept order rank bucket (putting order x o plain) n w
  put_back_kept x o h =
      entries_kept plain (putting order x o plain) w (λ s. refl) (λ y. found_put_back kind.ordered x y o plain.entries k.apart h)
      (apart_put kind.ordered x o plain.entries k.apart) (length_put_back order x o plain.entries h) k

  -- a key alike to none in ring is absent
  pub absent_found : (x : K) → ((p : ℕ) → w.state p ≡ InRing → order (w.key p) x ≡ Equal → ⊥) → found order x plain.entries ≡ None
  absent_found x none =
      grind arith

  -- a key alike to one in ring has its value
  pub present_found : (x : K) (p : ℕ) → w.state p ≡ InRing → order (w.key p) x ≡ Equal → found order x plain.entries ≡ Some (w.value p)
  present_found x p i h = sym (found_alike kind.ordered (w.key p) x plain.entries h) ∙ k.held p i

  module _ (x : K) (p : ℕ) (i : w.state p ≡ InRing) (h : order (w.key p) x ≡ Equal) (y : V) where
    -- another item in ring has another key
    other_key : (q : ℕ) → w.state q ≡ InRing → (q ≡ p → ⊥) → order x (w.key q) ≡ Equal → ⊥
    other_key q r differs e =
        differs (sym (k.rings.unlike p q (ap is_in_ring i) (ap is_in_ring r)
        (kind.rank_same (w.key p) (w.key q) ((total_preorder kind.ordered).alike_chained (w.key p) x (w.key q) h e))))

    -- to write a value in an item in ring, and in the plain table at its key, keeps the invariant
    pub written_kept : Kept order rank bucket (putting order x (Some y) plain) n (set_value p y w)
    written_kept =
        let laws = kind.ordered in
        let turned = (total_preorder laws).alike_turned in
        let chained = (total_preorder laws).alike_chained in
        let es = plain.entries in
        revalued_kept plain (putting order x (Some y) plain) w (changed p y w.value) w.head k
        (λ a e. changed_elsewhere p y w.value a (λ same. (let r = i in cc)))
        k.rings (λ s. refl)
        (record {
          held = λ q r. elim (cases_eq q p) [
            | inl same ↦ found_put_same laws x (w.key q) (Some y) es k.apart (turned (w.key q) x (ap (λ a. order (w.key a) x) same ∙ h))
                ∙ ap Some (sym (ap (changed p y w.value) same ∙ changed_here p y w.value))
            | inr differs ↦ found_put_other laws x (w.key q) (Some y) es (other_key q r differs) ∙ k.held q r ∙ ap Some (sym (changed_elsewhere p y w.value q differs))
          ];
          known = λ a u e. elim (alike_cases (order x a)) [
            | inl alike ↦ grind arith
            | inr differs ↦ k.known a u (sym (found_put_other laws x a (Some y) es differs) ∙ e)
          ];
          apart = apart_put laws x (Some y) es k.apart;
          counted = length_stored_present order x y (w.value p) es (present_found x p i h) ∙ k.counted;
        })

-- what a session's job does to the plain table
abbrev pub done_by : {K V : Type 0} (order : K → K → Ordering) → ℕ → Job → Whole K V → Plain K V → Plain K V
done_by order s j w plain = do_task order s (record { operation = operation_of j; key = w.want s; value = w.gift s }) plain

module _ {K V : Type 0} {order rank : K → K → Ordering} {bucket : K → ℕ} {plain : Plain K V} {n : ℕ} {w : Whole K V} (s : ℕ) (cursor : Option ℕ)
    (kind : Kind order rank bucket) (k : Kept order rank bucket plain n w) where
  -- a session that seeks ends with the answer that its key has, after its job has put what it leaves
  ends_found :
      (j : Job) (o a : Option V) (u : Whole K V) → Kept order rank bucket (putting order (w.want s) o plain) n u → u.stage s ≡ UnderWay (Seeking j cursor) →
      found order (w.want s) plain.entries ≡ a →
      Kept order rank bucket (noting s (answer (found order (w.want s) plain.entries)) (putting order (w.want s) o plain)) n (ended_view s j a (out_aside (aside_of j) u))
  ends_found j o a u kept e has =
      subst (λ f. Kept order rank bucket (noting s (answer f) (putting order (w.want s) o plain)) n (ended_view s j a (out_aside (aside_of j) u))) (sym has)
      (seeker_ends s j cursor a kept e)

  -- it ends with a miss
  miss_ends :
      (j : Job) → w.stage s ≡ UnderWay (Seeking j cursor) → MayMiss j → ((p : ℕ) → w.state p ≡ InRing → order (w.key p) (w.want s) ≡ Equal → ⊥) →
      Kept order rank bucket (done_by order s j w plain) n (ended_view s j None (out_aside (aside_of j) w))
  miss_ends j e may none =
      let x = w.want s in
      let o = leaves (operation_of j) (w.gift s) (found order x plain.entries) in
      let gone = absent_found kind k x none in
      let back = gone ∙ sym (ap (leaves (operation_of j) (w.gift s)) gone ∙ leaves_absent j (w.gift s) may) in
      ends_found j o None w (put_back_kept kind k x o back) e gone

  module _ (p : ℕ) (y : V) (i : w.state p ≡ InRing) (h : order (w.key p) (w.want s) ≡ Equal) (v : y ≡ w.value p) where
    -- its key has the value of the item that it found
    has : found order (w.want s) plain.entries ≡ Some y
    has = present_found kind k (w.want s) p i h ∙ ap Some (sym v)

    -- the item becomes the head of its bucket
    pointed : (o : Option V) → Kept order rank bucket (putting order (w.want s) o plain) n w → Kept order rank bucket (putting order (w.want s) o plain) n (set_head (bucket (w.want s)) (Some p) w)
    pointed o kept = head_kept (putting order (w.want s) o plain) w (bucket (w.want s)) p i (kind.one_bucket (w.key p) (w.want s) h) kept

    -- it ends with a hit
    hit_ends :
        (j : Job) (fifth : Bool) → w.stage s ≡ UnderWay (Seeking j cursor) → MayHit j →
        Kept order rank bucket (done_by order s j w plain) n (ended_view s j (Some y) (pointed_view j fifth (bucket (w.want s)) p (out_aside (aside_of j) (written_view j p (w.gift s) w))))
    hit_ends job.Find true e may =
        let o = found order (w.want s) plain.entries in
        ends_found job.Find o (Some y) (set_head (bucket (w.want s)) (Some p) w) (pointed o (put_back_kept kind k (w.want s) o refl)) e has
    hit_ends job.Find false e may =
        let o = found order (w.want s) plain.entries in
        ends_found job.Find o (Some y) w (put_back_kept kind k (w.want s) o refl) e has
    hit_ends (job.Insert x) fifth e may =
        let o = inserted (w.gift s) (found order (w.want s) plain.entries) in
        ends_found (job.Insert x) o (Some y) w (put_back_kept kind k (w.want s) o (has ∙ sym (ap (inserted (w.gift s)) has))) e has
    hit_ends job.Write fifth e may =
        let o = written (w.gift s) (found order (w.want s) plain.entries) in
        let kept = written_kept kind k (w.want s) p i h (w.gift s) in
        ends_found job.Write o (Some y) (set_value p (w.gift s) w)
        (subst (λ a. Kept order rank bucket (putting order (w.want s) a plain) n (set_value p (w.gift s) w)) (sym (ap (written (w.gift s)) has)) kept) e has
    hit_ends (job.Replace x) fifth e may = absurd may
    hit_ends job.Remove fifth e may = absurd may
    hit_ends job.Point fifth e may =
        let o = found order (w.want s) plain.entries in
        ends_found job.Point o (Some y) (set_head (bucket (w.want s)) (Some p) w) (pointed o (put_back_kept kind k (w.want s) o refl)) e has

module _ {K V : Type 0} {order rank : K → K → Ordering} {bucket : K → ℕ} {plain : Plain K V} {n : ℕ} {w : Whole K V} {s : ℕ}
    (kind : Kind order rank bucket) (k : Kept order rank bucket plain n w) where
  -- a miss keeps the invariant
  pub absent_kept :
      {work : Work} → w.stage s ≡ UnderWay work → (fifth : Bool) → Grounds order rank bucket n w s work Absent →
      Kept order rank bucket (do_task order s (record { operation = operation_of (job_of work); key = w.want s; value = w.gift s }) plain) n
      (act_view s (job_of work) fifth (bucket (w.want s)) Absent w)
  absent_kept {work = Seeking j cursor} e fifth g = miss_ends s cursor kind k j e g.1 g.2
  absent_kept {work = Replacing x pair} e fifth g = absurd g.0
  absent_kept {work = Removing pair} e fifth g = absurd g.0

  -- a hit keeps it
  pub present_kept :
      {work : Work} → w.stage s ≡ UnderWay work → (fifth : Bool) → (p : ℕ) (v : V) → Grounds order rank bucket n w s work (Present p v) →
      Kept order rank bucket (do_task order s (record { operation = operation_of (job_of work); key = w.want s; value = w.gift s }) plain) n
      (act_view s (job_of work) fifth (bucket (w.want s)) (Present p v) w)
  present_kept {work = Seeking j cursor} e fifth p v g = hit_ends s cursor kind k p v g.2 g.3 g.4 j fifth e g.1
  present_kept {work = Replacing x pair} e fifth p v g = absurd g.0
  present_kept {work = Removing pair} e fifth p v g = absurd g.0
