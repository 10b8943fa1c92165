-- A begin that is refused for want of a place finds nearly all places taken by keys: at most 30 are set
-- aside or only stood on.
use Rattle.std.proofs.Common.{◌≡◌, ℕ, zero, suc, ◌+◌, ◌<◌, ◌≤◌, Bool, true, false, ◌||◌, eqb, List, [], ◌∷◌, length, Some, None, Err, Option, sym, refl, ap, ◌∙◌, arith}
use Rattle.std.specs.List.{slice_get}
use Rattle.std.specs.Option.{ok_or}
use Rattle.std.proofs.lemmas.Bool.{eq-eqb, or_left, or_right}
use Rattle.std.specs.declared.cmp.Ordering.{Ordering}
use Rattle.calls.specs.declared.call.Task.{Task}
use Rattle.calls.specs.declared.fault.IndexFault.TheVariants as fault
use Rattle.calls.specs.declared.operation.Operation.{Operation}
use Rattle.keys.specs.Hashes.{Hash}
use Rattle.rings.specs.RingLists.{count_below}
use Rattle.rings.proofs.Counting.{count_none}
use Rattle.tables.specs.declared.item.ItemState.{ItemState}
use Rattle.tables.specs.declared.item.ItemState.TheVariants.{Out, SetAside, InRing}
use Rattle.tables.specs.declared.session.Session.{Session}
use Rattle.tables.specs.declared.session.Stage.{Stage}
use Rattle.tables.specs.declared.session.Stage.TheVariants.{Idle, UnderWay, Ended}
use Rattle.tables.specs.Items.{is_in_ring}
use Rattle.rules.specs.States.{State}
use Rattle.rules.specs.Free.{is_at, first_free}
use Rattle.rules.specs.Begin.{begin, begin_seat, begin_stage, begin_job, job_for}
use Rattle.rules.specs.Plain.{Plain}
use Rattle.rules.proofs.Views.{state_in, stage_in, cursor_at, aside_at}
use Rattle.rules.proofs.Invariant.{Inv}
use Rattle.rules.proofs.FreePlaces.{none_free}
use Rattle.rules.proofs.ShapeFacts.{seat_of, first_item}

-- all numbers below n, if all pass
count_all : (test : ℕ → Bool) (n : ℕ) → ((p : ℕ) → p < n → test p ≡ true) → count_below test n ≡ n
count_all test zero all = refl
count_all test (suc n) all = let ih = count_all test n (λ p h. all p (omega arith)) in let t = all n (omega arith) in grind arith

-- no more pass one of two tests than pass the first and pass the second
count_either : (f g : ℕ → Bool) (n : ℕ) → count_below (λ p. f p || g p) n ≤ count_below f n + count_below g n
count_either f g zero = omega arith
count_either f g (suc n) = let ih = count_either f g n in grind arith

-- one number at most is this one
count_this : (c n : ℕ) → count_below (λ p. eqb c p) n ≤ 1
count_this c zero = omega arith
count_this c (suc n) =
    let ih = count_this c n in
    let none : c ≡ n → count_below (λ p. eqb c p) n ≡ 0 = λ e. not_below c n (omega arith) in
    grind arith
  where
    not_below : (c n : ℕ) → n ≤ c → count_below (λ p. eqb c p) n ≡ 0
    not_below c zero h = refl
    not_below c (suc n) h = let ih = not_below c n (omega arith) in grind arith

-- and so with a number or none
count_at : (o : Option ℕ) (n : ℕ) → count_below (λ p. is_at p o) n ≤ 1
count_at None n = let z = count_none (λ p. is_at p None) (λ k t. let e : ◌≡◌ {A = ℕ} 0 1 = cc in omega arith) n in omega arith
count_at (Some c) n = count_this c n

-- a part of a session's work that is a place, and is missing in one that is idle
module _ (part : Stage → Option ℕ) where
  -- p is this part of some session
  abbrev is_part : List Session → ℕ → Bool
  is_part [] p = false
  is_part (x ∷ xs) p = is_at p (part x.stage) || is_part xs p

  -- no more places than sessions
  parts_few : (xs : List Session) (n : ℕ) → count_below (is_part xs) n ≤ length xs
  parts_few [] n = let z = count_none (is_part []) (λ k t. let e : ◌≡◌ {A = ℕ} 0 1 = cc in omega arith) n in omega arith
  parts_few (x ∷ xs) n =
      let ih = parts_few xs n in
      let one = count_at (part x.stage) n in
      let both = count_either (λ p. is_at p (part x.stage)) (is_part xs) n in
      omega arith

  -- fewer, if one of them is idle
  parts_fewer : part Idle ≡ None → (xs : List Session) (s : ℕ) (x : Session) → slice_get xs s ≡ Some x → x.stage ≡ Idle → (n : ℕ) → count_below (is_part xs) n < length xs
  parts_fewer missing [] s x at idle n = absurd cc
  parts_fewer missing (y ∷ xs) zero x at idle n =
      let rest = parts_few xs n in
      let same : y ≡ x = cc in
      let none : part y.stage ≡ None = ap (λ t. part t.stage) same ∙ ap part idle ∙ missing in
      let both = count_either (λ p. is_at p (part y.stage)) (is_part xs) n in
      let zero-here = count_none (λ p. is_at p (part y.stage)) (λ k t. grind arith) n in
      omega arith
  parts_fewer missing (y ∷ xs) (suc s) x at idle n =
      let ih = parts_fewer missing xs s x at idle n in
      let one = count_at (part y.stage) n in
      let both = count_either (λ p. is_at p (part y.stage)) (is_part xs) n in
      omega arith

  -- a part of the session s is a part of some session
  part_of : part Idle ≡ None → (xs : List Session) (s p : ℕ) → part (stage_in (slice_get xs s)) ≡ Some p → is_part xs p ≡ true
  part_of missing [] s p h = absurd cc
  part_of missing (x ∷ xs) zero p h = or_left _ _ (ap (is_at p) h ∙ eq-eqb p p refl)
  part_of missing (x ∷ xs) (suc s) p h = or_right _ _ (part_of missing xs s p h)

module _ {K V : Type 0} (st : State K V) (s : ℕ) (task : Task K V) where
  -- a job is refused only where no place is free
  refused_job : (free : Option ℕ) (o : Operation) → (begin_job st s task (job_for free o)).0 ≡ Err fault.NoPlace → free ≡ None
  refused_job None o h = refl
  refused_job (Some p) o h = absurd (grind arith)

  -- a begin refused for want of a place: the session is idle and no place is free
  refused_stage : (stage : Stage) → (begin_stage st s task stage).0 ≡ Err fault.NoPlace → (stage ≡ Idle) × (first_free st ≡ None)
  refused_stage Idle h = (refl, refused_job (first_free st) task.operation h)
  refused_stage (UnderWay w) h = absurd cc
  refused_stage (Ended o present) h = absurd cc

  refused_seat : (o : Option Session) → (begin_seat st s task (ok_or o fault.NoSession)).0 ≡ Err fault.NoPlace → (x : Session) × (o ≡ Some x) × (x.stage ≡ Idle) × (first_free st ≡ None)
  refused_seat None h = absurd cc
  refused_seat (Some x) h = let r = refused_stage x.stage h in (x, refl, r.0, r.1)

module _ {K V : Type 0} (order : K → K → Ordering) (digest : K → Hash) (plain : Plain K V) (st : State K V) (inv : Inv order digest plain st) where
  -- a place in ring, set aside or stood on
  abbrev is_taken : ℕ → Bool
  is_taken p = is_in_ring (state_in (slice_get st.items p)) || (is_part aside_at st.core.sessions p || is_part cursor_at st.core.sessions p)

  -- where no place is free, every place is
  taken_by : first_free st ≡ None → (p : ℕ) → p < st.core.places → (state : ItemState) → state_in (slice_get st.items p) ≡ state → is_taken p ≡ true
  taken_by none p within InRing e = let part = ap is_in_ring e in grind arith
  taken_by none p within SetAside e =
      let it = (first_item st inv.shape).0 in
      let owned = (inv.kept it.key it.value).aside_owned p e in
      let part = part_of aside_at refl st.core.sessions owned.0 p owned.1 in
      grind arith
  taken_by none p within Out e =
      let it = (first_item st inv.shape).0 in
      let stood = none_free it.key it.value st inv.shape none p within e in
      let part = part_of cursor_at refl st.core.sessions stood.0 p stood.1 in
      grind arith

  -- the places that a refused begin finds taken by keys
  pub full_when_refused : (s : ℕ) (task : Task K V) → (begin st s task).0 ≡ Err fault.NoPlace → st.core.places ≤ length plain.entries + 30
  full_when_refused s task h =
      let idle = refused_seat st s task (slice_get st.core.sessions s) (ap (λ r. (begin_seat st s task r).0) (sym (seat_of st inv.shape s)) ∙ h) in
      let it = (first_item st inv.shape).0 in
      let n = st.core.places in
      let long = inv.shape.sessions_long in
      let counted = (inv.kept it.key it.value).counted in
      let aside = parts_fewer aside_at refl st.core.sessions s idle.0 idle.1 idle.2 n in
      let stood = parts_fewer cursor_at refl st.core.sessions s idle.0 idle.1 idle.2 n in
      let all = count_all is_taken n (λ p within. taken_by idle.3 p within (state_in (slice_get st.items p)) refl) in
      let three = count_either (λ p. is_in_ring (state_in (slice_get st.items p))) (λ p. is_part aside_at st.core.sessions p || is_part cursor_at st.core.sessions p) n in
      let two = count_either (is_part aside_at st.core.sessions) (is_part cursor_at st.core.sessions) n in
      omega arith
