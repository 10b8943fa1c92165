-- A turn keeps a record's places in its tables.
use Rattle.std.proofs.Common.{◌≡◌, ℕ, zero, suc, ◌<◌, Bool, true, false, cond, not, ◌&&◌, ltb, leb, List, [], ◌∷◌, Some, None, Ok, Err, Option, Result, refl, subst, arith}
use Rattle.std.specs.List.{slice_get}
use Rattle.std.proofs.lemmas.Bool.Decides.{nat_tests}
use Rattle.calls.specs.declared.fault.IndexFault.{IndexFault}
use Rattle.calls.specs.declared.operation.Operation.{Operation}
use Rattle.calls.specs.declared.operation.Operation.TheVariants as operation
use Rattle.keys.specs.Hashes.{Hash}
use Rattle.keys.specs.Ranks.{bucket_of}
use Rattle.tables.specs.declared.item.Item.{Item}
use Rattle.tables.specs.declared.moves.Move.{Move}
use Rattle.tables.specs.declared.moves.Move.TheVariants.{Step, Leave, GiveUp, Wait, ClaimToReplace, ClaimToRemove, Absent, LinkAlone, Link, Present, SwingIn, SwingOut}
use Rattle.tables.specs.declared.record.Core.{Core}
use Rattle.tables.specs.declared.request.Request.{Request}
use Rattle.tables.specs.declared.session.Job.{Job}
use Rattle.tables.specs.declared.session.Job.TheVariants as job
use Rattle.tables.specs.declared.session.Session.{Session}
use Rattle.tables.specs.declared.session.Stage.{Stage}
use Rattle.tables.specs.declared.session.Stage.TheVariants.{UnderWay}
use Rattle.tables.specs.declared.session.Work.{Work}
use Rattle.tables.specs.declared.session.Work.TheVariants.{Seeking, Replacing, Removing}
use Rattle.tables.specs.Lists.{modify}
use Rattle.tables.specs.Reads.{read_next, head_place}
use Rattle.tables.specs.Records.{in_session}
use Rattle.tables.specs.Sessions.{aside_of, job_of, ended_as, finds_after}
use Rattle.std.specs.Option.{ok_or}
use Rattle.std.specs.declared.cmp.Ordering.{Ordering}
use Rattle.calls.specs.declared.fault.IndexFault.TheVariants.{NotAsMade, NoSession}
use Rattle.rules.specs.States.{State, is_as_made, seat}
use Rattle.rings.specs.Between.{between}
use Rattle.tables.specs.Items.{is_in_ring}
use Rattle.rules.specs.Decide.{rank, has_rank, looks_ahead, miss_empty, miss_between, claim_with, swing_in, swing_out, head_here, hit_ahead, on_pair, on_next_item, on_next, on_ring, on_item, on_head, seek, swing_ready, replace_claimed, cut_out, remove_claimed, replace_if, remove_if, decide}
use Rattle.rules.specs.Act.{act}
use Rattle.index.specs.Within.{is_below, is_stage_within, are_within, is_within}
use Rattle.index.proofs.Keeping.{stage_within}

-- the places that a move gives its session are below n
abbrev is_move_within : {V : Type 0} → ℕ → Move V → Bool
is_move_within n (Step p) = ltb p n
is_move_within n Leave = true
is_move_within n (GiveUp p) = true
is_move_within n Wait = true
is_move_within n (ClaimToReplace x pair ahead) = is_stage_within n (UnderWay (Replacing x pair))
is_move_within n (ClaimToRemove pair) = is_stage_within n (UnderWay (Removing pair))
is_move_within n Absent = true
is_move_within n (LinkAlone x) = true
is_move_within n (Link x pair) = true
is_move_within n (Present p v) = true
is_move_within n (SwingIn x pair h v) = true
is_move_within n (SwingOut pair ahead h v) = true

abbrev is_decision_within : {V : Type 0} → ℕ → Result (Move V) IndexFault → Bool
is_decision_within n (Ok m) = is_move_within n m
is_decision_within n (Err e) = true

empty_within : (V : Type 0) (n : ℕ) (j : Job) → is_move_within n (miss_empty {V = V} j) ≡ true
empty_within V n job.Find = refl
empty_within V n (job.Insert x) = refl
empty_within V n job.Write = refl
empty_within V n (job.Replace x) = refl
empty_within V n job.Remove = refl
empty_within V n job.Point = refl

module _ {K V : Type 0} where
  between_within : (n : ℕ) (j : Job) (pair : ℕ × ℕ) (it : Item K V) → is_move_within n (miss_between j pair it) ≡ true
  between_within n job.Find pair it = refl
  between_within n (job.Insert x) pair it = elim it.occupied as (λ b. is_move_within {V = V} n (cond b Wait (Link x pair)) ≡ true) [ true ↦ refl | false ↦ refl ]
  between_within n job.Write pair it = refl
  between_within n (job.Replace x) pair it = refl
  between_within n job.Remove pair it = refl
  between_within n job.Point pair it = refl

-- one decision or another
either_within : {V : Type 0} (n : ℕ) (b : Bool) (r q : Result (Move V) IndexFault) → is_decision_within n r ≡ true → is_decision_within n q ≡ true → is_decision_within n (cond b r q) ≡ true
either_within n true r q h k = h
either_within n false r q h k = k

below_pair : (n c m : ℕ) → c < n → m < n → (is_below n (Some c) && is_below n (Some m)) ≡ true
below_pair n c m h k = grind (arith, nat_tests)

-- a next that is read is below n
next_below : {K V : Type 0} (n : ℕ) (it : Item K V) (m : ℕ) → read_next n it ≡ Ok m → m < n
next_below n it m h = grind (arith, nat_tests)

-- and so is a head
head_below : (n : ℕ) (o : Option ℕ) (h : ℕ) → head_place n o ≡ Ok (Some h) → ltb h n ≡ true
head_below n None h e = grind (arith, nat_tests)
head_below n (Some w) h e = grind (arith, nat_tests)

claim_within : (V : Type 0) (n x : ℕ) (pair : ℕ × ℕ) (r : Result ℕ IndexFault) → x < n → pair.0 < n → pair.1 < n → is_decision_within {V = V} n (claim_with x pair r) ≡ true
claim_within V n x pair (Err e) h k l = refl
claim_within V n x pair (Ok a) h k l = grind (arith, nat_tests)

module _ {K V : Type 0} (order : K → K → Ordering) (digest : K → Hash) (st : State K V) (q : K) where
  hit_within : (j : Job) (pair : ℕ × ℕ) (nx : Item K V) → is_below st.core.places (aside_of j) ≡ true → pair.0 < st.core.places → pair.1 < st.core.places →
      is_decision_within st.core.places (hit_ahead order digest st q j pair nx) ≡ true
  hit_within job.Find pair nx h k l = refl
  hit_within (job.Insert x) pair nx h k l = refl
  hit_within job.Write pair nx h k l = refl
  hit_within (job.Replace x) pair nx h k l =
      either_within st.core.places nx.occupied (Ok Wait) (claim_with x pair (read_next st.core.places nx)) refl
      (claim_within V st.core.places x pair (read_next st.core.places nx) (grind (arith, nat_tests)) k l)
  hit_within job.Remove pair nx h k l =
      elim nx.occupied as (λ b. is_move_within {V = V} st.core.places (cond b Wait (ClaimToRemove pair)) ≡ true) [ true ↦ refl | false ↦ grind (arith, nat_tests) ]
  hit_within job.Point pair nx h k l = refl

  pair_within : (j : Job) (pair : ℕ × ℕ) (it nx : Item K V) → is_below st.core.places (aside_of j) ≡ true → pair.0 < st.core.places → pair.1 < st.core.places →
      is_decision_within st.core.places (on_pair order digest st q j pair it nx) ≡ true
  pair_within j pair it nx h k l =
      let falls = between (rank order digest st q) it.key q nx.key in
      let miss : Result (Move V) IndexFault = Ok (miss_between j pair it) in
      let step : Result (Move V) IndexFault = Ok (Step pair.1) in
      either_within st.core.places (looks_ahead j && has_rank order digest st q nx.key) (hit_ahead order digest st q j pair nx) (cond falls miss step) (hit_within j pair nx h k l)
      (either_within st.core.places falls miss step (between_within st.core.places j pair it) (grind (arith, nat_tests)))

  item_within : (j : Job) (pair : ℕ × ℕ) (it : Item K V) (o : Option (Item K V)) → is_below st.core.places (aside_of j) ≡ true → pair.0 < st.core.places → pair.1 < st.core.places →
      is_decision_within st.core.places (on_next_item order digest st q j pair it o) ≡ true
  item_within j pair it None h k l = refl
  item_within j pair it (Some nx) h k l = pair_within j pair it nx h k l

  next_within : (j : Job) (c : ℕ) (it : Item K V) (r : Result ℕ IndexFault) → read_next st.core.places it ≡ r → is_below st.core.places (aside_of j) ≡ true → c < st.core.places →
      is_decision_within st.core.places (on_next order digest st q j c it r) ≡ true
  next_within j c it (Err e) d h k = refl
  next_within j c it (Ok m) d h k = item_within j (c, m) it (slice_get st.items m) h k (next_below st.core.places it m d)

  stood_within : (j : Job) (c : ℕ) (o : Option (Item K V)) → is_below st.core.places (aside_of j) ≡ true → c < st.core.places →
      is_decision_within st.core.places (on_item order digest st q j c o) ≡ true
  stood_within j c None h k = refl
  stood_within j c (Some it) h k =
      let on = on_next order digest st q j c it (read_next st.core.places it) in
      either_within st.core.places (is_in_ring it.state) (on_ring order digest st q j c it) (Ok Leave)
      (either_within st.core.places (not (looks_ahead j) && has_rank order digest st q it.key) (Ok (Present c it.value)) on refl
      (next_within j c it (read_next st.core.places it) refl h k)) refl

  headed_within : (j : Job) (r : Result (Option ℕ) IndexFault) → head_here order digest st q ≡ r → is_decision_within {V = V} st.core.places (on_head order digest st q j r) ≡ true
  headed_within j (Err e) d = refl
  headed_within j (Ok None) d = empty_within V st.core.places j
  headed_within j (Ok (Some h)) d = head_below st.core.places (slice_get st.heads (bucket_of order digest st.core.bits q)) h d

  seek_within : (j : Job) (cursor : Option ℕ) → is_below st.core.places (aside_of j) ≡ true → is_below st.core.places cursor ≡ true →
      is_decision_within st.core.places (seek order digest st q j cursor) ≡ true
  seek_within j None h k = headed_within j (head_here order digest st q) refl
  seek_within j (Some c) h k = stood_within j c (slice_get st.items c) h (grind (arith, nat_tests))

  in_within : (x : ℕ) (pair : ℕ × ℕ) (it : Item K V) (r : Result (Option ℕ) IndexFault) → is_decision_within st.core.places (swing_in x pair it r) ≡ true
  in_within x pair it (Err e) = refl
  in_within x pair it (Ok h) = refl

  out_within : (pair : ℕ × ℕ) (a : ℕ) (it : Item K V) (r : Result (Option ℕ) IndexFault) → is_decision_within st.core.places (swing_out pair a it r) ≡ true
  out_within pair a it (Err e) = refl
  out_within pair a it (Ok h) = refl

  replace_within : (x : ℕ) (pair : ℕ × ℕ) (o : Option (Item K V)) → is_decision_within st.core.places (replace_claimed order digest st q x pair o) ≡ true
  replace_within x pair None = refl
  replace_within x pair (Some it) = in_within x pair it (head_here order digest st q)

  cut_within : (pair : ℕ × ℕ) (it : Item K V) (r : Result ℕ IndexFault) → is_decision_within st.core.places (cut_out order digest st q pair it r) ≡ true
  cut_within pair it (Err e) = refl
  cut_within pair it (Ok a) = out_within pair a it (head_here order digest st q)

  remove_within : (pair : ℕ × ℕ) (o : Option (Item K V)) → is_decision_within st.core.places (remove_claimed order digest st q pair o) ≡ true
  remove_within pair None = refl
  remove_within pair (Some it) = cut_within pair it (read_next st.core.places it)

  replace_if_within : (x : ℕ) (pair : ℕ × ℕ) (r : Result Bool IndexFault) → is_decision_within {V = V} st.core.places (replace_if order digest st q x pair r) ≡ true
  replace_if_within x pair (Err e) = refl
  replace_if_within x pair (Ok ready) = either_within st.core.places ready (replace_claimed order digest st q x pair (slice_get st.items pair.1)) (Ok (GiveUp pair.1)) (replace_within x pair (slice_get st.items pair.1)) refl

  remove_if_within : (pair : ℕ × ℕ) (r : Result Bool IndexFault) → is_decision_within {V = V} st.core.places (remove_if order digest st q pair r) ≡ true
  remove_if_within pair (Err e) = refl
  remove_if_within pair (Ok ready) = either_within st.core.places ready (remove_claimed order digest st q pair (slice_get st.items pair.1)) (Ok (GiveUp pair.1)) (remove_within pair (slice_get st.items pair.1)) refl

  -- what a session decides on names places of the table, if its own are so
  pub decide_within : (w : Work) → is_stage_within st.core.places (UnderWay w) ≡ true → is_decision_within st.core.places (decide order digest st q w) ≡ true
  decide_within (Seeking j cursor) h = seek_within j cursor (grind arith) (grind arith)
  decide_within (Replacing x pair) h = replace_if_within x pair (swing_ready order digest st q pair (slice_get st.items pair.0))
  decide_within (Removing pair) h = remove_if_within pair (swing_ready order digest st q pair (slice_get st.items pair.0))

-- the find count stays 0 to 4
finds_within : (o : Operation) (f : ℕ) → leb f 4 ≡ true → leb (finds_after o f) 4 ≡ true
finds_within operation.Find f h = grind (arith, nat_tests)
finds_within operation.Insert f h = h
finds_within operation.Write f h = h
finds_within operation.Replace f h = h
finds_within operation.Remove f h = h
finds_within operation.Point f h = h

ended_sessions : (n s : ℕ) (o : Operation) (present : Bool) (ss : List Session) → are_within n ss ≡ true → are_within n (modify (ended_as o present) s ss) ≡ true
ended_sessions n s o present [] h = refl
ended_sessions n zero o present (x ∷ xs) h = let f = finds_within o x.finds in grind arith
ended_sessions n (suc s) o present (x ∷ xs) h = let ih = ended_sessions n s o present xs in grind arith

ended_within : (core : Core) (s : ℕ) (o : Operation) (present : Bool) → is_within core ≡ true → is_within (in_session s (ended_as o present) core) ≡ true
ended_within core s o present h = let t = ended_sessions core.places s o present core.sessions in grind arith

-- acting keeps the record's places in its tables
module _ {K V : Type 0} (st : State K V) (s : ℕ) (j : Job) (finds : ℕ) (r : Request K V) (bucket : ℕ) where
  pub act_within : (m : Move V) → is_within st.core ≡ true → is_below st.core.places (aside_of j) ≡ true → is_move_within st.core.places m ≡ true →
      is_within (act st s j finds r bucket m).1.core ≡ true
  act_within (Step p) h a k = stage_within st.core s (UnderWay (Seeking j (Some p))) h (grind arith)
  act_within Leave h a k = stage_within st.core s (UnderWay (Seeking j None)) h (grind arith)
  act_within (GiveUp p) h a k = stage_within st.core s (UnderWay (Seeking j None)) h (grind arith)
  act_within Wait h a k = h
  act_within (ClaimToReplace x pair ahead) h a k = stage_within st.core s (UnderWay (Replacing x pair)) h k
  act_within (ClaimToRemove pair) h a k = stage_within st.core s (UnderWay (Removing pair)) h k
  act_within Absent h a k = ended_within st.core s _ _ h
  act_within (LinkAlone x) h a k = ended_within st.core s _ _ h
  act_within (Link x pair) h a k = ended_within st.core s _ _ h
  act_within (Present p v) h a k = ended_within st.core s _ _ h
  act_within (SwingIn x pair hd v) h a k = ended_within st.core s _ _ h
  act_within (SwingOut pair ahead hd v) h a k = ended_within st.core s _ _ h

-- a session at hand keeps its places in the table
seat_within : (n : ℕ) (ss : List Session) (s : ℕ) (x : Session) → are_within n ss ≡ true → slice_get ss s ≡ Some x → is_stage_within n x.stage ≡ true
seat_within n [] s x h e = grind arith
seat_within n (y ∷ ys) zero x h e = grind arith
seat_within n (y ∷ ys) (suc s) x h e = seat_within n ys s x (grind arith) e

seated : {K V : Type 0} (st : State K V) (s : ℕ) (x : Session) → seat st s ≡ Ok x → slice_get st.core.sessions s ≡ Some x
seated st s x e = found (is_as_made st) (slice_get st.core.sessions s) e
  where
    found : (b : Bool) (o : Option Session) → cond b (ok_or o NoSession) (Err NotAsMade) ≡ Ok x → o ≡ Some x
    found true None h = grind arith
    found true (Some y) h = grind arith
    found false o h = grind arith

-- a session's work is that of its stage
under_way : (n : ℕ) (stage : Stage) (w : Work) → stage ≡ UnderWay w → is_stage_within n stage ≡ true → is_stage_within n (UnderWay w) ≡ true
under_way n stage w e h = subst (λ (x : Stage). is_stage_within n x ≡ true) e h

aside_below : (n : ℕ) (w : Work) → is_stage_within n (UnderWay w) ≡ true → is_below n (aside_of (job_of w)) ≡ true
aside_below n w h = grind arith

move_within : {V : Type 0} (n : ℕ) (r : Result (Move V) IndexFault) (m : Move V) → r ≡ Ok m → is_decision_within n r ≡ true → is_move_within n m ≡ true
move_within n r m e h = subst (λ x. is_decision_within n x ≡ true) e h

-- a turn keeps the record's places in its tables
pub turn_within : {K V : Type 0} (order : K → K → Ordering) (digest : K → Hash) (st : State K V) (s bucket : ℕ) (session : Session) (w : Work) (r : Request K V) (m : Move V) →
    is_within st.core ≡ true → seat st s ≡ Ok session → session.stage ≡ UnderWay w → decide order digest st r.key w ≡ Ok m →
    is_within (act st s (job_of w) session.finds r bucket m).1.core ≡ true
turn_within order digest st s bucket session w r m h e1 e2 e3 =
    let n = st.core.places in
    let all : are_within n st.core.sessions ≡ true = grind arith in
    let own = under_way n session.stage w e2 (seat_within n st.core.sessions s session all (seated st s session e1)) in
    act_within st s (job_of w) session.finds r bucket m h (aside_below n w own) (move_within n (decide order digest st r.key w) m e3 (decide_within order digest st r.key w own))
