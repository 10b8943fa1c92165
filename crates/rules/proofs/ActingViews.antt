-- What a turn, begin, collect and abandon do, seen by place, session and bucket: what the views say.
use Rattle.std.proofs.Common.{◌≡◌, ℕ, ◌^◌, ◌<◌, Bool, true, false, cond, not, ltb, List, length, set, is_some, Some, None, Option, sym, refl, ap, subst, arith}
use Rattle.std.specs.List.{slice_get}
use Rattle.calls.specs.declared.call.Task.{Task}
use Rattle.tables.specs.declared.item.Item.{Item}
use Rattle.tables.specs.declared.item.ItemState.TheVariants.{Out, InRing}
use Rattle.tables.specs.declared.moves.HeadMove.{HeadMove}
use Rattle.tables.specs.declared.moves.HeadMove.TheVariants.{Stays, Becomes}
use Rattle.tables.specs.declared.moves.Move.{Move}
use Rattle.tables.specs.declared.moves.Move.TheVariants.{Step, Leave, GiveUp, Wait, ClaimToReplace, ClaimToRemove, Absent, LinkAlone, Link, Present, SwingIn, SwingOut}
use Rattle.tables.specs.declared.record.Core.{Core}
use Rattle.tables.specs.declared.request.Request.{Request}
use Rattle.tables.specs.declared.session.Job.{Job}
use Rattle.tables.specs.declared.session.Job.TheVariants as job
use Rattle.tables.specs.declared.session.Stage.{Stage}
use Rattle.tables.specs.declared.session.Stage.TheVariants.{Idle, UnderWay, Ended}
use Rattle.tables.specs.declared.session.Work.{Work}
use Rattle.tables.specs.declared.session.Work.TheVariants.{Seeking, Replacing, Removing}
use Rattle.tables.specs.Items.{with_state, with_next, with_mark, with_value}
use Rattle.tables.specs.Lists.{modify}
use Rattle.tables.specs.Sessions.{aside_of, claim_of, job_of, operation_of, at_stage}
use Rattle.rules.specs.Abandon.{released, put_out, abandoned}
use Rattle.rules.specs.Act.{ended_as, head_by, pointed_by, answered, written_by, taken_out, ends, act}
use Rattle.rules.specs.Begin.{hand_after, prepared, begun}
use Rattle.tables.specs.Items.{with_request}
use Rattle.rules.specs.Collect.{restaged}
use Rattle.rules.specs.States.{State, state, in_session}
use Rattle.rules.proofs.Changing.{still_within, state_changed, value_changed, next_changed, mark_changed, item_set_aside, stage_changed, gift_changed, request_changed, head_changed, head_reads}
use Rattle.rules.proofs.Invariant.{Shape}
use Rattle.rules.proofs.ShapeKept.{Within, released_long, written_long, within_items}
use Rattle.rules.proofs.Views.{Whole, whole, Same, out_aside, written_view, pointed_view, head_view, ended_view, act_view, aside_view, begin_view, release_view, abandon_view, set_state, set_value, set_next, set_mark, set_head, set_stage, set_request, gift_in}

-- a head that a move writes is none or lies below n
abbrev pub HeadWithin : ℕ → HeadMove → Type 0
HeadWithin n Stays = Unit {0}
HeadWithin n (Becomes o) = Within n o

-- the places that a move writes, or writes as a head, lie below n
abbrev pub Writes : {V : Type 0} → ℕ → Job → Move V → Type 0
Writes n j (Step p) = Unit {0}
Writes n j Leave = Unit {0}
Writes n j (GiveUp p) = p < n
Writes n j Wait = Unit {0}
Writes n j (ClaimToReplace x pair ahead) = (x < n) × (pair.1 < n)
Writes n j (ClaimToRemove pair) = pair.1 < n
Writes n j Absent = Within n (aside_of j)
Writes n j (LinkAlone x) = x < n
Writes n j (Link x pair) = (x < n) × (pair.0 < n)
Writes n j (Present p v) = Within n (aside_of j) × (p < n)
Writes n j (SwingIn x pair h v) = (x < n) × (pair.0 < n) × (pair.1 < n) × HeadWithin n h
Writes n j (SwingOut pair ahead h v) = (pair.0 < n) × (pair.1 < n) × HeadWithin n h

-- nothing changed
pub same_itself : {K V : Type 0} (w : Whole K V) → Same w w
same_itself w = record {
  state = λ p. refl;
  key = λ p. refl;
  value = λ p. refl;
  next = λ p. refl;
  mark = λ p. refl;
  head = λ b. refl;
  stage = λ s. refl;
  want = λ s. refl;
  gift = λ s. refl;
}

-- the parts of a move, after any changes that have been seen so far
module _ {K V : Type 0} (d : K) (e : V) (core : Core) (heads : List ℕ) (items : List (Item K V)) (requests : List (Request K V)) (v : Whole K V) (same : Same v (whole d e (state core heads items requests))) where
  -- an item that was set aside goes out
  pub put_out_seen : (o : Option ℕ) → Within (length items) o → Same (out_aside o v) (whole d e (state core heads (put_out o items) requests))
  put_out_seen None h = same
  put_out_seen (Some x) h = state_changed d e core heads items requests v same x Out h

  -- the mark of a claimed item comes off
  pub released_seen : (o : Option ℕ) → Within (length items) o → Same (release_view o v) (whole d e (state core heads (released o items) requests))
  released_seen None h = same
  released_seen (Some p) h = mark_changed d e core heads items requests v same p false h

  -- write puts its value in the item that was found
  pub written_seen : (j : Job) (p : ℕ) (x y : V) → x ≡ y → p < length items → Same (written_view j p x v) (whole d e (state core heads (written_by j p y items) requests))
  written_seen job.Find p x y eq h = same
  written_seen (job.Insert z) p x y eq h = same
  written_seen job.Write p x y eq h = subst (λ u. Same (set_value p x v) (whole d e (state core heads (modify (with_value u) p items) requests))) eq (value_changed d e core heads items requests v same p x h)
  written_seen (job.Replace z) p x y eq h = same
  written_seen job.Remove p x y eq h = same
  written_seen job.Point p x y eq h = same

  -- a place below 4096 is made a head
  pub place_headed : (b p : ℕ) → b < length heads → p < 4096 → Same (set_head b (Some p) v) (whole d e (state core (set heads b p) items requests))
  place_headed b p hb hp = head_changed d e core heads items requests v same b (Some p) hb (head_reads p hp)

  -- a fifth find makes the item that was found the head, and so does point
  pub pointed_seen : (j : Job) (finds b p : ℕ) (fifth : Bool) → fifth ≡ not (ltb finds 4) → b < length heads → p < 4096 → Same (pointed_view j fifth b p v) (whole d e (state core (pointed_by j finds b p heads) items requests))
  pointed_seen job.Find finds b p fifth eq hb hp = subst (λ f. Same (cond f (set_head b (Some p) v) v) (whole d e (state core (cond (ltb finds 4) heads (set heads b p)) items requests))) (sym eq) (go (ltb finds 4))
    where
      go : (early : Bool) → Same (cond (not early) (set_head b (Some p) v) v) (whole d e (state core (cond early heads (set heads b p)) items requests))
      go true = same
      go false = place_headed b p hb hp
  pointed_seen (job.Insert z) finds b p fifth eq hb hp = same
  pointed_seen job.Write finds b p fifth eq hb hp = same
  pointed_seen (job.Replace z) finds b p fifth eq hb hp = same
  pointed_seen job.Remove finds b p fifth eq hb hp = same
  pointed_seen job.Point finds b p fifth eq hb hp = place_headed b p hb hp

  -- the head follows an item that leaves its ring
  pub head_seen : (m : HeadMove) (b : ℕ) → b < length heads → HeadWithin 4096 m → Same (head_view m b v) (whole d e (state core (head_by m b heads) items requests))
  head_seen Stays b hb h = same
  head_seen (Becomes None) b hb h = head_changed d e core heads items requests v same b None hb refl
  head_seen (Becomes (Some p)) b hb h = place_headed b p hb h

  -- the session goes on with this work, or is at another stage
  pub staged_seen : (s : ℕ) (x : Stage) → s < length core.sessions → Same (set_stage s x v) (whole d e (state (in_session s (at_stage x) core) heads items requests))
  staged_seen s x h = stage_changed d e core heads items requests v same s (at_stage x) x (λ a. refl) h

  -- the session ends with this answer
  pub ended_seen : (s : ℕ) (j : Job) (answer : Option V) → s < length core.sessions → s < length requests → Same (ended_view s j answer v) (whole d e (state (in_session s (ended_as (operation_of j) (is_some answer)) core) heads items (answered s answer requests)))
  ended_seen s j None hs hr = stage_changed d e core heads items requests v same s (ended_as (operation_of j) false) (Ended (operation_of j) false) (λ a. refl) hs
  ended_seen s j (Some x) hs hr =
      gift_changed d e (in_session s (ended_as (operation_of j) true) core) heads items requests (set_stage s (Ended (operation_of j) true) v)
      (stage_changed d e core heads items requests v same s (ended_as (operation_of j) true) (Ended (operation_of j) true) (λ a. refl) hs) s x hr

-- the tables as they are, with the items of a move
module _ {K V : Type 0} (d : K) (e : V) (st : State K V) (shape : Shape st) (s : ℕ) (s-in : s < 16) (j : Job) (finds : ℕ) (fifth : Bool) (fifth-is : fifth ≡ not (ltb finds 4)) (r : Request K V) (requested : slice_get st.requests s ≡ Some r) (b : ℕ) (b-in : b < 2 ^ st.core.bits) where
  -- the session is one of the record
  seated : s < length st.core.sessions
  seated = let l = shape.sessions_long in omega arith

  -- its request is in the table
  asked_for : s < length st.requests
  asked_for = let l = shape.requests_long in omega arith

  -- the bucket has its place in the table of heads
  headed : b < length st.heads
  headed = let l = shape.heads_long in omega arith

  -- a place of the index lies in the table of items
  placed : (p : ℕ) → p < st.core.places → p < length st.items
  placed p h = let l = shape.items_long in omega arith

  -- and is a small number
  few : (p : ℕ) → p < st.core.places → p < 4096
  few p h = let l = shape.few_places in omega arith

  -- the session goes on, with these items
  going_on : (work : Work) (items : List (Item K V)) (v : Whole K V) → Same v (whole d e (state st.core st.heads items st.requests)) → Same (set_stage s (UnderWay work) v) (whole d e (state (in_session s (at_stage (UnderWay work)) st.core) st.heads items st.requests))
  going_on work items v same = staged_seen d e st.core st.heads items st.requests v same s (UnderWay work) seated

  -- the session ends, with these items and heads
  ending : (answer : Option V) (heads : List ℕ) (items : List (Item K V)) (v : Whole K V) → Same v (whole d e (state st.core heads items st.requests)) → Same (ended_view s j answer v) (whole d e (ends st s j finds r b answer heads items).1)
  ending answer heads items v same = ended_seen d e st.core heads items st.requests v same s j answer seated asked_for

  -- an item that was set aside is in ring, after other changes of items
  entering : (heads : List ℕ) (items : List (Item K V)) (v : Whole K V) → Same v (whole d e (state st.core heads items st.requests)) → (x : ℕ) → x < length items → Same (set_state x InRing v) (whole d e (state st.core heads (modify (with_state InRing) x items) st.requests))
  entering heads items v same x h = state_changed d e st.core heads items st.requests v same x InRing h

  -- an item leads to another, after other changes of items
  leading : (items : List (Item K V)) (v : Whole K V) → Same v (whole d e (state st.core st.heads items st.requests)) → (p next : ℕ) → p < length items → Same (set_next p next v) (whole d e (state st.core st.heads (modify (with_next next) p items) st.requests))
  leading items v same p next h = next_changed d e st.core st.heads items st.requests v same p next h

  -- an item gets a mark or loses it, after other changes of items
  marking : (items : List (Item K V)) (v : Whole K V) → Same v (whole d e (state st.core st.heads items st.requests)) → (p : ℕ) (mark : Bool) → p < length items → Same (set_mark p mark v) (whole d e (state st.core st.heads (modify (with_mark mark) p items) st.requests))
  marking items v same p mark h = mark_changed d e st.core st.heads items st.requests v same p mark h

  -- an item leaves its ring, after other changes of items
  leaving : (items : List (Item K V)) (v : Whole K V) → Same v (whole d e (state st.core st.heads items st.requests)) → (p : ℕ) → p < length items → Same (set_mark p false (set_state p Out v)) (whole d e (state st.core st.heads (taken_out p items) st.requests))
  leaving items v same p h =
      marking (modify (with_state Out) p items) (set_state p Out v) (state_changed d e st.core st.heads items st.requests v same p Out h) p false (still_within (with_state Out) p items p h)

  -- the value of the request
  gift_is : (whole d e st).gift s ≡ r.value
  gift_is = ap (gift_in e) requested

  -- within the table with one next changed
  within_led : (p next q : ℕ) → q < st.core.places → q < length (modify (with_next next) p st.items)
  within_led p next q h = still_within (with_next next) p st.items q (placed q h)

  -- within the table after an item has left its ring
  within_left : (items : List (Item K V)) (p q : ℕ) → q < length items → q < length (taken_out p items)
  within_left items p q h = still_within (with_mark false) p (modify (with_state Out) p items) q (still_within (with_state Out) p items q h)

  -- the head that a move writes is a small number
  head_few : (m : HeadMove) → HeadWithin st.core.places m → HeadWithin 4096 m
  head_few Stays h = tt
  head_few (Becomes None) h = tt
  head_few (Becomes (Some p)) h = few p h

  -- what a turn does with its move is what the view of the move says
  pub act_seen : (m : Move V) → Writes st.core.places j m → Same (act_view s j fifth b m (whole d e st)) (whole d e (act st s j finds r b m).1)
  act_seen (Step p) h = going_on (Seeking j (Some p)) st.items _ (same_itself (whole d e st))
  act_seen Leave h = going_on (Seeking j None) st.items _ (same_itself (whole d e st))
  act_seen (GiveUp p) h = going_on (Seeking j None) _ _ (marking st.items _ (same_itself (whole d e st)) p false (placed p h))
  act_seen Wait h = same_itself (whole d e st)
  act_seen (ClaimToReplace x pair ahead) h =
      going_on (Replacing x pair) _ _
      (leading _ _ (marking st.items _ (same_itself (whole d e st)) pair.1 true (placed pair.1 h.1)) x ahead (still_within (with_mark true) pair.1 st.items x (placed x h.0)))
  act_seen (ClaimToRemove pair) h = going_on (Removing pair) _ _ (marking st.items _ (same_itself (whole d e st)) pair.1 true (placed pair.1 h))
  act_seen Absent h =
      ending None st.heads _ _ (put_out_seen d e st.core st.heads st.items st.requests _ (same_itself (whole d e st)) (aside_of j) (within_items st shape (aside_of j) st.items refl h))
  act_seen (LinkAlone x) h =
      let led = leading st.items _ (same_itself (whole d e st)) x x (placed x h) in
      let entered = entering st.heads _ _ led x (within_led x x x h) in
      ending None _ _ _ (place_headed d e st.core st.heads _ st.requests _ entered b x headed (few x h))
  act_seen (Link x pair) h =
      let ahead = leading st.items _ (same_itself (whole d e st)) x pair.1 (placed x h.0) in
      let behind = leading _ _ ahead pair.0 x (within_led x pair.1 pair.0 h.1) in
      ending None st.heads _ _ (entering st.heads _ _ behind x (still_within (with_next x) pair.0 _ x (within_led x pair.1 x h.0)))
  act_seen (Present p v) h =
      let written = written_seen d e st.core st.heads st.items st.requests _ (same_itself (whole d e st)) j p ((whole d e st).gift s) r.value gift_is (placed p h.1) in
      let out = put_out_seen d e st.core st.heads _ st.requests _ written (aside_of j) (within_items st shape (aside_of j) _ (written_long j p r.value st.items) h.0) in
      ending (Some v) _ _ _ (pointed_seen d e st.core st.heads _ st.requests _ out j finds b p fifth fifth-is headed (few p h.1))
  act_seen (SwingIn x pair head v) h =
      let behind = leading st.items _ (same_itself (whole d e st)) pair.0 x (placed pair.0 h.1) in
      let left = leaving _ _ behind pair.1 (within_led pair.0 x pair.1 h.2) in
      let entered = entering st.heads _ _ left x (within_left _ pair.1 x (within_led pair.0 x x h.0)) in
      ending (Some v) _ _ _ (head_seen d e st.core st.heads _ st.requests _ entered head b headed (head_few head h.3))
  act_seen (SwingOut pair ahead head v) h =
      let behind = leading st.items _ (same_itself (whole d e st)) pair.0 ahead (placed pair.0 h.0) in
      let left = leaving _ _ behind pair.1 (within_led pair.0 ahead pair.1 h.1) in
      ending (Some v) _ _ _ (head_seen d e st.core st.heads _ st.requests _ left head b headed (head_few head h.2))

-- what begin, collect and abandon do is what their views say
module _ {K V : Type 0} (d : K) (e : V) (st : State K V) (shape : Shape st) (s : ℕ) (s-in : s < 16) where
  -- begin, by place
  pub begun_seen : (t : Task K V) (j : Job) → Within st.core.places (aside_of j) → Same (begin_view s t j (whole d e st)) (whole d e (begun st s t j))
  begun_seen t j h = go (aside_of j) h
    where
      requested : Same (set_request s t.key t.value (set_stage s (UnderWay (Seeking j None)) (whole d e st))) (whole d e (state (in_session s (at_stage (UnderWay (Seeking j None))) st.core) st.heads st.items (modify (with_request t.key t.value) s st.requests)))
      requested =
          request_changed d e (in_session s (at_stage (UnderWay (Seeking j None))) st.core) st.heads st.items st.requests _
          (staged_seen d e st.core st.heads st.items st.requests _ (same_itself (whole d e st)) s (UnderWay (Seeking j None)) (let l = shape.sessions_long in omega arith)) s t (let l = shape.requests_long in omega arith)

      go : (o : Option ℕ) → Within st.core.places o → Same (aside_view o t (set_request s t.key t.value (set_stage s (UnderWay (Seeking j None)) (whole d e st)))) (whole d e (state (hand_after o (in_session s (at_stage (UnderWay (Seeking j None))) st.core)) st.heads (prepared o t st.items) (modify (with_request t.key t.value) s st.requests)))
      go None h = requested
      go (Some x) h = item_set_aside d e (in_session s (at_stage (UnderWay (Seeking j None))) st.core) st.heads st.items _ _ requested x t.key t.value (within_items st shape (Some x) st.items refl h)

  -- a session is at another stage, and nothing else is changed
  pub restaged_seen : (stage : Stage) → Same (set_stage s stage (whole d e st)) (whole d e (restaged st s stage))
  restaged_seen stage = staged_seen d e st.core st.heads st.items st.requests _ (same_itself (whole d e st)) s stage (let l = shape.sessions_long in omega arith)

  -- abandon of a session under way, by place
  pub abandoned_seen : (work : Work) → Within st.core.places (claim_of work) → Within st.core.places (aside_of (job_of work)) → Same (abandon_view s work (whole d e st)) (whole d e (abandoned st s work))
  abandoned_seen work hc ha =
      let marked = released_seen d e st.core st.heads st.items st.requests _ (same_itself (whole d e st)) (claim_of work) (within_items st shape (claim_of work) st.items refl hc) in
      let out = put_out_seen d e st.core st.heads _ st.requests _ marked (aside_of (job_of work)) (within_items st shape (aside_of (job_of work)) _ (released_long (claim_of work) st.items) ha) in
      staged_seen d e st.core st.heads _ st.requests _ out s Idle (let l = shape.sessions_long in omega arith)
