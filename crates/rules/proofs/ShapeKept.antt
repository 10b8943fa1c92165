-- No call changes the number of places, the head bits or the length of a table.
use Rattle.std.proofs.Common.{◌≡◌, ℕ, ◌<◌, Bool, true, false, cond, ltb, List, length, set, is_some, Some, None, Option, refl, ◌∙◌, arith, length-set}
use Rattle.calls.specs.declared.call.Task.{Task}
use Rattle.tables.specs.declared.item.Item.{Item}
use Rattle.tables.specs.declared.item.ItemState.TheVariants.{Out}
use Rattle.tables.specs.declared.moves.HeadMove.{HeadMove}
use Rattle.tables.specs.declared.moves.HeadMove.TheVariants.{Stays, Becomes}
use Rattle.tables.specs.declared.moves.Move.{Move}
use Rattle.tables.specs.declared.moves.Move.TheVariants.{Step, Leave, GiveUp, Wait, ClaimToReplace, ClaimToRemove, Absent, LinkAlone, Link, Present, SwingIn, SwingOut}
use Rattle.tables.specs.declared.request.Request.{Request}
use Rattle.tables.specs.declared.session.Job.{Job}
use Rattle.tables.specs.declared.session.Job.TheVariants as job
use Rattle.tables.specs.declared.session.Session.{Session}
use Rattle.tables.specs.declared.session.Stage.{Stage}
use Rattle.tables.specs.declared.session.Stage.TheVariants.{Idle, UnderWay}
use Rattle.tables.specs.declared.session.Work.{Work}
use Rattle.tables.specs.declared.session.Work.TheVariants.{Seeking, Replacing, Removing}
use Rattle.tables.specs.Items.{with_state, with_mark, with_value, with_answer, prepared_at}
use Rattle.tables.specs.Lists.{modify}
use Rattle.tables.specs.Reads.{head_word}
use Rattle.tables.specs.Sessions.{aside_of, claim_of, job_of, operation_of, at_stage}
use Rattle.rules.specs.Abandon.{released, put_out, abandoned}
use Rattle.rules.specs.Act.{ended_as, head_by, pointed_by, answered, written_by, ends, act}
use Rattle.rules.specs.Begin.{hand_after, prepared, begun}
use Rattle.tables.specs.Items.{with_request}
use Rattle.rules.specs.Collect.{restaged}
use Rattle.rules.specs.States.{State, state, in_session}
use Rattle.rules.proofs.Invariant.{Shape}
use Rattle.rules.proofs.Reading.{length-modify}

-- a place that is there lies below n
abbrev pub Within : ℕ → Option ℕ → Type 0
Within n None = Unit {0}
Within n (Some p) = p < n

module _ {K V : Type 0} where
  -- an item that goes out leaves the length
  pub put_out_long : (o : Option ℕ) (items : List (Item K V)) → length (put_out o items) ≡ length items
  put_out_long None items = refl
  put_out_long (Some x) items = length-modify (with_state Out) x items

  -- so does a mark that comes off
  pub released_long : (o : Option ℕ) (items : List (Item K V)) → length (released o items) ≡ length items
  released_long None items = refl
  released_long (Some p) items = length-modify (with_mark false) p items

  -- so does a value that is written
  pub written_long : (j : Job) (p : ℕ) (value : V) (items : List (Item K V)) → length (written_by j p value items) ≡ length items
  written_long job.Find p value items = refl
  written_long (job.Insert x) p value items = refl
  written_long job.Write p value items = length-modify (with_value value) p items
  written_long (job.Replace x) p value items = refl
  written_long job.Remove p value items = refl
  written_long job.Point p value items = refl

  -- so does an item that is set aside
  prepared_long : (o : Option ℕ) (t : Task K V) (items : List (Item K V)) → length (prepared o t items) ≡ length items
  prepared_long None t items = refl
  prepared_long (Some x) t items = length-modify (prepared_at x t.key t.value) x items

  -- an answer leaves the length of the requests
  answered_long : (s : ℕ) (answer : Option V) (requests : List (Request K V)) → length (answered s answer requests) ≡ length requests
  answered_long s None requests = refl
  answered_long s (Some v) requests = length-modify (with_answer v) s requests

-- a head that follows leaves the length of the heads
head_long : (m : HeadMove) (b : ℕ) (heads : List ℕ) → length (head_by m b heads) ≡ length heads
head_long Stays b heads = refl
head_long (Becomes o) b heads = length-set heads b (head_word o)

-- so does a head that is pointed at what was found
pointed_long : (j : Job) (finds b p : ℕ) (heads : List ℕ) → length (pointed_by j finds b p heads) ≡ length heads
pointed_long job.Find finds b p heads = go (ltb finds 4)
  where
    go : (early : Bool) → length (cond early heads (set heads b p)) ≡ length heads
    go true = refl
    go false = length-set heads b p
pointed_long (job.Insert x) finds b p heads = refl
pointed_long job.Write finds b p heads = refl
pointed_long (job.Replace x) finds b p heads = refl
pointed_long job.Remove finds b p heads = refl
pointed_long job.Point finds b p heads = length-set heads b p

module _ {K V : Type 0} (st : State K V) (shape : Shape st) where
  -- a place of the index lies in its table of items, after changes too
  pub within_items : (o : Option ℕ) (items : List (Item K V)) → length items ≡ length st.items → Within st.core.places o → Within (length items) o
  within_items None items long h = tt
  within_items (Some x) items long h = let l = shape.items_long in omega arith

  -- one session and the tables changed, and no table longer or shorter
  reshaped :
      (s : ℕ) (f : Session → Session) (heads : List ℕ) (items : List (Item K V)) (requests : List (Request K V)) →
      length heads ≡ length st.heads → length items ≡ length st.items → length requests ≡ length st.requests →
      Shape (state (in_session s f st.core) heads items requests)
  reshaped s f heads items requests eh ei er = record {
    made = shape.made;
    few_bits = shape.few_bits;
    some_place = shape.some_place;
    few_places = shape.few_places;
    hand_within = shape.hand_within;
    heads_long = grind arith;
    items_long = grind arith;
    requests_long = grind arith;
    sessions_long = length-modify f s st.core.sessions ∙ shape.sessions_long;
  }

  -- a session at another stage leaves the shape
  pub restaged_shape : (s : ℕ) (stage : Stage) → Shape (restaged st s stage)
  restaged_shape s stage = reshaped s (at_stage stage) st.heads st.items st.requests refl refl refl

  -- abandon leaves the shape
  pub abandoned_shape : (s : ℕ) (work : Work) → Shape (abandoned st s work)
  abandoned_shape s work =
      reshaped s (at_stage Idle) st.heads _ st.requests refl (put_out_long (aside_of (job_of work)) (released (claim_of work) st.items) ∙ released_long (claim_of work) st.items) refl

  -- begin leaves the shape, with the hand at a place of the index
  pub begun_shape : (s : ℕ) (t : Task K V) (j : Job) → Within st.core.places (aside_of j) → Shape (begun st s t j)
  begun_shape s t j h = go (aside_of j) h
    where
      base : (items : List (Item K V)) → length items ≡ length st.items → Shape (state (in_session s (at_stage (UnderWay (Seeking j None))) st.core) st.heads items (modify (with_request t.key t.value) s st.requests))
      base items long = reshaped s (at_stage (UnderWay (Seeking j None))) st.heads items (modify (with_request t.key t.value) s st.requests) refl long (length-modify (with_request t.key t.value) s st.requests)

      go : (o : Option ℕ) → Within st.core.places o → Shape (state (hand_after o (in_session s (at_stage (UnderWay (Seeking j None))) st.core)) st.heads (prepared o t st.items) (modify (with_request t.key t.value) s st.requests))
      go None h = base st.items refl
      go (Some x) h = let b = base (prepared (Some x) t st.items) (prepared_long (Some x) t st.items) in record {
        made = b.made;
        few_bits = b.few_bits;
        some_place = b.some_place;
        few_places = b.few_places;
        hand_within = h;
        heads_long = b.heads_long;
        items_long = b.items_long;
        requests_long = b.requests_long;
        sessions_long = b.sessions_long;
      }

  -- a turn that has decided
  module _ (s : ℕ) (j : Job) (finds : ℕ) (r : Request K V) (b : ℕ) where
    -- a session that goes on leaves the shape
    going_shape : (work : Work) (items : List (Item K V)) → length items ≡ length st.items → Shape (state (in_session s (at_stage (UnderWay work)) st.core) st.heads items st.requests)
    going_shape work items long = reshaped s (at_stage (UnderWay work)) st.heads items st.requests refl long refl

    -- a session that ends leaves the shape
    ending_shape : (answer : Option V) (heads : List ℕ) (items : List (Item K V)) → length heads ≡ length st.heads → length items ≡ length st.items → Shape (ends st s j finds r b answer heads items).1
    ending_shape answer heads items eh ei = reshaped s (ended_as (operation_of j) (is_some answer)) heads items (answered s answer st.requests) eh ei (answered_long s answer st.requests)

    -- whatever the move, the shape stays
    pub act_shape : (m : Move V) → Shape (act st s j finds r b m).1
    act_shape (Step p) = going_shape (Seeking j (Some p)) st.items refl
    act_shape Leave = going_shape (Seeking j None) st.items refl
    act_shape (GiveUp p) = going_shape (Seeking j None) _ (length-modify (with_mark false) p st.items)
    act_shape Wait = shape
    act_shape (ClaimToReplace x pair ahead) = going_shape (Replacing x pair) _ (simp length-modify)
    act_shape (ClaimToRemove pair) = going_shape (Removing pair) _ (length-modify (with_mark true) pair.1 st.items)
    act_shape Absent = ending_shape None st.heads _ refl (put_out_long (aside_of j) st.items)
    act_shape (LinkAlone x) = ending_shape None _ _ (length-set st.heads b x) (simp length-modify)
    act_shape (Link x pair) = ending_shape None st.heads _ refl (simp length-modify)
    act_shape (Present p v) = ending_shape (Some v) _ _ (pointed_long j finds b p st.heads) (put_out_long (aside_of j) (written_by j p r.value st.items) ∙ written_long j p r.value st.items)
    act_shape (SwingIn x pair head v) = ending_shape (Some v) _ _ (head_long head b st.heads) (simp length-modify)
    act_shape (SwingOut pair ahead head v) = ending_shape (Some v) _ _ (head_long head b st.heads) (simp length-modify)
