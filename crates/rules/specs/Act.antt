-- What a turn does with what it decided. It writes and never refuses. Where two parts of a damaged
-- index name one place, the writes fall in the order in which they are nested here, the innermost first.
use Rattle.std.specs.Prelude.{ℕ, true, false, cond, List, is_some, Some, None, Option, nat_lt, slice_set}
use Rattle.calls.specs.declared.reply.Progress.{Progress}
use Rattle.calls.specs.declared.reply.Progress.TheVariants as progress
use Rattle.tables.specs.declared.item.Item.{Item}
use Rattle.tables.specs.declared.item.ItemState.TheVariants.{Out, InRing}
use Rattle.tables.specs.declared.moves.HeadMove.{HeadMove}
use Rattle.tables.specs.declared.moves.HeadMove.TheVariants.{Stays, Becomes}
use Rattle.tables.specs.declared.moves.Move.{Move}
use Rattle.tables.specs.declared.moves.Move.TheVariants.{Step, Leave, GiveUp, Wait, ClaimToReplace, ClaimToRemove, Absent, LinkAlone, Link, Present, SwingIn, SwingOut}
use Rattle.tables.specs.declared.request.Request.{Request}
use Rattle.tables.specs.declared.session.Job.{Job}
use Rattle.tables.specs.declared.session.Job.TheVariants.{Find, Insert, Write, Replace, Remove, Point}
use Rattle.tables.specs.declared.session.Stage.TheVariants.{UnderWay}
use Rattle.tables.specs.declared.session.Work.{Work}
use Rattle.tables.specs.declared.session.Work.TheVariants.{Seeking, Replacing, Removing}
use Rattle.tables.specs.Items.{with_state, with_next, with_mark, with_value, with_answer}
use Rattle.tables.specs.Lists.{modify}
use Rattle.tables.specs.Reads.{head_word}
use Rattle.tables.specs.Sessions.{aside_of, operation_of, at_stage}
pub use Rattle.tables.specs.Sessions.{finds_after, ended_as}
use Rattle.rules.specs.States.{State, state, in_session}
use Rattle.rules.specs.Abandon.{put_out}

abbrev pub head_by : HeadMove → ℕ → List ℕ → List ℕ
head_by Stays bucket heads = heads
head_by (Becomes head) bucket heads = slice_set heads bucket (head_word head)

-- point makes the item that was found the head, and so does a fifth find
abbrev pub pointed_by : Job → ℕ → ℕ → ℕ → List ℕ → List ℕ
pointed_by Find finds bucket p heads = cond (nat_lt finds 4) heads (slice_set heads bucket p)
pointed_by (Insert x) finds bucket p heads = heads
pointed_by Write finds bucket p heads = heads
pointed_by (Replace x) finds bucket p heads = heads
pointed_by Remove finds bucket p heads = heads
pointed_by Point finds bucket p heads = slice_set heads bucket p

module _ {K V : Type 0} where
  -- the value found is written over the session's value in the request table
  abbrev pub answered : ℕ → Option V → List (Request K V) → List (Request K V)
  answered s None requests = requests
  answered s (Some v) requests = modify (with_answer v) s requests

  -- write puts its value in the item that was found
  abbrev pub written_by : Job → ℕ → V → List (Item K V) → List (Item K V)
  written_by Find p value items = items
  written_by (Insert x) p value items = items
  written_by Write p value items = modify (with_value value) p items
  written_by (Replace x) p value items = items
  written_by Remove p value items = items
  written_by Point p value items = items

  -- the item set aside, in ring and before `next`
  abbrev pub linked : ℕ → ℕ → List (Item K V) → List (Item K V)
  linked x next items = modify (with_state InRing) x (modify (with_next next) x items)

  -- an item leaves its ring
  abbrev pub taken_out : ℕ → List (Item K V) → List (Item K V)
  taken_out p items = modify (with_mark false) p (modify (with_state Out) p items)

-- session s, with its work's job, its find count, its request and its key's bucket
module _ {K V : Type 0} (st : State K V) (s : ℕ) (job : Job) (finds : ℕ) (r : Request K V) (bucket : ℕ) where
  -- the session goes on with this work
  abbrev pub goes_on : Progress → Work → List (Item K V) → Progress × State K V
  goes_on word work items = (word, state (in_session s (at_stage (UnderWay work)) st.core) st.heads items st.requests)

  -- the session ends with this answer
  abbrev pub ends : Option V → List ℕ → List (Item K V) → Progress × State K V
  ends answer heads items =
      (progress.Ended, state (in_session s (ended_as (operation_of job) (is_some answer)) st.core) heads items (answered s answer st.requests))

  abbrev pub act : Move V → Progress × State K V
  act (Step p) = goes_on progress.Moved (Seeking job (Some p)) st.items
  act Leave = goes_on progress.Again (Seeking job None) st.items
  act (GiveUp p) = goes_on progress.Again (Seeking job None) (modify (with_mark false) p st.items)
  act Wait = (progress.Held, st)
  act (ClaimToReplace x pair ahead) = goes_on progress.Claimed (Replacing x pair) (modify (with_next ahead) x (modify (with_mark true) pair.1 st.items))
  act (ClaimToRemove pair) = goes_on progress.Claimed (Removing pair) (modify (with_mark true) pair.1 st.items)
  act Absent = ends None st.heads (put_out (aside_of job) st.items)
  act (LinkAlone x) = ends None (slice_set st.heads bucket x) (linked x x st.items)
  act (Link x pair) = ends None st.heads (modify (with_state InRing) x (modify (with_next x) pair.0 (modify (with_next pair.1) x st.items)))
  act (Present p v) = ends (Some v) (pointed_by job finds bucket p st.heads) (put_out (aside_of job) (written_by job p r.value st.items))
  act (SwingIn x pair head v) =
      ends (Some v) (head_by head bucket st.heads) (modify (with_state InRing) x (taken_out pair.1 (modify (with_next x) pair.0 st.items)))
  act (SwingOut pair ahead head v) = ends (Some v) (head_by head bucket st.heads) (taken_out pair.1 (modify (with_next ahead) pair.0 st.items))
