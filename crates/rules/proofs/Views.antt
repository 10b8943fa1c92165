-- The state of an index by place, by session and by bucket, and what each move changes of it.
use Rattle.std.proofs.Common.{◌≡◌, ℕ, Bool, true, false, cond, eqb, Some, None, Option}
use Rattle.std.specs.List.{slice_get}
use Rattle.calls.specs.declared.call.Task.{Task}
use Rattle.rings.specs.Rings.{View}
use Rattle.tables.specs.declared.item.Item.{Item}
use Rattle.tables.specs.declared.item.ItemState.{ItemState}
use Rattle.tables.specs.declared.item.ItemState.TheVariants.{Out, SetAside, InRing}
use Rattle.tables.specs.declared.moves.HeadMove.{HeadMove}
use Rattle.tables.specs.declared.moves.HeadMove.TheVariants.{Stays, Becomes}
use Rattle.tables.specs.declared.moves.Move.{Move}
use Rattle.tables.specs.declared.moves.Move.TheVariants.{Step, Leave, GiveUp, Wait, ClaimToReplace, ClaimToRemove, Absent, LinkAlone, Link, Present, SwingIn, SwingOut}
use Rattle.tables.specs.declared.request.Request.{Request}
use Rattle.tables.specs.declared.session.Job.{Job}
use Rattle.tables.specs.declared.session.Job.TheVariants as job
use Rattle.tables.specs.declared.session.Session.{Session}
use Rattle.tables.specs.declared.session.Stage.{Stage}
use Rattle.tables.specs.declared.session.Stage.TheVariants.{Idle, UnderWay, Ended}
use Rattle.tables.specs.declared.session.Work.{Work}
use Rattle.tables.specs.declared.session.Work.TheVariants.{Seeking, Replacing, Removing}
use Rattle.tables.specs.Items.{is_in_ring}
use Rattle.tables.specs.Reads.{none}
use Rattle.tables.specs.Sessions.{aside_of, cursor_of, claim_of, job_of, operation_of}
use Rattle.rules.specs.States.{State}

-- what is not in its table: an item that is out, an idle session
module _ {K V : Type 0} where
  abbrev pub state_in : Option (Item K V) → ItemState
  state_in None = Out
  state_in (Some it) = it.state

  abbrev pub key_in : K → Option (Item K V) → K
  key_in d None = d
  key_in d (Some it) = it.key

  abbrev pub value_in : V → Option (Item K V) → V
  value_in e None = e
  value_in e (Some it) = it.value

  abbrev pub next_in : Option (Item K V) → ℕ
  next_in None = 0
  next_in (Some it) = it.next

  abbrev pub mark_in : Option (Item K V) → Bool
  mark_in None = false
  mark_in (Some it) = it.occupied

  abbrev pub want_in : K → Option (Request K V) → K
  want_in d None = d
  want_in d (Some r) = r.key

  abbrev pub gift_in : V → Option (Request K V) → V
  gift_in e None = e
  gift_in e (Some r) = r.value

abbrev pub stage_in : Option Session → Stage
stage_in None = Idle
stage_in (Some s) = s.stage

abbrev pub head_in : Option ℕ → Option ℕ
head_in None = None
head_in (Some h) = cond (eqb h none) None (Some h)

pub record Whole (K V : Type 0) : Type 0 where
  -- by place
  pub state : ℕ → ItemState
  pub key : ℕ → K
  pub value : ℕ → V
  pub next : ℕ → ℕ
  pub mark : ℕ → Bool
  -- by bucket
  pub head : ℕ → Option ℕ
  -- by session: its stage, and the key and the value of its request
  pub stage : ℕ → Stage
  pub want : ℕ → K
  pub gift : ℕ → V

-- the work of a session under way, by its parts
abbrev pub cursor_at : Stage → Option ℕ
cursor_at Idle = None
cursor_at (UnderWay w) = cursor_of w
cursor_at (Ended o present) = None

abbrev pub aside_at : Stage → Option ℕ
aside_at Idle = None
aside_at (UnderWay w) = aside_of (job_of w)
aside_at (Ended o present) = None

abbrev pub claim_at : Stage → Option ℕ
claim_at Idle = None
claim_at (UnderWay w) = claim_of w
claim_at (Ended o present) = None

-- a function with another value at one number
abbrev pub changed : {X : Type 0} → ℕ → X → (ℕ → X) → ℕ → X
changed i x f j = cond (eqb j i) x (f j)

module _ {K V : Type 0} where
  -- d and e stand for the key and the value of what is not there
  abbrev pub whole : K → V → State K V → Whole K V
  whole d e st = record {
    state = λ p. state_in (slice_get st.items p);
    key = λ p. key_in d (slice_get st.items p);
    value = λ p. value_in e (slice_get st.items p);
    next = λ p. next_in (slice_get st.items p);
    mark = λ p. mark_in (slice_get st.items p);
    head = λ b. head_in (slice_get st.heads b);
    stage = λ s. stage_in (slice_get st.core.sessions s);
    want = λ s. want_in d (slice_get st.requests s);
    gift = λ s. gift_in e (slice_get st.requests s);
  }

  -- the rings that lie in it
  abbrev pub rings_of : Whole K V → View K
  rings_of w = record { in_ring = λ p. is_in_ring (w.state p); key = w.key; next = w.next; head = w.head }

  -- one part changed at one place, session or bucket
  abbrev pub set_state : ℕ → ItemState → Whole K V → Whole K V
  set_state p x w = record { state = changed p x w.state; key = w.key; value = w.value; next = w.next; mark = w.mark; head = w.head; stage = w.stage; want = w.want; gift = w.gift }

  abbrev pub set_value : ℕ → V → Whole K V → Whole K V
  set_value p x w = record { state = w.state; key = w.key; value = changed p x w.value; next = w.next; mark = w.mark; head = w.head; stage = w.stage; want = w.want; gift = w.gift }

  abbrev pub set_next : ℕ → ℕ → Whole K V → Whole K V
  set_next p x w = record { state = w.state; key = w.key; value = w.value; next = changed p x w.next; mark = w.mark; head = w.head; stage = w.stage; want = w.want; gift = w.gift }

  abbrev pub set_mark : ℕ → Bool → Whole K V → Whole K V
  set_mark p x w = record { state = w.state; key = w.key; value = w.value; next = w.next; mark = changed p x w.mark; head = w.head; stage = w.stage; want = w.want; gift = w.gift }

  abbrev pub set_head : ℕ → Option ℕ → Whole K V → Whole K V
  set_head b x w = record { state = w.state; key = w.key; value = w.value; next = w.next; mark = w.mark; head = changed b x w.head; stage = w.stage; want = w.want; gift = w.gift }

  abbrev pub set_stage : ℕ → Stage → Whole K V → Whole K V
  set_stage s x w = record { state = w.state; key = w.key; value = w.value; next = w.next; mark = w.mark; head = w.head; stage = changed s x w.stage; want = w.want; gift = w.gift }

  abbrev pub set_gift : ℕ → V → Whole K V → Whole K V
  set_gift s x w = record { state = w.state; key = w.key; value = w.value; next = w.next; mark = w.mark; head = w.head; stage = w.stage; want = w.want; gift = changed s x w.gift }

  -- the request of a session
  abbrev pub set_request : ℕ → K → V → Whole K V → Whole K V
  set_request s k v w = record { state = w.state; key = w.key; value = w.value; next = w.next; mark = w.mark; head = w.head; stage = w.stage; want = changed s k w.want; gift = changed s v w.gift }

  -- an item set aside for a key and a value, with itself as next
  abbrev pub set_item : ℕ → K → V → Whole K V → Whole K V
  set_item p k v w = record { state = changed p SetAside w.state; key = changed p k w.key; value = changed p v w.value; next = changed p p w.next; mark = w.mark; head = w.head; stage = w.stage; want = w.want; gift = w.gift }

  -- the same, part by part
  pub record Same (v w : Whole K V) : Type 0 where
    pub state : (p : ℕ) → w.state p ≡ v.state p
    pub key : (p : ℕ) → w.key p ≡ v.key p
    pub value : (p : ℕ) → w.value p ≡ v.value p
    pub next : (p : ℕ) → w.next p ≡ v.next p
    pub mark : (p : ℕ) → w.mark p ≡ v.mark p
    pub head : (b : ℕ) → w.head b ≡ v.head b
    pub stage : (s : ℕ) → w.stage s ≡ v.stage s
    pub want : (s : ℕ) → w.want s ≡ v.want s
    pub gift : (s : ℕ) → w.gift s ≡ v.gift s

  -- what each move changes, in the order of the rule book's `act`: s is the session, j its job, b its key's
  -- bucket and fifth whether its find count is full
  abbrev pub out_aside : Option ℕ → Whole K V → Whole K V
  out_aside None w = w
  out_aside (Some x) w = set_state x Out w

  abbrev pub written_view : Job → ℕ → V → Whole K V → Whole K V
  written_view job.Find p v w = w
  written_view (job.Insert x) p v w = w
  written_view job.Write p v w = set_value p v w
  written_view (job.Replace x) p v w = w
  written_view job.Remove p v w = w
  written_view job.Point p v w = w

  abbrev pub pointed_view : Job → Bool → ℕ → ℕ → Whole K V → Whole K V
  pointed_view job.Find fifth b p w = cond fifth (set_head b (Some p) w) w
  pointed_view (job.Insert x) fifth b p w = w
  pointed_view job.Write fifth b p w = w
  pointed_view (job.Replace x) fifth b p w = w
  pointed_view job.Remove fifth b p w = w
  pointed_view job.Point fifth b p w = set_head b (Some p) w

  abbrev pub head_view : HeadMove → ℕ → Whole K V → Whole K V
  head_view Stays b w = w
  head_view (Becomes o) b w = set_head b o w

  abbrev pub ended_view : ℕ → Job → Option V → Whole K V → Whole K V
  ended_view s j None w = set_stage s (Ended (operation_of j) false) w
  ended_view s j (Some v) w = set_gift s v (set_stage s (Ended (operation_of j) true) w)

  abbrev pub act_view : ℕ → Job → Bool → ℕ → Move V → Whole K V → Whole K V
  act_view s j fifth b (Step p) w = set_stage s (UnderWay (Seeking j (Some p))) w
  act_view s j fifth b Leave w = set_stage s (UnderWay (Seeking j None)) w
  act_view s j fifth b (GiveUp p) w = set_stage s (UnderWay (Seeking j None)) (set_mark p false w)
  act_view s j fifth b Wait w = w
  act_view s j fifth b (ClaimToReplace x pair ahead) w = set_stage s (UnderWay (Replacing x pair)) (set_next x ahead (set_mark pair.1 true w))
  act_view s j fifth b (ClaimToRemove pair) w = set_stage s (UnderWay (Removing pair)) (set_mark pair.1 true w)
  act_view s j fifth b Absent w = ended_view s j None (out_aside (aside_of j) w)
  act_view s j fifth b (LinkAlone x) w = ended_view s j None (set_head b (Some x) (set_state x InRing (set_next x x w)))
  act_view s j fifth b (Link x pair) w = ended_view s j None (set_state x InRing (set_next pair.0 x (set_next x pair.1 w)))
  act_view s j fifth b (Present p v) w = ended_view s j (Some v) (pointed_view j fifth b p (out_aside (aside_of j) (written_view j p (w.gift s) w)))
  act_view s j fifth b (SwingIn x pair h v) w = ended_view s j (Some v) (head_view h b (set_state x InRing (set_mark pair.1 false (set_state pair.1 Out (set_next pair.0 x w)))))
  act_view s j fifth b (SwingOut pair ahead h v) w = ended_view s j (Some v) (head_view h b (set_mark pair.1 false (set_state pair.1 Out (set_next pair.0 ahead w))))

  -- what begin changes
  abbrev pub aside_view : Option ℕ → Task K V → Whole K V → Whole K V
  aside_view None t w = w
  aside_view (Some x) t w = set_item x t.key t.value w

  abbrev pub begin_view : ℕ → Task K V → Job → Whole K V → Whole K V
  begin_view s t j w = aside_view (aside_of j) t (set_request s t.key t.value (set_stage s (UnderWay (Seeking j None)) w))

  -- what abandon changes of a session under way
  abbrev pub release_view : Option ℕ → Whole K V → Whole K V
  release_view None w = w
  release_view (Some p) w = set_mark p false w

  abbrev pub abandon_view : ℕ → Work → Whole K V → Whole K V
  abandon_view s work w = set_stage s Idle (out_aside (aside_of (job_of work)) (release_view (claim_of work) w))
