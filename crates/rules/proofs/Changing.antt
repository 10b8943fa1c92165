-- What one change of a table does to the state by place, session and bucket.
use Rattle.std.proofs.Common.{◌≡◌, ℕ, ◌<◌, Bool, true, false, cond, eqb, List, length, set, Some, None, Option, refl, ap, ◌∙◌, arith}
use Rattle.std.specs.List.{slice_get}
use Rattle.std.specs.Option.{option_map}
use Rattle.calls.specs.declared.call.Task.{Task}
use Rattle.tables.specs.declared.item.Item.{Item}
use Rattle.tables.specs.declared.item.ItemState.{ItemState}
use Rattle.tables.specs.declared.item.ItemState.TheVariants.{SetAside}
use Rattle.tables.specs.declared.record.Core.{Core}
use Rattle.tables.specs.declared.request.Request.{Request}
use Rattle.tables.specs.declared.session.Session.{Session}
use Rattle.tables.specs.declared.session.Stage.{Stage}
use Rattle.tables.specs.Items.{with_state, with_next, with_mark, with_value, prepared_at, with_answer}
use Rattle.tables.specs.Lists.{modify}
use Rattle.tables.specs.Reads.{head_word}
use Rattle.tables.specs.Items.{with_request}
use Rattle.rules.specs.States.{state, in_session}
use Rattle.rules.proofs.Reading.{nth_within, nth-modify, nth-set, length-modify}
use Rattle.rules.proofs.Views.{Whole, whole, Same, state_in, key_in, value_in, next_in, mark_in, want_in, gift_in, stage_in, head_in, set_state, set_value, set_next, set_mark, set_head, set_stage, set_gift, set_request, set_item}

-- an index within a list is within it after a change
pub still_within : {X : Type 0} (f : X → X) (i : ℕ) (xs : List X) (p : ℕ) → p < length xs → p < length (modify f i xs)
still_within f i xs p h = let e = length-modify f i xs in omega arith

module _ {X Y : Type 0} (part : Option X → Y) (f : X → X) (xs : List X) where
  -- a part that a change sets to y is y there, and what it was elsewhere
  part_changed : (i : ℕ) (y : Y) → i < length xs → ((x : X) → part (Some (f x)) ≡ y) → (j : ℕ) → part (slice_get (modify f i xs) j) ≡ cond (eqb j i) y (part (slice_get xs j))
  part_changed i y h sets j = ap part (nth-modify f i xs j) ∙ go (eqb j i) refl (slice_get xs j) refl
    where
      go : (b : Bool) → eqb j i ≡ b → (o : Option X) → slice_get xs j ≡ o → part (cond b (option_map f o) o) ≡ cond b y (part o)
      go true same (Some x) e = sets x
      go true same None e = let there = nth_within xs i h in let at = there.1 in absurd (grind arith)
      go false other o e = refl

  -- a part that a change leaves alone is what it was
  part_kept : (i : ℕ) → ((x : X) → part (Some (f x)) ≡ part (Some x)) → (j : ℕ) → part (slice_get (modify f i xs) j) ≡ part (slice_get xs j)
  part_kept i leaves j =
      let m = nth-modify f i xs j in
      ap part m ∙ go (eqb j i) (slice_get xs j)
    where
      go : (b : Bool) (o : Option X) → part (cond b (option_map f o) o) ≡ part o
      go true None = refl
      go true (Some x) = leaves x
      go false o = refl

module _ {K V : Type 0} (d : K) (e : V) (core : Core) (heads : List ℕ) (items : List (Item K V)) (requests : List (Request K V)) (v : Whole K V) (same : Same v (whole d e (state core heads items requests))) where
  -- the state of an item
  pub state_changed : (p : ℕ) (x : ItemState) → p < length items → Same (set_state p x v) (whole d e (state core heads (modify (with_state x) p items) requests))
  state_changed p x h = record {
    state = λ q. part_changed state_in (with_state x) items p x h (λ it. refl) q ∙ ap (cond (eqb q p) x) (same.state q);
    key = λ q. part_kept (key_in d) (with_state x) items p (λ it. refl) q ∙ same.key q;
    value = λ q. part_kept (value_in e) (with_state x) items p (λ it. refl) q ∙ same.value q;
    next = λ q. part_kept next_in (with_state x) items p (λ it. refl) q ∙ same.next q;
    mark = λ q. part_kept mark_in (with_state x) items p (λ it. refl) q ∙ same.mark q;
    head = same.head;
    stage = same.stage;
    want = same.want;
    gift = same.gift;
  }

  -- the value of an item
  pub value_changed : (p : ℕ) (x : V) → p < length items → Same (set_value p x v) (whole d e (state core heads (modify (with_value x) p items) requests))
  value_changed p x h = record {
    state = λ q. part_kept state_in (with_value x) items p (λ it. refl) q ∙ same.state q;
    key = λ q. part_kept (key_in d) (with_value x) items p (λ it. refl) q ∙ same.key q;
    value = λ q. part_changed (value_in e) (with_value x) items p x h (λ it. refl) q ∙ ap (cond (eqb q p) x) (same.value q);
    next = λ q. part_kept next_in (with_value x) items p (λ it. refl) q ∙ same.next q;
    mark = λ q. part_kept mark_in (with_value x) items p (λ it. refl) q ∙ same.mark q;
    head = same.head;
    stage = same.stage;
    want = same.want;
    gift = same.gift;
  }

  -- the next of an item
  pub next_changed : (p : ℕ) (x : ℕ) → p < length items → Same (set_next p x v) (whole d e (state core heads (modify (with_next x) p items) requests))
  next_changed p x h = record {
    state = λ q. part_kept state_in (with_next x) items p (λ it. refl) q ∙ same.state q;
    key = λ q. part_kept (key_in d) (with_next x) items p (λ it. refl) q ∙ same.key q;
    value = λ q. part_kept (value_in e) (with_next x) items p (λ it. refl) q ∙ same.value q;
    next = λ q. part_changed next_in (with_next x) items p x h (λ it. refl) q ∙ ap (cond (eqb q p) x) (same.next q);
    mark = λ q. part_kept mark_in (with_next x) items p (λ it. refl) q ∙ same.mark q;
    head = same.head;
    stage = same.stage;
    want = same.want;
    gift = same.gift;
  }

  -- the mark of an item
  pub mark_changed : (p : ℕ) (x : Bool) → p < length items → Same (set_mark p x v) (whole d e (state core heads (modify (with_mark x) p items) requests))
  mark_changed p x h = record {
    state = λ q. part_kept state_in (with_mark x) items p (λ it. refl) q ∙ same.state q;
    key = λ q. part_kept (key_in d) (with_mark x) items p (λ it. refl) q ∙ same.key q;
    value = λ q. part_kept (value_in e) (with_mark x) items p (λ it. refl) q ∙ same.value q;
    next = λ q. part_kept next_in (with_mark x) items p (λ it. refl) q ∙ same.next q;
    mark = λ q. part_changed mark_in (with_mark x) items p x h (λ it. refl) q ∙ ap (cond (eqb q p) x) (same.mark q);
    head = same.head;
    stage = same.stage;
    want = same.want;
    gift = same.gift;
  }

  -- an item that is set aside for a key and a value
  pub item_set_aside : (p : ℕ) (k : K) (x : V) → p < length items → Same (set_item p k x v) (whole d e (state core heads (modify (prepared_at p k x) p items) requests))
  item_set_aside p k x h = record {
    state = λ q. part_changed state_in (prepared_at p k x) items p SetAside h (λ it. refl) q ∙ ap (cond (eqb q p) SetAside) (same.state q);
    key = λ q. part_changed (key_in d) (prepared_at p k x) items p k h (λ it. refl) q ∙ ap (cond (eqb q p) k) (same.key q);
    value = λ q. part_changed (value_in e) (prepared_at p k x) items p x h (λ it. refl) q ∙ ap (cond (eqb q p) x) (same.value q);
    next = λ q. part_changed next_in (prepared_at p k x) items p p h (λ it. refl) q ∙ ap (cond (eqb q p) p) (same.next q);
    mark = λ q. part_kept mark_in (prepared_at p k x) items p (λ it. refl) q ∙ same.mark q;
    head = same.head;
    stage = same.stage;
    want = same.want;
    gift = same.gift;
  }

  -- the stage of a session, by any change that gives it this stage
  pub stage_changed : (s : ℕ) (f : Session → Session) (x : Stage) → ((a : Session) → (f a).stage ≡ x) → s < length core.sessions → Same (set_stage s x v) (whole d e (state (in_session s f core) heads items requests))
  stage_changed s f x sets h = record {
    state = same.state;
    key = same.key;
    value = same.value;
    next = same.next;
    mark = same.mark;
    head = same.head;
    stage = λ t. part_changed stage_in f core.sessions s x h sets t ∙ ap (cond (eqb t s) x) (same.stage t);
    want = same.want;
    gift = same.gift;
  }

  -- the answer of a session
  pub gift_changed : (s : ℕ) (x : V) → s < length requests → Same (set_gift s x v) (whole d e (state core heads items (modify (with_answer x) s requests)))
  gift_changed s x h = record {
    state = same.state;
    key = same.key;
    value = same.value;
    next = same.next;
    mark = same.mark;
    head = same.head;
    stage = same.stage;
    want = λ t. part_kept (want_in d) (with_answer x) requests s (λ r. refl) t ∙ same.want t;
    gift = λ t. part_changed (gift_in e) (with_answer x) requests s x h (λ r. refl) t ∙ ap (cond (eqb t s) x) (same.gift t);
  }

  -- the request of a session
  pub request_changed : (s : ℕ) (t : Task K V) → s < length requests → Same (set_request s t.key t.value v) (whole d e (state core heads items (modify (with_request t.key t.value) s requests)))
  request_changed s t h = record {
    state = same.state;
    key = same.key;
    value = same.value;
    next = same.next;
    mark = same.mark;
    head = same.head;
    stage = same.stage;
    want = λ u. part_changed (want_in d) (with_request t.key t.value) requests s t.key h (λ r. refl) u ∙ ap (cond (eqb u s) t.key) (same.want u);
    gift = λ u. part_changed (gift_in e) (with_request t.key t.value) requests s t.value h (λ r. refl) u ∙ ap (cond (eqb u s) t.value) (same.gift u);
  }

  -- the head of a bucket, which is none or a place below the number that stands for none
  pub head_changed : (b : ℕ) (o : Option ℕ) → b < length heads → head_in (Some (head_word o)) ≡ o → Same (set_head b o v) (whole d e (state core (set heads b (head_word o)) items requests))
  head_changed b o h reads = record {
    state = same.state;
    key = same.key;
    value = same.value;
    next = same.next;
    mark = same.mark;
    head = λ c. ap head_in (nth-set heads b (head_word o) c h) ∙ chosen (eqb c b) (slice_get heads c) ∙ ap (cond (eqb c b) o) (same.head c);
    stage = same.stage;
    want = same.want;
    gift = same.gift;
  }
    where
      chosen : (t : Bool) (word : Option ℕ) → head_in (cond t (Some (head_word o)) word) ≡ cond t o (head_in word)
      chosen true word = reads
      chosen false word = refl

-- a head that is none, or a place of a table that is not too long, reads as it was written
pub head_reads : (p : ℕ) → p < 4096 → head_in (Some p) ≡ Some p
head_reads p h = grind arith
