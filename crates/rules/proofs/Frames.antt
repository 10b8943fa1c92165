-- What a call on one session leaves to the others. The invariant in parts: what holds of each session by
-- itself, of the asides and claims of all, and of the plain table; and each part from what a call changes.
use Rattle.std.proofs.Common.{◌≡◌, ℕ, ◌<◌, Bool, true, cond, eqb, ◌⊎◌, length, Some, None, Option, sym, ap, ◌∙◌, inl, inr, arith}
use Rattle.std.proofs.lemmas.Bool.{cases_eq}
use Rattle.std.specs.declared.cmp.Ordering.{Ordering}
use Rattle.std.specs.declared.cmp.Ordering.TheVariants.{Equal}
use Rattle.calls.specs.declared.operation.Operation.{Operation}
use Rattle.rings.specs.RingLists.{count_below}
use Rattle.rings.specs.Rings.{Sound}
use Rattle.tables.specs.declared.item.ItemState.TheVariants.{Out, SetAside, InRing}
use Rattle.tables.specs.declared.session.Stage.TheVariants.{Idle, UnderWay, Ended}
use Rattle.tables.specs.declared.session.Work.{Work}
use Rattle.tables.specs.Items.{is_in_ring}
use Rattle.tables.specs.Sessions.{aside_of, cursor_of, claim_of, job_of, operation_of}
use Rattle.rules.specs.Plain.{Plain, nothing, asked, answer, found, Apart}
use Rattle.rules.proofs.Views.{Whole, rings_of, cursor_at, aside_at, claim_at}
use Rattle.rules.proofs.Invariant.{Kept}

-- nothing is both absent and present
pub absent_present : {A : Type 0} {o : Option A} {a : A} → o ≡ None → o ≡ Some a → ⊥
absent_present e h = cc

-- what holds of one session by itself
pub record Own {K V : Type 0} (order : K → K → Ordering) (bucket : K → ℕ) (plain : Plain K V) (n : ℕ) (w : Whole K V) (s : ℕ) : Type 0 where
  pub idle : w.stage s ≡ Idle → plain.notes s ≡ nothing
  pub under_way : (work : Work) → w.stage s ≡ UnderWay work → plain.notes s ≡ asked (record { operation = operation_of (job_of work); key = w.want s; value = w.gift s })
  pub ended : (o : Operation) (present : Bool) → w.stage s ≡ Ended o present → plain.notes s ≡ answer (cond present (Some (w.gift s)) None)
  pub cursor_within : (c : ℕ) → cursor_at (w.stage s) ≡ Some c → c < n
  pub cursor_state : (c : ℕ) → cursor_at (w.stage s) ≡ Some c → w.state c ≡ SetAside → ⊥
  pub cursor_bucket : (c : ℕ) → cursor_at (w.stage s) ≡ Some c → w.state c ≡ InRing → bucket (w.key c) ≡ bucket (w.want s)
  pub aside_state : (x : ℕ) → aside_at (w.stage s) ≡ Some x → w.state x ≡ SetAside
  pub aside_key : (x : ℕ) → aside_at (w.stage s) ≡ Some x → w.key x ≡ w.want s
  pub aside_value : (x : ℕ) → aside_at (w.stage s) ≡ Some x → w.value x ≡ w.gift s
  pub claim_state : (p : ℕ) → claim_at (w.stage s) ≡ Some p → w.state p ≡ InRing
  pub claim_mark : (p : ℕ) → claim_at (w.stage s) ≡ Some p → w.mark p ≡ true
  pub claim_key : (p : ℕ) → claim_at (w.stage s) ≡ Some p → order (w.key p) (w.want s) ≡ Equal
  pub claim_next : (p x : ℕ) → claim_at (w.stage s) ≡ Some p → aside_at (w.stage s) ≡ Some x → w.next x ≡ cond (eqb (w.next p) p) x (w.next p)

-- the same of a session under way, by its work
pub record OwnWork {K V : Type 0} (order : K → K → Ordering) (bucket : K → ℕ) (n : ℕ) (w : Whole K V) (s : ℕ) (work : Work) : Type 0 where
  pub cursor_within : (c : ℕ) → cursor_of work ≡ Some c → c < n
  pub cursor_state : (c : ℕ) → cursor_of work ≡ Some c → w.state c ≡ SetAside → ⊥
  pub cursor_bucket : (c : ℕ) → cursor_of work ≡ Some c → w.state c ≡ InRing → bucket (w.key c) ≡ bucket (w.want s)
  pub aside_state : (x : ℕ) → aside_of (job_of work) ≡ Some x → w.state x ≡ SetAside
  pub aside_key : (x : ℕ) → aside_of (job_of work) ≡ Some x → w.key x ≡ w.want s
  pub aside_value : (x : ℕ) → aside_of (job_of work) ≡ Some x → w.value x ≡ w.gift s
  pub claim_state : (p : ℕ) → claim_of work ≡ Some p → w.state p ≡ InRing
  pub claim_mark : (p : ℕ) → claim_of work ≡ Some p → w.mark p ≡ true
  pub claim_key : (p : ℕ) → claim_of work ≡ Some p → order (w.key p) (w.want s) ≡ Equal
  pub claim_next : (p x : ℕ) → claim_of work ≡ Some p → aside_of (job_of work) ≡ Some x → w.next x ≡ cond (eqb (w.next p) p) x (w.next p)

-- the plain table has what is in ring
pub record Agrees {K V : Type 0} (order : K → K → Ordering) (plain : Plain K V) (n : ℕ) (w : Whole K V) : Type 0 where
  pub held : (p : ℕ) → w.state p ≡ InRing → found order (w.key p) plain.entries ≡ Some (w.value p)
  pub known : (x : K) (v : V) → found order x plain.entries ≡ Some v → (p : ℕ) × (w.state p ≡ InRing) × (order (w.key p) x ≡ Equal)
  pub apart : Apart order plain.entries
  pub counted : length plain.entries ≡ count_below (λ p. is_in_ring (w.state p)) n

-- what is set aside or marked is one session's, and no other's
pub record Shared {K V : Type 0} (w : Whole K V) : Type 0 where
  pub aside_apart : (s t x : ℕ) → aside_at (w.stage s) ≡ Some x → aside_at (w.stage t) ≡ Some x → s ≡ t
  pub aside_owned : (x : ℕ) → w.state x ≡ SetAside → (s : ℕ) × (aside_at (w.stage s) ≡ Some x)
  pub claim_apart : (s t p : ℕ) → claim_at (w.stage s) ≡ Some p → claim_at (w.stage t) ≡ Some p → s ≡ t
  pub claim_owned : (p : ℕ) → w.mark p ≡ true → (s : ℕ) × (claim_at (w.stage s) ≡ Some p)

-- a place from v to w: what stays of one that a session stands on, has set aside, or has claimed
module _ {K V : Type 0} (v w : Whole K V) (p : ℕ) where
  pub record CursorStays : Type 0 where
    pub set_aside : w.state p ≡ SetAside → v.state p ≡ SetAside
    pub in_ring : w.state p ≡ InRing → v.state p ≡ InRing
    pub key : w.state p ≡ InRing → w.key p ≡ v.key p

  pub record AsideStays : Type 0 where
    pub state : w.state p ≡ v.state p
    pub key : w.key p ≡ v.key p
    pub value : w.value p ≡ v.value p
    pub next : w.next p ≡ v.next p

  pub record ClaimStays : Type 0 where
    pub state : w.state p ≡ v.state p
    pub key : w.key p ≡ v.key p
    pub next : w.next p ≡ v.next p
    pub mark : w.mark p ≡ v.mark p

-- from v to w a call on session s leaves the other sessions what is theirs
pub record Frame {K V : Type 0} (v w : Whole K V) (s : ℕ) : Type 0 where
  pub stages : (t : ℕ) → (t ≡ s → ⊥) → w.stage t ≡ v.stage t
  pub wants : (t : ℕ) → (t ≡ s → ⊥) → w.want t ≡ v.want t
  pub gifts : (t : ℕ) → (t ≡ s → ⊥) → w.gift t ≡ v.gift t
  pub cursors : (t c : ℕ) → (t ≡ s → ⊥) → cursor_at (v.stage t) ≡ Some c → CursorStays v w c
  pub asides : (t x : ℕ) → (t ≡ s → ⊥) → aside_at (v.stage t) ≡ Some x → AsideStays v w x
  pub claims : (t p : ℕ) → (t ≡ s → ⊥) → claim_at (v.stage t) ≡ Some p → ClaimStays v w p

-- what session s has set aside or claimed in w is no other session's, and what it had in v and has no more is
-- neither set aside nor marked
pub record Holdings {K V : Type 0} (v w : Whole K V) (s : ℕ) : Type 0 where
  pub aside_new : (t x : ℕ) → (t ≡ s → ⊥) → aside_at (w.stage s) ≡ Some x → aside_at (v.stage t) ≡ Some x → ⊥
  pub aside_left : (x : ℕ) → w.state x ≡ SetAside → (aside_at (w.stage s) ≡ Some x) ⊎ ((v.state x ≡ SetAside) × (aside_at (v.stage s) ≡ Some x → ⊥))
  pub claim_new : (t p : ℕ) → (t ≡ s → ⊥) → claim_at (w.stage s) ≡ Some p → claim_at (v.stage t) ≡ Some p → ⊥
  pub claim_left : (p : ℕ) → w.mark p ≡ true → (claim_at (w.stage s) ≡ Some p) ⊎ ((v.mark p ≡ true) × (claim_at (v.stage s) ≡ Some p → ⊥))

module _ {K V : Type 0} {order rank : K → K → Ordering} {bucket : K → ℕ} {plain : Plain K V} {n : ℕ} {w : Whole K V} where
  -- the invariant has it of each session
  pub kept_own : Kept order rank bucket plain n w → (s : ℕ) → Own order bucket plain n w s
  kept_own k s = record {
    idle = k.idle s;
    under_way = k.under_way s;
    ended = k.ended s;
    cursor_within = k.cursor_within s;
    cursor_state = k.cursor_state s;
    cursor_bucket = k.cursor_bucket s;
    aside_state = k.aside_state s;
    aside_key = k.aside_key s;
    aside_value = k.aside_value s;
    claim_state = k.claim_state s;
    claim_mark = k.claim_mark s;
    claim_key = k.claim_key s;
    claim_next = k.claim_next s;
  }

  -- the invariant has it of the plain table
  pub kept_agrees : Kept order rank bucket plain n w → Agrees order plain n w
  kept_agrees k = record { held = k.held; known = k.known; apart = k.apart; counted = k.counted }

  -- the invariant from its parts
  pub parts_kept :
      Sound rank bucket (rings_of w) → ((p : ℕ) → (w.state p ≡ Out → ⊥) → p < n) →
      ((s : ℕ) → Own order bucket plain n w s) → Shared w → Agrees order plain n w → Kept order rank bucket plain n w
  parts_kept rings within own shared agrees = record {
    rings = rings;
    within = within;
    idle = λ s. (own s).idle;
    under_way = λ s. (own s).under_way;
    ended = λ s. (own s).ended;
    cursor_within = λ s. (own s).cursor_within;
    cursor_state = λ s. (own s).cursor_state;
    cursor_bucket = λ s. (own s).cursor_bucket;
    aside_state = λ s. (own s).aside_state;
    aside_key = λ s. (own s).aside_key;
    aside_value = λ s. (own s).aside_value;
    aside_apart = grind arith;
    aside_owned = grind arith;
    claim_state = λ s. (own s).claim_state;
    claim_mark = λ s. (own s).claim_mark;
    claim_key = λ s. (own s).claim_key;
    claim_apart = grind arith;
    claim_owned = grind arith;
    claim_next = λ s. (own s).claim_next;
    held = agrees.held;
    known = agrees.known;
    apart = agrees.apart;
    counted = agrees.counted;
  }

module _ {K V : Type 0} {order : K → K → Ordering} {bucket : K → ℕ} {plain : Plain K V} {n : ℕ} {w : Whole K V} {s : ℕ} where
  -- a session under way
  pub own_working :
      (work : Work) → w.stage s ≡ UnderWay work →
      plain.notes s ≡ asked (record { operation = operation_of (job_of work); key = w.want s; value = w.gift s }) →
      OwnWork order bucket n w s work → Own order bucket plain n w s
  own_working work e h o =
      grind arith

  -- a session that stands nowhere, and has set nothing aside and claimed nothing
  own_bare :
      (w.stage s ≡ Idle → plain.notes s ≡ nothing) →
      ((work : Work) → w.stage s ≡ UnderWay work → ⊥) →
      ((o : Operation) (present : Bool) → w.stage s ≡ Ended o present → plain.notes s ≡ answer (cond present (Some (w.gift s)) None)) →
      cursor_at (w.stage s) ≡ None → aside_at (w.stage s) ≡ None → claim_at (w.stage s) ≡ None → Own order bucket plain n w s
  own_bare idle working ended cursor aside claim = record {
    idle = idle;
    under_way = λ work i. absurd (working work i);
    ended = ended;
    cursor_within = λ c i. absurd (absent_present cursor i);
    cursor_state = λ c i. absurd (absent_present cursor i);
    cursor_bucket = λ c i. absurd (absent_present cursor i);
    aside_state = λ x i. absurd (absent_present aside i);
    aside_key = λ x i. absurd (absent_present aside i);
    aside_value = λ x i. absurd (absent_present aside i);
    claim_state = λ p i. absurd (absent_present claim i);
    claim_mark = λ p i. absurd (absent_present claim i);
    claim_key = λ p i. absurd (absent_present claim i);
    claim_next = λ p x i j. absurd (absent_present claim i);
  }

  -- an idle session
  pub own_idle : w.stage s ≡ Idle → plain.notes s ≡ nothing → Own order bucket plain n w s
  own_idle e h =
      own_bare (λ i. h) (λ work i. cc)
      (λ o present i. absurd cc) (ap cursor_at e) (ap aside_at e) (ap claim_at e)

  -- a session that has ended
  pub own_ended :
      (o : Operation) (present : Bool) → w.stage s ≡ Ended o present → plain.notes s ≡ answer (cond present (Some (w.gift s)) None) → Own order bucket plain n w s
  own_ended o present e h =
      own_bare (λ i. absurd cc) (λ work i. cc)
      (λ other again i. let same : again ≡ present = cc in h ∙ ap (λ b. answer (cond b (Some (w.gift s)) None)) (sym same))
      (ap cursor_at e) (ap aside_at e) (ap claim_at e)

  -- the work of a session under way
  pub own_work : (work : Work) → w.stage s ≡ UnderWay work → Own order bucket plain n w s → OwnWork order bucket n w s work
  own_work work e o =
      grind arith

module _ {K V : Type 0} {order : K → K → Ordering} {bucket : K → ℕ} {plain plain' : Plain K V} {n : ℕ} {v w : Whole K V} where
  -- what holds of another session still does
  pub frame_own :
      (s t : ℕ) → Frame v w s → (t ≡ s → ⊥) → plain'.notes t ≡ plain.notes t → Own order bucket plain n v t → Own order bucket plain' n w t
  frame_own s t f other note o =
      let stage = f.stages t other in
      let want = f.wants t other in
      let gift = f.gifts t other in
      let cursor = ap cursor_at stage in
      let aside = ap aside_at stage in
      let claim = ap claim_at stage in
      record {
        idle = λ i. grind arith;
        under_way = λ work i. grind arith;
        ended = λ op present i. grind arith;
        cursor_within = λ c i. grind arith;
        cursor_state = λ c i a. o.cursor_state c (sym cursor ∙ i) ((f.cursors t c other (sym cursor ∙ i)).set_aside a);
        cursor_bucket = λ c i r.
            let st = f.cursors t c other (sym cursor ∙ i) in
            ap bucket (st.key r) ∙ o.cursor_bucket c (sym cursor ∙ i) (st.in_ring r) ∙ ap bucket (sym want);
        aside_state = λ x i. grind arith;
        aside_key = λ x i. (f.asides t x other (sym aside ∙ i)).key ∙ o.aside_key x (sym aside ∙ i) ∙ sym want;
        aside_value = λ x i. (f.asides t x other (sym aside ∙ i)).value ∙ o.aside_value x (sym aside ∙ i) ∙ sym gift;
        claim_state = λ p i. grind arith;
        claim_mark = λ p i. (f.claims t p other (sym claim ∙ i)).mark ∙ o.claim_mark p (sym claim ∙ i);
        claim_key = λ p i. let key = (f.claims t p other (sym claim ∙ i)).key in let h = o.claim_key p (sym claim ∙ i) in (cc);
        claim_next = λ p x i j.
            let ahead = (f.claims t p other (sym claim ∙ i)).next in
            let mine = (f.asides t x other (sym aside ∙ j)).next in
            let h = o.claim_next p x (sym claim ∙ i) (sym aside ∙ j) in
            (cc);
      }

-- a call on session s that frames the others keeps the invariant, if it holds of s, of the rings and of the plain table
pub frame_kept :
    {K V : Type 0} {order rank : K → K → Ordering} {bucket : K → ℕ} {plain plain' : Plain K V} {n : ℕ} {v w : Whole K V} (s : ℕ) →
    Kept order rank bucket plain n v → Frame v w s → ((t : ℕ) → (t ≡ s → ⊥) → plain'.notes t ≡ plain.notes t) →
    Own order bucket plain' n w s → Holdings v w s → Sound rank bucket (rings_of w) → ((p : ℕ) → (w.state p ≡ Out → ⊥) → p < n) →
    Agrees order plain' n w → Kept order rank bucket plain' n w
frame_kept {order = order} {bucket = bucket} {plain' = plain'} {n = n} {v = v} {w = w} s k f notes mine h rings within agrees =
    let own : (t : ℕ) → Own order bucket plain' n w t =
    λ t. elim (cases_eq t s) [
      | inl e ↦ grind arith
      | inr other ↦ frame_own s t f other (notes t other) (kept_own k t)
    ] in
    let aside = λ (t : ℕ) (differs : t ≡ s → ⊥). ap aside_at (f.stages t differs) in
    let claim = λ (t : ℕ) (differs : t ≡ s → ⊥). ap claim_at (f.stages t differs) in
    parts_kept rings within own
    (record {
      aside_apart = grind arith;
      aside_owned = λ x i. elim (h.aside_left x i) [
        | inl e ↦ (s, e)
        | inr was ↦ grind arith
      ];
      claim_apart = grind arith;
      claim_owned = λ p i. grind arith;
    })
    agrees
