-- What holds in every state of a run.
use Rattle.std.proofs.Common.{◌≡◌, ℕ, ◌^◌, ◌<◌, ◌≤◌, Bool, true, cond, eqb, length, Some, None}
use Rattle.std.specs.declared.cmp.Ordering.{Ordering}
use Rattle.std.specs.declared.cmp.Ordering.TheVariants.{Equal}
use Rattle.keys.specs.Hashes.{Hash}
use Rattle.keys.specs.Ranks.{by_rank, bucket_of}
use Rattle.rings.specs.RingLists.{count_below}
use Rattle.rings.specs.Rings.{Sound}
use Rattle.tables.specs.declared.item.ItemState.TheVariants.{Out, SetAside, InRing}
use Rattle.tables.specs.declared.session.Stage.TheVariants.{Idle, UnderWay, Ended}
use Rattle.tables.specs.declared.session.Work.{Work}
use Rattle.calls.specs.declared.operation.Operation.{Operation}
use Rattle.tables.specs.Items.{is_in_ring}
use Rattle.tables.specs.Sessions.{job_of, operation_of}
use Rattle.rules.specs.Plain.{Plain, nothing, asked, answer, found, Apart}
use Rattle.rules.specs.States.{State}
use Rattle.rules.proofs.Views.{Whole, whole, rings_of, cursor_at, aside_at, claim_at}

-- the record and the lengths of the tables
pub record Shape {K V : Type 0} (st : State K V) : Type 0 where
  pub made : st.core.made ≡ true
  pub few_bits : st.core.bits ≤ 8
  pub some_place : 1 ≤ st.core.places
  pub few_places : st.core.places ≤ 4096
  pub hand_within : st.core.hand < st.core.places
  pub heads_long : length st.heads ≡ 2 ^ st.core.bits
  pub items_long : length st.items ≡ st.core.places
  pub requests_long : length st.requests ≡ 16
  pub sessions_long : length st.core.sessions ≡ 16

-- keys are compared by `order`, and in rings by `rank`, which leaves the same keys alike
pub record Kept {K V : Type 0} (order rank : K → K → Ordering) (bucket : K → ℕ) (plain : Plain K V) (n : ℕ) (w : Whole K V) : Type 0 where
  -- the rings are sound, and what is in use lies in the table
  pub rings : Sound rank bucket (rings_of w)
  pub within : (p : ℕ) → (w.state p ≡ Out → ⊥) → p < n
  -- what the plain table has noted for each session
  pub idle : (s : ℕ) → w.stage s ≡ Idle → plain.notes s ≡ nothing
  pub under_way : (s : ℕ) (work : Work) → w.stage s ≡ UnderWay work → plain.notes s ≡ asked (record { operation = operation_of (job_of work); key = w.want s; value = w.gift s })
  pub ended : (s : ℕ) (o : Operation) (present : Bool) → w.stage s ≡ Ended o present → plain.notes s ≡ answer (cond present (Some (w.gift s)) None)
  -- a cursor is in the table, not on an item set aside, and in its key's bucket if it is in ring
  pub cursor_within : (s c : ℕ) → cursor_at (w.stage s) ≡ Some c → c < n
  pub cursor_state : (s c : ℕ) → cursor_at (w.stage s) ≡ Some c → w.state c ≡ SetAside → ⊥
  pub cursor_bucket : (s c : ℕ) → cursor_at (w.stage s) ≡ Some c → w.state c ≡ InRing → bucket (w.key c) ≡ bucket (w.want s)
  -- an item that a session has set aside holds its key and value, and is no other session's
  pub aside_state : (s x : ℕ) → aside_at (w.stage s) ≡ Some x → w.state x ≡ SetAside
  pub aside_key : (s x : ℕ) → aside_at (w.stage s) ≡ Some x → w.key x ≡ w.want s
  pub aside_value : (s x : ℕ) → aside_at (w.stage s) ≡ Some x → w.value x ≡ w.gift s
  pub aside_apart : (s t x : ℕ) → aside_at (w.stage s) ≡ Some x → aside_at (w.stage t) ≡ Some x → s ≡ t
  pub aside_owned : (x : ℕ) → w.state x ≡ SetAside → (s : ℕ) × (aside_at (w.stage s) ≡ Some x)
  -- a claimed item is in ring, marked, has the session's key, and is no other session's
  pub claim_state : (s p : ℕ) → claim_at (w.stage s) ≡ Some p → w.state p ≡ InRing
  pub claim_mark : (s p : ℕ) → claim_at (w.stage s) ≡ Some p → w.mark p ≡ true
  pub claim_key : (s p : ℕ) → claim_at (w.stage s) ≡ Some p → order (w.key p) (w.want s) ≡ Equal
  pub claim_apart : (s t p : ℕ) → claim_at (w.stage s) ≡ Some p → claim_at (w.stage t) ≡ Some p → s ≡ t
  pub claim_owned : (p : ℕ) → w.mark p ≡ true → (s : ℕ) × (claim_at (w.stage s) ≡ Some p)
  -- the item that will take its place leads where it leads, or to itself where it is alone
  pub claim_next : (s p x : ℕ) → claim_at (w.stage s) ≡ Some p → aside_at (w.stage s) ≡ Some x → w.next x ≡ cond (eqb (w.next p) p) x (w.next p)
  -- the plain table has what is in ring
  pub held : (p : ℕ) → w.state p ≡ InRing → found order (w.key p) plain.entries ≡ Some (w.value p)
  pub known : (x : K) (v : V) → found order x plain.entries ≡ Some v → (p : ℕ) × (w.state p ≡ InRing) × (order (w.key p) x ≡ Equal)
  pub apart : Apart order plain.entries
  pub counted : length plain.entries ≡ count_below (λ p. is_in_ring (w.state p)) n

-- the invariant: d and e are any key and any value
pub record Inv {K V : Type 0} (order : K → K → Ordering) (digest : K → Hash) (plain : Plain K V) (st : State K V) : Type 0 where
  pub shape : Shape st
  pub kept : (d : K) (e : V) → Kept order (by_rank order digest st.core.bits) (bucket_of order digest st.core.bits) plain st.core.places (whole d e st)
