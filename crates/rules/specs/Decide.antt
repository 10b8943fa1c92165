-- What a turn decides. It reads the record and the tables and writes nothing; a head or a next that it
-- reads and that is no place of the table refuses the turn. Tests run in the order written here, and
-- one that is not reached reads nothing.
--
-- Places of a record are below the table's length, so an item that is asked for is always there; a
-- missing one is said to be outside the table only because the definitions are total.
use Rattle.std.specs.Prelude.{ℕ, Bool, true, false, cond, not, ◌&&◌, ◌||◌, Some, None, Ok, Err, Option, Result, ◌==◌}
use Rattle.std.specs.List.{slice_get}
use Rattle.std.specs.declared.cmp.Ordering.{Ordering}
use Rattle.std.specs.Ordering.{is_eq}
use Rattle.calls.specs.declared.fault.IndexFault.{IndexFault}
use Rattle.calls.specs.declared.fault.IndexFault.TheVariants.{OutsideTable}
use Rattle.keys.specs.Hashes.{Hash}
use Rattle.keys.specs.Ranks.{by_rank, bucket_of}
use Rattle.rings.specs.Between.{between}
use Rattle.tables.specs.declared.item.Item.{Item}
use Rattle.tables.specs.declared.moves.HeadMove.{HeadMove}
use Rattle.tables.specs.declared.moves.HeadMove.TheVariants.{Stays, Becomes}
use Rattle.tables.specs.declared.moves.Move.{Move}
use Rattle.tables.specs.declared.moves.Move.TheVariants.{Step, Leave, GiveUp, Wait, ClaimToReplace, ClaimToRemove, Absent, LinkAlone, Link, Present, SwingIn, SwingOut}
use Rattle.tables.specs.declared.session.Job.{Job}
use Rattle.tables.specs.declared.session.Job.TheVariants.{Find, Insert, Write, Replace, Remove, Point}
use Rattle.tables.specs.declared.session.Work.{Work}
use Rattle.tables.specs.declared.session.Work.TheVariants.{Seeking, Replacing, Removing}
use Rattle.tables.specs.Items.{is_in_ring}
use Rattle.tables.specs.Reads.{read_head, read_next}
use Rattle.rules.specs.States.{State}

-- insert, replace and remove look at the next item; find, write and point at the one stood on
abbrev pub looks_ahead : Job → Bool
looks_ahead Find = false
looks_ahead (Insert x) = true
looks_ahead Write = false
looks_ahead (Replace x) = true
looks_ahead Remove = true
looks_ahead Point = false

-- no key in the ring: insert links its item alone
abbrev pub miss_empty : {V : Type 0} → Job → Move V
miss_empty Find = Absent
miss_empty (Insert x) = LinkAlone x
miss_empty Write = Absent
miss_empty (Replace x) = Absent
miss_empty Remove = Absent
miss_empty Point = Absent

-- the pair of a place and the one that comes after it
abbrev pub paired : ℕ → Result ℕ IndexFault → Result (ℕ × ℕ) IndexFault
paired c (Err e) = Err e
paired c (Ok m) = Ok (c, m)

-- replace claims the second of the pair: the item set aside takes its next, or itself if it is alone
abbrev pub claim_with : {V : Type 0} → ℕ → ℕ × ℕ → Result ℕ IndexFault → Result (Move V) IndexFault
claim_with x pair (Err e) = Err e
claim_with x pair (Ok ahead) = Ok (ClaimToReplace x pair (cond (ahead == pair.1) x ahead))

-- the head was the item that leaves, and becomes another, or stays
abbrev pub followed : ℕ → Option ℕ → Option ℕ → HeadMove
followed p to None = Stays
followed p to (Some h) = cond (h == p) (Becomes to) Stays

-- what a head that was p becomes when p leaves its ring: the next item, or none if p was alone
abbrev pub heir : ℕ → ℕ → Option ℕ
heir p ahead = cond (ahead == p) None (Some ahead)

module _ {K V : Type 0} where
  -- the key falls between the pair, and the item is the first of it: insert links its item there, but
  -- waits if that item is occupied
  abbrev pub miss_between : Job → ℕ × ℕ → Item K V → Move V
  miss_between Find pair it = Absent
  miss_between (Insert x) pair it = cond it.occupied Wait (Link x pair)
  miss_between Write pair it = Absent
  miss_between (Replace x) pair it = Absent
  miss_between Remove pair it = Absent
  miss_between Point pair it = Absent

  -- the first of the pair is in ring, leads to the second, and is unoccupied or is the second itself
  abbrev pub may_swing : ℕ × ℕ → Item K V → Bool
  may_swing pair it = it.next == pair.1 && (not it.occupied || pair.0 == pair.1)

  abbrev pub swing_in : ℕ → ℕ × ℕ → Item K V → Result (Option ℕ) IndexFault → Result (Move V) IndexFault
  swing_in x pair claimed (Err e) = Err e
  swing_in x pair claimed (Ok head) = Ok (SwingIn x pair (followed pair.1 (Some x) head) claimed.value)

  abbrev pub swing_out : ℕ × ℕ → ℕ → Item K V → Result (Option ℕ) IndexFault → Result (Move V) IndexFault
  swing_out pair ahead claimed (Err e) = Err e
  swing_out pair ahead claimed (Ok head) = Ok (SwingOut pair ahead (followed pair.1 (heir pair.1 ahead) head) claimed.value)

-- q is the sought key
module _ {K V : Type 0} (order : K → K → Ordering) (digest : K → Hash) (st : State K V) (q : K) where
  -- the order by rank in this index
  abbrev pub rank : K → K → Ordering
  rank = by_rank order digest st.core.bits

  abbrev pub has_rank : K → Bool
  has_rank k = is_eq (rank k q)

  -- the head of the sought key's bucket
  abbrev pub head_here : Result (Option ℕ) IndexFault
  head_here = read_head st.core.places st.heads (bucket_of order digest st.core.bits q)

  abbrev pub next_of : Item K V → Result ℕ IndexFault
  next_of it = read_next st.core.places it

  -- the pair of the place stood on, with its item, and the one after it
  abbrev pub pair_from : ℕ → Item K V → Result (ℕ × ℕ) IndexFault
  pair_from c it = paired c (next_of it)

  -- replace and remove claim the next item, but wait if it is occupied; insert has found its key
  abbrev pub hit_ahead : Job → ℕ × ℕ → Item K V → Result (Move V) IndexFault
  hit_ahead Find pair nx = Ok (Present pair.1 nx.value)
  hit_ahead (Insert x) pair nx = Ok (Present pair.1 nx.value)
  hit_ahead Write pair nx = Ok (Present pair.1 nx.value)
  hit_ahead (Replace x) pair nx = cond nx.occupied (Ok Wait) (claim_with x pair (next_of nx))
  hit_ahead Remove pair nx = Ok (cond nx.occupied Wait (ClaimToRemove pair))
  hit_ahead Point pair nx = Ok (Present pair.1 nx.value)

  -- both items of the pair are at hand
  abbrev pub on_pair : Job → ℕ × ℕ → Item K V → Item K V → Result (Move V) IndexFault
  on_pair job pair it nx =
      cond (looks_ahead job && has_rank nx.key) (hit_ahead job pair nx)
      (cond (between rank it.key q nx.key) (Ok (miss_between job pair it)) (Ok (Step pair.1)))

  abbrev pub on_next_item : Job → ℕ × ℕ → Item K V → Option (Item K V) → Result (Move V) IndexFault
  on_next_item job pair it None = Err OutsideTable
  on_next_item job pair it (Some nx) = on_pair job pair it nx

  abbrev pub on_next : Job → ℕ → Item K V → Result ℕ IndexFault → Result (Move V) IndexFault
  on_next job c it (Err e) = Err e
  on_next job c it (Ok m) = on_next_item job (c, m) it (slice_get st.items m)

  -- the item stood on is in ring: find, write and point have found their key if it has its rank
  abbrev pub on_ring : Job → ℕ → Item K V → Result (Move V) IndexFault
  on_ring job c it = cond (not (looks_ahead job) && has_rank it.key) (Ok (Present c it.value)) (on_next job c it (next_of it))

  abbrev pub on_item : Job → ℕ → Option (Item K V) → Result (Move V) IndexFault
  on_item job c None = Err OutsideTable
  on_item job c (Some it) = cond (is_in_ring it.state) (on_ring job c it) (Ok Leave)

  abbrev pub on_head : Job → Result (Option ℕ) IndexFault → Result (Move V) IndexFault
  on_head job (Err e) = Err e
  on_head job (Ok None) = Ok (miss_empty job)
  on_head job (Ok (Some h)) = Ok (Step h)

  abbrev pub seek : Job → Option ℕ → Result (Move V) IndexFault
  seek job None = on_head job head_here
  seek job (Some c) = on_item job c (slice_get st.items c)

  -- a claim is held: go on to the swing if the item stood on passes its three tests
  abbrev pub swing_tests : ℕ × ℕ → Item K V → Result ℕ IndexFault → Result Bool IndexFault
  swing_tests pair it (Err e) = Err e
  swing_tests pair it (Ok m) = Ok (may_swing pair it)

  abbrev pub swing_ready : ℕ × ℕ → Option (Item K V) → Result Bool IndexFault
  swing_ready pair None = Err OutsideTable
  swing_ready pair (Some it) = cond (is_in_ring it.state) (swing_tests pair it (next_of it)) (Ok false)

  -- the claimed item gives way to the one set aside
  abbrev pub replace_claimed : ℕ → ℕ × ℕ → Option (Item K V) → Result (Move V) IndexFault
  replace_claimed x pair None = Err OutsideTable
  replace_claimed x pair (Some claimed) = swing_in x pair claimed head_here

  -- the claimed item is cut out
  abbrev pub cut_out : ℕ × ℕ → Item K V → Result ℕ IndexFault → Result (Move V) IndexFault
  cut_out pair claimed (Err e) = Err e
  cut_out pair claimed (Ok ahead) = swing_out pair ahead claimed head_here

  abbrev pub remove_claimed : ℕ × ℕ → Option (Item K V) → Result (Move V) IndexFault
  remove_claimed pair None = Err OutsideTable
  remove_claimed pair (Some claimed) = cut_out pair claimed (next_of claimed)

  abbrev pub replace_if : ℕ → ℕ × ℕ → Result Bool IndexFault → Result (Move V) IndexFault
  replace_if x pair (Err e) = Err e
  replace_if x pair (Ok ready) = cond ready (replace_claimed x pair (slice_get st.items pair.1)) (Ok (GiveUp pair.1))

  abbrev pub remove_if : ℕ × ℕ → Result Bool IndexFault → Result (Move V) IndexFault
  remove_if pair (Err e) = Err e
  remove_if pair (Ok ready) = cond ready (remove_claimed pair (slice_get st.items pair.1)) (Ok (GiveUp pair.1))

  abbrev pub decide : Work → Result (Move V) IndexFault
  decide (Seeking job cursor) = seek job cursor
  decide (Replacing x pair) = replace_if x pair (swing_ready pair (slice_get st.items pair.0))
  decide (Removing pair) = remove_if pair (swing_ready pair (slice_get st.items pair.0))
