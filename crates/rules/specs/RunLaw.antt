-- The run law: after every list of calls, an index means what a plain table means, its rings are
-- whole, and it is full only when it is full. It speaks of events, the plain table and the tables of
-- the index; `Run`, `plain_after`, `collect` and `begin` are those of the rule book.
use Rattle.std.specs.Prelude.{◌≡◌, ℕ, ◌+◌, ◌^◌, ◌<◌, ◌≤◌, true, List, [], ◌∷◌, length, Some, None, Ok, Err, Option, Result, ◌≢◌}
use Rattle.std.specs.List.{slice_get}
use Rattle.std.specs.declared.cmp.Ordering.{Ordering}
use Rattle.std.specs.declared.cmp.Ordering.TheVariants.{Equal}
use Rattle.calls.specs.declared.call.Action.{Action}
use Rattle.calls.specs.declared.call.Action.TheVariants.{Begin, Turn, Collect, Abandon}
use Rattle.calls.specs.declared.call.Call.{Call}
use Rattle.calls.specs.declared.call.Task.{Task}
use Rattle.calls.specs.declared.fault.IndexFault.{IndexFault}
use Rattle.calls.specs.declared.fault.IndexFault.TheVariants.{NoPlace}
use Rattle.calls.specs.declared.reply.Reply.{Reply}
use Rattle.calls.specs.declared.reply.Reply.TheVariants.{Collected}
use Rattle.keys.specs.Hashes.{Hash}
use Rattle.keys.specs.Ranks.{bucket_of, by_rank}
use Rattle.rings.specs.Between.{below, at_most}
use Rattle.rings.specs.RingLists.{In, Once}
use Rattle.tables.specs.declared.item.Item.{Item}
use Rattle.tables.specs.declared.item.ItemState.TheVariants.{InRing}
use Rattle.tables.specs.Reads.{head_word}
use Rattle.rules.specs.States.{State}
use Rattle.rules.specs.Begin.{begin}
use Rattle.rules.specs.Collect.{collect}
use Rattle.rules.specs.Plain.{Plain, answer, found, Apart}
use Rattle.rules.specs.Runs.{Event, Run, plain_after, recorded}

-- the first of a list of places, if there is one
abbrev pub first : List ℕ → Option ℕ
first [] = None
first (p ∷ ps) = Some p

-- by the nexts of the items, the way from one place passes these places in turn and comes to another
abbrev pub Leads : {K V : Type 0} → List (Item K V) → ℕ → List ℕ → ℕ → Type 0
Leads items from [] to = from ≡ to
Leads {K} {V} items from (p ∷ ps) to = (from ≡ p) × ((it : Item K V) → slice_get items p ≡ Some it → Leads items it.next ps to)

module _ {K V : Type 0} (order : K → K → Ordering) (digest : K → Hash) where
  -- (a) what an accepted collect answered is what the plain table had noted
  abbrev pub Collects : Plain K V → Action K V → ℕ → Result (Reply V) IndexFault → Type 0
  Collects p (Begin t) s r = Unit {0}
  Collects p Turn s r = Unit {0}
  Collects p Collect s r = (v : Option V) → r ≡ Ok (Collected v) → p.notes s ≡ answer v
  Collects p Abandon s r = Unit {0}

  -- at every event of the list
  abbrev pub Answers : List (Event K V) → Type 0
  Answers [] = Unit {0}
  Answers (e ∷ es) = Collects (plain_after order es) e.call.action e.call.session e.reply × Answers es

  -- (c) a begin that was refused for want of a place found at least n − 30 keys
  abbrev pub FullAt : ℕ → Plain K V → Result (Reply V) IndexFault → Type 0
  FullAt n p r = r ≡ Err NoPlace → n ≤ length p.entries + 30

  abbrev pub Full : ℕ → List (Event K V) → Type 0
  Full n [] = Unit {0}
  Full n (e ∷ es) = FullAt n (plain_after order es) e.reply × Full n es

  -- what stands at a place of a ring: an item in ring, with a key of its bucket, which the plain table
  -- has with the item's value
  pub record Entry (st : State K V) (plain : Plain K V) (bucket p : ℕ) : Type 0 where
    pub item : Item K V
    pub there : slice_get st.items p ≡ Some item
    pub in_ring : item.state ≡ InRing
    pub in_bucket : bucket_of order digest st.core.bits item.key ≡ bucket
    pub in_table : found order item.key plain.entries ≡ Some item.value

  -- the item at a place has a key alike to x
  abbrev pub KeyAt : State K V → ℕ → K → Type 0
  KeyAt st p x = (it : Item K V) → slice_get st.items p ≡ Some it → order it.key x ≡ Equal

  -- from the item at a place to its next the ring rises, or falls back: the next is not higher by rank
  abbrev pub Rises : State K V → ℕ → Type 0
  Rises st p = (a b : Item K V) → slice_get st.items p ≡ Some a → slice_get st.items a.next ≡ Some b → below (by_rank order digest st.core.bits) a.key b.key ≡ true

  abbrev pub FallsBack : State K V → ℕ → Type 0
  FallsBack st p = (a b : Item K V) → slice_get st.items p ≡ Some a → slice_get st.items a.next ≡ Some b → at_most (by_rank order digest st.core.bits) b.key a.key ≡ true

  -- (b) the ring of a bucket passes through these places
  pub record Ring (st : State K V) (plain : Plain K V) (bucket : ℕ) (places : List ℕ) : Type 0 where
    -- it starts at the bucket's head, and the bucket has no head exactly when it has no places
    pub starts : slice_get st.heads bucket ≡ Some (head_word (first places))
    -- it follows the nexts and closes where it started
    pub closes : (h : ℕ) → first places ≡ Some h → Leads st.items h places h
    -- it passes no place twice
    pub once : Once places
    -- each place holds a key of this bucket with its value
    pub holds : (p : ℕ) → In p places → Entry st plain bucket p
    -- every key of this bucket in the plain table is at one of the places
    pub all : (x : K) (v : V) → bucket_of order digest st.core.bits x ≡ bucket → found order x plain.entries ≡ Some v → (p : ℕ) × In p places × KeyAt st p x
    -- no two places hold alike keys
    pub unlike : (p q : ℕ) (x : K) → In p places → In q places → KeyAt st p x → KeyAt st q x → p ≡ q
    -- a ring that is not empty rises from item to item, and falls back at exactly one of them, the top
    pub falls : (h : ℕ) → first places ≡ Some h → (top : ℕ) × In top places × FallsBack st top × ((p : ℕ) → In p places → (p ≢ top) → Rises st p)

  -- what holds after these events, the newest first, in this state
  pub record Sound (es : List (Event K V)) (st : State K V) : Type 0 where
    -- (a) the answers collected so far, and those that would be collected now
    pub answered : Answers es
    pub answers : (s : ℕ) (v : Option V) → (collect st s).0 ≡ Ok v → (plain_after order es).notes s ≡ answer v
    pub owed : (s : ℕ) (v : Option V) → (plain_after order es).notes s ≡ answer v → (collect st s).0 ≡ Ok v
    -- (b) the ring of each bucket; the length of the plain table counts its keys
    pub rings : (b : ℕ) → b < 2 ^ st.core.bits → (places : List ℕ) × Ring st (plain_after order es) b places
    pub counted : Apart order (plain_after order es).entries
    -- (c) the begins refused so far, and one that would be refused now
    pub full : Full st.core.places es
    pub full_now : (s : ℕ) (t : Task K V) → (begin st s t).0 ≡ Err NoPlace → st.core.places ≤ length (plain_after order es).entries + 30

-- the run law: every run is sound
abbrev pub RunLaw : {K : Type 0} (V : Type 0) → (K → K → Ordering) → (K → Hash) → Type 0
RunLaw {K} V order digest = (es : List (Event K V)) (st : State K V) → Run order digest es st → Sound order digest es st

-- a call by a session, and what it was answered
abbrev pub event : {K V : Type 0} → ℕ → Action K V → Result (Reply V) IndexFault → Event K V
event s a r = record { call = record { session = s; action = a }; reply = r }

-- the law at one call: whatever run led to the state before it, with this event it leads to the state
-- after it, and is sound
abbrev pub GoesOn : {K V : Type 0} → (K → K → Ordering) → (K → Hash) → State K V → Event K V → State K V → Type 0
GoesOn {K} {V} order digest st e after = (es : List (Event K V)) → Run order digest es st → Run order digest (e ∷ es) after × Sound order digest (e ∷ es) after

-- the law at an accepted making: it is a run of no events, and is sound
abbrev pub Starts : {K V : Type 0} → (K → K → Ordering) → (K → Hash) → State K V → Type 0
Starts order digest st = Run order digest [] st × Sound order digest [] st

-- the law at a list of calls, from an accepted making on: it is a run, and is sound
abbrev pub Replays : {K V : Type 0} → (K → K → Ordering) → (K → Hash) → State K V → List (Call K V) → State K V → Type 0
Replays order digest st cs after = Run order digest (recorded order digest st cs []) after × Sound order digest (recorded order digest st cs []) after
