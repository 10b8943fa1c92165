-- There are runs: calls that are played are a run, and the worked day is one, with its plain table and its ring.
use Rattle.std.proofs.Common.{◌≡◌, ℕ, List, [], ◌∷◌, ◌++◌, map, Some, sym, refl, ap, ◌∙◌, subst, inl, inr, arith, lit<}
use Rattle.std.specs.List.{slice_get}
use Rattle.std.specs.declared.cmp.Ordering.{Ordering}
use Rattle.keys.specs.declared.berth.Berth.{Berth}
use Rattle.keys.specs.BerthOrder.{by_berth_lawful, by_berth_hashed}
use Rattle.keys.specs.Berths.{by_berth, berth_hash}
use Rattle.keys.specs.Hashes.{Hash}
use Rattle.keys.specs.Ranks.{LawfulKind}
use Rattle.rings.specs.Between.{between}
use Rattle.rings.specs.RingLists.{In}
use Rattle.tables.specs.declared.item.Item.{Item}
use Rattle.tables.specs.Reads.{none}
use Rattle.rules.specs.States.{State}
use Rattle.rules.specs.Plain.{Plain}
use Rattle.rules.specs.Runs.{Event, Run, new, more, plain_after}
use Rattle.rules.specs.RunLaw.{Leads, Ring}
use Rattle.rules.specs.Steps.{step, played}
use Rattle.rules.specs.Examples.{Answered, berth, old_tables, dawn, evening, worked_day, events_of, WorkedRun, after}
use Rattle.rules.proofs.LawOfRuns.{run_law}

-- calls that are played, with the replies that they are answered, go on with a run
played_run : (day : List Answered) (es : List (Event Berth ℕ)) (st : State Berth ℕ) → Run by_berth berth_hash es st →
    (played by_berth berth_hash st (map (λ a. a.0) day)).0 ≡ map (λ a. a.1) day → Run by_berth berth_hash (events_of day es) (played by_berth berth_hash st (map (λ a. a.0) day)).1
played_run [] es st run answered = run
played_run (a ∷ rest) es st run answered =
    let done = step by_berth berth_hash st a.0 in
    let here : done.0 ≡ a.1 = cc in
    let later : (played by_berth berth_hash done.1 (map (λ c. c.0) rest)).0 ≡ map (λ c. c.1) rest = cc in
    played_run rest (record { call = a.0; reply = a.1 } ∷ es) done.1 (more (record { call = a.0; reply = a.1 }) run (ap (λ r. (r, done.1)) here)) later

-- berths are a lawful kind
pub berths_lawful : LawfulKind by_berth berth_hash
berths_lawful = record { ordered = by_berth_lawful; alike_hash = by_berth_hashed }

-- the worked day is a run
pub worked_run : Run by_berth berth_hash (events_of worked_day []) (after worked_day)
unfolding between
worked_run = played_run worked_day [] dawn (new old_tables 0 refl) refl

-- its plain table
pub worked_entries : (plain_after by_berth (events_of worked_day [])).entries ≡ (berth 1, 10) ∷ (berth 2, 21) ∷ (berth 4, 40) ∷ []
worked_entries = refl

-- and to its evening, when a begin is refused for want of a place
pub evening_run : Run by_berth berth_hash (events_of (worked_day ++ evening) []) (after (worked_day ++ evening))
unfolding between
evening_run = played_run (worked_day ++ evening) [] dawn (new old_tables 0 refl) refl

-- the nexts lead from one place to another in one way only
leads_one_way : {K V : Type 0} (items : List (Item K V)) (from to : ℕ) (ps qs : List ℕ) → Leads items from ps to → Leads items from qs to →
    ((p : ℕ) → In p ps → (it : Item K V) × (slice_get items p ≡ Some it)) → (In to ps → ⊥) → (In to qs → ⊥) → ps ≡ qs
leads_one_way items from to [] [] l m there short other = refl
leads_one_way items from to [] (q ∷ qs) l m there short other = absurd (other (inl (sym l ∙ m.0)))
leads_one_way items from to (p ∷ ps) [] l m there short other = absurd (short (inl (sym m ∙ l.0)))
leads_one_way items from to (p ∷ ps) (q ∷ qs) l m there short other =
    let same : p ≡ q = sym l.0 ∙ m.0 in
    let here = there p (inl refl) in
    let rest = leads_one_way items here.0.next to ps qs (l.1 here.0 here.1) (m.1 here.0 (ap (slice_get items) (sym same) ∙ here.1))
    (λ r i. there r (inr i)) (λ i. short (inr i)) (λ i. other (inr i)) in
    cc

module _ {K V : Type 0} (order : K → K → Ordering) (digest : K → Hash) where
  -- so the ring of a bucket is the way from its head, if that passes its head but once
  pub ring_is : (st : State K V) (plain : Plain K V) (b h : ℕ) (qs : List ℕ) → slice_get st.heads b ≡ Some h → (h ≡ none → ⊥) →
      ((it : Item K V) → slice_get st.items h ≡ Some it → Leads st.items it.next qs h) → (In h qs → ⊥) →
      (places : List ℕ) → Ring order digest st plain b places → places ≡ h ∷ qs
  ring_is st plain b h qs head some way short [] r = let e = r.starts in let z : h ≡ none = cc in absurd (some z)
  ring_is st plain b h qs head some way short (p ∷ ps) r =
      let e = r.starts in
      let same : p ≡ h = cc in
      let here = r.holds p (inl refl) in
      let from : ℕ = here.item.next in
      let closes : Leads st.items from ps h =
      subst (λ q. Leads st.items from ps q) same ((r.closes p refl).1 here.item here.there) in
      let once : In h ps → ⊥ = subst (λ q. In q ps → ⊥) same r.once.0 in
      let rest : ps ≡ qs =
      leads_one_way st.items from h ps qs closes (way here.item (ap (slice_get st.items) (sym same) ∙ here.there))
      (λ q i. let there = r.holds q (inr i) in (there.item, there.there)) once short in
      cc

-- the nexts of the worked day lead from place 0 to 2, to 3 and back
worked_way : (it : Item Berth ℕ) → slice_get (after worked_day).items 0 ≡ Some it → Leads (after worked_day).items it.next (2 ∷ 3 ∷ []) 0
unfolding between
worked_way it e =
    (sym (next_from it e), λ it' e'. (sym (next_from it' e'), λ it'' e''. sym (next_from it'' e'')))
  where
    next_from : {p : Item Berth ℕ} (it : Item Berth ℕ) → Some p ≡ Some it → p.next ≡ it.next
    next_from it e = cc

-- the ring of the worked day, by the run law: berth 1 at place 0, berth 2 at place 2 and berth 4 at place 3
pub worked_ring : Ring by_berth berth_hash (after worked_day) (plain_after by_berth (events_of worked_day [])) 0 (0 ∷ 2 ∷ 3 ∷ [])
unfolding between
worked_ring =
    let ring = (run_law by_berth berth_hash berths_lawful (events_of worked_day []) (after worked_day) worked_run).rings 0 (lit< tt) in
    let is = ring_is by_berth berth_hash (after worked_day) (plain_after by_berth (events_of worked_day [])) 0 0 (2 ∷ 3 ∷ []) refl (λ e. omega arith) worked_way (λ i. grind arith) ring.0 ring.1 in
    subst (λ places. Ring by_berth berth_hash (after worked_day) (plain_after by_berth (events_of worked_day [])) 0 places) is ring.1

pub worked_day_runs : WorkedRun
worked_day_runs = (worked_run, worked_entries, worked_ring, evening_run)
