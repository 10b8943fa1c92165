-- A move with grounds writes only in the table, and so does abandon.
use Rattle.std.proofs.Common.{◌≡◌, ℕ, ◌<◌, Bool, true, false, cond, eqb, Some, None, Option, sym, refl, ap, ◌∙◌, subst, arith}
use Rattle.std.specs.declared.cmp.Ordering.{Ordering}
use Rattle.tables.specs.declared.item.ItemState.TheVariants.{Out, SetAside, InRing}
use Rattle.tables.specs.declared.moves.HeadMove.TheVariants.{Stays, Becomes}
use Rattle.tables.specs.declared.moves.Move.{Move}
use Rattle.tables.specs.declared.moves.Move.TheVariants.{Step, Leave, GiveUp, Wait, ClaimToReplace, ClaimToRemove, Absent, LinkAlone, Link, Present, SwingIn, SwingOut}
use Rattle.tables.specs.declared.session.Stage.TheVariants.{UnderWay}
use Rattle.tables.specs.declared.session.Work.{Work}
use Rattle.tables.specs.Items.{is_in_ring}
use Rattle.tables.specs.Sessions.{aside_of, claim_of, job_of}
use Rattle.rules.specs.Decide.{followed, heir}
use Rattle.rules.specs.Plain.{Plain}
use Rattle.rules.proofs.ActingViews.{Writes, HeadWithin}
use Rattle.rules.proofs.Grounds.{Grounds}
use Rattle.rules.proofs.Invariant.{Kept}
use Rattle.rules.proofs.Quiet.{in_ring_is, in_use}
use Rattle.rules.proofs.ShapeKept.{Within}
use Rattle.rules.proofs.Views.{Whole, aside_at, claim_at}

-- a head that follows a place goes to a place below n, if the place it may go to is
followed_within : (n p : ℕ) (to head : Option ℕ) → Within n to → HeadWithin n (followed p to head)
followed_within n p to None h = tt
followed_within n p to (Some x) h = go (eqb x p)
  where
    go : (b : Bool) → HeadWithin n (cond b (Becomes to) Stays)
    go true = h
    go false = tt

-- the next of an item that leaves, if it is another, lies below n
heir_within : (n p ahead : ℕ) → ahead < n → Within n (heir p ahead)
heir_within n p ahead h = go (eqb ahead p)
  where
    go : (b : Bool) → Within n (cond b None (Some ahead))
    go true = tt
    go false = h

module _ {K V : Type 0} {order rank : K → K → Ordering} {bucket : K → ℕ} {plain : Plain K V} {n : ℕ} {w : Whole K V} (kept : Kept order rank bucket plain n w) where
  -- what is in ring lies in the table
  ring_within : (p : ℕ) → w.state p ≡ InRing → p < n
  ring_within p ringed = kept.within p (in_use ringed)

  -- so does what it leads to
  next_within : (c p : ℕ) → w.state c ≡ InRing → w.next c ≡ p → p < n
  next_within c p ringed leads = ring_within p (in_ring_is (w.state p) (ap (λ q. is_in_ring (w.state q)) (sym leads) ∙ kept.rings.next_in_ring c (ap is_in_ring ringed)))

  module _ {s : ℕ} {work : Work} (under_way : w.stage s ≡ UnderWay work) where
    -- what a session has set aside lies in the table
    aside_at_within : (x : ℕ) → aside_of (job_of work) ≡ Some x → x < n
    aside_at_within x is = let a = kept.aside_state s x (ap aside_at under_way ∙ is) in kept.within x (λ out. let z : Out ≡ SetAside = sym out ∙ a in absurd (grind arith))

    -- so does what it has claimed
    claim_at_within : (p : ℕ) → claim_of work ≡ Some p → p < n
    claim_at_within p is = ring_within p (kept.claim_state s p (ap claim_at under_way ∙ is))

    -- the same of what it has set aside, if anything
    pub aside_within : Within n (aside_of (job_of work))
    aside_within = go (aside_of (job_of work)) refl
      where
        go : (o : Option ℕ) → aside_of (job_of work) ≡ o → Within n o
        go None is = tt
        go (Some x) is = aside_at_within x is

    -- the same of what it has claimed, if anything
    pub claim_within : Within n (claim_of work)
    claim_within = go (claim_of work) refl
      where
        go : (o : Option ℕ) → claim_of work ≡ o → Within n o
        go None is = tt
        go (Some p) is = claim_at_within p is

    -- the grounds of a move say that it writes in the table
    pub grounds_write : (m : Move V) → Grounds order rank bucket n w s work m → Writes n (job_of work) m
    grounds_write (Step p) g = tt
    grounds_write Leave g = tt
    grounds_write (GiveUp p) g = claim_at_within p g
    grounds_write Wait g = tt
    grounds_write (ClaimToReplace x pair ahead) g = (aside_at_within x (ap (λ u. aside_of (job_of u)) g.0), next_within pair.0 pair.1 g.1.stands g.1.leads)
    grounds_write (ClaimToRemove pair) g = next_within pair.0 pair.1 g.1.stands g.1.leads
    grounds_write Absent g = aside_within
    grounds_write (LinkAlone x) g = aside_at_within x (ap (λ u. aside_of (job_of u)) g.0)
    grounds_write (Link x pair) g = (aside_at_within x (ap (λ u. aside_of (job_of u)) g.0), ring_within pair.0 g.1)
    grounds_write (Present p v) g = (aside_within, ring_within p g.2)
    grounds_write (SwingIn x pair h v) g =
        let x-in = aside_at_within x (ap (λ u. aside_of (job_of u)) g.0) in
        (x-in, ring_within pair.0 g.1.stands, claim_at_within pair.1 (ap claim_of g.0), subst (HeadWithin n) (sym g.2) (followed_within n pair.1 (Some x) _ x-in))
    grounds_write (SwingOut pair ahead h v) g =
        let claimed = ap claim_of g.0 in
        let ahead_in = next_within pair.1 ahead (kept.claim_state s pair.1 (ap claim_at under_way ∙ claimed)) (sym g.2) in
        (ring_within pair.0 g.1.stands, claim_at_within pair.1 claimed, subst (HeadWithin n) (sym g.3) (followed_within n pair.1 _ _ (heir_within n pair.1 ahead ahead_in)))
