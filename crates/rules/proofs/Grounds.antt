-- What is true of a state in which a turn has decided on a move: the grounds on which the move may be
-- made. s is the session, and its work is under way.
use Rattle.std.proofs.Common.{◌≡◌, ℕ, true, false, cond, eqb, ◌⊎◌, Some, None}
use Rattle.std.specs.declared.cmp.Ordering.{Ordering}
use Rattle.std.specs.declared.cmp.Ordering.TheVariants.{Equal}
use Rattle.rings.specs.Between.{between}
use Rattle.tables.specs.declared.item.ItemState.TheVariants.{InRing}
use Rattle.tables.specs.declared.moves.Move.{Move}
use Rattle.tables.specs.declared.moves.Move.TheVariants.{Step, Leave, GiveUp, Wait, ClaimToReplace, ClaimToRemove, Absent, LinkAlone, Link, Present, SwingIn, SwingOut}
use Rattle.tables.specs.declared.session.Job.{Job}
use Rattle.tables.specs.declared.session.Job.TheVariants as job
use Rattle.tables.specs.declared.session.Work.{Work}
use Rattle.tables.specs.declared.session.Work.TheVariants.{Seeking, Replacing, Removing}
use Rattle.tables.specs.Sessions.{claim_of, job_of}
use Rattle.rules.specs.Decide.{followed, heir}
use Rattle.rules.proofs.Views.{Whole}

-- the session still seeks its key
abbrev pub Seeks : Work → Type 0
Seeks (Seeking j cursor) = Unit {0}
Seeks (Replacing x pair) = ⊥
Seeks (Removing pair) = ⊥

-- insert never ends with a plain miss, and replace and remove never with a plain hit
abbrev pub MayMiss : Job → Type 0
MayMiss job.Find = Unit {0}
MayMiss (job.Insert x) = ⊥
MayMiss job.Write = Unit {0}
MayMiss (job.Replace x) = Unit {0}
MayMiss job.Remove = Unit {0}
MayMiss job.Point = Unit {0}

abbrev pub MayHit : Job → Type 0
MayHit job.Find = Unit {0}
MayHit (job.Insert x) = Unit {0}
MayHit job.Write = Unit {0}
MayHit (job.Replace x) = ⊥
MayHit job.Remove = ⊥
MayHit job.Point = Unit {0}

module _ {K V : Type 0} (order rank : K → K → Ordering) (bucket : K → ℕ) (n : ℕ) (w : Whole K V) (s : ℕ) where
  -- m comes after the item c, which is in ring, and has the sought key
  pub record Ahead (c m : ℕ) : Type 0 where
    pub stands : w.state c ≡ InRing
    pub leads : w.next c ≡ m
    pub alike : order (w.key m) (w.want s) ≡ Equal
    pub free : w.mark m ≡ false

  -- the three tests of a swing
  pub record MaySwing (c p : ℕ) : Type 0 where
    pub stands : w.state c ≡ InRing
    pub leads : w.next c ≡ p
    pub free : (w.mark c ≡ false) ⊎ (c ≡ p)

  abbrev pub Grounds : Work → Move V → Type 0
  Grounds work (Step p) = Seeks work × (w.state p ≡ InRing) × (bucket (w.key p) ≡ bucket (w.want s))
  Grounds work Leave = Seeks work
  Grounds work (GiveUp p) = claim_of work ≡ Some p
  Grounds work Wait = Unit {0}
  Grounds work (ClaimToReplace x pair ahead) = (work ≡ Seeking (job.Replace x) (Some pair.0)) × Ahead pair.0 pair.1 × (ahead ≡ cond (eqb (w.next pair.1) pair.1) x (w.next pair.1))
  Grounds work (ClaimToRemove pair) = (work ≡ Seeking job.Remove (Some pair.0)) × Ahead pair.0 pair.1
  Grounds work Absent = Seeks work × MayMiss (job_of work) × ((p : ℕ) → w.state p ≡ InRing → order (w.key p) (w.want s) ≡ Equal → ⊥)
  Grounds work (LinkAlone x) = (work ≡ Seeking (job.Insert x) None) × (w.head (bucket (w.want s)) ≡ None)
  Grounds work (Link x pair) = (work ≡ Seeking (job.Insert x) (Some pair.0)) × (w.state pair.0 ≡ InRing) × (w.next pair.0 ≡ pair.1) × (w.mark pair.0 ≡ false) × (between rank (w.key pair.0) (w.want s) (w.key pair.1) ≡ true)
  Grounds work (Present p v) = Seeks work × MayHit (job_of work) × (w.state p ≡ InRing) × (order (w.key p) (w.want s) ≡ Equal) × (v ≡ w.value p)
  Grounds work (SwingIn x pair h v) = (work ≡ Replacing x pair) × MaySwing pair.0 pair.1 × (h ≡ followed pair.1 (Some x) (w.head (bucket (w.want s)))) × (v ≡ w.value pair.1)
  Grounds work (SwingOut pair ahead h v) = (work ≡ Removing pair) × MaySwing pair.0 pair.1 × (ahead ≡ w.next pair.1) × (h ≡ followed pair.1 (heir pair.1 ahead) (w.head (bucket (w.want s)))) × (v ≡ w.value pair.1)
