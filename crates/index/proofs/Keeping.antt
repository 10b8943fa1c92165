-- The calls keep a record's places in its tables.
use Rattle.std.proofs.Common.{◌≡◌, ℕ, zero, suc, ◌<◌, Bool, true, List, [], ◌∷◌, Some, None, Ok, Option, refl, arith}
use Rattle.std.proofs.lemmas.Bool.Decides.{nat_tests}
use Rattle.calls.specs.declared.operation.Operation.{Operation}
use Rattle.calls.specs.declared.operation.Operation.TheVariants as operation
use Rattle.tables.specs.declared.item.Item.{Item}
use Rattle.tables.specs.declared.record.Core.{Core}
use Rattle.tables.specs.declared.session.Job.{Job}
use Rattle.tables.specs.declared.session.Session.{Session}
use Rattle.tables.specs.declared.session.Stage.{Stage}
use Rattle.tables.specs.declared.session.Stage.TheVariants.{UnderWay}
use Rattle.tables.specs.declared.session.Work.TheVariants.{Seeking}
use Rattle.tables.specs.Lists.{modify}
use Rattle.tables.specs.Records.{in_session}
use Rattle.tables.specs.Sessions.{aside_of, at_stage}
use Rattle.rules.specs.Begin.{job_for, hand_after}
use Rattle.rules.specs.Free.{first_from, first_free_in, place_after}
use Rattle.index.specs.Within.{is_below, is_stage_within, are_within, is_within}
use Rattle.index.proofs.Scans.{after_below}

sessions_within : (n s : ℕ) (stage : Stage) (ss : List Session) → is_stage_within n stage ≡ true → are_within n ss ≡ true → are_within n (modify (at_stage stage) s ss) ≡ true
sessions_within n s stage [] h k = refl
sessions_within n zero stage (x ∷ xs) h k = grind arith
sessions_within n (suc s) stage (x ∷ xs) h k = let ih = sessions_within n s stage xs h in grind arith

-- a session at another stage, whose places lie in the tables
pub stage_within : (core : Core) (s : ℕ) (stage : Stage) → is_within core ≡ true → is_stage_within core.places stage ≡ true → is_within (in_session s (at_stage stage) core) ≡ true
stage_within core s stage h k =
    let t = sessions_within core.places s stage core.sessions k in
    grind arith

-- the hand at another place of the table
pub hand_within : (core : Core) (o : Option ℕ) → is_within core ≡ true → is_below core.places o ≡ true → is_within (hand_after o core) ≡ true
hand_within core None h k = h
hand_within core (Some p) h k = grind arith

-- a search that starts in the table ends in it
pub first_below : (test : ℕ → Bool) (n p left : ℕ) → p < n → is_below n (first_from test n p left) ≡ true
first_below test n p zero h = refl
first_below test n p (suc left) h =
    let ih = first_below test n (place_after n p) left (after_below n p h) in
    grind (arith, nat_tests)

-- the place that a job sets aside is the free one that it was given
job_below : (n : ℕ) (free : Option ℕ) (o : Operation) (j : Job) → is_below n free ≡ true → job_for free o ≡ Ok j → is_below n (aside_of j) ≡ true
job_below n None operation.Find j h e = grind arith
job_below n (Some p) operation.Find j h e = grind arith
job_below n None operation.Insert j h e = grind arith
job_below n (Some p) operation.Insert j h e = grind arith
job_below n None operation.Write j h e = grind arith
job_below n (Some p) operation.Write j h e = grind arith
job_below n None operation.Replace j h e = grind arith
job_below n (Some p) operation.Replace j h e = grind arith
job_below n None operation.Remove j h e = grind arith
job_below n (Some p) operation.Remove j h e = grind arith
job_below n None operation.Point j h e = grind arith
job_below n (Some p) operation.Point j h e = grind arith

module _ {K V : Type 0} where
  -- a session that takes up a job
  pub begin_within : (core : Core) (items : List (Item K V)) (s : ℕ) (o : Operation) (j : Job) → is_within core ≡ true → core.made ≡ true → job_for (first_free_in core items) o ≡ Ok j →
      is_within (hand_after (aside_of j) (in_session s (at_stage (UnderWay (Seeking j None))) core)) ≡ true
  begin_within core items s o j h m e =
      let hand : core.hand < core.places = grind (arith, nat_tests) in
      let free = first_below _ core.places (place_after core.places core.hand) core.places (after_below core.places core.hand hand) in
      let below : is_below core.places (aside_of j) ≡ true = job_below core.places (first_free_in core items) o j free e in
      let staged = stage_within core s (UnderWay (Seeking j None)) h (grind arith) in
      hand_within (in_session s (at_stage (UnderWay (Seeking j None))) core) (aside_of j) staged below
