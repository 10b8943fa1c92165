-- What collect answers is what the plain table has noted.
use Rattle.std.proofs.Common.{◌≡◌, ℕ, ◌<◌, Bool, cond, Some, None, Ok, Err, Option, Result, sym, refl, ap, ◌∙◌, arith}
use Rattle.std.specs.List.{slice_get}
use Rattle.std.specs.Option.{ok_or}
use Rattle.std.specs.declared.cmp.Ordering.{Ordering}
use Rattle.calls.specs.declared.fault.IndexFault.{IndexFault}
use Rattle.calls.specs.declared.fault.IndexFault.TheVariants as fault
use Rattle.keys.specs.Hashes.{Hash}
use Rattle.tables.specs.declared.session.Session.{Session}
use Rattle.tables.specs.declared.session.Stage.{Stage}
use Rattle.tables.specs.declared.session.Stage.TheVariants.{Idle, UnderWay, Ended}
use Rattle.rules.specs.States.{State}
use Rattle.rules.specs.Collect.{collect, collect_seat, collect_stage, answer_of}
use Rattle.rules.specs.Plain.{Plain, Note, nothing, asked, answer}
use Rattle.rules.proofs.Views.{stage_in, gift_in}
use Rattle.rules.proofs.Invariant.{Inv}
use Rattle.rules.proofs.Reading.{nth_within, nth_bound}
use Rattle.rules.proofs.ShapeFacts.{seat_of, first_item}

-- what a note says that collect answers
abbrev pub noted : {K V : Type 0} → Note K V → Option (Option V)
noted nothing = None
noted (asked t) = None
noted (answer v) = Some v

-- what collect says
abbrev pub given : {V : Type 0} → Result (Option V) IndexFault → Option (Option V)
given (Ok v) = Some v
given (Err e) = None

module _ {K V : Type 0} (order : K → K → Ordering) (digest : K → Hash) (plain : Plain K V) (st : State K V) (inv : Inv order digest plain st) where
  -- the value of a session's request is its answer
  answer_here : (s : ℕ) (e : V) (present : Bool) → s < 16 → answer_of present (slice_get st.requests s) ≡ cond present (Some (gift_in e (slice_get st.requests s))) None
  answer_here s e present h =
      let r = nth_within st.requests s (omega arith) in
      let k = r.1 in
      grind arith

  -- at each stage of a session
  given_at : (s : ℕ) (session : Session) → slice_get st.core.sessions s ≡ Some session → (stage : Stage) → session.stage ≡ stage → given (collect_stage st s stage).0 ≡ noted (plain.notes s)
  given_at s session e Idle h =
      let it = (first_item st inv.shape).0 in
      let n = (inv.kept it.key it.value).idle s (ap stage_in e ∙ h) in
      grind arith
  given_at s session e (UnderWay w) h =
      let it = (first_item st inv.shape).0 in
      let n = (inv.kept it.key it.value).under_way s w (ap stage_in e ∙ h) in
      grind arith
  given_at s session e (Ended o present) h =
      let it = (first_item st inv.shape).0 in
      let n = (inv.kept it.key it.value).ended s o present (ap stage_in e ∙ h) in
      let l = inv.shape.sessions_long in
      let b = nth_bound st.core.sessions s session e in
      let a = answer_here s it.value present (omega arith) in
      grind arith

  -- a session or none
  given_seat : (s : ℕ) (o : Option Session) → slice_get st.core.sessions s ≡ o → given (collect_seat st s (ok_or o fault.NoSession)).0 ≡ noted (plain.notes s)
  given_seat s None e =
      let it = (first_item st inv.shape).0 in
      let n = (inv.kept it.key it.value).idle s (ap stage_in e) in
      grind arith
  given_seat s (Some session) e = given_at s session e session.stage refl

  -- collect says what is noted
  given_noted : (s : ℕ) → given (collect st s).0 ≡ noted (plain.notes s)
  given_noted s = ap (λ r. given (collect_seat st s r).0) (seat_of st inv.shape s) ∙ given_seat s (slice_get st.core.sessions s) refl

  -- an answer is what is noted
  pub answers_noted : (s : ℕ) (v : Option V) → (collect st s).0 ≡ Ok v → plain.notes s ≡ answer v
  answers_noted s v h = let g = given_noted s in let k = ap given h in note_is (plain.notes s) v (sym g ∙ k)
    where
      note_is : (note : Note K V) (v : Option V) → noted note ≡ Some v → note ≡ answer v
      note_is nothing v e = absurd cc
      note_is (asked t) v e = absurd cc
      note_is (answer u) v e = cc

  -- what is noted is answered
  pub noted_answers : (s : ℕ) (v : Option V) → plain.notes s ≡ answer v → (collect st s).0 ≡ Ok v
  noted_answers s v h = let g = given_noted s in let k = ap noted h in reply_is (collect st s).0 v (g ∙ k)
    where
      reply_is : (r : Result (Option V) IndexFault) (v : Option V) → given r ≡ Some v → r ≡ Ok v
      reply_is (Ok u) v e = cc
      reply_is (Err f) v e = absurd cc
