-- A turn, from its parts.
use Rattle.std.proofs.Common.{◌≡◌, ℕ, Some, Ok, sym, ap, ◌∙◌}
use Rattle.std.specs.List.{slice_get}
use Rattle.std.specs.declared.cmp.Ordering.{Ordering}
use Rattle.calls.specs.declared.reply.Progress.{Progress}
use Rattle.keys.specs.Hashes.{Hash}
use Rattle.keys.specs.Ranks.{bucket_of}
use Rattle.tables.specs.declared.moves.Move.{Move}
use Rattle.tables.specs.declared.request.Request.{Request}
use Rattle.tables.specs.declared.session.Session.{Session}
use Rattle.tables.specs.declared.session.Stage.TheVariants.{UnderWay}
use Rattle.tables.specs.declared.session.Work.{Work}
use Rattle.tables.specs.Sessions.{job_of}
use Rattle.rules.specs.States.{State, seat}
use Rattle.rules.specs.Decide.{decide}
use Rattle.rules.specs.Act.{act}
use Rattle.rules.specs.Turn.{turn, turn_seat, turn_stage, turn_request, turn_move}

module _ {K V : Type 0} (order : K → K → Ordering) (digest : K → Hash) (st : State K V) (s : ℕ) where
  -- the session is under way, its request is r, and it has decided on m
  pub turn_is : (session : Session) (w : Work) (r : Request K V) (m : Move V) (done : Progress × State K V) →
      seat st s ≡ Ok session → session.stage ≡ UnderWay w → slice_get st.requests s ≡ Some r → decide order digest st r.key w ≡ Ok m →
      done ≡ act st s (job_of w) session.finds r (bucket_of order digest st.core.bits r.key) m →
      (Ok done.0, done.1) ≡ turn order digest st s
  turn_is session w r m done e1 e2 e3 e4 e5 =
      ap (λ d. (Ok d.0, d.1)) e5
      ∙ sym (ap (turn_seat order digest st s) e1
      ∙ ap (turn_stage order digest st s session.finds) e2
      ∙ ap (turn_request order digest st s w session.finds) e3
      ∙ ap (turn_move order digest st s w session.finds r) e4)
