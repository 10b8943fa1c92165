-- A list of calls, one call more.
use Rattle.std.proofs.Common.{◌≡◌, ℕ, suc, ◌+◌, ◌<◌, List, [], ◌∷◌, ◌++◌, length, get_or, take, drop, set, Ok, Result, sym, refl, ap, ◌∙◌, subst, arith}
use Rattle.std.proofs.lemmas.List.{take_more, drop_more, set_at, append_assoc, length-take-le}
use Rattle.std.specs.declared.cmp.Ordering.{Ordering}
use Rattle.calls.specs.declared.call.Call.{Call}
use Rattle.calls.specs.declared.fault.IndexFault.{IndexFault}
use Rattle.calls.specs.declared.reply.Reply.{Reply}
use Rattle.keys.specs.Hashes.{Hash}
use Rattle.rules.specs.States.{State, Outcome}
use Rattle.rules.specs.Steps.{step, played}
use Rattle.index.specs.Replays.{Done, Replayed}

module _ {K V : Type 0} (order : K → K → Ordering) (digest : K → Hash) where
  -- the replies and the state after one call more at the end
  played_push : (st : State K V) (cs : List (Call K V)) (c : Call K V) →
      ((played order digest st (cs ++ c ∷ [])).0 ≡ (played order digest st cs).0 ++ (step order digest (played order digest st cs).1 c).0 ∷ [])
      × ((played order digest st (cs ++ c ∷ [])).1 ≡ (step order digest (played order digest st cs).1 c).1)
  played_push st [] c = (refl, refl)
  played_push st (x ∷ xs) c =
      let ih = played_push (step order digest st x).1 xs c in
      (ap (λ rs. (step order digest st x).0 ∷ rs) ih.0, ih.1)

  length-played : (st : State K V) (cs : List (Call K V)) → length (played order digest st cs).0 ≡ length cs
  length-played st [] = refl
  length-played st (x ∷ xs) = ap suc (length-played (step order digest st x).1 xs)

  module _ (st now : State K V) (cs : List (Call K V)) (i : ℕ) (c : Call K V) (r : Result (Reply V) IndexFault) (after : State K V)
      (within : i < length cs) (is : c ≡ get_or cs i c) (reached : now ≡ (played order digest st (take i cs)).1) (stepped : (r, after) ≡ step order digest now c) where
    taken : take (i + 1) cs ≡ take i cs ++ c ∷ []
    taken = take_more cs i c within ∙ ap (λ x. take i cs ++ x ∷ []) (sym is)

    answer : r ≡ (step order digest (played order digest st (take i cs)).1 c).0
    answer = ap (λ d. d.0) stepped ∙ ap (λ x. (step order digest x c).0) reached

    -- the state after one call more
    pub played_after : after ≡ (played order digest st (take (i + 1) cs)).1
    played_after =
        ap (λ d. d.1) stepped ∙ ap (λ x. (step order digest x c).1) reached
        ∙ sym (ap (λ xs. (played order digest st xs).1) taken ∙ (played_push st (take i cs) c).1)

    -- and the replies handed back
    pub played_replies : (old was : List (Result (Reply V) IndexFault)) → i < length old → was ≡ (played order digest st (take i cs)).0 ++ drop i old →
        set was i r ≡ (played order digest st (take (i + 1) cs)).0 ++ drop (i + 1) old
    played_replies old was room e =
        let front = (played order digest st (take i cs)).0 in
        let long : length front ≡ i = length-played st (take i cs) ∙ length-take-le i cs (omega arith) in
        ap (λ xs. set xs i r) (e ∙ ap (λ xs. front ++ xs) (drop_more old i r room))
        ∙ set_at front (get_or old i r) (drop (i + 1) old) r i long
        ∙ sym (append_assoc front (r ∷ []) (drop (i + 1) old))
        ∙ ap (λ xs. xs ++ drop (i + 1) old) (ap (λ x. front ++ x ∷ []) answer ∙ sym (ap (λ xs. (played order digest st xs).0) taken ∙ (played_push st (take i cs) c).0))

  -- a list of calls after an accepted making
  pub replay_done : (making : Outcome (Unit {0}) K V) (calls : List (Call K V)) (old replies : List (Result (Reply V) IndexFault)) (n : ℕ) (mid after : State K V) →
      (Ok tt, mid) ≡ making → Done order digest mid calls old n replies after → Replayed order digest making calls old (Ok n) replies after
  replay_done making calls old replies n mid after made done =
      subst (λ (m : Outcome (Unit {0}) K V). Replayed order digest m calls old (Ok n) replies after) made done
