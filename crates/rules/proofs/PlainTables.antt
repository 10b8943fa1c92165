-- What the entries of a plain table hold, and how many they are, after one of them is put.
use Rattle.std.proofs.Common.{◌≡◌, suc, ◌⊎◌, List, [], ◌∷◌, length, Some, None, Option, sym, refl, ap, ◌∙◌, inl, inr, arith}
use Rattle.std.proofs.lemmas.Bool.{cond_both}
use Rattle.std.specs.declared.cmp.Ordering.{Ordering}
use Rattle.std.specs.declared.cmp.Ordering.TheVariants.{Less, Equal, Greater}
use Rattle.std.specs.Ordering.{is_eq}
use Rattle.keys.specs.Orders.{Lawful}
use Rattle.keys.proofs.Preorders.{total_preorder}
use Rattle.calls.specs.declared.operation.Operation.{Operation}
use Rattle.calls.specs.declared.operation.Operation.TheVariants.{Insert, Write, Replace, Remove}
use Rattle.calls.specs.Operations.{leaves}
use Rattle.rules.specs.Plain.{found, stored, deleted, put, Apart}

-- two keys are alike or not
pub alike_cases : (o : Ordering) → (o ≡ Equal) ⊎ (o ≡ Equal → ⊥)
alike_cases Less = inr (λ e. cc)
alike_cases Equal = inl refl
alike_cases Greater = inr (λ e. cc)

module _ {K V : Type 0} (order : K → K → Ordering) where
  -- a value stored at a key that is present leaves as many entries
  pub length_stored_present : (x : K) (v u : V) (es : List (K × V)) → found order x es ≡ Some u → length (stored order x v es) ≡ length es
  length_stored_present x v u [] h = absurd cc
  length_stored_present x v u (e ∷ es) h = let ih = length_stored_present x v u es in grind arith

  -- a value stored at a key that is absent adds one entry
  pub length_stored_absent : (x : K) (v : V) (es : List (K × V)) → found order x es ≡ None → length (stored order x v es) ≡ suc (length es)
  length_stored_absent x v [] h = refl
  length_stored_absent x v (e ∷ es) h = let ih = length_stored_absent x v es in grind arith

  -- a key that is present, deleted, takes one entry off
  pub length_deleted_present : (x : K) (u : V) (es : List (K × V)) → found order x es ≡ Some u → suc (length (deleted order x es)) ≡ length es
  length_deleted_present x u [] h = absurd cc
  length_deleted_present x u (e ∷ es) h = let ih = length_deleted_present x u es in grind arith

  -- a key that is absent, deleted, changes nothing
  pub deleted_absent : (x : K) (es : List (K × V)) → found order x es ≡ None → deleted order x es ≡ es
  deleted_absent x [] h = refl
  deleted_absent x (e ∷ es) h = let ih = deleted_absent x es in grind arith

  -- what is absent is absent after a key is deleted
  pub deleted_none : (x y : K) (es : List (K × V)) → found order y es ≡ None → found order y (deleted order x es) ≡ None
  deleted_none x y [] h = refl
  deleted_none x y (e ∷ es) h = let ih = deleted_none x y es in grind arith

  -- deleting keeps keys apart
  pub apart_deleted : (x : K) (es : List (K × V)) → Apart order es → Apart order (deleted order x es)
  apart_deleted x [] a = tt
  apart_deleted x (e ∷ es) a =
      cond_both (is_eq (order e.0 x)) es (e ∷ deleted order x es) (Apart order) (λ t. a.1)
      (λ t. (deleted_none x e.0 es a.0, apart_deleted x es a.1))

module _ {K V : Type 0} {order : K → K → Ordering} (laws : Lawful order) where
  -- alike keys have the same value
  pub found_alike : (x y : K) (es : List (K × V)) → order x y ≡ Equal → found order x es ≡ found order y es
  found_alike x y [] h = refl
  found_alike x y (e ∷ es) h =
      let ih = found_alike x y es h in
      let r = (total_preorder laws).alike_right x y e.0 h in
      grind arith

  -- a value stored at a key is found there
  pub found_stored_same : (x y : K) (v : V) (es : List (K × V)) → order x y ≡ Equal → found order y (stored order x v es) ≡ Some v
  found_stored_same x y v [] h = grind arith
  found_stored_same x y v (e ∷ es) h =
      let ih = found_stored_same x y v es h in
      let r = (total_preorder laws).alike_right x y e.0 h in
      grind arith

  -- and what another key has stays
  pub found_stored_other : (x y : K) (v : V) (es : List (K × V)) → (order x y ≡ Equal → ⊥) → found order y (stored order x v es) ≡ found order y es
  found_stored_other x y v [] h = grind arith
  found_stored_other x y v (e ∷ es) h =
      let ih = found_stored_other x y v es h in
      let r = (total_preorder laws).alike_left e.0 x y in
      grind arith

  -- a key that is deleted is absent
  pub found_deleted_same : (x y : K) (es : List (K × V)) → Apart order es → order x y ≡ Equal → found order y (deleted order x es) ≡ None
  found_deleted_same x y [] a h = refl
  found_deleted_same x y (e ∷ es) a h =
      let ih = found_deleted_same x y es a.1 h in
      let r = (total_preorder laws).alike_right x y e.0 h in
      let s = found_alike e.0 y es in
      let t = a.0 in
      grind arith

  -- and what another key has stays
  pub found_deleted_other : (x y : K) (es : List (K × V)) → (order x y ≡ Equal → ⊥) → found order y (deleted order x es) ≡ found order y es
  found_deleted_other x y [] h = refl
  found_deleted_other x y (e ∷ es) h =
      let ih = found_deleted_other x y es h in
      let r = (total_preorder laws).alike_left e.0 x y in
      grind arith

  -- storing keeps keys apart
  pub apart_stored : (x : K) (v : V) (es : List (K × V)) → Apart order es → Apart order (stored order x v es)
  apart_stored x v [] a = (refl, tt)
  apart_stored x v (e ∷ es) a =
      cond_both (is_eq (order e.0 x)) ((e.0, v) ∷ es) (e ∷ stored order x v es) (Apart order) (λ t. (a.0, a.1))
      (λ t.
      let r = (total_preorder laws).alike_turned x e.0 in
      let far : order x e.0 ≡ Equal → ⊥ = grind arith in
      (found_stored_other x e.0 v es far ∙ a.0, apart_stored x v es a.1))

  -- a key has what is put there
  pub found_put_same : (x y : K) (o : Option V) (es : List (K × V)) → Apart order es → order x y ≡ Equal → found order y (put order x o es) ≡ o
  found_put_same x y None es a h = found_deleted_same x y es a h
  found_put_same x y (Some v) es a h = found_stored_same x y v es h

  -- and what another key has stays
  pub found_put_other : (x y : K) (o : Option V) (es : List (K × V)) → (order x y ≡ Equal → ⊥) → found order y (put order x o es) ≡ found order y es
  found_put_other x y None es h = found_deleted_other x y es h
  found_put_other x y (Some v) es h = found_stored_other x y v es h

  -- putting keeps keys apart
  pub apart_put : (x : K) (o : Option V) (es : List (K × V)) → Apart order es → Apart order (put order x o es)
  apart_put x None es a = apart_deleted order x es a
  apart_put x (Some v) es a = apart_stored x v es a

  -- a key that has again what it had changes nothing that is found
  pub found_put_back : (x y : K) (o : Option V) (es : List (K × V)) → Apart order es → found order x es ≡ o → found order y (put order x o es) ≡ found order y es
  found_put_back x y o es a h =
      elim (alike_cases (order x y)) [
        | inl e ↦ found_put_same x y o es a e ∙ sym h ∙ found_alike x y es e
        | inr far ↦ found_put_other x y o es far
      ]

module _ {K V : Type 0} (order : K → K → Ordering) where
  -- a key that has again what it had leaves as many entries
  pub length_put_back : (x : K) (o : Option V) (es : List (K × V)) → found order x es ≡ o → length (put order x o es) ≡ length es
  length_put_back x None es h = ap length (deleted_absent order x es h)
  length_put_back x (Some v) es h = length_stored_present order x v v es h

  -- what an operation puts, by what was found: an insert that found nothing stores, a replace or a write that
  -- found something stores, a remove deletes, and every other case puts back what was found
  pub put_done : (op : Operation) (x : K) (v : V) (o : Option V) (es : List (K × V)) → found order x es ≡ o →
      put order x (leaves op v (found order x es)) es ≡ put order x (leaves op v o) es
  put_done op x v o es h = ap (λ before. put order x (leaves op v before) es) h

  -- an insert that found nothing adds one entry
  pub length_inserted : (x : K) (v : V) (es : List (K × V)) → found order x es ≡ None → length (put order x (leaves Insert v (found order x es)) es) ≡ suc (length es)
  length_inserted x v es h = ap length (put_done Insert x v None es h) ∙ length_stored_absent order x v es h

  -- a replace or a write that found something leaves as many
  pub length_replaced : (x : K) (v u : V) (es : List (K × V)) → found order x es ≡ Some u → length (put order x (leaves Replace v (found order x es)) es) ≡ length es
  length_replaced x v u es h = ap length (put_done Replace x v (Some u) es h) ∙ length_stored_present order x v u es h

  pub length-written : (x : K) (v u : V) (es : List (K × V)) → found order x es ≡ Some u → length (put order x (leaves Write v (found order x es)) es) ≡ length es
  length-written x v u es h = ap length (put_done Write x v (Some u) es h) ∙ length_stored_present order x v u es h

  -- a remove that found something takes one entry off
  pub length_removed : (x : K) (v u : V) (es : List (K × V)) → found order x es ≡ Some u → suc (length (put order x (leaves Remove v (found order x es)) es)) ≡ length es
  length_removed x v u es h = length_deleted_present order x u es h
