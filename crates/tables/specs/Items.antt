-- Items and requests with one part changed. Nothing else makes an item or a request from another.
use Rattle.std.specs.Prelude.{ℕ, Bool, true, false}
use Rattle.tables.specs.declared.item.Item.{Item}
use Rattle.tables.specs.declared.item.ItemState.{ItemState}
use Rattle.tables.specs.declared.item.ItemState.TheVariants.{Out, SetAside, InRing}
use Rattle.tables.specs.declared.request.Request.{Request}

abbrev pub is_out : ItemState → Bool
is_out Out = true
is_out SetAside = false
is_out InRing = false

abbrev pub is_in_ring : ItemState → Bool
is_in_ring Out = false
is_in_ring SetAside = false
is_in_ring InRing = true

module _ {K V : Type 0} where
  abbrev pub with_state : ItemState → Item K V → Item K V
  with_state state it = record { state = state; key = it.key; value = it.value; next = it.next; occupied = it.occupied }

  abbrev pub with_next : ℕ → Item K V → Item K V
  with_next next it = record { state = it.state; key = it.key; value = it.value; next = next; occupied = it.occupied }

  abbrev pub with_mark : Bool → Item K V → Item K V
  with_mark occupied it = record { state = it.state; key = it.key; value = it.value; next = it.next; occupied = occupied }

  abbrev pub with_value : V → Item K V → Item K V
  with_value value it = record { state = it.state; key = it.key; value = value; next = it.next; occupied = it.occupied }

  -- set aside for this key and value, with itself as next
  abbrev pub prepared_at : ℕ → K → V → Item K V → Item K V
  prepared_at place key value it = record { state = SetAside; key = key; value = value; next = place; occupied = it.occupied }

  -- out, unoccupied and with itself as next
  abbrev pub blank_at : ℕ → Item K V → Item K V
  blank_at place it = record { state = Out; key = it.key; value = it.value; next = place; occupied = false }

  -- the session's answer
  abbrev pub with_answer : V → Request K V → Request K V
  with_answer value r = record { key = r.key; value = value }

  -- a new request
  abbrev pub with_request : K → V → Request K V → Request K V
  with_request key value r = record { key = key; value = value }
