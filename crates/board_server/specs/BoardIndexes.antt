-- The state of a board's index.
use Rattle.std.specs.Prelude.{false, replicate, vec_items}
use Rattle.rules.specs.Making.{blank_core, made}
use Rattle.rules.specs.States.{State, state}
use Rattle.tables.specs.declared.item.Item.{Item}
use Rattle.tables.specs.declared.item.ItemState.TheVariants.{Out}
use Rattle.board_server.specs.declared.board_index.BoardIndex.{BoardIndex}

abbrev pub state_of : {B K V : Type 0} {board : _} {key : _} → BoardIndex B K V board key → State K V
state_of i = state i.record.core (vec_items i.heads) (vec_items i.items) (vec_items i.requests)

-- an item that was never made
abbrev pub new_item : {K V : Type 0} → K → V → Item K V
new_item key value = record { state = Out; key = key; value = value; next = 0; occupied = false }

-- tables of 16 heads, 64 items and 16 requests, with this key and value throughout
abbrev pub filled : {K V : Type 0} → K → V → State K V
filled key value =
    state blank_core (replicate 16 0) (replicate 64 (new_item key value)) (replicate 16 (record { key = key; value = value }))

-- an index of 4 head bits, made in them
abbrev pub new_state : {K V : Type 0} → K → V → State K V
new_state key value = made 4 (filled key value)
