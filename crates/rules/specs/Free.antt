-- Free places: their item is out, and no session under way stands there.
use Rattle.std.specs.Prelude.{ℕ, zero, suc, Bool, false, cond, not, ◌&&◌, ◌||◌, List, [], ◌∷◌, Some, None, Option, ◌==◌}
use Rattle.std.specs.List.{slice_get}
use Rattle.tables.specs.declared.item.Item.{Item}
use Rattle.tables.specs.declared.record.Core.{Core}
use Rattle.tables.specs.declared.session.Session.{Session}
use Rattle.tables.specs.declared.session.Stage.{Stage}
use Rattle.tables.specs.declared.session.Stage.TheVariants.{Idle, UnderWay, Ended}
use Rattle.tables.specs.Items.{is_out}
use Rattle.tables.specs.Sessions.{cursor_of}
use Rattle.rules.specs.States.{State}

abbrev pub is_at : ℕ → Option ℕ → Bool
is_at p None = false
is_at p (Some c) = c == p

-- a session at this stage stands on p
abbrev pub stands_on : ℕ → Stage → Bool
stands_on p Idle = false
stands_on p (UnderWay w) = is_at p (cursor_of w)
stands_on p (Ended o present) = false

abbrev pub is_stood_on : ℕ → List Session → Bool
is_stood_on p [] = false
is_stood_on p (s ∷ ss) = stands_on p s.stage || is_stood_on p ss

-- the place after p, round a table of n
abbrev pub place_after : ℕ → ℕ → ℕ
place_after n p = cond (suc p == n) 0 (suc p)

-- the first of so many places from p on that passes a test
abbrev pub first_from : (ℕ → Bool) → ℕ → ℕ → ℕ → Option ℕ
first_from test n p zero = None
first_from test n p (suc left) = cond (test p) (Some p) (first_from test n (place_after n p) left)

module _ {K V : Type 0} where
  -- the item at p, with the sessions of its index
  abbrev pub is_free_item : List Session → ℕ → Option (Item K V) → Bool
  is_free_item sessions p None = false
  is_free_item sessions p (Some it) = is_out it.state && not (is_stood_on p sessions)

  -- the first free place after the hand, round the table to the hand itself
  abbrev pub first_free_in : Core → List (Item K V) → Option ℕ
  first_free_in core items = first_from (λ p. is_free_item core.sessions p (slice_get items p)) core.places (place_after core.places core.hand) core.places

  abbrev pub is_free : State K V → ℕ → Bool
  is_free st p = is_free_item st.core.sessions p (slice_get st.items p)

  abbrev pub first_free : State K V → Option ℕ
  first_free st = first_free_in st.core st.items
