-- A record with one part changed.
use Rattle.std.specs.Prelude.{ℕ}
use Rattle.tables.specs.declared.record.Core.{Core}
use Rattle.tables.specs.declared.session.Session.{Session}
use Rattle.tables.specs.Lists.{modify}

-- one session changed
abbrev pub in_session : ℕ → (Session → Session) → Core → Core
in_session s f core = record { sessions = modify f s core.sessions; bits = core.bits; places = core.places; hand = core.hand; made = core.made }

abbrev pub with_hand : ℕ → Core → Core
with_hand hand core = record { sessions = core.sessions; bits = core.bits; places = core.places; hand = hand; made = core.made }
