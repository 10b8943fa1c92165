-- What every record keeps: its places lie in its tables.
use Rattle.std.specs.Prelude.{ℕ, Bool, true, not, ◌&&◌, ◌||◌, List, [], ◌∷◌, Some, None, Option, nat_le, nat_lt}
use Rattle.tables.specs.declared.record.Core.{Core}
use Rattle.tables.specs.declared.session.Session.{Session}
use Rattle.tables.specs.declared.session.Stage.{Stage}
use Rattle.tables.specs.declared.session.Stage.TheVariants.{Idle, UnderWay, Ended}
use Rattle.tables.specs.Sessions.{aside_of, cursor_of, claim_of, job_of}

-- no place, or one below n
abbrev pub is_below : ℕ → Option ℕ → Bool
is_below n None = true
is_below n (Some p) = nat_lt p n

abbrev pub is_stage_within : ℕ → Stage → Bool
is_stage_within n Idle = true
is_stage_within n (UnderWay w) = is_below n (aside_of (job_of w)) && is_below n (cursor_of w) && is_below n (claim_of w)
is_stage_within n (Ended o present) = true

-- a session's places are below n, and its find count is 0 to 4
abbrev pub is_session_within : ℕ → Session → Bool
is_session_within n s = is_stage_within n s.stage && nat_le s.finds 4

abbrev pub are_within : ℕ → List Session → Bool
are_within n [] = true
are_within n (s ∷ ss) = is_session_within n s && are_within n ss

-- at most 8 head bits and 4096 places; the sessions' places are among them, and the hand if the record was made
abbrev pub is_within : Core → Bool
is_within core =
    nat_le core.bits 8 && nat_le core.places 4096 && (not core.made || nat_lt core.hand core.places) && are_within core.places core.sessions
