-- What a session is about.
use Rattle.std.specs.Prelude.{ℕ, ◌+◌, Bool, cond, Some, None, Option, nat_lt}
use Rattle.calls.specs.declared.operation.Operation.{Operation}
use Rattle.calls.specs.declared.operation.Operation.TheVariants as operation
use Rattle.tables.specs.declared.session.Job.{Job}
use Rattle.tables.specs.declared.session.Job.TheVariants.{Find, Insert, Write, Replace, Remove, Point}
use Rattle.tables.specs.declared.session.Work.{Work}
use Rattle.tables.specs.declared.session.Work.TheVariants.{Seeking, Replacing, Removing}
use Rattle.tables.specs.declared.session.Stage.{Stage}
use Rattle.tables.specs.declared.session.Stage.TheVariants.{Idle, Ended}
use Rattle.tables.specs.declared.session.Session.{Session}

abbrev pub operation_of : Job → Operation
operation_of Find = operation.Find
operation_of (Insert x) = operation.Insert
operation_of Write = operation.Write
operation_of (Replace x) = operation.Replace
operation_of Remove = operation.Remove
operation_of Point = operation.Point

-- the place that a job set aside
abbrev pub aside_of : Job → Option ℕ
aside_of Find = None
aside_of (Insert x) = Some x
aside_of Write = None
aside_of (Replace x) = Some x
aside_of Remove = None
aside_of Point = None

abbrev pub job_of : Work → Job
job_of (Seeking job cursor) = job
job_of (Replacing x pair) = Replace x
job_of (Removing pair) = Remove

-- the place that the work stands on
abbrev pub cursor_of : Work → Option ℕ
cursor_of (Seeking job cursor) = cursor
cursor_of (Replacing x pair) = Some pair.0
cursor_of (Removing pair) = Some pair.0

-- the place that the work has claimed
abbrev pub claim_of : Work → Option ℕ
claim_of (Seeking job cursor) = None
claim_of (Replacing x pair) = Some pair.1
claim_of (Removing pair) = Some pair.1

-- the session at another stage
abbrev pub at_stage : Stage → Session → Session
at_stage stage s = record { stage = stage; finds = s.finds }

-- a new session
abbrev pub idle : Session
idle = record { stage = Idle; finds = 0 }

-- every ended find counts, and the fifth sets the count to 0
abbrev pub finds_after : Operation → ℕ → ℕ
finds_after operation.Find finds = cond (nat_lt finds 4) (finds + 1) 0
finds_after operation.Insert finds = finds
finds_after operation.Write finds = finds
finds_after operation.Replace finds = finds
finds_after operation.Remove finds = finds
finds_after operation.Point finds = finds

-- the session keeps its operation and whether it was present
abbrev pub ended_as : Operation → Bool → Session → Session
ended_as o present s = record { stage = Ended o present; finds = finds_after o s.finds }
