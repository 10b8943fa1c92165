-- What each operation means for the one key that it names.
use Rattle.std.specs.Prelude.{Some, None, Option}
use Rattle.calls.specs.declared.operation.Operation.{Operation}
use Rattle.calls.specs.declared.operation.Operation.TheVariants.{Find, Insert, Write, Replace, Remove, Point}

module _ {V : Type 0} (value : V) where
  -- an absent key takes the value; a present one keeps its own
  abbrev pub inserted : Option V → Option V
  inserted None = Some value
  inserted (Some old) = Some old

  -- a present key takes the value; an absent one stays so
  abbrev pub written : Option V → Option V
  written None = None
  written (Some old) = Some value

-- what the key has after the operation, by what it had before
abbrev pub leaves : {V : Type 0} → Operation → V → Option V → Option V
leaves Find value before = before
leaves Insert value before = inserted value before
leaves Write value before = written value before
leaves Replace value before = written value before
leaves Remove value before = None
leaves Point value before = before
