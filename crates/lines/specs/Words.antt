-- The words of a line.
use Rattle.std.specs.Prelude.{ℕ, List, [], ◌∷◌, codes, Option}
use Rattle.std.specs.List.{find}
use Rattle.std.specs.Str.{bytes_eq}
use Rattle.calls.specs.declared.operation.Operation.{Operation}
use Rattle.calls.specs.declared.operation.Operation.TheVariants.{Find, Insert, Write, Replace, Remove, Point}
use Rattle.lines.specs.declared.word.Letter.{Letter}
use Rattle.lines.specs.declared.word.Letter.TheVariants.{B, S}
use Rattle.lines.specs.declared.word.Verb.{Verb}
use Rattle.lines.specs.declared.word.Verb.TheVariants.{Begin, Turn, Collect, Abandon}

-- the first of a list of words that the bytes spell
abbrev pub first_of : {W : Type 0} → (W → List ℕ) → List W → List ℕ → Option W
first_of spelled ws bs = find (λ w. bytes_eq bs (spelled w)) ws

abbrev pub letter : Letter → List ℕ
letter B = codes "B"
letter S = codes "S"

abbrev pub letter_of : List ℕ → Option Letter
letter_of = first_of letter (B ∷ S ∷ [])

abbrev pub verb : Verb → List ℕ
verb Begin = codes "begin"
verb Turn = codes "turn"
verb Collect = codes "collect"
verb Abandon = codes "abandon"

abbrev pub verb_of : List ℕ → Option Verb
verb_of = first_of verb (Begin ∷ Turn ∷ Collect ∷ Abandon ∷ [])

abbrev pub operation : Operation → List ℕ
operation Find = codes "find"
operation Insert = codes "insert"
operation Write = codes "write"
operation Replace = codes "replace"
operation Remove = codes "remove"
operation Point = codes "point"

abbrev pub operation_of : List ℕ → Option Operation
operation_of = first_of operation (Find ∷ Insert ∷ Write ∷ Replace ∷ Remove ∷ Point ∷ [])
