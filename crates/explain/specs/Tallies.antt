-- How many lines were accepted and refused. A count that is full, at 2 ^ 64 - 1, stays so.
use Rattle.std.specs.Prelude.{ℕ, ◌+◌, min, Bool, true, false, List, ◌++◌, codes, decimal}
use Rattle.explain.specs.declared.tally.Tally.{Tally}

abbrev pub tally : ℕ → ℕ → Tally
tally accepted refused = record { accepted = accepted; refused = refused }

abbrev pub capped : ℕ → ℕ
capped n = min n 18446744073709551615

-- one line more
abbrev pub counted : Bool → Tally → Tally
counted true t = tally (capped (t.accepted + 1)) t.refused
counted false t = tally t.accepted (capped (t.refused + 1))

-- the last line of the output, before its end
abbrev pub tally_text : Tally → List ℕ
tally_text t =
    decimal (capped (t.accepted + t.refused)) ++ codes " lines: " ++ decimal t.accepted ++ codes " accepted, " ++ decimal t.refused ++ codes " refused"
