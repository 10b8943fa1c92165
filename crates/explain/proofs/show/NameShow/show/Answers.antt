use Rattle.std.proofs.Common.{◌≡◌, ℕ, ◌+◌, ◌<◌, List, [], ◌++◌, length, get_or, take, sym, ap, ◌∙◌}
use Rattle.std.specs.List.{flat_map}
use Rattle.std.proofs.lemmas.List.{take_more, flat_map_more}
use Rattle.text.proofs.Adding.{added_twice}
use Rattle.explain.specs.Explained.{byte_text}
use Rattle.explain.proofs.Lengths.{name_short}
use Rattle.explain.proofs.show.NameShow.show.Goals as goal

-- one byte more is shown
shown_more : (bs : List ℕ) (i : ℕ) → i < length bs → flat_map byte_text (take (i + 1) bs) ≡ flat_map byte_text (take i bs) ++ byte_text (get_or bs i 0)
shown_more bs i h = ap (flat_map byte_text) (take_more bs i 0 h) ∙ sym (flat_map_more byte_text [] (take i bs) (get_or bs i 0))

pub loop-byte-preserved : goal.loop-byte-preserved
loop-byte-preserved g c =
    rw (c.show_byte.ensures, c.loop-byte.invariant, added_twice, shown_more c.used-byte-items.result.now c.loop-byte.byte-index c.loop-byte-test.true)

pub returns-clause-short : goal.returns-clause-short
returns-clause-short g c = name_short c.args.self
