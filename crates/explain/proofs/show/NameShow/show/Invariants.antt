use Rattle.std.proofs.Common.{◌≡◌, ◌++◌, codes, take}
use Rattle.std.specs.List.{flat_map}
use Rattle.text.specs.Kept.{added}
use Rattle.explain.specs.Explained.{byte_text}
use Rattle.explain.proofs.show.NameShow.show.Given as goal

abbrev pub invariant-loop-byte : goal.invariant-loop-byte
invariant-loop-byte g l = l.out ≡ added g.row.N l.fn.out (codes "name " ++ flat_map byte_text (take l.byte-index l.byte-items))
