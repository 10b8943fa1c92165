-- Where a search for the first comma ends.
use Rattle.std.proofs.Common.{◌≡◌, ℕ, List, length, ◌==◌, position, arith}
use Rattle.std.specs.Option.{unwrap_or}
use Rattle.std.specs.List.{prefix_len}
use Rattle.std.proofs.lemmas.List.Sums.{prefix_len-le-length}
use Rattle.std.proofs.lemmas.Bool.Decides.{nat_tests}
use Rattle.lines.specs.Fields.{is_inside}

pub comma_or_end : (bs : List ℕ) → unwrap_or (position (λ b. b == 44) bs) (length bs) ≡ prefix_len is_inside bs
comma_or_end bs = grind (arith, nat_tests, prefix_len-le-length is_inside bs)
