use Rattle.std.proofs.Common.{◌≡◌, ℕ, ◌+◌, ◌-◌, ◌≤◌, min, List, ◌++◌, length, take, sym, ap, ◌∙◌, arith}
use borrow.Rule.Slice.PartMut.{put_mid}
use lib.Seq.{take-append-add}
use Rattle.std.proofs.lemmas.Grind.{common_steps}
use Rattle.std.proofs.lemmas.List.{length-take, length-take-le}
use Rattle.std.proofs.lemmas.Slice.{take-put_mid}
use Rattle.text.specs.Kept.{added}
use Rattle.text.proofs.bounded.Text.push_bytes.Goals as goal

-- as many bytes as there is room for come behind the first m of n
filled : (n m j : ℕ) (bs more : List ℕ) → length bs ≡ n → m ≤ n → j ≡ min (length more) (n - m) → take m bs ++ take j more ≡ added n (take m bs) more
unfolding added
filled n m j bs more e le d =
    let room : n ≡ length (take m bs) + (n - m) = omega (arith, length-take-le m bs (omega arith)) in
    let few : take j more ≡ take (n - m) more = grind (arith, common_steps) in
    ap (λ xs. take m bs ++ xs) few ∙ sym (ap (λ k. take k (take m bs ++ more)) room ∙ take-append-add (take m bs) more (n - m))

-- what the first bytes are after the write
written : (n m j i k : ℕ) (bs more part : List ℕ) → length bs ≡ n → m ≤ n → j ≡ min (length more) (n - m) → part ≡ take i more → i ≡ j → take (m + j) (put_mid m k bs part) ≡ added n (take m bs) more
written n m j i k bs more part e le d p q =
    let long : length part ≡ j = ap length p ∙ omega (arith, length-take i more) in
    take-put_mid m k bs part (m + j) (omega arith) (omega arith) ∙ ap (λ xs. take m bs ++ xs) (p ∙ ap (λ x. take x more) q) ∙ filled n m j bs more e le d

pub returns : goal.returns
returns g c =
    let self = c.self.inside in
    let more = c.args.more.now in
    written g.row.N self.len c.min.result _ _ self.bytes more c.copy_from_slice.new.self c.self.told self.within c.min.ensures c.copy_from_slice.ensures.after (omega arith) ∙ ap (λ t. added g.row.N t more) c.self.view_is
