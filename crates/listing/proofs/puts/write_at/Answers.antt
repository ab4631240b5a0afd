use Rattle.std.proofs.Common.{◌≡◌, suc, ◌+◌, ◌∷◌, ◌++◌, length, take, drop, get_or, set, sym, ap, ◌∙◌, arith, rules}
use Rattle.listing.proofs.Filling.{pair_set, pair_is}
use Rattle.listing.proofs.puts.write_at.Goals as goal

pub returns-in-len2 : goal.returns-in-len2
returns-in-len2 c =
    let old = c.args.buffer.now in
    let at = c.args.at in
    let xs = c.args.bytes.now in
    let two : length xs ≡ 2 = search rules in
    let next : at + 1 ≡ suc at = omega arith in
    let end : suc (suc at) ≡ at + length xs = omega arith in
    ap (λ i. set (set old at (get_or xs 0 0)) i (get_or xs 1 0)) next
    ∙ pair_set old at (get_or xs 0 0) (get_or xs 1 0) (omega (arith, c.requires))
    ∙ ap (λ i. take at old ++ (get_or xs 0 0 ∷ get_or xs 1 0 ∷ drop i old)) end
    ∙ ap (λ l. take at old ++ (l ++ drop (at + length xs) old)) (sym (pair_is xs two))
