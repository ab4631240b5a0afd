use Rattle.std.proofs.Common.{◌≡◌, length, get_or, sym, ap, rules}
use Rattle.commands.specs.Words.{one_word}
use Rattle.commands.proofs.Parting.{no_one, six_letters}
use Rattle.commands.proofs.reads.one_word.Goals as goal

pub returns-in-caches : goal.returns-in-caches
returns-in-caches c =
    let w = c.args.word.now in
    let six : length w ≡ 6 = search rules in
    let c0 : get_or w 0 0 ≡ 99 = search rules in
    let a1 : get_or w 1 0 ≡ 97 = search rules in
    let c2 : get_or w 2 0 ≡ 99 = search rules in
    let h3 : get_or w 3 0 ≡ 104 = search rules in
    let e4 : get_or w 4 0 ≡ 101 = search rules in
    let s5 : get_or w 5 0 ≡ 115 = search rules in
    sym (ap one_word (six_letters w six c0 a1 c2 h3 e4 s5))

pub returns-in_default : goal.returns-in_default
returns-in_default c = no_one c.args.word.now (λ e. search rules) (λ e. search rules)
