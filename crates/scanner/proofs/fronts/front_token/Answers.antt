use Rattle.std.proofs.Common.{◌≡◌, ◌<◌, length, get_or, rules}
use Rattle.scanner.proofs.Quotes.{text_begins}
use Rattle.scanner.proofs.fronts.front_token.Goals as goal

pub returns-in_ok-n-in-34 : goal.returns-in_ok-n-in-34
returns-in_ok-n-in-34 c =
    let l = c.args.bytes.now in
    let long : 0 < length l = search rules in
    let first : get_or l 0 0 ≡ 34 = search rules in
    text_begins l c.in_ok-n-in-34.n long first c.in_ok-n-in-34.ensures.counted
