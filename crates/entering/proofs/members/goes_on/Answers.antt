use Rattle.std.proofs.Common.{◌<◌, length, rules}
use Rattle.std.proofs.lemmas.Slice.Eq.{starts_is}
use Rattle.entering.proofs.Bytes.{goes_on_decides}
use Rattle.entering.proofs.members.goes_on.Goals as goal
use Rattle.std.proofs.lemmas.Bool.Decides.{Decides-eqb}

pub returns-then-not-is_empty : goal.returns-then-not-is_empty
returns-then-not-is_empty c =
    let s = c.args.bytes.now in
    let p = c.args.prefix.now in
    let some : 0 < length s = search rules in
    goes_on_decides p s c.starts_with.result some (starts_is Decides-eqb s p c.starts_with.result c.starts_with.ensures.value)
