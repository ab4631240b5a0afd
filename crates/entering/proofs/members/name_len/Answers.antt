use Rattle.std.proofs.Common.{◌≡◌, length, length-take, ap, ◌∙◌, arith, rules}
use Rattle.std.specs.List.{prefix_len}
use Rattle.std.proofs.lemmas.Iterator.{YieldsList-from_slice}
use Rattle.std.proofs.lemmas.Iterator.Search.{YieldsList-from_take_while}
use Rattle.std.proofs.lemmas.Iterator.Consumers.{count_from_yields_List, YieldsList-at}
use Rattle.values.specs.Limits.{name_byte}
use Rattle.entering.specs.Levels.{front_name}
use Rattle.entering.proofs.Bytes.{front_taken}
use Rattle.entering.proofs.members.name_len.Goals as goal

pub returns : goal.returns
returns c =
    let bs = c.args.bytes.now in
    let front = ap length (front_taken bs) in
    let counted : c.count.result ≡ length (front_name bs) = count_from_yields_List _ c.count.result c.count.ensures.ran (YieldsList-from_take_while _ name_byte (YieldsList-at c.take_while.ensures.source (YieldsList-from_slice bs c.iter.ensures.rest)) c.take_while.ensures.closure c.take_while.ensures.done (λ x b q k. search rules))
    ∙ front in
    omega (arith, counted, front, length-take (prefix_len name_byte bs) bs)
