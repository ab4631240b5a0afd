use Rattle.std.proofs.Common.{rules}
use Rattle.std.proofs.lemmas.Iterator.{YieldsList-from_slice}
use Rattle.std.proofs.lemmas.Iterator.Search.{YieldsList-from_take_while}
use Rattle.std.proofs.lemmas.Iterator.Consumers.{count_from_yields_List, YieldsList-at}
use Rattle.grammar.specs.Tokens.{blank}
use Rattle.scanner.proofs.Cuts.{run_is}
use Rattle.scanner.proofs.runs.blanks.Goals as goal

pub returns : goal.returns
returns c =
    let items = YieldsList-at c.take_while.ensures.source (YieldsList-from_slice c.args.bytes.now c.iter.ensures.rest) in
    run_is blank c.args.bytes.now c.count.result (count_from_yields_List _ c.count.result c.count.ensures.ran (YieldsList-from_take_while _ blank items c.take_while.ensures.closure c.take_while.ensures.done (λ x b q k. search rules)))
