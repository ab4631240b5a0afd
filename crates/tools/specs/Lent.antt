-- What replies in lent memory mean. Assumes nothing.
use Rattle.std.specs.Prelude.{Some, None, Option as Perhaps, Ok, Err, Result}
use Rattle.std.proofs.Math.Option.{Option, none, some}
use Rattle.tools.specs.Tools.{Reply, fetch, product, failure}
use Rattle.tools.specs.Calls.{code}
use Rattle.tools.specs.declared.replies.Reply.{Reply as Replied}
use Rattle.tools.specs.declared.replies.Reply.TheVariants.{Fetch, Product, Failure}
use Rattle.tools.specs.declared.replies.Failed.{Failed}

-- what a reply in lent memory says
abbrev pub says : Replied → Reply
says (Fetch path) = fetch path.now
says (Product text) = product text.now
says (Failure code) = failure code

-- what is replied, if anything is
abbrev pub replied : Perhaps Replied → Option Reply
replied None = none
replied (Some r) = some (says r)

-- how a step of a `lent::Tool` ends
abbrev pub ends : Result Replied Failed → Reply
ends (Ok r) = says r
ends (Err failed) = failure (code failed)
