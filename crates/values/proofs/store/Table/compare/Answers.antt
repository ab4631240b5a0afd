use Rattle.std.proofs.Common.{◌≡◌, Some, None, vec_len, ◌∙◌, rules}
use Rattle.values.specs.Index.{content_key, side}
use Rattle.values.specs.Memory.{key_of}
use Rattle.values.proofs.Searches.{sided}
use Rattle.values.proofs.store.Table.compare.Goals as goal

pub returns-in-Some : goal.returns-in-Some
returns-in-Some c =
    let told : c.cmp.result ≡ side (key_of c.args.self.now) (vec_len c.args.self.now.nodes) (content_key c.args.sought) c.args.n = c.cmp.ensures ∙ sided c.args.self.now c.args.sought c.args.n (Some c.in-Some.content) c.in-Some.ensures.is c.in-Some.ensures.known in
    search (told, rules)

pub returns-in-None : goal.returns-in-None
returns-in-None c = sided c.args.self.now c.args.sought c.args.n None c.in-None.ensures.is c.in-None.ensures.known
