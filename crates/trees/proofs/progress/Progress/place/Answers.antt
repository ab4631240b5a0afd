use Rattle.std.proofs.Common.{sym, ap, ◌∙◌}
use Rattle.trees.specs.Files.{split}
use Rattle.trees.specs.Contents.{answer}
use Rattle.trees.specs.Following.{placed}
use Rattle.trees.proofs.Taking.{placed_within}
use Rattle.trees.proofs.progress.Progress.place.Goals as goal

pub returns-in-None : goal.returns-in-None
returns-in-None c =
    let p = split 47 c.args.path.now in
    let e = ap (λ l. answer (placed l p)) (sym c.in-None.is) in
    record { place = e; within = placed_within c.args.self.now.last c.args.path.now _ e }

pub returns-in-Some : goal.returns-in-Some
returns-in-Some c =
    let p = split 47 c.args.path.now in
    let e = c.shared_names.ensures ∙ ap (λ l. answer (placed l p)) (sym c.in-Some.is) in
    record { place = e; within = placed_within c.args.self.now.last c.args.path.now _ e }
