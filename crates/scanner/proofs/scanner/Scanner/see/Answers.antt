use Rattle.std.proofs.Common.{◌+◌, Ok, Err, refl, sym, subst}
use Rattle.scanner.specs.Views.{ahead, Sees}
use Rattle.scanner.proofs.Cuts.{Seen, seen}
use Rattle.scanner.proofs.scanner.Scanner.see.Goals.{in-Ok-Some, in-Ok-None, in-Err}
use Rattle.scanner.proofs.scanner.Scanner.see.Goals as goal

pub returns : goal.returns
unfolding ahead
returns c =
    let s = c.args.self.now in
    let p = s.at + c.blanks.result in
    elim c.match-front_token.branch [
      | in-Ok-Some w ↦
          let one = subst (λ o. Seen s.model.now s.at p (Ok o)) w.in-Ok-Some.field-0-is (seen s.model.now s.at c.blanks.result (Ok w.in-Ok-Some.field-0) c.blanks.ensures.0 w.in-Ok-Some.ensures) in
          subst (λ e. Sees s p e.0 e.1) (sym w.end-is) (one.0, one.2)
      | in-Ok-None w ↦
          let end = subst (λ o. Seen s.model.now s.at p (Ok o)) w.in-Ok-None.field-0-is (seen s.model.now s.at c.blanks.result (Ok w.in-Ok-None.field-0) c.blanks.ensures.0 w.in-Ok-None.ensures) in
          subst (λ e. Sees s p e.0 e.1) (sym w.end-is) (end, refl)
      | in-Err w ↦
          subst (λ e. Sees s p e.0 e.1) (sym w.end-is) (seen s.model.now s.at c.blanks.result (Err w.in-Err.field-0) c.blanks.ensures.0 w.in-Err.ensures, refl)
    ]
