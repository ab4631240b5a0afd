use Rattle.std.proofs.Common.{◌≡◌, ℕ, ◌+◌, ◌-◌, true, false, ◌∷◌, ◌++◌, Err, Some, None, length, get_or, take, replicate, sym, refl, ap, ◌∙◌, subst, arith, rules}
use Rattle.trees.specs.declared.answers.Refusal.TheVariants.{Disordered}
use Rattle.trees.specs.Files.{split}
use Rattle.trees.specs.Raw.{raw_leaf, raw_line}
use Rattle.trees.specs.Progress.{in_limits}
use Rattle.trees.specs.Following.{Takes}
use Rattle.trees.proofs.Taking.{line_disordered, line_past_limit, line_taken, too_deep}
use Rattle.trees.proofs.progress.Progress.take_line.Goals as goal
use Rattle.trees.proofs.progress.Progress.take_line.Goals.{then-names-via-then-names, then-names-via-else-names+then-not-within_limits}

pub returns-in_err-shared : goal.returns-in_err-shared
returns-in_err-shared c = λ ms f.
    let told : c.from_residual.result ≡ Err Disordered = search rules in
    let none : None ≡ c.place.result = search rules in
    subst (λ r. Takes (raw_line c.args.line) ms r c.args.self.now) (sym told) (line_disordered ms c.args.self.now c.args.line.path.now (raw_leaf c.args.line.leaf) (none ∙ c.place.ensures.place) f)

pub returns-then-names : goal.returns-then-names
returns-then-names c = λ ms f.
    let leaf = raw_leaf c.args.line.leaf in
    let d = c.in_ok-shared.shared in
    let some : Some d ≡ c.place.result = search rules in
    let past : in_limits (length (split 47 c.args.line.path.now)) leaf (get_or c.args.self.now.counts d 0) ≡ false = elim c.then-names.branch [
      | then-names-via-then-names w ↦ too_deep (length (split 47 c.args.line.path.now)) leaf (get_or c.args.self.now.counts d 0) (omega (arith, c.count_names-names.ensures, w.if-names.true))
      | then-names-via-else-names+then-not-within_limits w ↦ ap (λ n. in_limits n leaf (get_or c.args.self.now.counts d 0)) (sym c.count_names-names.ensures) ∙ sym w.if-not-within_limits.ensures
    ] in
    line_past_limit ms c.args.self.now c.args.line.path.now leaf d (some ∙ c.place.ensures.place) past f

pub returns : goal.returns
returns c = λ ms f.
    let leaf = raw_leaf c.args.line.leaf in
    let d = c.in_ok-shared.shared in
    let counts = c.args.self.now.counts in
    let some : Some d ≡ c.place.result = search rules in
    let within : true ≡ in_limits c.count_names-names.result leaf (get_or counts d 0) = c.if-not-within_limits.ensures in
    line_taken ms c.args.self.now _ c.args.line.path leaf d (some ∙ c.place.ensures.place)
    (ap (λ n. in_limits n leaf (get_or counts d 0)) (sym c.count_names-names.ensures) ∙ sym within)
    refl
    (ap (λ n. take n c.count_member.new.self.counts) (sym c.count_names-names.ensures) ∙ c.count_member.ensures.counts ∙ ap (λ n. take d counts ++ (get_or counts d 0 + 1) ∷ replicate {A = ℕ} (n - (d + 1)) 1) c.count_names-names.ensures) f
