use Rattle.std.proofs.Common.{◌≡◌, Bool, true, false, ◌&&◌, ltb, Some, None, length, sym, refl, ap, ◌∙◌, arith}
use Rattle.std.specs.Prelude.{Option as Answer}
use Rattle.std.specs.Option.{is_some}
use Rattle.std.proofs.lemmas.Bool.{lt-ltb, le-ltb}
use Rattle.values.specs.Values.{nth}
use Rattle.values.specs.Limits.{fit}
use Rattle.values.specs.Table.{under, spelt, is_text, shown, known_content}
use Rattle.values.specs.Memory.{values}
use Rattle.values.specs.declared.parts.Content.{Content}
use Rattle.values.specs.declared.store.Table.{Table}
use Rattle.values.proofs.Sameness.{clash}
use Rattle.values.proofs.InMemory.{length_of}
use Rattle.values.proofs.Findings.{told, not_there}
use Rattle.values.proofs.store.Table.is_fit.Goals as goal
use Rattle.values.proofs.store.Table.is_fit.Goals.{then-is_text, else-is_text}

-- whether a value is read under a number is whether the number is in the table
read_there : (t : Table) (i : _) (o : Answer Content) → shown (values t) o ≡ nth (values t) i → known_content (values t) o ≡ true → is_some o ≡ ltb i (length (values t))
read_there t i None e k = sym (le-ltb i (length (values t)) (omega (arith, length_of t, not_there t i e)))
read_there t i (Some c) e k = sym (lt-ltb i (length (values t)) (omega (arith, length_of t, (told t i c e k).there)))

all_three : (a b c d f : Bool) → d ≡ (a && b) → d ≡ true → c ≡ true → f ≡ (a && (b && (c && f)))
all_three true true true d f e g h = refl
all_three true true false d f e g h = clash (sym h)
all_three true false c d f e g h = clash (sym g ∙ e)
all_three false b c d f e g h = clash (sym g ∙ e)

no_text : (a b x : Bool) → false ≡ (a && b) → false ≡ (a && (b && x))
no_text true true x e = clash (sym e)
no_text true false x e = refl
no_text false b x e = refl

no_value : (a b f : Bool) → false ≡ (a && (b && (false && f)))
no_value true true f = refl
no_value true false f = refl
no_value false b f = refl

pub returns-then-is_some : goal.returns-then-is_some
returns-then-is_some c =
    let t = c.args.self.now in
    let T = values t in
    let m = c.args.m in
    elim c.if-is_text.branch [
      | then-is_text w ↦ c.is_name.ensures ∙ ap fit c.text.ensures
          ∙ all_three (ltb m.name (length T)) (is_text (under T m.name)) (ltb m.value (length T)) c.is_text.result (fit (spelt (under T m.name))) c.is_text.ensures w.if-is_text.true
          (sym (read_there t m.value w.value.result w.value.ensures.is w.value.ensures.known) ∙ sym w.is_some.ensures ∙ sym w.value-is ∙ c.if-is_some.true)
      | else-is_text w ↦ clash (sym c.if-is_some.true ∙ w.value-is ∙ w.if-is_text.false)
    ]

pub returns-else-is_some : goal.returns-else-is_some
returns-else-is_some c =
    let t = c.args.self.now in
    let T = values t in
    let m = c.args.m in
    elim c.if-is_text.branch [
      | then-is_text w ↦ c.if-is_some.false ∙ no_value (ltb m.name (length T)) (is_text (under T m.name)) (fit (spelt (under T m.name)))
          ∙ ap (λ v. ltb m.name (length T) && (is_text (under T m.name) && (v && fit (spelt (under T m.name))))) (sym c.if-is_some.false ∙ w.value-is ∙ w.is_some.ensures ∙ read_there t m.value w.value.result w.value.ensures.is w.value.ensures.known)
      | else-is_text w ↦ c.if-is_some.false ∙ no_text (ltb m.name (length T)) (is_text (under T m.name)) _ (sym w.if-is_text.false ∙ c.is_text.ensures)
    ]
