use Rattle.std.proofs.Common.{◌≡◌, false, ltb, List, length, sym, refl, ap, ◌∙◌, arith}
use Rattle.std.proofs.lemmas.Bool.{lt-ltb, le-ltb, and_left, and_right, and_from}
use Rattle.values.specs.Table.{under, is_text, content_value}
use Rattle.values.specs.Values.{Value}
use Rattle.values.specs.declared.parts.Content.{Content}
use Rattle.values.specs.declared.parts.Content.TheVariants.{Truth, Text, Binding}
use Rattle.values.specs.Memory.{values}
use Rattle.values.proofs.InMemory.{length_of}
use Rattle.values.proofs.Findings.{told, not_there}
use Rattle.values.proofs.store.Table.is_text.Goals as goal

no_text : (T : List Value) (c : Content) → ((x : _) → c ≡ Text x → ⊥) → is_text (content_value T c) ≡ false
no_text T (Truth b) h = refl
no_text T (Text s) h = absurd (h s refl)
no_text T (Binding ms) h = refl

pub returns-in_default : goal.returns-in_default
returns-in_default c =
    let t = c.args.self.now in
    let past = not_there t c.args.n c.in_default.ensures.is in
    sym (and_left (ltb c.args.n (length (values t))) (is_text (under (values t) c.args.n)) (le-ltb c.args.n (length (values t)) (omega (arith, length_of t))))

pub returns-in-Text : goal.returns-in-Text
returns-in-Text c =
    let t = c.args.self.now in
    let r = told t c.args.n c.in-Some.content c.in-Some.ensures.is c.in-Some.ensures.known in
    sym (and_from (ltb c.args.n (length (values t))) (is_text (under (values t) c.args.n)) (lt-ltb c.args.n (length (values t)) (omega (arith, length_of t, r.there))) (ap is_text (r.value ∙ ap (content_value (values t)) c.in-Text.is)))

pub returns-in_default-matches : goal.returns-in_default-matches
returns-in_default-matches c =
    let t = c.args.self.now in
    let r = told t c.args.n c.in-Some.content c.in-Some.ensures.is c.in-Some.ensures.known in
    sym (and_right (ltb c.args.n (length (values t))) (is_text (under (values t) c.args.n)) (ap is_text r.value ∙ no_text (values t) c.in-Some.content c.in_default-matches.not-Text))
