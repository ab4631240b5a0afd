use Rattle.std.proofs.Common.{◌≡◌, List, [], sym, refl, ap, ◌∙◌}
use Rattle.values.specs.Values.{Value}
use Rattle.values.specs.Table.{spelt, content_value}
use Rattle.values.specs.Memory.{values}
use Rattle.values.specs.declared.parts.Content.{Content}
use Rattle.values.specs.declared.parts.Content.TheVariants.{Truth, Text, Binding}
use Rattle.values.proofs.InMemory.{under_past}
use Rattle.values.proofs.Findings.{told, not_there}
use Rattle.values.proofs.store.Table.text.Goals as goal

-- what is no text has no bytes
unspelt : (T : List Value) (c : Content) → ((x : _) → c ≡ Text x → ⊥) → spelt (content_value T c) ≡ []
unspelt T (Truth b) h = refl
unspelt T (Text s) h = absurd (h s refl)
unspelt T (Binding ms) h = refl

pub returns-in_default : goal.returns-in_default
returns-in_default c = sym (ap spelt (under_past c.args.self.now c.args.n (not_there c.args.self.now c.args.n c.in_default.ensures.is)))

pub returns-in-Text : goal.returns-in-Text
returns-in-Text c =
    let t = c.args.self.now in
    sym (ap spelt ((told t c.args.n c.in-Some.content c.in-Some.ensures.is c.in-Some.ensures.known).value ∙ ap (content_value (values t)) c.in-Text.is))

pub returns-in_default-content : goal.returns-in_default-content
returns-in_default-content c =
    let t = c.args.self.now in
    sym (ap spelt (told t c.args.n c.in-Some.content c.in-Some.ensures.is c.in-Some.ensures.known).value ∙ unspelt (values t) c.in-Some.content c.in_default-content.not-Text)
