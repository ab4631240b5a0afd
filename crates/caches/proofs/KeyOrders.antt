-- Keys with the same numbers are the same. Assumes nothing.
use Rattle.std.proofs.Common.{◌≡◌, ◌&&◌, true, nat_eq, ◌==◌, ◌∙◌}
use Rattle.std.specs.Cmp.Lexicographic.{pointwise, pointwise_decides}
use Rattle.std.specs.Option.{option_eq}
use Rattle.std.proofs.lemmas.Bool.{false≢true}
use Rattle.std.proofs.lemmas.Bool.Decides.{Decides-eqb, Decides-and}
use Rattle.caches.specs.contracts.keys.KeyPartialEq.TheImpl as eq
use Rattle.caches.specs.declared.keys.Key.{Key}
use Rattle.caches.specs.declared.keys.Key.TheVariants.{Function, Tool}
use Rattle.caches.specs.Keys.{same_key}
use Rattle.caches.proofs.Derived.{key_eq_is}
use Rattle.caches.proofs.Deciding.{option_decides}

equal_same : (a b : Key) → (eq.ghosts).eq a b ≡ true → a ≡ b
equal_same (Function t vs) (Function u ws) h =
    let parts = (Decides-and (t == u) (pointwise (option_eq nat_eq) vs ws) (Decides-eqb t u) (pointwise_decides (option_decides nat_eq Decides-eqb) vs ws)).0 h in
    λ i. Function (parts.0 i) (parts.1 i)
equal_same (Function t vs) (Tool n v c) h = absurd (false≢true h)
equal_same (Tool n v c) (Function t vs) h = absurd (false≢true h)
equal_same (Tool n v c) (Tool m w d) h =
    let parts = (Decides-and (n == m) ((v == w) && (c == d)) (Decides-eqb n m) (Decides-and (v == w) (c == d) (Decides-eqb v w) (Decides-eqb c d))).0 h in
    λ i. Tool (parts.0 i) (parts.1.0 i) (parts.1.1 i)

pub same_key_same : (a b : Key) → same_key a b ≡ true → a ≡ b
same_key_same a b h = equal_same a b (key_eq_is a b ∙ h)
