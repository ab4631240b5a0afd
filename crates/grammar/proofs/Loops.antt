-- A loop that reads as `many` does: what is to come gives what the whole gave. Assumes nothing.
use Rattle.std.proofs.Common.{◌≡◌, ℕ, zero, suc, ◌+◌, ◌<◌, ◌≤◌, sym, refl, ap, ◌∙◌, arith}
use mathlib.Core.Option.{Option, none, some}
use Rattle.grammar.specs.Tokens.{Token}
use Rattle.grammar.specs.Readers.{Stand, Outcome, ok, no, Reader, after, ◌>>=◌, give, skips, skips_of, if_some, chain, many}
use Rattle.grammar.proofs.Local.{skips_grows}

module _ {A B : Type 0} (f : Token → Option B) (more : B → A → Reader A) where
  -- with enough rounds left, what was read so far goes on to the outcome of the whole
  pub record Going (o : Outcome A) (a : A) (s : Stand) : Type 0 where
    pub rounds : ℕ
    pub enough : 1026 ≤ s.size + rounds
    pub gives : chain f more rounds a s ≡ o

  pub going_from : (a : A) (s : Stand) → Going (many f more a s) a s
  going_from a s = record { rounds = 1026; enough = omega arith; gives = refl }

  module _ (o : Outcome A) (a : A) (s : Stand) (small : s.size ≤ 1025) where
    round : (n : ℕ) → 1026 ≤ s.size + n → chain f more n a s ≡ o → (m : ℕ) × (n ≡ suc m) × (after (skips f s) (λ t. if_some t (λ b. more b a >>= chain f more m) (give a)) ≡ o)
    unfolding chain ◌>>=◌
    round zero h g = absurd (omega arith)
    round (suc m) h g = (m, refl, g)

    pub going_end : (s₁ : Stand) → Going o a s → skips f s ≡ ok none s₁ → o ≡ ok a s₁
    going_end s₁ g e = let r = round g.rounds g.enough g.gives in sym r.2 ∙ ap (λ x. after x (λ t. if_some t (λ b. more b a >>= chain f more r.0) (give a))) e

    pub going_no : (n p : ℕ) → Going o a s → skips f s ≡ no n p → o ≡ no n p
    going_no n p g e = let r = round g.rounds g.enough g.gives in sym r.2 ∙ ap (λ x. after x (λ t. if_some t (λ b. more b a >>= chain f more r.0) (give a))) e

    pub going_stopped : (b : B) (s₁ : Stand) (n p : ℕ) → Going o a s → skips f s ≡ ok (some b) s₁ → more b a s₁ ≡ no n p → o ≡ no n p
    unfolding ◌>>=◌
    going_stopped b s₁ n p g e k =
        let r = round g.rounds g.enough g.gives in
        sym r.2 ∙ ap (λ x. after x (λ t. if_some t (λ b. more b a >>= chain f more r.0) (give a))) e ∙ ap (λ x. after x (chain f more r.0)) k

    pub going_on : (b : B) (s₁ : Stand) (d : A) (s₂ : Stand) → Going o a s → skips f s ≡ ok (some b) s₁ → more b a s₁ ≡ ok d s₂ → s₁.size ≤ s₂.size → Going o d s₂
    unfolding ◌>>=◌ skips_of
    going_on b s₁ d s₂ g e k l =
        let r = round g.rounds g.enough g.gives in
        let grows : s.size < s₁.size = skips_grows 0 1 f s s.rest b s₁ e in
        record {
          rounds = r.0;
          enough = omega (arith, r.1, g.enough);
          gives = sym (ap (λ x. after x (λ t. if_some t (λ b. more b a >>= chain f more r.0) (give a))) e ∙ ap (λ x. after x (chain f more r.0)) k) ∙ r.2;
        }
