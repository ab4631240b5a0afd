-- What a reading gives depends on the tokens that it passes and, at most, on the one after them:
-- not on places, nor on what follows. Assumes nothing.
use Rattle.std.specs.Prelude.{◌≡◌, ℕ, suc, ◌+◌, ◌<◌, ◌≤◌, List, [], ◌∷◌, length}
use Rattle.values.specs.Values.{Name}
use Rattle.grammar.specs.Tokens.{Token, written, Tokens, end, no_token, next}
use Rattle.grammar.specs.Readers.{Stand, ok, Reader}
use Rattle.grammar.specs.Grammar.{function}

-- these tokens, and then what is left
abbrev pub Carries : Tokens → List Token → Tokens → Type 0
Carries c [] d = c ≡ d
Carries (end p) (v ∷ w) d = ⊥
Carries (no_token p) (v ∷ w) d = ⊥
Carries (next p u c) (v ∷ w) d = (u ≡ v) × Carries c w d

-- the same token is next, or the end
abbrev pub Head : Tokens → Tokens → Type 0
Head (end p) (end q) = Unit {0}
Head (end p) (no_token q) = ⊥
Head (end p) (next q v d) = ⊥
Head (no_token p) d = ⊥
Head (next p u c) (end q) = ⊥
Head (next p u c) (no_token q) = ⊥
Head (next p u c) (next q v d) = u ≡ v

-- the same stand in front of other tokens
abbrev pub put : Stand → Tokens → Stand
put s e = record { index = s.index; size = s.size; rest = e }

-- the bytes of tokens, with a blank before each
abbrev pub weight : List Token → ℕ
weight [] = 0
weight (t ∷ ts) = suc (length (written t)) + weight ts

-- what a reading that gave something has passed; it counts tokens and bytes, and keeps to 1,025 of these
pub record Passed (s : Stand) (s' : Stand) : Type 0 where
  pub used : List Token
  pub carried : Carries s.rest used s'.rest
  pub indexed : s'.index ≡ s.index + length used
  pub sized : s'.size ≡ s.size + weight used
  pub small : s.size ≤ 1025 → s'.size ≤ 1025

-- in front of the same tokens, and the same one after them, it gives the same
pub record Span {A : Type 0} (r : Reader A) (s : Stand) (a : A) (s' : Stand) : Type 0 where
  pub passed : Passed s s'
  pub moved : (e d : Tokens) → Carries e passed.used d → Head s'.rest d → r (put s e) ≡ ok a (put s' d)

-- in front of the same tokens it gives the same, whatever follows
pub record AloneSpan {A : Type 0} (r : Reader A) (s : Stand) (a : A) (s' : Stand) : Type 0 where
  pub passed : Passed s s'
  pub any : 0 < length passed.used
  pub moved : (e d : Tokens) → Carries e passed.used d → r (put s e) ≡ ok a (put s' d)

-- wherever it gives something, a reading depends on nothing behind the tokens that it passes
pub record Alone {A : Type 0} (r : Reader A) : Type 0 where
  pub span : (s : Stand) (a : A) (s' : Stand) → r s ≡ ok a s' → AloneSpan r s a s'

-- a function that was read from some tokens is read from them wherever they stand
abbrev pub FunctionsStandAlone : Type 0
FunctionsStandAlone = (w : Name) → Alone (function w)
