-- A function's text: its tokens parted by one blank. Assumes nothing.
use Rattle.std.specs.Prelude.{◌≡◌, ℕ, false, List, [], ◌∷◌, ◌++◌}
use Rattle.grammar.specs.Tokens.{Token, written, blank, found, token}
use Rattle.grammar.specs.Syntax.{Source}

-- tokens as they are written, parted by one blank
abbrev pub joined : List Token → List ℕ
joined [] = []
joined (t ∷ []) = written t
joined (t ∷ u ∷ us) = written t ++ 32 ∷ joined (u ∷ us)

-- a function's text
abbrev pub text_of : Source → List ℕ
text_of f = joined f.tokens

-- a token that some bytes begin with
abbrev pub Real : Token → Type 0
Real t = (b : ℕ) × (l : List ℕ) × (n : ℕ) × (token b l ≡ found t n) × (blank b ≡ false)

-- such tokens only
abbrev pub AllReal : List Token → Type 0
AllReal [] = Unit {0}
AllReal (t ∷ ts) = Real t × AllReal ts
