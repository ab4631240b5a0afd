-- What is promised of models and of functions' texts. Assumes nothing.
use Rattle.std.specs.Prelude.{◌≡◌, ℕ, ◌<◌, ◌≤◌, Bool, true, ◌&&◌, List, [], ◌∷◌, length, take, drop}
use Rattle.std.proofs.Math.Option.{some}
use Rattle.values.specs.Values.{Name, nth}
use Rattle.grammar.specs.Tokens.{Token, written, Tokens, end, no_token, next, tokens_of, bare}
use Rattle.grammar.specs.Syntax.{Source}
use Rattle.grammar.specs.Texts.{joined, text_of, AllReal}
use Rattle.grammar.specs.Checks.{Flaw, before, first_flaw}
use Rattle.grammar.specs.Models.{refused, accepted, read_model}

-- every token is a part of the model's own bytes, and its place is that of its first byte; the end is the model's length
abbrev pub PartsOf : List ℕ → Tokens → Type 0
PartsOf bytes (end p) = p ≡ length bytes
PartsOf bytes (no_token p) = p < length bytes
PartsOf bytes (next p t c) = (take (length (written t)) (drop p bytes) ≡ written t) × PartsOf bytes c

abbrev pub TokensAreParts : Type 0
TokensAreParts = (bytes : List ℕ) → PartsOf bytes (tokens_of bytes)

-- a text is cut into the tokens that it was joined from, so that it determines them
pub record TextsTellTokens : Type 0 where
  pub cut_again : (ts : List Token) → AllReal ts → bare (tokens_of (joined ts)) ≡ ts
  pub determined : (ts us : List Token) → AllReal ts → AllReal us → joined ts ≡ joined us → ts ≡ us
  -- and a model's tokens are such tokens
  pub real : (bytes : List ℕ) → AllReal (bare (tokens_of bytes))

-- a function of an accepted model
abbrev pub FunctionOf : (Name → Bool) → List ℕ → Source → Type 0
FunctionOf known bytes f = (fs : List Source) × (i : ℕ) × (read_model known bytes ≡ accepted fs) × (nth fs i ≡ some f)

-- two functions with the same text have the same syntax tree, in whichever models and places they stand
abbrev pub TextsTellFunctions : Type 0
TextsTellFunctions =
    (known others : Name → Bool) (m k : List ℕ) (f g : Source)
    → FunctionOf known m f → FunctionOf others k g → text_of f ≡ text_of g → f.syntax ≡ g.syntax

-- a function's text has at most 1,024 bytes
abbrev pub TextsAreShort : Type 0
TextsAreShort = (known : Name → Bool) (m : List ℕ) (f : Source) → FunctionOf known m f → length (text_of f) ≤ 1024

-- every refusal has a number from 1 to 7: no reading stops for want of rounds, which would be 0
abbrev pub RefusalsAreNumbered : Type 0
RefusalsAreNumbered = (known : Name → Bool) (m : List ℕ) (n p : ℕ) → read_model known m ≡ refused n p → (1 ≤ n) × (n ≤ 7)

-- a flaw goes before all of some flaws
abbrev pub before_all : Flaw → List Flaw → Bool
before_all x [] = true
before_all x (y ∷ ys) = before x y && before_all x ys

-- the flaw that is told is one of those that there are, and goes before all of them
abbrev pub EarliestIsTold : Type 0
EarliestIsTold = (xs : List Flaw) (x : Flaw) → first_flaw xs ≡ some x → ((i : ℕ) × (nth xs i ≡ some x)) × (before_all x xs ≡ true)
