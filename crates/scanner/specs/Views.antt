-- What a scanner and its tokens mean, and what its calls give. Assumes nothing.
use Rattle.std.specs.Prelude.{◌≡◌, ℕ, suc, ◌<◌, ◌≤◌, List, [], ◌∷◌, length, take, drop, Some, None, Option as Answer, Ok, Err, Result}
use Rattle.std.proofs.Math.Option.{Option, none, some}
use Rattle.grammar.specs.Tokens.{Token, word, text, same, sign, meant, behind, closed, found, nothing, token, Tokens, end, no_token, next, cut}
use Rattle.scanner.specs.declared.scanner.Scanner.{Scanner}
use Rattle.scanner.specs.declared.tokens.NoToken.{NoToken}
use Rattle.scanner.specs.declared.tokens.Token.{Token as CodeToken}
use Rattle.scanner.specs.declared.tokens.Token.TheVariants as code

-- the token that a token in memory stands for
abbrev pub meaning : CodeToken → Token
meaning (code.Word w) = word w.now
meaning (code.Text t) = text t.now
meaning code.Same = same
meaning (code.Sign b) = sign b

-- the definitions' options as the code's
abbrev pub answer : {A : Type 0} → Option A → Answer A
answer none = None
answer (some a) = Some a

-- what a backslash and this byte stand for
abbrev pub pair_byte : ℕ → Answer ℕ
pair_byte b = answer (meant b)

-- how many bytes stand in quotes
abbrev pub text_length : Option (List ℕ) → Answer ℕ
text_length none = None
text_length (some r) = Some (length r)

-- how a quoted text goes on: some bytes belong to it and it goes on behind them, or it is closed, or it is none
abbrev pub GoesOn : List ℕ → Result (Answer ℕ) NoToken → Type 0
GoesOn l (Ok (Some n)) = (closed l ≡ behind (take n l) (closed (drop n l))) × (0 < n) × (n ≤ length l)
GoesOn l (Ok None) = closed l ≡ some []
GoesOn l (Err e) = closed l ≡ none

-- a token of n bytes stands in front
abbrev pub Begins : List ℕ → Token → ℕ → Type 0
Begins [] t n = ⊥
Begins (b ∷ l) t n = (m : ℕ) × (n ≡ suc m) × (token b l ≡ found t m) × (m ≤ length l)

-- what bytes begin with
abbrev pub Fronts : List ℕ → Result (Answer (CodeToken × ℕ)) NoToken → Type 0
Fronts l (Ok (Some (t, n))) = Begins l (meaning t) n
Fronts [] (Ok None) = Unit {0}
Fronts (b ∷ l) (Ok None) = ⊥
Fronts [] (Err e) = ⊥
Fronts (b ∷ l) (Err e) = token b l ≡ nothing

-- the tokens of a model from a place on
abbrev pub from : List ℕ → ℕ → Tokens
from model at = cut 0 at (drop at model)

-- the tokens that are still to come
unfoldable pub ahead : Scanner → Tokens
ahead s = from s.model.now s.at

-- what comes next stands at p, and what comes behind it from q on
abbrev pub Sees : Scanner → ℕ → Result (Answer CodeToken) NoToken → ℕ → Type 0
Sees s p (Ok (Some t)) q = (ahead s ≡ next p (meaning t) (from s.model.now q)) × (q ≤ length s.model.now)
Sees s p (Ok None) q = (ahead s ≡ end p) × (q ≡ s.at)
Sees s p (Err e) q = (ahead s ≡ no_token p) × (q ≡ s.at)

-- what comes next stands at p
abbrev pub Peeks : Tokens → ℕ → Result (Answer CodeToken) NoToken → Type 0
Peeks c p (Ok (Some t)) = (d : Tokens) × (c ≡ next p (meaning t) d)
Peeks c p (Ok None) = c ≡ end p
Peeks c p (Err e) = c ≡ no_token p

-- what came next stands at p, and the tokens behind it are still to come
abbrev pub Gives : Tokens → ℕ → Result (Answer CodeToken) NoToken → Tokens → Type 0
Gives c p (Ok (Some t)) d = c ≡ next p (meaning t) d
Gives c p (Ok None) d = (c ≡ end p) × (d ≡ c)
Gives c p (Err e) d = (c ≡ no_token p) × (d ≡ c)
