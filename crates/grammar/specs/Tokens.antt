-- The tokens of a model's bytes, with their places. Assumes nothing.
-- Bytes by their numbers: tab 9, line feed 10, blank 32, `"` 34, `=` 61, backslash 92, `n` 110, `t` 116.
use Rattle.std.specs.Prelude.{ℕ, zero, suc, Bool, true, false, cond, ◌&&◌, ◌||◌, List, [], ◌∷◌, ◌++◌, length, take, ◌==◌, nat_le}
use Rattle.std.proofs.Math.Option.{Option, none, some}
use Rattle.values.specs.Limits.{name_byte}

-- blank, tab and line feed part tokens
abbrev pub blank : ℕ → Bool
blank b = b == 32 || (b == 9 || b == 10)

-- ( ) { } [ ] , ; = + / !
abbrev pub sign_byte : ℕ → Bool
sign_byte b =
    (b == 40) || (b == 41 || (b == 123 || (b == 125 || (b == 91 || (b == 93
    || (b == 44 || (b == 59 || (b == 61 || (b == 43 || (b == 47 || b == 33))))))))))

-- how many bytes at the front pass a test
abbrev pub front : (ℕ → Bool) → List ℕ → ℕ
front p [] = 0
front p (b ∷ l) = cond (p b) (suc (front p l)) 0

-- a word; what stands between quotes, with its escapes as they are written; `==`; a single byte
pub data Token : Type 0 where
  word : List ℕ → Token
  text : List ℕ → Token
  same : Token
  sign : ℕ → Token

-- a token's own bytes
abbrev pub written : Token → List ℕ
written (word w) = w
written (text r) = 34 ∷ r ++ 34 ∷ []
written same = 61 ∷ 61 ∷ []
written (sign b) = b ∷ []

-- the byte that a backslash and the byte after it stand for, in quotes
abbrev pub meant : ℕ → Option ℕ
meant b = cond (b == 110) (some 10) (cond (b == 116) (some 9) (cond (b == 92) (some 92) (cond (b == 34) (some 34) none)))

-- whether something is there
abbrev pub is_some : {A : Type 0} → Option A → Bool
is_some none = false
is_some (some a) = true

-- whether a byte may follow a backslash
abbrev pub escaped : ℕ → Bool
escaped b = is_some (meant b)

-- bytes 32 to 126
abbrev pub printable : ℕ → Bool
printable a = nat_le 32 a && nat_le a 126

-- bytes in front of others, if there are others
abbrev pub behind : List ℕ → Option (List ℕ) → Option (List ℕ)
behind l none = none
behind l (some m) = some (l ++ m)

-- past an opening quote: what stands before the closing one, if there is one and all before it may stand there
abbrev pub closed : List ℕ → Option (List ℕ)
closed [] = none
closed (a ∷ []) = cond (a == 34) (some []) none
closed (a ∷ b ∷ l) =
    cond (a == 34) (some [])
    (cond (a == 92) (cond (escaped b) (behind (a ∷ b ∷ []) (closed l)) none)
    (cond (printable a) (behind (a ∷ []) (closed (b ∷ l))) none))

-- what is there, or else another
abbrev pub or_else : {A : Type 0} → A → Option A → A
or_else a none = a
or_else a (some b) = b

-- the bytes that a quoted text stands for: its escapes undone
abbrev pub value : List ℕ → List ℕ
value [] = []
value (a ∷ []) = a ∷ []
value (a ∷ b ∷ l) = cond (a == 92) (or_else b (meant b) ∷ value l) (a ∷ value (b ∷ l))

-- what bytes begin with: a token, with the number of its bytes after the first; or no token
pub data Found : Type 0 where
  found : Token → ℕ → Found
  nothing : Found

-- a quoted text, of which the first byte is its quote
abbrev pub found_text : Option (List ℕ) → Found
found_text none = nothing
found_text (some r) = found (text r) (suc (length r))

-- whether bytes begin with this one
abbrev pub next_is : ℕ → List ℕ → Bool
next_is b [] = false
next_is b (a ∷ l) = a == b

-- the token that a byte and those after it begin with; a word is the longest run of name bytes, and has at most 32
abbrev pub token : ℕ → List ℕ → Found
token b l =
    cond (name_byte b) (cond (nat_le (front name_byte l) 31) (found (word (b ∷ take (front name_byte l) l)) (front name_byte l)) nothing)
    (cond (b == 34) (found_text (closed l))
    (cond (b == 61 && next_is 61 l) (found same 1)
    (cond (sign_byte b) (found (sign b) 0) nothing)))

-- tokens with their places, up to the model's end or to a place where no token stands
pub data Tokens : Type 0 where
  end : ℕ → Tokens
  no_token : ℕ → Tokens
  next : ℕ → Token → Tokens → Tokens

-- a token at a place, and what follows the number of its bytes after the first; or no token there
abbrev pub placed : ℕ → Found → (ℕ → Tokens) → Tokens
placed at (found t n) k = next at t (k n)
placed at nothing k = no_token at

-- the tokens of the bytes from a place on, of which the first n still belong to the token before
unfoldable pub cut : ℕ → ℕ → List ℕ → Tokens
cut n at [] = end at
cut (suc n) at (b ∷ l) = cut n (suc at) l
cut zero at (b ∷ l) = cond (blank b) (cut zero (suc at) l) (placed at (token b l) (λ n. cut n (suc at) l))

-- the tokens of a model's bytes
abbrev pub tokens_of : List ℕ → Tokens
tokens_of bytes = cut 0 0 bytes

-- the tokens without their places
abbrev pub bare : Tokens → List Token
bare (end p) = []
bare (no_token p) = []
bare (next p t c) = t ∷ bare c

-- the places of the tokens
abbrev pub places : Tokens → List ℕ
places (end p) = []
places (no_token p) = []
places (next p t c) = p ∷ places c

-- how many tokens there are, with what is none
abbrev pub count : Tokens → ℕ
count (end p) = 0
count (no_token p) = 1
count (next p t c) = suc (count c)
