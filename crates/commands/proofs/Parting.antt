-- Words taken from a line part by part, and what they ask. Assumes nothing.
use Rattle.std.proofs.Common.{◌≡◌, ℕ, zero, suc, ◌+◌, ◌-◌, ◌<◌, ◌≤◌, true, cond, codes, List, [], ◌∷◌, ◌++◌, map, length, get_or, take, drop, Option, Some, None, sym, refl, ap, ◌∙◌, append_assoc, arith, Bor}
use Rattle.std.specs.List.{AllWithin, HoldsAt}
use Rattle.std.specs.Option.{MatchOption, unwrap_or}
use Rattle.std.proofs.lemmas.Bool.{eq-eqb}
use Rattle.std.proofs.lemmas.List.{drop_more, drop_all, take_rest}
use Rattle.values.proofs.Sameness.{differs}
use Rattle.trees.specs.Cuts.{free, behind}
use Rattle.trees.specs.Files.{push, split}
use Rattle.trees.proofs.Cutting.{rest_parts, cut_splits}
use Rattle.commands.specs.Words.{filled, words_of, help, caches, unknown, tree, tool, one_word, two_words, more_words, last_of, command_of}

filled_full : (p : List ℕ) (ps : List (List ℕ)) → (length p ≡ 0 → ⊥) → filled (p ∷ ps) ≡ p ∷ filled ps
filled_full [] ps h = absurd (h refl)
filled_full (b ∷ p) ps h = refl

-- where the first byte stands that is no blank, if there is one
abbrev pub Starts : List ℕ → Option ℕ → Type 0
Starts l o = MatchOption o (AllWithin (λ b. b ≡ 32) l 0 (length l)) (λ i. (i < length l) × HoldsAt (λ b. b ≡ 32 → ⊥) l i × AllWithin (λ b. b ≡ 32) l 0 i)

blank_more : (b : ℕ) (l : List ℕ) → b ≡ 32 → words_of (b ∷ l) ≡ words_of l
blank_more b l e = ap (λ t. filled (cond t ([] ∷ split 32 l) (push b (split 32 l)))) (eq-eqb b 32 e)

-- blanks in front are passed over
skipped : (l : List ℕ) (i : ℕ) → i ≤ length l → AllWithin (λ b. b ≡ 32) l 0 i → words_of (drop i l) ≡ words_of l
skipped l zero h a = refl
skipped [] (suc i) h a = absurd (omega arith)
skipped (b ∷ l) (suc i) h a = skipped l i (omega arith) (λ k d p q. a (suc k) d (omega arith) (omega arith)) ∙ sym (blank_more b l (a 0 b (omega arith) (omega arith)))

pub all_blank : (l : List ℕ) → Starts l None → words_of l ≡ []
all_blank l a = sym (skipped l (length l) (omega arith) a) ∙ ap words_of (drop_all (length l) l (omega arith))

word_there : (b : ℕ) (bs first : List ℕ) (rest : Option (Bor (List ℕ))) → (b ≡ 32 → ⊥) → b ∷ bs ≡ first ++ behind 32 rest → length first ≡ 0 → ⊥
word_there b bs [] None h e z = absurd (omega (arith, ap length e))
word_there b bs [] (Some s) h e z = h (ap (λ l. get_or l 0 0) e)
word_there b bs (x ∷ first) rest h e z = absurd (omega (arith, z))

rest_words : (rest : Option (Bor (List ℕ))) (d next : Bor (List ℕ)) → d.now ≡ [] → next ≡ unwrap_or rest d → filled (rest_parts 32 rest) ≡ words_of next.now
rest_words None d next e h = sym (ap (λ x. words_of x.now) h ∙ ap words_of e)
rest_words (Some s) d next e h = ap (λ x. words_of x.now) (sym h)

-- a word more, and the words behind it
pub word_more : (ws all : List (List ℕ)) (left part : List ℕ) (i : ℕ) (first : List ℕ) (rest : Option (Bor (List ℕ))) (d next : Bor (List ℕ)) → Starts left (Some i) → part ≡ take (length left - i) (drop i left) → part ≡ first ++ behind 32 rest → free 32 first ≡ true → d.now ≡ [] → next ≡ unwrap_or rest d → ws ++ words_of left ≡ all → (ws ++ first ∷ []) ++ words_of next.now ≡ all
word_more ws all left part i first rest d next s q e f n u inv =
    let p = q ∙ take_rest left i in
    let there = word_there (get_or left i 0) (drop (i + 1) left) first rest (s.1 0) (sym (drop_more left i 0 s.0) ∙ sym p ∙ e) in
    let word : words_of part ≡ first ∷ filled (rest_parts 32 rest) = ap filled (cut_splits 32 part first rest e f) ∙ filled_full first (rest_parts 32 rest) there in
    let all_left : words_of left ≡ first ∷ words_of next.now = sym (skipped left i (omega (arith, s.0)) s.2) ∙ ap words_of (sym p) ∙ word ∙ ap (λ l. first ∷ l) (rest_words rest d next n u) in
    append_assoc ws (first ∷ []) (words_of next.now) ∙ ap (λ l. ws ++ l) (sym all_left) ∙ inv

-- what three words or more ask
ends : (w : Bor (List ℕ)) (ws : List (Bor (List ℕ))) (d : Bor (List ℕ)) (k : ℕ) → k ≡ length ws → (get_or (w ∷ ws) k d).now ≡ last_of w.now (map (λ x. x.now) ws)
ends w [] d zero e = refl
ends w [] d (suc k) e = absurd (omega arith)
ends w (v ∷ ws) d zero e = absurd (omega arith)
ends w (v ∷ ws) d (suc k) e = ends v ws d k (omega arith)

pub asks_more : (ws : List (Bor (List ℕ))) (d e f : Bor (List ℕ)) (k : ℕ) → 3 ≤ length ws → k ≡ length ws - 1 → more_words (get_or ws 0 d).now (get_or ws 1 e).now (get_or ws k f).now ≡ command_of (map (λ x. x.now) ws)
asks_more [] d e f k h m = absurd (omega arith)
asks_more (w ∷ []) d e f k h m = absurd (omega arith)
asks_more (w ∷ v ∷ []) d e f k h m = absurd (omega arith)
asks_more (w ∷ v ∷ u ∷ ws) d e f zero h m = absurd (omega arith)
asks_more (w ∷ v ∷ u ∷ ws) d e f (suc zero) h m = absurd (omega arith)
asks_more (w ∷ v ∷ u ∷ ws) d e f (suc (suc k)) h m = ap (more_words w.now v.now) (ends u ws f k (omega arith))

-- a word of six letters by each of them
pub six_letters : (w : List ℕ) {a b c d e f : ℕ} → length w ≡ 6 → get_or w 0 0 ≡ a → get_or w 1 0 ≡ b → get_or w 2 0 ≡ c → get_or w 3 0 ≡ d → get_or w 4 0 ≡ e → get_or w 5 0 ≡ f → w ≡ a ∷ b ∷ c ∷ d ∷ e ∷ f ∷ []
six_letters (p ∷ q ∷ r ∷ s ∷ t ∷ u ∷ []) n a b c d e f = (λ j. a j ∷ b j ∷ c j ∷ d j ∷ e j ∷ f j ∷ [])
six_letters [] n a b c d e f = absurd (omega arith)
six_letters (p ∷ []) n a b c d e f = absurd (omega arith)
six_letters (p ∷ q ∷ []) n a b c d e f = absurd (omega arith)
six_letters (p ∷ q ∷ r ∷ []) n a b c d e f = absurd (omega arith)
six_letters (p ∷ q ∷ r ∷ s ∷ []) n a b c d e f = absurd (omega arith)
six_letters (p ∷ q ∷ r ∷ s ∷ t ∷ []) n a b c d e f = absurd (omega arith)
six_letters (p ∷ q ∷ r ∷ s ∷ t ∷ u ∷ v ∷ w) n a b c d e f = absurd (omega arith)

-- words that ask for nothing
pub no_one : (w : List ℕ) → (w ≡ codes "help" → ⊥) → (w ≡ codes "caches" → ⊥) → unknown ≡ one_word w
no_one w h c = sym (λ j. cond (differs w (codes "help") h j) help (cond (differs w (codes "caches") c j) caches unknown))

pub no_two : (w f : List ℕ) → (w ≡ codes "tree" → ⊥) → unknown ≡ two_words w f
no_two w f h = sym (λ j. cond (differs w (codes "tree") h j) (tree f) unknown)

pub no_more : (w n f : List ℕ) → (w ≡ codes "tool" → ⊥) → unknown ≡ more_words w n f
no_more w n f h = sym (λ j. cond (differs w (codes "tool") h j) (tool n f) unknown)
