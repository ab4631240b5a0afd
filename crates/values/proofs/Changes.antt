-- One node more, or fewer nodes: what stands under the numbers that stay. Assumes nothing.
use Rattle.std.proofs.Common.{◌≡◌, ℕ, zero, suc, ◌+◌, ◌<◌, ◌≤◌, Bool, true, false, not, ◌&&◌, eqb, leb, List, [], ◌∷◌, ◌++◌, length, take, drop, sym, refl, ap, ◌∙◌, append_assoc, append-nil, add_assoc, arith}
use Rattle.std.specs.List.{AllByRecursion as All}
use Rattle.std.proofs.lemmas.Bool.{and_parts, and_from, le-leb}
use Rattle.std.proofs.lemmas.List.{length-drop, length-take-le, take-take, take_all, take_more, drop-take, drop_at}
use Rattle.values.specs.Values.{Value, text, truth, binding, same_value}
use Rattle.values.specs.Limits.{many, height, proper}
use Rattle.values.specs.Table.{holds, under, known, members_of, spent, one_value, text_bytes, own_members}
use Rattle.values.specs.Nodes.{part, node_value, node_values_on, placed, sound_node, sound_on, begins}
use Rattle.values.specs.Index.{text_key, binding_key, node_key}
use Rattle.values.specs.declared.parts.Member.{Member}
use Rattle.values.specs.declared.nodes.Span.{Span}
use Rattle.values.specs.declared.nodes.Node.{Node}
use Rattle.values.specs.declared.nodes.Node.TheVariants.{Truth, Text, Binding}
use Rattle.values.proofs.Sameness.{clash}
use Rattle.values.proofs.Meanings.{Fact, text_fact, binding_fact}

-- what a table has spent
pub spent_push : (w : Value → ℕ) (T : List Value) (v : Value) → spent w (T ++ v ∷ []) ≡ spent w T + w v
spent_push w [] v = omega arith
spent_push w (u ∷ T) v = ap (λ n. w u + n) (spent_push w T v) ∙ sym (add_assoc (w u) (spent w T) (w v))

pub spent_values : (T : List Value) → spent one_value T ≡ length T
spent_values [] = refl
spent_values (v ∷ T) = omega (arith, spent_values T)

pub spent_front : (w : Value → ℕ) (i : ℕ) (T : List Value) → spent w (take i T) ≤ spent w T
spent_front w zero T = omega arith
spent_front w (suc i) [] = omega arith
spent_front w (suc i) (v ∷ T) = omega (arith, spent_front w i T)

pub spent_fronts : (w : Value → ℕ) (i k : ℕ) (T : List Value) → i ≤ k → spent w (take i T) ≤ spent w (take k T)
spent_fronts w i k T h = omega (arith, spent_front w i (take k T), ap (spent w) (take-take i k T h))

pub spent_more : (w : Value → ℕ) (T : List Value) (i : ℕ) → i < length T → spent w (take (i + 1) T) ≡ spent w (take i T) + w (under T i)
spent_more w T i h = ap (spent w) (take_more T i (truth false) h) ∙ spent_push w (take i T) (under T i)

pub many_of : (T : List Value) (ms : List Member) → many (members_of T ms) ≡ length ms
many_of T [] = refl
many_of T (m ∷ ms) = ap suc (many_of T ms)

-- stretches of a pool
part_front : {A : Type 0} (xs ys : List A) (k : ℕ) (s : Span) → take k xs ≡ take k ys → s.start + s.len ≤ k → part ys s ≡ part xs s
part_front xs ys k s e h =
    sym (drop-take s.start s.len ys)
    ∙ ap (drop s.start) (sym (take-take (s.start + s.len) k ys h) ∙ ap (take (s.start + s.len)) (sym e) ∙ take-take (s.start + s.len) k xs h)
    ∙ drop-take s.start s.len xs

length_part : {A : Type 0} (xs : List A) (s : Span) → s.start + s.len ≤ length xs → length (part xs s) ≡ s.len
length_part xs s h = length-take-le s.len (drop s.start xs) (omega (arith, length-drop s.start xs))

pub part_end : {A : Type 0} (xs more : List A) (s : Span) → s.start ≡ length xs → s.len ≡ length more → part (xs ++ more) s ≡ more
part_end xs more s e f = (λ j. take (f j) (drop (e j) (xs ++ more))) ∙ ap (take (length more)) (drop_at xs more (length xs) refl) ∙ take_all (length more) more (omega arith)

-- the pools agree on their first b bytes and m members
pub record Agree (bs other-bs : List ℕ) (ms other-ms : List Member) (b m : ℕ) : Type 0 where
  pub bytes : take b bs ≡ take b other-bs
  pub bytes_long : b ≤ length other-bs
  pub members : take m ms ≡ take m other-ms
  pub members_long : m ≤ length other-ms

-- a node has the same stretch in other pools
abbrev pub SamePart : List ℕ → List ℕ → List Member → List Member → Node → Type 0
SamePart bs cs ms ns (Truth b) = Unit {0}
SamePart bs cs ms ns (Text s) = (part cs s ≡ part bs s) × (s.start + s.len ≤ length cs)
SamePart bs cs ms ns (Binding s h) = (part ns s ≡ part ms s) × (s.start + s.len ≤ length ns)

module _ (bs cs : List ℕ) (ms ls : List Member) where
  pub same_part : (T : List Value) (i : ℕ) (n : Node) (b m : ℕ) → Agree bs cs ms ls b m → i < length T → spent text_bytes (take (i + 1) T) ≤ b → spent own_members (take (i + 1) T) ≤ m → Fact bs ms T i n → SamePart bs cs ms ls n
  same_part T i (Truth t) b m a h p q f = tt
  same_part T i (Text s) b m a h p q f =
      let t = text_fact bs ms T i s f in
      let l = length_part bs s t.end in
      let w : text_bytes (under T i) ≡ s.len = ap text_bytes t.value ∙ l in
      let e : s.start + s.len ≤ b = omega (arith, spent_more text_bytes T i h, t.start) in
      (part_front bs cs b s a.bytes e, omega (arith, a.bytes_long))
  same_part T i (Binding s k) b m a h p q f =
      let t = binding_fact bs ms T i s k f in
      let l = length_part ms s t.end in
      let w : own_members (under T i) ≡ s.len = ap own_members t.value ∙ many_of T (part ms s) ∙ l in
      let e : s.start + s.len ≤ m = omega (arith, spent_more own_members T i h, t.start) in
      (part_front ms ls m s a.members e, omega (arith, a.members_long))

  same_value_of : (vs : List Value) (n : Node) → SamePart bs cs ms ls n → node_value cs ls vs n ≡ node_value bs ms vs n
  same_value_of vs (Truth t) a = refl
  same_value_of vs (Text s) a = ap text a.0
  same_value_of vs (Binding s h) a = ap (λ p. binding (members_of vs p)) a.0

  pub same_key_of : (n : Node) → SamePart bs cs ms ls n → node_key cs ls n ≡ node_key bs ms n
  same_key_of (Truth t) a = refl
  same_key_of (Text s) a = ap text_key a.0
  same_key_of (Binding s h) a = ap binding_key a.0

  same_placed : (vs : List Value) (n : Node) → SamePart bs cs ms ls n → placed bs ms vs n ≡ true → placed cs ls vs n ≡ true
  same_placed vs (Truth t) a p = refl
  same_placed vs (Text s) a p =
      and_from (eqb s.start (spent text_bytes vs)) (leb (s.start + s.len) (length cs)) (and_parts (eqb s.start (spent text_bytes vs)) (leb (s.start + s.len) (length bs)) p).0 (le-leb (s.start + s.len) (length cs) a.1)
  same_placed vs (Binding s h) a p =
      let rest : List Member → Bool = λ x. known vs x && eqb h (height (binding (members_of vs x))) in
      let b = and_parts (eqb s.start (spent own_members vs)) (leb (s.start + s.len) (length ms) && rest (part ms s)) p in
      let c = and_parts (leb (s.start + s.len) (length ms)) (rest (part ms s)) b.1 in
      and_from (eqb s.start (spent own_members vs)) (leb (s.start + s.len) (length ls) && rest (part ls s)) b.0
      (and_from (leb (s.start + s.len) (length ls)) (rest (part ls s)) (le-leb (s.start + s.len) (length ls) a.1) (ap rest a.0 ∙ c.1))

  same_sound_node : (vs : List Value) (n : Node) → SamePart bs cs ms ls n → sound_node bs ms vs n ≡ true → sound_node cs ls vs n ≡ true
  same_sound_node vs n a p =
      let fresh : Value → Bool = λ v. not (holds v vs) && proper v in
      let b = and_parts (placed bs ms vs n) (fresh (node_value bs ms vs n)) p in
      and_from (placed cs ls vs n) (fresh (node_value cs ls vs n)) (same_placed vs n a b.0) (ap fresh (same_value_of vs n a) ∙ b.1)

  pub same_values : (vs : List Value) (ns : List Node) → All (SamePart bs cs ms ls) ns → node_values_on cs ls vs ns ≡ node_values_on bs ms vs ns
  same_values vs [] a = refl
  same_values vs (n ∷ ns) a = rw (same_value_of vs n a.0) (ap (λ r. node_value bs ms vs n ∷ r) (same_values (vs ++ node_value bs ms vs n ∷ []) ns a.1))

  pub same_sound : (vs : List Value) (ns : List Node) → All (SamePart bs cs ms ls) ns → sound_on bs ms vs ns ≡ true → sound_on cs ls vs ns ≡ true
  same_sound vs [] a p = refl
  same_sound vs (n ∷ ns) a p =
      let b = and_parts (sound_node bs ms vs n) (sound_on bs ms (vs ++ node_value bs ms vs n ∷ []) ns) p in
      and_from (sound_node cs ls vs n) (sound_on cs ls (vs ++ node_value cs ls vs n ∷ []) ns) (same_sound_node vs n a.0 b.0)
      (ap (λ v. sound_on cs ls (vs ++ v ∷ []) ns) (same_value_of vs n a.0) ∙ same_sound (vs ++ node_value bs ms vs n ∷ []) ns a.1 b.1)

-- one node more, or the first nodes only
pub values_push : (bs : List ℕ) (ms : List Member) (vs : List Value) (ns : List Node) (x : Node) → node_values_on bs ms vs (ns ++ x ∷ []) ≡ node_values_on bs ms vs ns ++ node_value bs ms (vs ++ node_values_on bs ms vs ns) x ∷ []
values_push bs ms vs [] x = ap (λ us. node_value bs ms us x ∷ []) (sym (append-nil vs))
values_push bs ms vs (n ∷ ns) x =
    let w = node_value bs ms vs n in
    let rest = node_values_on bs ms (vs ++ w ∷ []) ns in
    ap (λ r. w ∷ r) (values_push bs ms (vs ++ w ∷ []) ns x ∙ ap (λ us. rest ++ node_value bs ms us x ∷ []) (append_assoc vs (w ∷ []) rest))

pub sound_push : (bs : List ℕ) (ms : List Member) (vs : List Value) (ns : List Node) (x : Node) → sound_on bs ms vs ns ≡ true → sound_node bs ms (vs ++ node_values_on bs ms vs ns) x ≡ true → sound_on bs ms vs (ns ++ x ∷ []) ≡ true
sound_push bs ms vs [] x a b = and_from (sound_node bs ms vs x) true (ap (λ us. sound_node bs ms us x) (sym (append-nil vs)) ∙ b) refl
sound_push bs ms vs (n ∷ ns) x a b =
    let w = node_value bs ms vs n in
    let rest = node_values_on bs ms (vs ++ w ∷ []) ns in
    let c = and_parts (sound_node bs ms vs n) (sound_on bs ms (vs ++ w ∷ []) ns) a in
    and_from (sound_node bs ms vs n) (sound_on bs ms (vs ++ w ∷ []) (ns ++ x ∷ [])) c.0 (sound_push bs ms (vs ++ w ∷ []) ns x c.1 (ap (λ us. sound_node bs ms us x) (append_assoc vs (w ∷ []) rest) ∙ b))

pub values_take : (bs : List ℕ) (ms : List Member) (vs : List Value) (k : ℕ) (ns : List Node) → node_values_on bs ms vs (take k ns) ≡ take k (node_values_on bs ms vs ns)
values_take bs ms vs zero ns = refl
values_take bs ms vs (suc k) [] = refl
values_take bs ms vs (suc k) (n ∷ ns) = ap (λ r. node_value bs ms vs n ∷ r) (values_take bs ms (vs ++ node_value bs ms vs n ∷ []) k ns)

pub sound_take : (bs : List ℕ) (ms : List Member) (vs : List Value) (k : ℕ) (ns : List Node) → sound_on bs ms vs ns ≡ true → sound_on bs ms vs (take k ns) ≡ true
sound_take bs ms vs zero ns a = refl
sound_take bs ms vs (suc k) [] a = refl
sound_take bs ms vs (suc k) (n ∷ ns) a =
    let rest = vs ++ node_value bs ms vs n ∷ [] in
    let c = and_parts (sound_node bs ms vs n) (sound_on bs ms rest ns) a in
    and_from (sound_node bs ms vs n) (sound_on bs ms rest (take k ns)) c.0 (sound_take bs ms rest k ns c.1)

pub begins_push : (T : List Value) (v : Value) → begins T ≡ true → begins (T ++ v ∷ []) ≡ true
begins_push [] v e = clash (sym e)
begins_push (u ∷ []) v e = clash (sym (and_parts (same_value u (truth true)) false e).1)
begins_push (u ∷ w ∷ T) v e = e

pub begins_take : (T : List Value) (k : ℕ) → 2 ≤ k → begins T ≡ true → begins (take k T) ≡ true
begins_take T zero h e = absurd (omega arith)
begins_take T (suc zero) h e = absurd (omega arith)
begins_take [] (suc (suc k)) h e = clash (sym e)
begins_take (u ∷ []) (suc (suc k)) h e = clash (sym (and_parts (same_value u (truth true)) false e).1)
begins_take (u ∷ w ∷ T) (suc (suc k)) h e = e

-- a value that takes nothing of a budget
pub spent_same : (w : Value → ℕ) (T : List Value) (i : ℕ) → i < length T → w (under T i) ≡ 0 → spent w (take (i + 1) T) ≡ spent w (take i T)
spent_same w T i h e = spent_more w T i h ∙ omega (arith, e)
