-- What a look-up tells of the values, and what entering answers. Assumes nothing.
use Rattle.std.proofs.Common.{◌≡◌, ℕ, ◌<◌, ◌≤◌, Bool, true, false, cond, ◌&&◌, List, [], ◌∷◌, ◌++◌, length, get_or, Some, Ok, Err, vec_items, vec_len, sym, refl, ap, ◌∙◌, ⊎_elim, arith}
use mathlib.Core.Option.{none, some}
use Rattle.std.proofs.lemmas.Bool.{and_parts, cases_lt}
use Rattle.values.specs.Values.{Value, text, truth, binding, nth}
use Rattle.values.specs.Table.{holds, under, spelt, is_text, known, well_named, members_of, content_value, known_content, fits, Enters}
use Rattle.values.specs.Nodes.{part}
use Rattle.values.specs.Index.{numbers, truth_key, text_key, binding_key, content_key, node_key, Gap}
use Rattle.values.specs.Memory.{values, key_of}
use Rattle.values.specs.declared.parts.Member.{Member}
use Rattle.values.specs.declared.parts.Content.{Content}
use Rattle.values.specs.declared.parts.Content.TheVariants as content
use Rattle.values.specs.declared.parts.Unentered.TheVariants.{Full}
use Rattle.values.specs.declared.nodes.Node.{Node}
use Rattle.values.specs.declared.nodes.Node.TheVariants.{Truth, Text, Binding}
use Rattle.values.specs.declared.store.Table.{Table}
use Rattle.values.proofs.Sameness.{clash, fails, nth_under, under_nth, holds_under, holds_number, one_more}
use Rattle.values.proofs.Meanings.{knows, Fact, binding_fact, OneNumber}
use Rattle.values.proofs.Indexes.{no_number}
use Rattle.values.proofs.InMemory.{fact_of, indexed_of, length_of, nth_of, one_number_of}

same_listed : (xs ys : List Member) → numbers xs ≡ numbers ys → xs ≡ ys
same_listed [] [] e = refl
same_listed [] (y ∷ ys) e = let z : ◌≡◌ {A = ℕ} 0 1 = cc in absurd (omega arith)
same_listed (x ∷ xs) [] e = let z : ◌≡◌ {A = ℕ} 0 1 = cc in absurd (omega arith)
same_listed (x ∷ xs) (y ∷ ys) e =
    let p : x.name ≡ y.name = cc in
    let q : x.value ≡ y.value = cc in
    let f : numbers xs ≡ numbers ys = cc in
    let r = same_listed xs ys f in
    (λ j. (record { name = p j; value = q j }) ∷ r j)

same_spelt : (v w : Value) → is_text v ≡ true → is_text w ≡ true → spelt v ≡ spelt w → v ≡ w
same_spelt (text s) (text t) a b e = ap text e
same_spelt (text s) (truth c) a b e = clash (sym b)
same_spelt (text s) (binding ns) a b e = clash (sym b)
same_spelt (truth c) w a b e = clash (sym a)
same_spelt (binding ns) w a b e = clash (sym a)

-- known members of one meaning are the same
same_meant : (T : List Value) → OneNumber T → (xs ys : List Member) → known T xs ≡ true → known T ys ≡ true → members_of T xs ≡ members_of T ys → xs ≡ ys
same_meant T o [] [] k l e = refl
same_meant T o [] (y ∷ ys) k l e = let z : ◌≡◌ {A = ℕ} 0 1 = cc in absurd (omega arith)
same_meant T o (x ∷ xs) [] k l e = let z : ◌≡◌ {A = ℕ} 0 1 = cc in absurd (omega arith)
same_meant T o (x ∷ xs) (y ∷ ys) k l e =
    let a = knows T x xs k in
    let b = knows T y ys l in
    let sp : spelt (under T x.name) ≡ spelt (under T y.name) = cc in
    let va : under T x.value ≡ under T y.value = cc in
    let re : members_of T xs ≡ members_of T ys = cc in
    let p = o x.name y.name a.name b.name (same_spelt (under T x.name) (under T y.name) a.texts b.texts sp) in
    let q = o x.value y.value a.value b.value va in
    let r = same_meant T o xs ys a.rest b.rest re in
    (λ j. (record { name = p j; value = q j }) ∷ r j)

-- a truth value, by its key
truth_of_key : (a b : Bool) → truth_key a ≡ truth_key b → a ≡ b
truth_of_key true true e = refl
truth_of_key true false e = let z : ◌≡◌ {A = ℕ} 1 0 = cc in absurd (omega arith)
truth_of_key false true e = let z : ◌≡◌ {A = ℕ} 0 1 = cc in absurd (omega arith)
truth_of_key false false e = refl

-- a node of a content's key has what the content stands for as its value
value_from_key : (bs : List ℕ) (ms : List Member) (T : List Value) (i : ℕ) (n : Node) (c : Content) → Fact bs ms T i n → node_key bs ms n ≡ content_key c → under T i ≡ content_value T c
value_from_key bs ms T i (Truth a) (content.Truth b) f e = f.value ∙ ap truth (truth_of_key a b e)
value_from_key bs ms T i (Truth a) (content.Text s) f e = let z : ◌≡◌ {A = ℕ} 0 1 = cc in absurd (omega arith)
value_from_key bs ms T i (Truth a) (content.Binding xs) f e = let z : ◌≡◌ {A = ℕ} 0 2 = cc in absurd (omega arith)
value_from_key bs ms T i (Text p) (content.Truth b) f e = let z : ◌≡◌ {A = ℕ} 1 0 = cc in absurd (omega arith)
value_from_key bs ms T i (Text p) (content.Text s) f e = let q : part bs p ≡ s.now = cc in f.value ∙ ap text q
value_from_key bs ms T i (Text p) (content.Binding xs) f e = let z : ◌≡◌ {A = ℕ} 1 2 = cc in absurd (omega arith)
value_from_key bs ms T i (Binding p h) (content.Truth b) f e = let z : ◌≡◌ {A = ℕ} 2 0 = cc in absurd (omega arith)
value_from_key bs ms T i (Binding p h) (content.Text s) f e = let z : ◌≡◌ {A = ℕ} 2 1 = cc in absurd (omega arith)
value_from_key bs ms T i (Binding p h) (content.Binding xs) f e =
    let q : numbers (part ms p) ≡ numbers xs.now = cc in
    (binding_fact bs ms T i p h f).value ∙ ap (λ x. binding (members_of T x)) (same_listed (part ms p) xs.now q)

-- the other way round
key_from_value : (bs : List ℕ) (ms : List Member) (T : List Value) (i : ℕ) (n : Node) (c : Content) → OneNumber T → known_content T (Some c) ≡ true → Fact bs ms T i n → under T i ≡ content_value T c → node_key bs ms n ≡ content_key c
key_from_value bs ms T i (Truth a) (content.Truth b) o k f e = let g : truth a ≡ truth b = sym f.value ∙ e in let q : a ≡ b = cc in ap truth_key q
key_from_value bs ms T i (Truth a) (content.Text s) o k f e = let g : truth a ≡ text s.now = sym f.value ∙ e in let z : ◌≡◌ {A = ℕ} 0 1 = cc in absurd (omega arith)
key_from_value bs ms T i (Truth a) (content.Binding xs) o k f e = let g : truth a ≡ binding (members_of T xs.now) = sym f.value ∙ e in let z : ◌≡◌ {A = ℕ} 0 1 = cc in absurd (omega arith)
key_from_value bs ms T i (Text p) (content.Truth b) o k f e = let g : text (part bs p) ≡ truth b = sym f.value ∙ e in let z : ◌≡◌ {A = ℕ} 0 1 = cc in absurd (omega arith)
key_from_value bs ms T i (Text p) (content.Text s) o k f e = let g : text (part bs p) ≡ text s.now = sym f.value ∙ e in let q : part bs p ≡ s.now = cc in ap text_key q
key_from_value bs ms T i (Text p) (content.Binding xs) o k f e = let g : text (part bs p) ≡ binding (members_of T xs.now) = sym f.value ∙ e in let z : ◌≡◌ {A = ℕ} 0 1 = cc in absurd (omega arith)
key_from_value bs ms T i (Binding p h) (content.Truth b) o k f e = let g : binding (members_of _ (part ms p)) ≡ truth b = sym f.value ∙ e in let z : ◌≡◌ {A = ℕ} 0 1 = cc in absurd (omega arith)
key_from_value bs ms T i (Binding p h) (content.Text s) o k f e = let g : binding (members_of _ (part ms p)) ≡ text s.now = sym f.value ∙ e in let z : ◌≡◌ {A = ℕ} 0 1 = cc in absurd (omega arith)
key_from_value bs ms T i (Binding p h) (content.Binding xs) o k f e =
    let b = binding_fact bs ms T i p h f in
    let g : binding (members_of T (part ms p)) ≡ binding (members_of T xs.now) = sym b.value ∙ e in
    let q : members_of T (part ms p) ≡ members_of T xs.now = cc in
    ap binding_key (same_meant T o (part ms p) xs.now b.known k q)

key_there : (t : Table) (c : Content) (i : ℕ) → known_content (values t) (Some c) ≡ true → i < vec_len t.nodes → under (values t) i ≡ content_value (values t) c → key_of t i ≡ content_key c
key_there t c i k h e = key_from_value _ _ (values t) i (get_or (vec_items t.nodes) i (Truth false)) c (one_number_of t) k (fact_of t i (Truth false) h) e

-- a value that is found
pub record Found (T : List Value) (v : Value) (i : ℕ) : Type 0 where
  pub at : nth T i ≡ some v
  pub held : holds v T ≡ true

pub found : (t : Table) (c : Content) (i : ℕ) → i < vec_len t.nodes → key_of t i ≡ content_key c → Found (values t) (content_value (values t) c) i
found t c i h e =
    let l = length_of t in
    let v = value_from_key _ _ (values t) i (get_or (vec_items t.nodes) i (Truth false)) c (fact_of t i (Truth false) h) e in
    record { at = nth_under (values t) i (omega arith) ∙ ap some v; held = holds_under (values t) (content_value (values t) c) i (omega arith) v }

-- a value that is missing
pub missing : (t : Table) (c : Content) (p : ℕ) → known_content (values t) (Some c) ≡ true → Gap (key_of t) (vec_items t.index) (content_key c) p → holds (content_value (values t) c) (values t) ≡ false
missing t c p k g =
    let v = content_value (values t) c in
    fails (holds v (values t)) (λ e.
    let n = holds_number (values t) v e in
    let h : n.0 < vec_len t.nodes = omega (arith, n.1, length_of t) in
    no_number (key_of t) (vec_len t.nodes) (vec_items t.index) (content_key c) p n.0 (indexed_of t) g h (key_there t c n.0 k h n.2))

-- what reading a number tells: its value and its key, or that it is not in the table
pub record Tells (t : Table) (i : ℕ) (c : Content) : Type 0 where
  pub there : i < vec_len t.nodes
  pub value : under (values t) i ≡ content_value (values t) c
  pub key : key_of t i ≡ content_key c

pub told : (t : Table) (i : ℕ) (c : Content) → some (content_value (values t) c) ≡ nth (values t) i → known_content (values t) (Some c) ≡ true → Tells t i c
told t i c e k =
    let u = under_nth (values t) i (content_value (values t) c) (sym e) in
    let h : i < vec_len t.nodes = omega (arith, u.0, length_of t) in
    record { there = h; value = u.1; key = key_there t c i k h u.1 }

pub not_there : (t : Table) (i : ℕ) → none ≡ nth (values t) i → vec_len t.nodes ≤ i
not_there t i e = ⊎_elim (λ h. let z : none ≡ some (under (values t) i) = e ∙ nth_of t i h in no_some z) (λ h. h) (cases_lt i (vec_len t.nodes))
  where
    no_some : {A : Type 0} {v : A} {P : Type 0} → none ≡ some v → P
    no_some z = let y : ◌≡◌ {A = ℕ} 0 1 = cc in absurd (omega arith)

-- what entering answers
pub enters_old : (v : Value) (T : List Value) (i : ℕ) → Found T v i → Enters v T (Ok i) T
enters_old v T i f = (ap (λ b. cond b (some T) (cond (fits v T) (some (T ++ v ∷ [])) none)) f.held, f.at)

pub enters_new : (v : Value) (T U : List Value) (i : ℕ) → holds v T ≡ false → fits v T ≡ true → U ≡ T ++ v ∷ [] → i ≡ length T → Enters v T (Ok i) U
enters_new v T U i h f e g =
    ((λ j. cond (h j) (some T) (cond (f j) (some (T ++ v ∷ [])) none)) ∙ ap some (sym e), (λ j. nth (e j) (g j)) ∙ one_more T v)

pub enters_full : (v : Value) (T : List Value) → holds v T ≡ false → fits v T ≡ false → Enters v T (Err Full) T
enters_full v T h f = ((λ j. cond (h j) (some T) (cond (f j) (some (T ++ v ∷ [])) none)), refl, refl)

-- members that are fit
pub fit_parts : (ms : List Member) (T : List Value) → true ≡ (known T ms && well_named T ms) → (known T ms ≡ true) × (well_named T ms ≡ true)
fit_parts ms T e = and_parts (known T ms) (well_named T ms) (sym e)
