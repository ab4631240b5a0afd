-- Entering the members of a level one after the other. Assumes nothing.
use Rattle.std.proofs.Common.{◌≡◌, ℕ, ◌+◌, ◌<◌, ◌≤◌, List, [], ◌∷◌, ◌++◌, length, Ok, Err, Bor, sym, refl, ap, ◌∙◌, subst, append_assoc, append-nil, arith}
use mathlib.Core.Option.{none, some}
use Rattle.std.proofs.lemmas.List.{length-append}
use Rattle.values.specs.Values.{Name, Value, text, binding, Members, nil, cons, nth}
use Rattle.values.specs.Limits.{many}
use Rattle.values.specs.Table.{Table}
use Rattle.values.specs.declared.parts.Member.{Member}
use Rattle.entering.specs.Entries.{parts, member_parts, enter_all}
use Rattle.entering.specs.Levels.{member_bytes, GoesOn, Ends, Sound, Level, Single}
use Rattle.entering.specs.Steps.{Extends, Stands, Ready, EntersMembers, MemberEntered}
use Rattle.entering.specs.declared.answers.Full.{Full}
use Rattle.entering.proofs.Growing.{unmoved, further, all_extends, on, stopped, kept}
use Rattle.entering.proofs.Levelling.{value_front, first, none_left, the_single, the_others}

-- some members of the level are entered, under the numbers l, and others are to come
pub record Turn (T₀ : Table) (prefix left : List ℕ) (levels : ℕ) (T : Table) (l : List Member) (ms : Members) (after : List ℕ) : Type 0 where
  pub to_come : Members
  pub lines : left ≡ member_bytes prefix to_come ++ after
  pub sound : Sound to_come levels
  pub all : length l + many to_come ≡ many ms
  pub entered : enter_all (member_parts ms) T₀ ≡ enter_all (member_parts to_come) T
  pub grown : Extends T₀ T
  pub stands : (T' : Table) (k : List Member) → Extends T T' → Stands T' k to_come → Stands T' (l ++ k) ms

pub begun : (T : Table) (prefix bytes : List ℕ) (levels : ℕ) (ms : Members) (after : List ℕ) → Level prefix bytes levels ms after → Turn T prefix bytes levels T [] ms after
begun T prefix bytes levels ms after h = record {
  to_come = ms;
  lines = h.lines;
  sound = h.sound;
  all = omega arith;
  entered = refl;
  grown = unmoved T T refl;
  stands = λ T' k x s. s;
}

-- the next member, and what entering it comes to
pub record Next (T₀ : Table) (prefix left : List ℕ) (levels : ℕ) (T : Table) (l : List Member) (ms : Members) (after : List ℕ) : Type 0 where
  pub name : Name
  pub value : Value
  pub rest : List ℕ
  pub single : Single prefix left levels name value rest
  pub room : length l < many ms
  pub shorter : length rest < length left
  pub more : (e : Member × Bor (List ℕ)) (T' : Table) → MemberEntered name value rest T (Ok e) T' → Turn T₀ prefix e.1.now levels T' (l ++ e.0 ∷ []) ms after
  pub full : (e : Full) (T' : Table) → MemberEntered name value rest T (Err e) T' → (enter_all (parts (binding ms)) T₀ ≡ none) × Extends T₀ T'

goes_on : (prefix left : List ℕ) (n : Name) (v : Value) (ms : Members) (after : List ℕ) → left ≡ member_bytes prefix (cons n v ms) ++ after → GoesOn prefix left
goes_on prefix left n v ms after e =
    let f = value_front (prefix ++ n) v in
    let others = member_bytes prefix ms in
    let there : left ≡ prefix ++ (n ++ f.mark ∷ (f.rest ++ (others ++ after))) =
    e ∙ ap (λ b. b ++ after) (first prefix n v ms ∙ ap (λ b. b ++ others) f.is) ∙ regroup prefix n f.mark f.rest others after in
    let long = ap length there ∙ length-append prefix (n ++ f.mark ∷ (f.rest ++ (others ++ after))) in
    let longer = length-append n (f.mark ∷ (f.rest ++ (others ++ after))) in
    record { begins = record { rest = n ++ f.mark ∷ (f.rest ++ (others ++ after)); is = there }; some_left = omega arith }
  where
    regroup : (q m : List ℕ) (z : ℕ) (r a b : List ℕ) → (((q ++ m) ++ z ∷ r) ++ a) ++ b ≡ q ++ (m ++ z ∷ (r ++ (a ++ b)))
    regroup q m z r a b = simp append_assoc

fewer : (prefix left : List ℕ) (n : Name) (v : Value) (ms : Members) (after : List ℕ) → left ≡ member_bytes prefix (cons n v ms) ++ after → length (member_bytes prefix ms ++ after) < length left
fewer prefix left n v ms after e =
    let f = value_front (prefix ++ n) v in
    let there : left ≡ ((prefix ++ n) ++ f.mark ∷ f.rest) ++ (member_bytes prefix ms ++ after) =
    e ∙ ap (λ b. b ++ after) (first prefix n v ms ∙ ap (λ b. b ++ member_bytes prefix ms) f.is) ∙ append_assoc ((prefix ++ n) ++ f.mark ∷ f.rest) (member_bytes prefix ms) after in
    let long = ap length there ∙ length-append ((prefix ++ n) ++ f.mark ∷ f.rest) (member_bytes prefix ms ++ after) in
    let longer = length-append (prefix ++ n) (f.mark ∷ f.rest) in
    omega arith

pub next : (T₀ : Table) (prefix left : List ℕ) (levels : ℕ) (T : Table) (l : List Member) (ms : Members) (after : List ℕ) → levels ≤ 16 → Ends prefix after → GoesOn prefix left → Turn T₀ prefix left levels T l ms after → Next T₀ prefix left levels T l ms after
next T₀ prefix left levels T l ms after d h g t = go t.to_come t.lines t.sound t.all t.entered t.stands
  where
    go : (ns : Members) → left ≡ member_bytes prefix ns ++ after → Sound ns levels → length l + many ns ≡ many ms → enter_all (member_parts ms) T₀ ≡ enter_all (member_parts ns) T → ((T' : Table) (k : List Member) → Extends T T' → Stands T' k ns → Stands T' (l ++ k) ms) → Next T₀ prefix left levels T l ms after
    go nil e s a f k = absurd (h (subst (GoesOn prefix) (e ∙ ap (λ b. b ++ after) (none_left prefix)) g))
    go (cons n v ns) e s a f k = record {
      name = n;
      value = v;
      rest = member_bytes prefix ns ++ after;
      single = the_single prefix left levels n v ns after e h s d;
      room = omega arith;
      shorter = fewer prefix left n v ns after e;
      more = λ x T' m. record {
        to_come = ns;
        lines = m.3;
        sound = the_others levels n v ns s;
        all = let long = length-append l (x.0 ∷ []) in omega arith;
        entered = f ∙ on (text n ∷ parts v) (member_parts ns) T T' m.0;
        grown = further T₀ T T' t.grown (all_extends (text n ∷ parts v) T T' m.0);
        stands = λ U j y z. subst (λ w. Stands U w ms) (sym (append_assoc l (x.0 ∷ []) j))
            (k U (x.0 ∷ j) (further T T' U (all_extends (text n ∷ parts v) T T' m.0) y) (kept T' U y x.0.name (text n) m.1, kept T' U y x.0.value v m.2, z));
      };
      full = λ x T' m. (stopped (member_parts ms) (binding ms ∷ []) T₀ (f ∙ stopped (text n ∷ parts v) (member_parts ns) T m.0), further T₀ T T' t.grown m.1);
    }

-- all members of the level are entered
pub record Done (T₀ : Table) (left : List ℕ) (T : Table) (l : List Member) (ms : Members) (after : List ℕ) : Type 0 where
  pub behind : left ≡ after
  pub stands : Stands T l ms
  pub entered : enter_all (member_parts ms) T₀ ≡ some T
  pub grown : Extends T₀ T

pub done : (T₀ : Table) (prefix left : List ℕ) (levels : ℕ) (T : Table) (l : List Member) (ms : Members) (after : List ℕ) → (GoesOn prefix left → ⊥) → Turn T₀ prefix left levels T l ms after → Done T₀ left T l ms after
done T₀ prefix left levels T l ms after g t = go t.to_come t.lines t.entered t.stands
  where
    go : (ns : Members) → left ≡ member_bytes prefix ns ++ after → enter_all (member_parts ms) T₀ ≡ enter_all (member_parts ns) T → ((T' : Table) (k : List Member) → Extends T T' → Stands T' k ns → Stands T' (l ++ k) ms) → Done T₀ left T l ms after
    go nil e f k = record {
      behind = e ∙ ap (λ b. b ++ after) (none_left prefix);
      stands = subst (λ w. Stands T w ms) (append-nil l) (k T [] (unmoved T T refl) tt);
      entered = f;
      grown = t.grown;
    }
    go (cons n v ns) e f k = absurd (g (goes_on prefix left n v ns after e))

pub ready : (prefix bytes left : List ℕ) (levels : ℕ) (T₀ T : Table) (l : List Member) (ms : Members) (after : List ℕ) → Level prefix bytes levels ms after → Done T₀ left T l ms after → Ready T l ms
ready prefix bytes left levels T₀ T l ms after h d = record {
  stands = d.stands;
  are_ordered = h.sound.are_ordered;
  are_named = h.sound.are_named;
  few = h.few;
  low = omega (arith, h.sound.low, h.shallow);
}

-- and then their binding
pub bound : (T₀ T T' : Table) (left : List ℕ) (l : List Member) (ms : Members) (after : List ℕ) (i : ℕ) → Done T₀ left T l ms after → EntersMembers l T (Ok i) T' → (enter_all (parts (binding ms)) T₀ ≡ some T') × (nth T' i ≡ some (binding ms)) × (left ≡ after)
bound T₀ T T' left l ms after i d h =
    let e = h ms d.stands in
    (on (member_parts ms) (binding ms ∷ []) T₀ T d.entered ∙ e.0, e.1, d.behind)

pub unbound : (T₀ T T' : Table) (left : List ℕ) (l : List Member) (ms : Members) (after : List ℕ) (f : Full) → Done T₀ left T l ms after → EntersMembers l T (Err f) T' → (enter_all (parts (binding ms)) T₀ ≡ none) × Extends T₀ T'
unbound T₀ T T' left l ms after f d h =
    let e = h ms d.stands in
    (on (member_parts ms) (binding ms ∷ []) T₀ T d.entered ∙ e.0, further T₀ T T' d.grown e.1)

-- a name, and then its value
pub no_name : (x n : Name) (v : Value) (T T' : Table) → x ≡ n → (enter_all (text x ∷ []) T ≡ none) × Extends T T' → (enter_all (text n ∷ parts v) T ≡ none) × Extends T T'
no_name x n v T T' e h = (stopped (text n ∷ []) (parts v) T (ap (λ m. enter_all (text m ∷ []) T) (sym e) ∙ h.0), h.1)

pub no_value : (x n : Name) (v : Value) (T U T' : Table) → x ≡ n → enter_all (text x ∷ []) T ≡ some U → (enter_all (parts v) U ≡ none) × Extends U T' → (enter_all (text n ∷ parts v) T ≡ none) × Extends T T'
no_value x n v T U T' e h k =
    let first : enter_all (text n ∷ []) T ≡ some U = ap (λ m. enter_all (text m ∷ []) T) (sym e) ∙ h in
    (on (text n ∷ []) (parts v) T U first ∙ k.0, further T U T' (all_extends (text n ∷ []) T U first) k.1)

pub named_value : (x n : Name) (v : Value) (T U T' : Table) (i : ℕ) → x ≡ n → (enter_all (text x ∷ []) T ≡ some U) × (nth U i ≡ some (text x)) → enter_all (parts v) U ≡ some T' → (enter_all (text n ∷ parts v) T ≡ some T') × (nth T' i ≡ some (text n))
named_value x n v T U T' i e h k =
    let first : enter_all (text n ∷ []) T ≡ some U = ap (λ m. enter_all (text m ∷ []) T) (sym e) ∙ h.0 in
    (on (text n ∷ []) (parts v) T U first ∙ k, kept U T' (all_extends (parts v) U T' k) i (text n) (h.1 ∙ ap (λ m. some (text m)) e))
