use Rattle.std.proofs.Common.{◌≡◌, ℕ, ◌+◌, ◌-◌, ◌≤◌, Bool, true, false, ◌&&◌, ltb, leb, length, vec_len, sym, refl, ap, ◌∙◌, arith}
use Rattle.std.proofs.lemmas.Bool.{lt-ltb, le-ltb}
use Rattle.std.proofs.lemmas.Bool.Decides.{nat_tests}
use Rattle.values.specs.Table.{fits, content_value}
use Rattle.values.specs.Contents.{own_bytes, own_members}
use Rattle.values.specs.Memory.{values}
use Rattle.values.specs.declared.parts.Content.{Content}
use Rattle.values.specs.declared.store.Table.{Table}
use Rattle.values.proofs.Sameness.{clash}
use Rattle.values.proofs.Steps.{fits_content}
use Rattle.values.proofs.store.Table.has_room.Goals as goal
use Rattle.values.proofs.store.Table.has_room.Goals.{then-len-lt-MAX_VALUES, else-len-lt-MAX_VALUES}

-- the tests of room, as the code makes them
as_tested : (t : Table) (c : Content) (n b m x y : ℕ) → n ≡ vec_len t.nodes → b ≡ vec_len t.bytes → m ≡ vec_len t.members → x ≡ length (own_bytes c) → y ≡ length (own_members c) → (ltb n 2048 && (leb x (32768 - b) && leb y (4096 - m))) ≡ fits (content_value (values t) c) (values t)
as_tested t c n b m x y p q r e f =
    rw (p, q, r) (plain (vec_len t.nodes) (vec_len t.bytes) (vec_len t.members) x y t.few.1 t.few.2)
    ∙ (λ j. leb (vec_len t.nodes + 1) 2048 && (leb (vec_len t.bytes + e j) 32768 && leb (vec_len t.members + f j) 4096)) ∙ sym (fits_content t c)
  where
    plain : (n b m x y : ℕ) → b ≤ 32768 → m ≤ 4096 → (ltb n 2048 && (leb x (32768 - b) && leb y (4096 - m))) ≡ (leb (n + 1) 2048 && (leb (b + x) 32768 && leb (m + y) 4096))
    plain n b m x y p q = grind (arith, nat_tests)

last : (a b d : Bool) → a ≡ true → b ≡ true → d ≡ (a && (b && d))
last true true d e f = refl
last true false d e f = clash (sym f)
last false b d e f = clash (sym e)

second : (a b d : Bool) → b ≡ false → false ≡ (a && (b && d))
second true true d f = clash f
second true false d f = refl
second false b d f = refl

first : (a b : Bool) → a ≡ false → false ≡ (a && b)
first true b e = clash e
first false b e = refl

pub returns-then-bytes-len : goal.returns-then-bytes-len
returns-then-bytes-len c =
    let t = c.args.self.now in
    let s = c.sizes-bytes.ensures in
    elim c.if-len-lt-MAX_VALUES.branch [
      | then-len-lt-MAX_VALUES w ↦ last (ltb c.len.result 2048) _ _ (lt-ltb c.len.result 2048 w.if-len-lt-MAX_VALUES.true) (sym w.value-is ∙ c.if-bytes-len.true)
          ∙ as_tested t c.args.content c.len.result w.len-then-len-lt-MAX_VALUES.result c.len-then-bytes-len.result c.sizes-bytes.result.0 c.sizes-bytes.result.1 c.len.ensures w.len-then-len-lt-MAX_VALUES.ensures c.len-then-bytes-len.ensures (ap (λ p. p.0) s) (ap (λ p. p.1) s)
      | else-len-lt-MAX_VALUES w ↦ clash (sym c.if-bytes-len.true ∙ w.value-is ∙ le-ltb c.len.result 2048 w.if-len-lt-MAX_VALUES.false)
    ]

pub returns-else-bytes-len : goal.returns-else-bytes-len
returns-else-bytes-len c =
    let t = c.args.self.now in
    let s = c.sizes-bytes.ensures in
    elim c.if-len-lt-MAX_VALUES.branch [
      | then-len-lt-MAX_VALUES w ↦ c.if-bytes-len.false ∙ second (ltb c.len.result 2048) _ _ (sym w.value-is ∙ c.if-bytes-len.false)
          ∙ as_tested t c.args.content c.len.result w.len-then-len-lt-MAX_VALUES.result (vec_len t.members) c.sizes-bytes.result.0 c.sizes-bytes.result.1 c.len.ensures w.len-then-len-lt-MAX_VALUES.ensures refl (ap (λ p. p.0) s) (ap (λ p. p.1) s)
      | else-len-lt-MAX_VALUES w ↦ c.if-bytes-len.false ∙ first (ltb c.len.result 2048) _ (le-ltb c.len.result 2048 w.if-len-lt-MAX_VALUES.false)
          ∙ as_tested t c.args.content c.len.result (vec_len t.bytes) (vec_len t.members) c.sizes-bytes.result.0 c.sizes-bytes.result.1 c.len.ensures refl refl (ap (λ p. p.0) s) (ap (λ p. p.1) s)
    ]
