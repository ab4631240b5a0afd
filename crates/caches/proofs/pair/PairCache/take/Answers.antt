use Rattle.std.proofs.Common.{◌≡◌, ◌-◌, ◌++◌, length, Some, None, sym, refl, ◌∙◌, subst, inl, arith}
use Rattle.caches.specs.Entries.{with_key, answers_at, Took}
use Rattle.caches.specs.Exact.{TakesEither}
use Rattle.caches.proofs.Lists.{took_near, took_none, took_far}
use Rattle.caches.proofs.Takings.{takes_far, hands}
use Rattle.caches.proofs.pair.PairCache.take.Goals as goal

pub returns-then-k-n : goal.returns-then-k-n
returns-then-k-n g c = record {
  took = took_near c.args.key c.args.k c.count-n.result (g.N.Cache.held c.args.self.now.near) (g.F.Cache.held c.args.self.now.far) (g.N.Cache.held c.take.new.self) c.take.result c.count-n.ensures c.if-k-n.true c.take.ensures.took;
  exactly = inl (omega (arith, c.count-n.ensures, c.if-k-n.true), c.take.ensures.exactly, refl);
}

pub returns-in_err-product : goal.returns-in_err-product
returns-in_err-product g c =
    let key = c.args.key in
    let k = c.args.k in
    let n = c.count-n.result in
    let old = c.args.self.now in
    let near = g.N.Cache.held old.near in
    let far = g.F.Cache.held old.far in
    let none = c.from_residual.ensures in
    let taken = c.in_err-product.ensures in
    record {
      took = subst (λ r. Took key k (near ++ far) r (near ++ g.F.Cache.held c.take-2.new.self)) (sym none) (took_none key k n near far (g.F.Cache.held c.take-2.new.self) c.count-n.ensures c.if-k-n.false taken.took);
      exactly = subst (λ r. TakesEither g.N.Cache.adds g.N.Cache.takes g.F.Cache.takes key k (length (with_key key near)) far old.near old.far r old.near c.take-2.new.self) (sym none)
          (takes_far g.N.Cache.adds g.N.Cache.takes g.F.Cache.takes key k n (length (with_key key near)) far old.near old.near old.far c.take-2.new.self None c.count-n.ensures c.if-k-n.false taken.exactly refl);
    }

pub returns : goal.returns
returns g c =
    let key = c.args.key in
    let k = c.args.k in
    let n = c.count-n.result in
    let p = c.in_ok-product.product in
    let old = c.args.self.now in
    let near = g.N.Cache.held old.near in
    let far = g.F.Cache.held old.far in
    let qs = c.deref.result.now in
    let told : qs ≡ answers_at key (k - n) far = c.deref.ensures.0 ∙ c.recall-answers.ensures.recalled in
    let far' = g.F.Cache.held c.take-2.new.self in
    let taken = c.in_ok-product.ensures in
    record {
      took = took_far key k n p qs c.add.result near far (g.N.Cache.held c.add.new.self) far' c.count-n.ensures c.if-k-n.false told taken.took c.add.ensures.added;
      exactly = takes_far g.N.Cache.adds g.N.Cache.takes g.F.Cache.takes key k n (length (with_key key near)) far old.near c.add.new.self old.far c.take-2.new.self (Some p) c.count-n.ensures c.if-k-n.false taken.exactly
          (hands g.N.Cache.adds key (k - n) p qs far far' old.near c.add.new.self c.add.result told taken.took c.add.ensures.exactly);
    }
