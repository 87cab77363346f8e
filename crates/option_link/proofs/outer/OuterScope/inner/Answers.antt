use Rattle.std.proofs.Common.{◌≡◌, ◌-◌, ℕ, length, take, get_or, ap, sym, ◌∙◌, subst, arith}
use Rattle.option_link.proofs.OuterLemmas.{HasNoDotIn, last_in, next_in}
use Rattle.option_link.proofs.outer.OuterScope.inner.Goals as goal

pub returns-then-index-behind : goal.returns-then-index-behind
returns-then-index-behind c =
    let scope = c.args.scope.now in
    let index = c.loop-index.index in
    let long = ap length c.self.view_is in
    let whole : index - 0 ≡ index = omega arith in
    next_in scope index (omega (arith, c.as_bytes-bytes.ensures.len)) c.args.self.now c.range.result.now
    (c.range.ensures.value ∙ ap (λ n. take n scope) whole)
    (sym (ap (λ xs. get_or xs index 0) c.as_bytes-bytes.ensures.value) ∙ c.if-byte-eq46.true) c.requires
    (omega (arith, long, c.if-index-behind.true))
    (subst (λ (n : ℕ). HasNoDotIn scope n index) long c.loop-index.invariant.2)

pub returns : goal.returns
returns c =
    let scope = c.args.scope.now in
    let long = ap length c.self.view_is in
    last_in scope c.args.self.now c.loop-index.index (omega (arith, c.as_bytes-bytes.ensures.len)) c.requires
    (omega (arith, long))
    (subst (λ (n : ℕ). HasNoDotIn scope n c.loop-index.index) long c.loop-index.invariant.2)
