use Rattle.std.proofs.Common.{◌≡◌, ◌∙◌, sym, ℕ, List, map, length, arith}
use Rattle.std.specs.Borrow.{Bor}
use Rattle.std.proofs.lemmas.List.{length-map}
use Rattle.scip_site.proofs.TreeLemmas.{from_none, same_more, same_no_more, all_same}
use Rattle.scip_site.proofs.tree.common.Goals as goal

pub loop-at-init : goal.loop-at-init
loop-at-init c =
    from_none (map (λ (n : Bor (List ℕ)). n.now) c.args.here.now) (map (λ (n : Bor (List ℕ)). n.now) c.args.names.now)

pub loop-at-preserved : goal.loop-at-preserved
loop-at-preserved c =
    same_more (map (λ (n : Bor (List ℕ)). n.now) c.args.here.now) (map (λ (n : Bor (List ℕ)). n.now) c.args.names.now)
    c.loop-at.at c.loop-at.invariant (sym c.same_at.ensures ∙ c.if-not-same_at.false)

pub returns-then-not-same_at : goal.returns-then-not-same_at
returns-then-not-same_at c =
    same_no_more (map (λ (n : Bor (List ℕ)). n.now) c.args.here.now)
    (map (λ (n : Bor (List ℕ)). n.now) c.args.names.now) c.loop-at.at c.loop-at.invariant
    (sym c.same_at.ensures ∙ c.if-not-same_at.true)

pub returns : goal.returns
returns c =
    let here : List (List ℕ) = map (λ (n : Bor (List ℕ)). n.now) c.args.here.now in
    let size : length here ≡ length c.args.here.now = length-map c.args.here.now (λ (n : Bor (List ℕ)). n.now) in
    let end : c.loop-at.at ≡ length here = omega (arith, size) in
    sym size ∙ sym end
    ∙ all_same here (map (λ (n : Bor (List ℕ)). n.now) c.args.names.now) c.loop-at.at c.loop-at.invariant end
