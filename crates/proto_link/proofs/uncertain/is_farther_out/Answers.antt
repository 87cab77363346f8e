use Rattle.std.proofs.Common.{List, ℕ, Option, refl, sym, ◌∙◌, subst}
use Rattle.std.proofs.lemmas.Bool.{false≢true}
use Rattle.std.proofs.lemmas.Slice.Eq.{bytes_eq-Decides}
use denote.Ref.{Bor}
use Rattle.proto_link.specs.Mended.{IsAroundOrSame}
use Rattle.proto_link.specs.Mended.IsAroundOrSame.{same}
use Rattle.proto_link.proofs.UncertainLemmas.{StandsFor, farther_from, farther_more}
use Rattle.proto_link.proofs.uncertain.is_farther_out.Goals as goal

pub loop-next-init : goal.loop-next-init
loop-next-init c =
    farther_from c.args.scope.now c.args.outer.now c.scope_around-next.result c.scope_around-next.ensures.around

pub returns-then-eq : goal.returns-then-eq
returns-then-eq c =
    let so_far = subst (λ (n : Option (Bor (List ℕ))). StandsFor c.args.scope.now c.args.outer.now n)
    c.in-Some.is c.loop-next.invariant in
    let one = (bytes_eq-Decides c.in-Some.inner.now c.args.outer.now).0 (sym c.eq.ensures ∙ c.if-eq.true) in (
      λ t. so_far.1 (subst (IsAroundOrSame c.in-Some.inner.now) one same),
      λ out. refl,
    )

pub loop-next-preserved : goal.loop-next-preserved
loop-next-preserved c =
    let so_far = subst (λ (n : Option (Bor (List ℕ))). StandsFor c.args.scope.now c.args.outer.now n)
    c.in-Some.is c.loop-next.invariant in
    farther_more c.args.scope.now c.args.outer.now c.in-Some.inner.now c.scope_around-next-in-Some.result
    (λ one. false≢true (sym c.if-eq.false
    ∙ (c.eq.ensures ∙ (bytes_eq-Decides c.in-Some.inner.now c.args.outer.now).1 one))) so_far
    c.scope_around-next-in-Some.ensures.around

pub returns : goal.returns
returns c =
    let none = subst (λ (n : Option (Bor (List ℕ))). StandsFor c.args.scope.now c.args.outer.now n)
    c.in_default.is c.loop-next.invariant in (
      λ t. absurd (false≢true t),
      λ out. absurd (none.0 out),
    )
