use Rattle.std.proofs.Common.{ℕ, List, Option, sym, ◌∙◌, subst}
use Rattle.std.proofs.lemmas.Bool.{false≢true}
use denote.Ref.{Bor}
use Rattle.option_link.specs.Lookups.{admits}
use Rattle.option_link.proofs.OuterLemmas.{Answers, GoesOn, goes_on, known_here, known_outside}
use Rattle.option_link.proofs.table.DeclarationTable.innermost.Goals as goal
use Rattle.option_link.proofs.table.DeclarationTable.innermost.Goals.{then-known, else-known}

pub loop-next-preserved : goal.loop-next-preserved
loop-next-preserved c =
    let files = c.args.self.now in
    let file = c.args.file in
    let role = admits c.args.sought in
    let word = c.args.word.now in
    let scope = c.args.scope.now in
    let outer = c.in-Some.outer in
    let so_far = subst (λ (n : Option (List ℕ)). GoesOn files file role word c.loop-next.found n scope) c.in-Some.is
    c.loop-next.invariant in
    goes_on files file role word c.if-known.found c.inner-next.result outer scope c.inner-next.ensures
    (elim c.if-known.branch [
      | then-known w ↦ subst (λ (f : Option (Bor (List ℕ))). Answers files file role word f outer) (sym w.found-is)
          (known_here files file role word outer w.name.result w.name.ensures (c.in_ok-known.ensures.0 w.if-known.true))
      | else-known w ↦ subst (λ (f : Option (Bor (List ℕ))). Answers files file role word f outer) (sym w.found-is)
          (known_outside files file role word outer c.loop-next.found
          (λ known. false≢true (sym w.if-known.false ∙ c.in_ok-known.ensures.1 known)) so_far.1)
    ])
