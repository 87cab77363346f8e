use Rattle.std.proofs.Common.{Bool, List, sym, ◌∙◌, subst}
use Rattle.std.proofs.lemmas.Bool.{false≢true, eqb-true, not-false}
use Rattle.proto_visibility.specs.Files.{File}
use Rattle.option_link.specs.Marks.{IsMarked}
use Rattle.option_link.specs.Packages.{HasPackages}
use Rattle.option_link.specs.Tables.{Lists}
use Rattle.option_link.proofs.PackageLemmas.{never_known, never_listed}
use Rattle.option_link.proofs.table.DeclarationTable.may_be_known.Goals as goal

pub returns-then-is_marked : goal.returns-then-is_marked
returns-then-is_marked c = λ is. absurd (false≢true (sym is))

pub returns-then-not-is_marked : goal.returns-then-not-is_marked
returns-then-not-is_marked c = λ unmet.
    let inside = c.self.inside in
    never_listed c.args.self.now c.args.number inside.packages.items
    (subst (λ (fs : List File). HasPackages fs inside.packages.items) c.self.view_is c.self.invariant.packaged)
    inside.listed.items inside.declared.items
    (subst (λ (fs : List File). Lists fs inside.listed.items) c.self.view_is c.self.invariant.lists)
    c.self.invariant.marked
    (λ marked. false≢true (sym c.if-is_marked.false
    ∙ c.is_marked.ensures.1 (subst (λ (xs : List Bool). IsMarked xs c.args.number) (sym c.as_slice.ensures.value)
    marked)))
    (λ marked. false≢true (sym c.if-not-is_marked.true
    ∙ c.is_marked-2.ensures.1 (subst (λ (xs : List Bool). IsMarked xs c.args.number)
    (sym c.as_slice-2.ensures.value) marked)))

pub returns : goal.returns
returns c = λ unmet.
    let inside = c.self.inside in
    never_known c.args.self.now c.args.number inside.packages.items
    (subst (λ (fs : List File). HasPackages fs inside.packages.items) c.self.view_is c.self.invariant.packaged)
    c.near_by.result.now c.near_by.ensures
    (eqb-true _ _ (sym c.is_empty.ensures ∙ not-false c.is_empty.result unmet))
    (λ marked. false≢true (sym c.if-is_marked.false
    ∙ c.is_marked.ensures.1 (subst (λ (xs : List Bool). IsMarked xs c.args.number) (sym c.as_slice.ensures.value)
    marked)))
