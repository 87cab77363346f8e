use Rattle.std.proofs.Common.{ℕ, List, subst}
use Rattle.std.specs.List.{Contains}
use Rattle.proto_visibility.specs.Files.{File}
use Rattle.option_link.specs.Typed.{IsTypeFound}
use Rattle.option_link.specs.declared.types.FoundType.{FoundType}
use Rattle.option_link.proofs.table.DeclarationTable.known_type.Goals as goal

pub returns-in-Some : goal.returns-in-Some
returns-in-Some c =
    let one = c.in-Some.one in
    let its = c.in-Some.ensures in
    let there = subst (λ (ts : List FoundType). Contains ts one) c.as_slice.ensures.value its.0 in
    let found = c.self.invariant.found one there in
    subst (λ (fs : List File). IsTypeFound fs c.args.file c.args.start one.found) c.self.view_is
    (subst (λ (f : ℕ). IsTypeFound c.self.inside.linker.now f c.args.start one.found) its.1
    (subst (λ (s : ℕ). IsTypeFound c.self.inside.linker.now one.file s one.found) its.2 found))
