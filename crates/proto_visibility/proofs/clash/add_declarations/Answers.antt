use Rattle.std.proofs.Common.{◌≡◌, ◌<◌, ◌++◌, List, true, length, map, ap, sym, ◌∙◌, subst, arith}
use Rattle.std.specs.Prelude.{nat_eq}
use Rattle.std.specs.HashSet.{Updates, contains}
use Rattle.std.proofs.lemmas.List.{take_all}
use Rattle.std.proofs.lemmas.Bool.{not-true}
use Rattle.proto_decl.specs.Names.{hash64}
use Rattle.proto_decl.specs.declared.declaration.Declaration.{Declaration}
use Rattle.proto_visibility.specs.Tables.FileItems.{declared_item}
use Rattle.proto_visibility.specs.Tables.ClashTables.{AreApart}
use Rattle.proto_visibility.proofs.ClashDifferingLemmas.{none_of_file, apart_with}
use Rattle.proto_visibility.proofs.clash.add_declarations.Goals as goal

pub loop-declaration-init : goal.loop-declaration-init
loop-declaration-init c = λ number items apart. none_of_file items c.args.numbers.now apart

pub loop-declaration-preserved : goal.loop-declaration-preserved
loop-declaration-preserved c =
    let declarations = c.args.declarations.now in
    let declaration = c.declaration-item.result in
    let index = c.loop-declaration.declaration-index in
    let old = c.loop-declaration.numbers in
    let new = c.insert.new.self in
    let within : index < length declarations = omega arith in
    let key : c.hash64.result ≡ hash64 declaration.full_name = c.hash64.ensures ∙ ap hash64 c.full_name.ensures in
    let fresh = ap (contains nat_eq old) (sym key)
    ∙ not-true (contains nat_eq old c.hash64.result) (sym c.in_ok-new.ensures.added ∙ c.if-not-new.false) in
    let after = subst (λ k. Updates nat_eq old new k true) key c.in_ok-new.ensures.updates in
    λ number items apart. apart_with number declarations index declaration items old new within c.declaration-item.is
    fresh after (c.loop-declaration.invariant number items apart)

pub returns : goal.returns
returns c = λ new number items apart.
    subst (λ (ds : List Declaration). AreApart (items ++ map (declared_item number) ds) c.loop-declaration.numbers)
    (take_all c.loop-declaration.declaration-index c.args.declarations.now (omega arith))
    (c.loop-declaration.invariant number items apart)
