use Rattle.std.proofs.Common.{◌≡◌, ◌++◌, ℕ, List, Option, Some, None, IfOk, IsTrue, map, ap, sym, ◌∙◌, subst}
use Rattle.std.specs.Option.{option_map}
use Rattle.proto_decl.specs.Facts.{Facts}
use Rattle.proto_decl.specs.declared.declaration.Declaration.{Declaration}
use Rattle.proto_visibility.specs.Files.{File}
use Rattle.proto_visibility.specs.Clashes.{Item}
use Rattle.proto_visibility.specs.Tables.FileItems.{declared_item}
use Rattle.proto_visibility.specs.Tables.ClashTables.{AreApart, declarations_in}
use Rattle.proto_visibility.proofs.ClashDifferingLemmas.{none_of_file}
use Rattle.proto_visibility.proofs.clash.add_file.Goals as goal

pub returns-in-Some : goal.returns-in-Some
returns-in-Some c =
    let known : c.args.file.now.facts ≡ Some c.in-Some.facts.now =
    sym (ap (λ (f : File). f.facts) c.file.view_is) ∙ ap (option_map (λ facts. facts.now)) c.in-Some.is in
    subst (λ (ds : List Declaration). IfOk c.add_declarations.result (λ new. IsTrue new → (number : ℕ)
    (items : List Item) → AreApart items c.args.numbers.now
    → AreApart (items ++ map (declared_item number) ds) c.add_declarations.new.numbers))
    (c.declarations.ensures ∙ ap declarations_in (sym known)) c.add_declarations.ensures

pub returns-in-None : goal.returns-in-None
returns-in-None c =
    let known : c.args.file.now.facts ≡ None =
    sym (ap (λ (f : File). f.facts) c.file.view_is) ∙ ap (option_map (λ facts. facts.now)) c.in-None.is in
    λ new number items apart. subst
    (λ (o : Option Facts). AreApart (items ++ map (declared_item number) (declarations_in o)) c.args.numbers.now)
    (sym known) (none_of_file items c.args.numbers.now apart)
