use Rattle.std.proofs.Common.{◌≡◌, ◌∙◌, ◌++◌, ℕ, List, map, ap, sym}
use Rattle.std.proofs.lemmas.List.{append_assoc}
use Rattle.std.proofs.lemmas.Grind.{flat_map-append}
use Rattle.proto_decl.specs.declared.declaration.DeclarationStep.{DeclarationStep}
use Rattle.scip_symbol.specs.Package.{Package}
use Rattle.scip_symbol.specs.SymbolText.{descriptor_text, symbol_text}
use Rattle.scip_symbol.specs.Entities.{OfPackage, OfDeclaration, namespace_of, step_descriptor, symbol_in}
use Rattle.scip_symbol.specs.EntityTexts.{front_in, namespaces_text, steps_text}
use Rattle.scip_symbol.proofs.entity_text.print_below.Goals as goal

-- the steps are behind the text of the package
below : (id : Package) (components : List (List ℕ)) (path : List DeclarationStep)
    → symbol_text (symbol_in id (OfPackage components)) ++ steps_text path
    ≡ symbol_text (symbol_in id (OfDeclaration components path))
below id components path =
    append_assoc (front_in id) (namespaces_text components) (steps_text path)
    ∙ ap (λ (t : List ℕ). front_in id ++ t)
    (sym (flat_map-append descriptor_text (map namespace_of components) (map step_descriptor path)))

pub returns : goal.returns
returns c = λ id components known.
    c.in_ok-push_path.ensures
    ∙ (ap (λ (t : List ℕ). t ++ steps_text c.args.path.now)
    (c.in_ok-push_str.ensures.bytes ∙ (ap (λ (t : List ℕ). t ++ c.args.front.now) c.in_ok-whole.ensures.bytes ∙ known))
    ∙ below id components c.args.path.now)
