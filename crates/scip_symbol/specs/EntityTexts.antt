-- The text of an entity's symbol, in its parts.
use Rattle.std.specs.Prelude.{ℕ, List, ◌++◌, codes, map}
use Rattle.proto_decl.specs.declared.declaration.DeclarationStep.{DeclarationStep}
use Rattle.scip_symbol.specs.Names.{doubled, space}
use Rattle.scip_symbol.specs.SymbolText.{part_text, descriptors_text}
use Rattle.scip_symbol.specs.Package.{Package}
use Rattle.scip_symbol.specs.Entities.{scheme_text, namespace_of, step_descriptor}

-- what comes before the descriptors: the scheme, and the manager, name and version of the package
abbrev pub front_with : (manager name version : List ℕ) → List ℕ
front_with manager name version =
    doubled space scheme_text ++ codes " " ++ part_text manager ++ codes " " ++ part_text name ++ codes " "
    ++ part_text version ++ codes " "

abbrev pub front_in : Package → List ℕ
front_in p = front_with p.manager p.name p.version

-- a namespace for each component
abbrev pub namespaces_text : (components : List (List ℕ)) → List ℕ
namespaces_text components = descriptors_text (map namespace_of components)

-- what each step's kind has
abbrev pub steps_text : List DeclarationStep → List ℕ
steps_text steps = descriptors_text (map step_descriptor steps)
