-- The texts of the symbols of a file's own declarations.
use Rattle.std.proofs.Common.{◌≡◌, ◌∙◌, ap, sym, ℕ, Bool, false, cond, List, [], ◌∷◌, ◌++◌, map}
use Rattle.std.specs.List.{list_any}
use Rattle.std.specs.Str.{bytes_eq}
use Rattle.std.proofs.lemmas.List.{append_assoc, append-nil}
use Rattle.std.proofs.lemmas.Grind.{flat_map-append}
use Rattle.proto_decl.specs.declared.declaration.DeclarationStep.{DeclarationStep}
use Rattle.scip_symbol.specs.Package.{Package}
use Rattle.scip_symbol.specs.SymbolText.{descriptor_text, descriptors_text}
use Rattle.scip_symbol.specs.Entities.{Entity, OfPackage, OfDeclaration, descriptors_of, namespace_of, step_descriptor}
use Rattle.scip_symbol.specs.EntityTexts.{front_in, namespaces_text, steps_text}
use Rattle.proto_decl.specs.Facts.{Facts}
use Rattle.proto_decl.specs.Laws.{component_names}
use Rattle.proto_decl.specs.declared.declaration.Declaration.{Declaration}
use Rattle.scip_model.specs.Named.{text_of}
use Rattle.scip_model.specs.Repeated.{Home, declaration_in, outermost_name, file_namespace}
use Rattle.scip_model.specs.Tables.OwnTexts.{IsFront}

-- what the text of a declaration has behind that of its package
pub text_behind : (id : Package) (components : List (List ℕ)) (path : List DeclarationStep)
    → text_of id (OfDeclaration components path) ≡ text_of id (OfPackage components) ++ steps_text path
unfolding text_of
text_behind id components path =
    sym (append_assoc (front_in id) (namespaces_text components) (steps_text path)
    ∙ ap (λ (its : List ℕ). front_in id ++ its)
    (sym (flat_map-append descriptor_text (map namespace_of components) (map step_descriptor path))))

module _ (home : Home) (facts : Facts) where
  -- how it is made, by whether its file is before its package
  by-front : (d : Declaration) → Bool → Entity
  by-front d t =
      OfDeclaration (cond t (file_namespace home.path ∷ component_names facts.package_name)
      (component_names facts.package_name)) d.path

  pub chosen-front : (d : Declaration) (t : Bool)
      → list_any (bytes_eq (outermost_name facts d)) home.repeated ≡ t
      → OfDeclaration (cond t (file_namespace home.path ∷ component_names facts.package_name)
      (component_names facts.package_name)) d.path ≡ declaration_in home facts d
  unfolding by-front
  chosen-front d t is = ap (by-front d) (sym is)

  -- if nothing is repeated, it is the usual one
  pub usual : (d : Declaration) → home.repeated ≡ []
      → OfDeclaration (component_names facts.package_name) d.path ≡ declaration_in home facts d
  usual d none = chosen-front d false
      (ap (λ (names : List (List ℕ)). list_any (bytes_eq (outermost_name facts d)) names) none)

  pub usual-front : (front : List ℕ) → home.repeated ≡ []
      → front ≡ text_of home.id (OfPackage (component_names facts.package_name)) → IsFront home facts front
  usual-front front none is = record {
    usual = λ same. is;
    begins = λ d. (
      steps_text d.path,
      ap (text_of home.id) (sym (usual d none))
          ∙ (text_behind home.id (component_names facts.package_name) d.path
          ∙ ap (λ (text : List ℕ). text ++ steps_text d.path) (sym is)),
    );
  }

  -- the head alone
  pub head-front : (front : List ℕ) → (home.repeated ≡ [] → ⊥) → front ≡ text_of home.id (OfPackage [])
      → IsFront home facts front
  unfolding text_of
  head-front front some is = record {
    usual = λ none. absurd (some none);
    begins = λ d. (
      descriptors_text (descriptors_of (declaration_in home facts d)),
      ap (λ (text : List ℕ). text ++ descriptors_text (descriptors_of (declaration_in home facts d)))
          (sym (append-nil (front_in home.id)) ∙ sym is),
    );
  }
