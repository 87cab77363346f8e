-- What two trees share has one symbol in both.
use Rattle.std.proofs.Common.{◌≡◌, ◌∙◌, sym, ap, cond, ℕ, List, ◌∷◌, ◌++◌, map, take}
use Rattle.std.specs.List.{slice_get, list_any}
use Rattle.std.specs.Str.{bytes_eq}
use Rattle.std.proofs.lemmas.Option.{same_Some}
use Rattle.proto_decl.specs.Laws.{component_names}
use Rattle.proto_decl.specs.Names.{dotted}
use Rattle.proto_decl.specs.declared.declaration.DeclarationStep.{DeclarationStep}
use Rattle.proto_decl.specs.Facts.{Facts}
use Rattle.proto_decl.specs.declared.uses.Component.{Component}
use Rattle.proto_decl.specs.declared.declaration.Declaration.{Declaration}
use Rattle.scip_records.specs.declared.records.SymbolInformation.{SymbolInformation}
use Rattle.scip_symbol.specs.Entities.{OfFile, OfDeclaration}
use Rattle.scip_symbol.specs.Package.{Package}
use Rattle.proto_visibility.specs.Files.{File, HasFacts}
use Rattle.scip_model.specs.Packages.{Packages, names_at, path_at, path_if_there, package_of_path, package_of_file}
use Rattle.scip_model.specs.Named.{Home, home_of_file, HasDeclaration, text_of, declaration_in}
use Rattle.scip_model.specs.Repeated.{file_namespace}
use Rattle.scip_model.specs.Laws.{DeclareTheSame, IsShared, SymbolsMeet}
use Rattle.scip_model.proofs.PackageLemmas.{by_path}
use Rattle.scip_model.proofs.RepeatedNameLemmas.{home-is}

module _ (files others : List File) (ids theirs : Packages) (number other : ℕ)
    (shared : IsShared files others ids theirs number other) where
  -- the package of the file here and there
  here_is : package_of_file files ids number ≡ package_of_path ids shared.path
  here_is = by_path files ids number shared.here shared.numbered_here ∙ ap (package_of_path ids) shared.path_here

  there_is : package_of_path theirs shared.path ≡ package_of_file others theirs other
  there_is = ap (package_of_path theirs) (sym shared.path_there)
      ∙ sym (by_path others theirs other shared.there shared.numbered_there)

  pub one_package : package_of_file files ids number ≡ package_of_file others theirs other
  one_package = here_is ∙ (shared.one_package ∙ there_is)

  pub file_meets : text_of (package_of_file files ids number) (OfFile shared.here.path)
      ≡ text_of (package_of_path theirs shared.there.path) (OfFile shared.there.path)
  file_meets =
      ap (λ (p : Package). text_of p (OfFile shared.here.path))
      (here_is ∙ (shared.one_package ∙ ap (package_of_path theirs) (sym shared.path_there)))
      ∙ ap (λ (path : List ℕ). text_of (package_of_path theirs shared.there.path) (OfFile path))
      (shared.path_here ∙ sym shared.path_there)

  -- the file declares the same there
  same_facts : (here there : Facts) → HasFacts files number here → HasFacts others other there → DeclareTheSame here there
  same_facts here there a b =
      shared.facts here there
      (ap (λ (f : File). f.facts) (same_Some shared.here a.file (sym shared.numbered_here ∙ a.numbered)) ∙ a.known)
      (ap (λ (f : File). f.facts) (same_Some shared.there b.file (sym shared.numbered_there ∙ b.numbered)) ∙ b.known)

  -- its declarations belong to the same
  one_home : home_of_file files ids number ≡ home_of_file others theirs other
  one_home =
      let here_path : path_at files number ≡ shared.path = ap path_if_there shared.numbered_here ∙ shared.path_here in
      let there_path : path_at others other ≡ shared.path = ap path_if_there shared.numbered_there ∙ shared.path_there
      in
      home-is one_package (here_path ∙ sym there_path) shared.repeated

  -- the text there of the symbol of a declaration, by the components of its package's name
  abbrev of_name : List Component → Declaration → List ℕ
  of_name name d = text_of (package_of_file others theirs other) (OfDeclaration (
      cond (list_any (bytes_eq (dotted (component_names name ++ take 1 (map (λ (step : DeclarationStep). step.name) d.path))))
      (names_at theirs.repeated other))
      (file_namespace (path_at others other) ∷ component_names name) (component_names name)
      ) d.path)

  pub declaration_meets : (index : ℕ) (facts more : Facts) (declared its : Declaration)
      → HasDeclaration files number index facts declared → HasDeclaration others other index more its
      → text_of (package_of_file files ids number) (declaration_in (home_of_file files ids number) facts declared)
      ≡ text_of (package_of_file others theirs other) (declaration_in (home_of_file others theirs other) more its)
  declaration_meets index facts more declared its a b =
      let same : DeclareTheSame facts more = same_facts facts more a.has_facts b.has_facts in
      let one : declared ≡ its =
      same_Some declared its
      (sym a.numbered ∙ (ap (λ (ds : List Declaration). slice_get ds index) same.declarations ∙ b.numbered)) in
      ap (λ (h : Home). text_of h.id (declaration_in h facts declared)) one_home
      ∙ (ap (λ (name : List Component). of_name name declared) same.package_name
      ∙ ap (λ (d : Declaration). of_name more.package_name d) one)

pub meet : SymbolsMeet
meet = record {
  files = λ files others ids theirs number other shared. file_meets files others ids theirs number other shared;
  uses = λ files others ids theirs number other index source facts declared component entity shared has names.
      let named = names.entity_is in
      declaration_meets files others ids theirs number other shared index facts named.facts declared named.declaration
      has named.has
      ∙ ap (text_of (package_of_file others theirs other)) (sym named.is);
  entries = λ files others chosen ids theirs number other index facts declared entry shared has kept.
      declaration_meets files others ids theirs number other shared index facts kept.facts declared kept.declaration has
      kept.has
      ∙ sym (ap (λ (i : SymbolInformation). i.symbol) kept.is);
}
