-- The packages of files, and symbols in several packages.
use Rattle.std.proofs.Common.{◌≡◌, ◌∙◌, refl, sym, ap, subst, ℕ, Bool, true, false, Option, Some, None, List}
use Rattle.std.proofs.Common.{◌||◌, [], ◌∷◌, ◌++◌, map}
use Rattle.std.specs.Prelude.{All, if◌then◌else◌}
use Rattle.std.specs.List.{slice_get, list_any}
use Rattle.std.specs.Str.{bytes_eq}
use Rattle.std.proofs.lemmas.List.{map-append}
use Rattle.std.proofs.lemmas.List.Elements.{All-head, All-tail}
use Rattle.scip_symbol.proofs.OneEntityLemmas.{entity-symbol as symbol-of-entity}
use Rattle.scip_symbol.specs.Parts.{IsSymbol}
use Rattle.scip_symbol.specs.Package.{Package, IsPackage}
use Rattle.scip_symbol.specs.SpellsSymbol.{SpellsSymbol}
use Rattle.scip_symbol.specs.SymbolText.{symbol_text}
use Rattle.scip_symbol.specs.Entities.{Entity, IsEntity, descriptors_of, global_in, symbol_in}
use Rattle.scip_symbol.specs.declared.symbol.Descriptor.{Descriptor}
use Rattle.scip_symbol.specs.declared.symbol.SymbolParts.{SymbolParts}
use Rattle.scip_symbol.specs.declared.symbol.SymbolParts.TheVariants.{Local, Global}
use Rattle.proto_visibility.specs.Files.{File, HasPathAt}
use Rattle.scip_model.specs.Packages.{Root, Packages, package_among, package_of_path, package_if_there}
use Rattle.scip_model.specs.Packages.{package_of_file, ArePackages, RepeatedNames, naming}

-- ---- texts that are kept as strings

-- a test of the texts
pub any-of-map : {A B : Type 0} (test : B → Bool) (f : A → B) (xs : List A)
    → list_any (λ x. test (f x)) xs ≡ list_any test (map f xs)
any-of-map test f [] = refl
any-of-map test f (x ∷ xs) = ap (λ (b : Bool). test (f x) || b) (any-of-map test f xs)

-- one more text
pub more-text : {A B : Type 0} (f : A → B) (b : Bool) (xs : List A) (x : A)
    → map f (if b then xs else xs ++ x ∷ []) ≡ (if b then map f xs else map f xs ++ f x ∷ [])
more-text f true xs x = refl
more-text f false xs x = map-append f xs (x ∷ [])

-- ---- the package of a file is one of these

chosen_package : (b : Bool) (p q : Package) → IsPackage p → IsPackage q → IsPackage (if b then p else q)
chosen_package true p q good fine = good
chosen_package false p q good fine = fine

among_good : (run : Package) (path : List ℕ) (roots : List Root) → IsPackage run
    → All (λ (root : Root). IsPackage root.id) roots → IsPackage (package_among run path roots)
among_good run path [] good all = good
among_good run path (root ∷ roots) good all =
    chosen_package (list_any (bytes_eq path) root.paths) root.id (package_among run path roots)
    (All-head (λ (r : Root). IsPackage r.id) root roots all)
    (among_good run path roots good (All-tail (λ (r : Root). IsPackage r.id) root roots all))

path_good : (ids : Packages) (path : List ℕ) → ArePackages ids → IsPackage (package_of_path ids path)
unfolding package_of_path
path_good ids path are = among_good ids.run path ids.roots are.run are.roots

if_there_good : (ids : Packages) (there : Option File) → ArePackages ids → IsPackage (package_if_there ids there)
if_there_good ids None are = are.run
if_there_good ids (Some file) are = path_good ids file.path are

pub file_good : (files : List File) (ids : Packages) (number : ℕ) → ArePackages ids
    → IsPackage (package_of_file files ids number)
file_good files ids number are = if_there_good ids (slice_get files number) are

-- it goes by the file's path
pub by_path : (files : List File) (ids : Packages) (number : ℕ) (file : File) → slice_get files number ≡ Some file
    → package_of_file files ids number ≡ package_of_path ids file.path
by_path files ids number file at = ap (package_if_there ids) at

pub by_its_path : (files : List File) (ids : Packages) (path : List ℕ) (number : ℕ) → HasPathAt files path number
    → package_of_path ids path ≡ package_of_file files ids number
by_its_path files ids path number has =
    ap (package_of_path ids) (sym has.2) ∙ sym (by_path files ids number has.0 has.1)

-- what is repeated doesn't matter to it
pub whatever-repeated : (ids : Packages) (repeated : RepeatedNames) (path : List ℕ)
    → package_of_path ids path ≡ package_of_path (naming ids repeated) path
unfolding package_of_path
whatever-repeated ids repeated path = refl

-- ---- symbols in two packages

list_in : SymbolParts → List Descriptor
list_in (Local name) = []
list_in (Global s) = s.descriptors

one-list : (p q : Package) (ds others : List Descriptor) → global_in p ds ≡ global_in q others → ds ≡ others
unfolding list_in
one-list p q ds others e = ap list_in e

module _ (one : (text : List ℕ) (symbol other : SymbolParts) → SpellsSymbol text symbol → SpellsSymbol text other
    → symbol ≡ other) (printed : (symbol : SymbolParts) → IsSymbol symbol
    → SpellsSymbol (symbol_text symbol) symbol) where
  -- a text tells the descriptors, so that the second entity has this text in the first package, too
  pub one-package : (p q : Package) (a b : Entity) → IsPackage p → IsPackage q → IsEntity a → IsEntity b
      → symbol_text (symbol_in p a) ≡ symbol_text (symbol_in q b)
      → symbol_text (symbol_in p a) ≡ symbol_text (symbol_in p b)
  one-package p q a b good fine of_a of_b e =
      ap (λ (ds : List Descriptor). symbol_text (global_in p ds))
      (one-list p q (descriptors_of a) (descriptors_of b) (
      one (symbol_text (symbol_in q b)) (symbol_in p a) (symbol_in q b)
      (subst (λ (t : List ℕ). SpellsSymbol t (symbol_in p a)) e
      (printed (symbol_in p a) (symbol-of-entity p a good of_a)))
      (printed (symbol_in q b) (symbol-of-entity q b fine of_b))))
