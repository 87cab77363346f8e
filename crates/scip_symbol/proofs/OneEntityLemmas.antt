-- In facts without a clash a symbol's text names one entity.
use Rattle.std.proofs.Common.{◌≡◌, ◌≢◌, ℕ, true, List, [], ◌∷◌, ◌++◌, codes, map, refl, ap, sym, ◌∙◌, subst}
use Rattle.std.proofs.Common.{append_assoc}
use Rattle.std.specs.Prelude.{All, Contains}
use Rattle.std.specs.List.{list_all}
use Rattle.std.proofs.lemmas.List.Elements.{All-head}
use Rattle.proto_lex.specs.Bytes.{is_letter, is_word}
use Rattle.proto_lex.specs.Lexes.{identifier, sign}
use Rattle.proto_lex.proofs.ReadingTestLemmas.{both}
use Rattle.source_tree.specs.Path.{IsGoodPath}
use Rattle.scip_symbol.specs.Parts.{IsSymbol}
use Rattle.scip_symbol.specs.Package.{Package, IsPackage}
use Rattle.scip_symbol.specs.SpellsSymbol.{SpellsSymbol}
use Rattle.scip_symbol.specs.SymbolText.{symbol_text}
use Rattle.scip_symbol.specs.Entities.{Entity, OfFile, OfPackage, OfDeclaration, suffix_of, namespace_of}
use Rattle.scip_symbol.specs.Entities.{step_descriptor, descriptors_of, scheme_text, global_in, symbol_in, IsIdentifier}
use Rattle.scip_symbol.specs.Entities.{IsEntity}
use Rattle.scip_symbol.specs.OneEntity.{IsWithoutClash, IsAmong}
use Rattle.proto_decl.specs.declared.declaration.DeclarationKind.{DeclarationKind}
use Rattle.proto_decl.specs.declared.declaration.DeclarationKind.TheVariants.{Message, Enum, Service, Field, Oneof}
use Rattle.proto_decl.specs.declared.declaration.DeclarationKind.TheVariants.{Value, Method}
use Rattle.proto_decl.specs.declared.declaration.DeclarationStep.{DeclarationStep}
use Rattle.proto_decl.proofs.LawAncestorLemmas.{heads, tails}
use Rattle.scip_symbol.specs.declared.symbol.Suffix.TheVariants as suffix
use Rattle.scip_symbol.specs.declared.symbol.Descriptor.{Descriptor}
use Rattle.scip_symbol.specs.declared.symbol.SymbolParts.{SymbolParts}
use Rattle.scip_symbol.specs.declared.symbol.SymbolParts.TheVariants.{Local, Global}
use Rattle.scip_symbol.proofs.SpellsSymbolTextLemmas.{printed}
use Rattle.scip_symbol.proofs.SymbolLemmas.{one-symbol}
use Rattle.scip_symbol.proofs.EntityLemmas.{entity-has, global-is}

joined : {A : Type 0} {x y : A} {xs ys : List A} → x ≡ y → xs ≡ ys → x ∷ xs ≡ y ∷ ys
joined p q = cc

-- ---- one text, one list of descriptors

pub entity-symbol : (p : Package) (e : Entity) → IsPackage p → IsEntity e → IsSymbol (symbol_in p e)
entity-symbol p e is of =
    let has = entity-has e (descriptors_of e) of refl in
    global-is p scheme_text p.manager p.name p.version (descriptors_of e)
    (descriptors_of e) is refl refl refl refl refl has.0 has.1

pub list_in : SymbolParts → List Descriptor
list_in (Local name) = []
list_in (Global s) = s.descriptors

one-list : (p : Package) (ds others : List Descriptor) → global_in p ds ≡ global_in p others → ds ≡ others
unfolding list_in
one-list p ds others e = ap list_in e

same-descriptors : (p : Package) (a b : Entity) → IsPackage p → IsEntity a → IsEntity b
    → symbol_text (symbol_in p a) ≡ symbol_text (symbol_in p b)
    → descriptors_of a ≡ descriptors_of b
same-descriptors p a b is of_a of_b e =
    one-list p (descriptors_of a) (descriptors_of b) (
    one-symbol (symbol_text (symbol_in p b)) (symbol_in p a) (symbol_in p b)
    (subst (λ (t : List ℕ). SpellsSymbol t (symbol_in p a)) e (printed (symbol_in p a) (entity-symbol p a is of_a)))
    (printed (symbol_in p b) (entity-symbol p b is of_b)))

-- ---- namespaces alone

same-namespaces : (xs ys : List (List ℕ)) → map namespace_of xs ≡ map namespace_of ys → xs ≡ ys
same-namespaces [] [] e = refl
same-namespaces [] (y ∷ ys) e = absurd cc
same-namespaces (x ∷ xs) [] e = absurd cc
same-namespaces (x ∷ xs) (y ∷ ys) e =
    joined (ap (λ (d : Descriptor). d.name) (heads e)) (same-namespaces xs ys (tails e))

kind-no-namespace : (kind : DeclarationKind) → suffix.Namespace ≡ suffix_of kind → ⊥
kind-no-namespace Message e = cc
kind-no-namespace Enum e = cc
kind-no-namespace Service e = cc
kind-no-namespace Field e = cc
kind-no-namespace Oneof e = cc
kind-no-namespace Value e = cc
kind-no-namespace Method e = cc

no-step : (name : List ℕ) (step : DeclarationStep) → namespace_of name ≡ step_descriptor step → ⊥
no-step name step e = kind-no-namespace step.kind (ap (λ (d : Descriptor). d.suffix) e)

-- namespaces alone are no path to a declaration
no-steps : (xs ys : List (List ℕ)) (steps : List DeclarationStep) → steps ≢ []
    → map namespace_of xs ≡ map namespace_of ys ++ map step_descriptor steps → ⊥
no-steps xs ys [] some e = some refl
no-steps [] [] (s ∷ steps) some e = cc
no-steps [] (y ∷ ys) (s ∷ steps) some e = cc
no-steps (x ∷ xs) [] (s ∷ steps) some e = no-step x s (heads e)
no-steps (x ∷ xs) (y ∷ ys) (s ∷ steps) some e = no-steps xs ys (s ∷ steps) some (tails e)

same-paths : (xs ys : List (List ℕ)) (steps other : List DeclarationStep) → steps ≢ [] → other ≢ []
    → map namespace_of xs ++ map step_descriptor steps ≡ map namespace_of ys ++ map step_descriptor other
    → (xs ≡ ys) × (map step_descriptor steps ≡ map step_descriptor other)
same-paths [] [] steps other p q e = (refl, e)
same-paths [] (y ∷ ys) [] other p q e = absurd (p refl)
same-paths [] (y ∷ ys) (s ∷ steps) other p q e = absurd (no-step y s (sym (heads e)))
same-paths (x ∷ xs) [] steps [] p q e = absurd (q refl)
same-paths (x ∷ xs) [] steps (s ∷ other) p q e = absurd (no-step x s (heads e))
same-paths (x ∷ xs) (y ∷ ys) steps other p q e =
    let rest = same-paths xs ys steps other p q (tails e) in
    (joined (ap (λ (d : Descriptor). d.name) (heads e)) rest.0, rest.1)

-- ---- a file's path is no identifier

words-end : (front : List ℕ) (rest : List ℕ) → list_all is_word (front ++ (46 ∷ rest)) ≡ true → ⊥
words-end [] rest h = cc
words-end (b ∷ front) rest h = both (is_word b) _ h (λ _ t. words-end front rest t)

word-byte : (b : ℕ) (others : List ℕ) → is_letter b ≡ true → list_all is_word others ≡ true
    → list_all is_word (b ∷ others) ≡ true
word-byte b others h t = rw (h, t) refl

one-byte : (name : List ℕ) (b : ℕ) → b ∷ [] ≡ name ++ codes ".proto" → ⊥
one-byte [] b e = cc
one-byte (x ∷ []) b e = cc
one-byte (x ∷ (y ∷ name)) b e = cc

path-no-identifier : (path : List ℕ) → IsGoodPath path → IsIdentifier path → ⊥
path-no-identifier path is (identifier {b = b} {others = others} h t) =
    words-end is.name (codes "proto")
    (subst (λ (l : List ℕ). list_all is_word l ≡ true) is.ending (word-byte b others h t))
path-no-identifier path is (sign {b = b} h) = one-byte is.name b is.ending

file-no-package : (path : List ℕ) (components : List (List ℕ)) → IsGoodPath path → All IsIdentifier components
    → namespace_of path ∷ [] ≡ map namespace_of components → ⊥
file-no-package path [] is h e = cc
file-no-package path (x ∷ xs) is h e =
    path-no-identifier path is
    (subst IsIdentifier (sym (ap (λ (d : Descriptor). d.name) (heads e))) (All-head IsIdentifier x xs h))

-- ---- paths without a clash

some-last : (pre : List DeclarationStep) (s : DeclarationStep) → pre ++ s ∷ [] ≢ []
some-last [] s = λ e. cc
some-last (p ∷ pre) s = λ e. cc

module _ (declarations : List Entity) (apart : IsWithoutClash declarations) (components : List (List ℕ)) where
  paths : (pre steps other : List DeclarationStep) → Contains declarations (OfDeclaration components (pre ++ steps))
      → Contains declarations (OfDeclaration components (pre ++ other))
      → map step_descriptor steps ≡ map step_descriptor other → steps ≡ other
  paths pre [] [] p q e = refl
  paths pre [] (t ∷ other) p q e = absurd cc
  paths pre (s ∷ steps) [] p q e = absurd cc
  paths pre (s ∷ steps) (t ∷ other) p q e =
      let grow = λ (x : DeclarationStep) (xs : List DeclarationStep). append_assoc pre (x ∷ []) xs in
      let p' : Contains declarations (OfDeclaration components ((pre ++ s ∷ []) ++ steps)) =
      subst (λ (l : List DeclarationStep). Contains declarations (OfDeclaration components l)) (sym (grow s steps)) p in
      let q' : Contains declarations (OfDeclaration components ((pre ++ t ∷ []) ++ other)) =
      subst (λ (l : List DeclarationStep). Contains declarations (OfDeclaration components l)) (sym (grow t other)) q
      in
      let hold_s = apart.holder components (pre ++ s ∷ []) steps (some-last pre s) p' in
      let hold_t = apart.holder components (pre ++ t ∷ []) other (some-last pre t) q' in
      let same : s ≡ t =
      apart.one_name components pre s t hold_s hold_t (ap (λ (d : Descriptor). d.name) (heads e)) in
      let q'' : Contains declarations (OfDeclaration components ((pre ++ s ∷ []) ++ other)) =
      subst (λ (x : DeclarationStep). Contains declarations (OfDeclaration components ((pre ++ x ∷ []) ++ other)))
      (sym same) q' in
      joined same (paths (pre ++ s ∷ []) steps other p' q'' (tails e))

-- ---- entities

same-entity : (declarations : List Entity) → IsWithoutClash declarations → (a b : Entity) → IsEntity a → IsEntity b
    → IsAmong declarations a → IsAmong declarations b → descriptors_of a ≡ descriptors_of b → a ≡ b
same-entity ds apart (OfFile path) (OfFile other) p q m n e =
    ap (λ (x : List ℕ). OfFile x) (ap (λ (d : Descriptor). d.name) (heads e))
same-entity ds apart (OfFile path) (OfPackage xs) p q m n e = absurd (file-no-package path xs p q.1 e)
same-entity ds apart (OfFile path) (OfDeclaration xs steps) p q m n e = absurd (no-steps (path ∷ []) xs steps q.1 e)
same-entity ds apart (OfPackage xs) (OfFile path) p q m n e = absurd (file-no-package path xs q p.1 (sym e))
same-entity ds apart (OfPackage xs) (OfPackage ys) p q m n e =
    ap (λ (x : List (List ℕ)). OfPackage x) (same-namespaces xs ys e)
same-entity ds apart (OfPackage xs) (OfDeclaration ys steps) p q m n e = absurd (no-steps xs ys steps q.1 e)
same-entity ds apart (OfDeclaration xs steps) (OfFile path) p q m n e =
    absurd (no-steps (path ∷ []) xs steps p.1 (sym e))
same-entity ds apart (OfDeclaration xs steps) (OfPackage ys) p q m n e = absurd (no-steps ys xs steps p.1 (sym e))
same-entity ds apart (OfDeclaration xs steps) (OfDeclaration ys other) p q m n e =
    let both = same-paths xs ys steps other p.1 q.1 e in
    let n' : Contains ds (OfDeclaration xs other) =
    subst (λ (l : List (List ℕ)). Contains ds (OfDeclaration l other)) (sym both.0) n in
    let same = paths ds apart xs [] steps other m n' both.1 in
    ap (λ (l : List (List ℕ)). OfDeclaration l steps) both.0
    ∙ ap (λ (l : List DeclarationStep). OfDeclaration ys l) same

pub one-entity : (p : Package) (declarations : List Entity) → IsPackage p → IsWithoutClash declarations
    → (a b : Entity) → IsEntity a → IsEntity b
    → IsAmong declarations a → IsAmong declarations b → symbol_text (symbol_in p a) ≡ symbol_text (symbol_in p b)
    → a ≡ b
one-entity p declarations is apart a b of_a of_b m n e =
    same-entity declarations apart a b of_a of_b m n (same-descriptors p a b is of_a of_b e)
