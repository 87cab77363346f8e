-- What the tests name are entities.
use Rattle.std.proofs.Common.{◌≡◌, ℕ, List, [], ◌∷◌, codes, refl, sym, subst}
use Rattle.std.proofs.lemmas.List.Elements.{All-cons, All-nil}
use Rattle.proto_lex.specs.Lexes.{identifier}
use Rattle.scip_symbol.specs.Entities.{IsIdentifier, OfFile, OfPackage, OfDeclaration, IsEntity, of_package}
use Rattle.proto_decl.specs.declared.declaration.DeclarationStep.{DeclarationStep}

pub spaced_file : IsEntity (OfFile (codes "a b.proto"))
spaced_file = record { as_folder = refl; name = codes "a b"; ending = refl }

word : (name : List ℕ) (text : List ℕ) → IsIdentifier text → name ≡ text → IsIdentifier name
word name text h e = subst IsIdentifier (sym e) h

pub two_components : (a b : List ℕ) → a ≡ codes "a" → b ≡ codes "b" → IsEntity (OfPackage (a ∷ b ∷ []))
two_components a b e f = (
  λ none. cc,
  All-cons IsIdentifier a (b ∷ []) (word a (codes "a") (identifier refl refl) e)
      (All-cons IsIdentifier b [] (word b (codes "b") (identifier refl refl) f) (All-nil IsIdentifier)),
)

abbrev IsNamed : DeclarationStep → Type 0
IsNamed s = IsIdentifier s.name

one_message : (a : DeclarationStep) → a.name ≡ codes "A" → IsEntity (OfDeclaration [] (a ∷ []))
one_message a e = (
  of_package (All-nil IsIdentifier),
  λ none. cc,
  All-cons IsNamed a [] (word a.name (codes "A") (identifier refl refl) e) (All-nil IsNamed),
)

pub message : (steps : List DeclarationStep) {a : DeclarationStep} → steps ≡ a ∷ [] → a.name ≡ codes "A"
    → IsEntity (OfDeclaration [] steps)
message steps {a} h e = subst (λ each. IsEntity (OfDeclaration [] each)) (sym h) (one_message a e)
