-- What is sought at a place, and in files that aren't left out.
use Rattle.std.proofs.Common.{◌≡◌, ◌↔◌, ℕ, Bool, true, false, List, IsTrue, ap, sym, ◌∙◌, subst}
use Rattle.std.specs.List.{Contains}
use Rattle.std.proofs.lemmas.Bool.{false≢true}
use Rattle.proto_decl.specs.declared.declaration.Declaration.{Declaration}
use Rattle.proto_decl.specs.declared.declaration.DeclarationKind.{DeclarationKind}
use Rattle.proto_decl.specs.declared.declaration.DeclarationKind.TheVariants.{Message}
use Rattle.proto_visibility.specs.Files.{File, HasPath, HasPathAt, HaveOwnPaths, IsPresent}
use Rattle.proto_visibility.specs.Knows.{NameKind, KnowsAs, is_aggregate}
use Rattle.proto_visibility.specs.Knows.NameKind.{OfPackage, OfDeclaration}
use Rattle.proto_visibility.specs.Sees.{Sees}
use Rattle.option_link.specs.declared.place.DeclaredPlace.{DeclaredPlace}
use Rattle.option_link.specs.declared.table.Listed.{Listed}
use Rattle.option_link.specs.Places.{Stands}
use Rattle.option_link.specs.Contexts.{IsMessageNamed}
use Rattle.option_link.specs.Tables.{AreNear, IsOnly, IsSought, IsSoughtAt}
use Rattle.option_link.specs.Typed.{IsMessageAt}
use Rattle.option_link.proofs.LoopLemmas.{iff_as}
use Rattle.option_link.proofs.KnownLemmas.{known_sought, known_nowhere}
use Rattle.option_link.proofs.OnlyLemmas.{one_only, only_stands, stands_only}
use Rattle.option_link.proofs.PlaceLemmas.{same_declaration}

-- the file that has its path is itself
pub present_by : (files : List File) → HaveOwnPaths files → (file : ℕ) (path : List ℕ) (is : Bool)
    → HasPathAt files path file → (IsTrue is ↔ HasPath files path) → IsTrue is ↔ IsPresent files file
present_by files own file path is at iff = (
  λ t. (let its = iff.0 t in
      let same : its.0 ≡ file = own its.0 file its.1.0 at.0 its.1.1 at.1 (its.1.2 ∙ sym at.2) in
      subst (IsPresent files) same its.2),
  λ present. iff.1 (file, at, present),
)

module _ (files : List File) (file : ℕ) (admits : NameKind → Bool) (place : DeclaredPlace) (d : Declaration)
    (stands : Stands files place d) (kind : DeclarationKind) (is_kind : kind ≡ d.kind) where
  pub not_kind : admits (OfDeclaration kind) ≡ false → IsSoughtAt files file admits place → ⊥
  not_kind other at =
      let same : at.declaration.kind ≡ kind = ap (λ (x : Declaration). x.kind)
      (same_declaration files place at.declaration d at.stands stands) ∙ sym is_kind in
      false≢true (sym other ∙ (ap (λ (k : DeclarationKind). admits (OfDeclaration k)) (sym same) ∙ at.admitted))

  pub of_kind : (is : Bool) → admits (OfDeclaration kind) ≡ true → (IsTrue is ↔ Sees files file place.file)
      → IsTrue is ↔ IsSoughtAt files file admits place
  of_kind is admitted iff = iff_as is (Sees files file place.file) (IsSoughtAt files file admits place)
      (λ sees. record {
        declaration = d;
        stands = stands;
        admitted = ap (λ (k : DeclarationKind). admits (OfDeclaration k)) (sym is_kind) ∙ admitted;
        sees = sees;
      }) (λ at. at.sees) iff

-- what is known is at a place, where packages aren't sought or aren't known
pub known_by_place : (files : List File) (file : ℕ) (admits : NameKind → Bool) (name : List ℕ) (is : Bool)
    → (admits OfPackage ≡ true → KnowsAs files file is_aggregate name → ⊥)
    → (IsTrue is ↔ ((place : DeclaredPlace) × IsSought files file admits name place))
    → IsTrue is ↔ KnowsAs files file admits name
known_by_place files file admits name true packaged iff = (
  λ t. (let at = iff.0 t in known_sought files file admits name at.0 at.1),
  λ known. refl_true,
)
  where
    refl_true : true ≡ true
    refl_true = cc
known_by_place files file admits name false packaged iff = (
  λ t. absurd (false≢true t),
  λ known. absurd (known_nowhere files file admits name (λ place sought. false≢true (iff.1 (place, sought))) packaged
      known),
)

-- ---- messages by their names

module _ (files : List File) (name : List ℕ) (place : DeclaredPlace) where
  named_only : IsMessageNamed files name place → IsOnly files place.file name place
  named_only is = stands_only files Message name place is.declaration is.stands is.named

  pub none_named : ((one : DeclaredPlace) → IsOnly files place.file name one → ⊥) → IsMessageNamed files name place → ⊥
  none_named none is = none place (named_only is)

  pub not_named : (one : DeclaredPlace) → IsOnly files place.file name one → (one ≡ place → ⊥)
      → IsMessageNamed files name place → ⊥
  not_named one only other is = other (one_only files place.file name one place only (named_only is))

  pub named_by : (is : Bool) → IsOnly files place.file name place → (IsTrue is ↔ IsMessageAt files place)
      → IsTrue is ↔ IsMessageNamed files name place
  named_by is only iff = iff_as is (IsMessageAt files place) (IsMessageNamed files name place)
      (λ message. (
      let same = same_declaration files place only.has.declaration message.declaration only.has.stands
      message.stands in
      record {
        declaration = only.has.declaration;
        stands = only_stands files Message name place only
            (ap (λ (x : Declaration). x.kind) same ∙ message.is);
        named = only.has.named;
      }))
      (λ message. record {
        declaration = message.declaration;
        stands = message.stands.stands;
        is = message.stands.is;
      }) iff

-- those of the places near the name
pub messages_by : (files : List File) (name : List ℕ) (listed : List Listed) (messages : List DeclaredPlace)
    → AreNear files name listed
    → ((message : DeclaredPlace) → Contains messages message
    ↔ ((one : Listed) × Contains listed one × (one.place ≡ message) × IsMessageNamed files name message))
    → (message : DeclaredPlace) → Contains messages message ↔ IsMessageNamed files name message
messages_by files name listed messages near kept message = (
  λ there. ((kept message).0 there).3,
  λ is. (
      let one = near message (record { declaration = is.declaration; stands = is.stands.stands; named = is.named }) in
      (kept message).1 (one.0, one.1, one.2, is)
      ),
)
