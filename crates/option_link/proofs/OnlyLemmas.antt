-- What has a name alone in its file, and who owns a name.
use Rattle.std.proofs.Common.{◌≡◌, ℕ, Bool, true, false, List, refl, sym, ◌∙◌, subst}
use Rattle.proto_decl.specs.declared.declaration.Declaration.{Declaration}
use Rattle.proto_decl.specs.declared.declaration.DeclarationKind.{DeclarationKind}
use Rattle.proto_visibility.specs.Files.{File}
use Rattle.proto_visibility.specs.Knows.{NameKind, KnowsAs}
use Rattle.proto_visibility.specs.Knows.NameKind.{OfPackage, OfDeclaration}
use Rattle.option_link.specs.declared.place.DeclaredPlace.{DeclaredPlace}
use Rattle.option_link.specs.Places.{Stands, StandsAs, place_at}
use Rattle.option_link.specs.Tables.{HasName, IsOnly, IsOwned, IsSought}
use Rattle.option_link.proofs.KnownLemmas.{known_sought, sought_giving}
use Rattle.option_link.proofs.PlaceLemmas.{one_DeclaredPlace}

-- ---- alone, and of a kind

pub stands_in : (files : List File) (kind : DeclarationKind) (file : ℕ) (name : List ℕ) (place : DeclaredPlace)
    → (only : IsOnly files file name place) → only.has.declaration.kind ≡ kind
    → StandsAs files kind place only.has.declaration
stands_in files kind file name place only is = record {
  stands = only.has.stands;
  is = is;
  alone = λ other its stands named. only.alone other (record {
    declaration = its;
    stands = subst (λ (n : ℕ). Stands files (place_at n other) its) only.in_file stands;
    named = named ∙ only.has.named;
  });
}

pub only_stands : (files : List File) (kind : DeclarationKind) (name : List ℕ) (place : DeclaredPlace)
    → (only : IsOnly files place.file name place) → only.has.declaration.kind ≡ kind
    → StandsAs files kind place only.has.declaration
only_stands files kind name place only is = record {
  stands = only.has.stands;
  is = is;
  alone = λ other its stands named. only.alone other
      (record { declaration = its; stands = stands; named = named ∙ only.has.named });
}

pub stands_only : (files : List File) (kind : DeclarationKind) (name : List ℕ) (place : DeclaredPlace)
    (declaration : Declaration) → StandsAs files kind place declaration → declaration.full_name ≡ name
    → IsOnly files place.file name place
stands_only files kind name place declaration stands named = record {
  in_file = refl;
  has = record { declaration = declaration; stands = stands.stands; named = named };
  alone = λ other has. stands.alone other has.declaration has.stands (has.named ∙ sym named);
}

pub one_only : (files : List File) (file : ℕ) (name : List ℕ) (a b : DeclaredPlace) → IsOnly files file name a
    → IsOnly files file name b → a ≡ b
one_only files file name a b x y =
    one_DeclaredPlace a b (x.in_file ∙ sym y.in_file)
    (y.alone a.index (subst (λ (n : ℕ). HasName files name (place_at n a.index)) x.in_file x.has))

-- ---- owners

module _ (files : List File) (file : ℕ) (admits : NameKind → Bool) (typed : admits OfPackage ≡ false)
    (name : List ℕ) where
  -- what is owned is of an admitted kind
  pub owned_kind : (place : DeclaredPlace) → IsOwned files file admits name place
      → (declaration : Declaration) × StandsAs files declaration.kind place declaration
      × (admits (OfDeclaration declaration.kind) ≡ true) × (declaration.full_name ≡ name)
  owned_kind place owned = by_place (sought_giving files file admits typed name place.file owned.owner.gives)
    where
      by_place : (at : DeclaredPlace) × IsSought files file admits name at × (at.file ≡ place.file)
          → (declaration : Declaration) × StandsAs files declaration.kind place declaration
          × (admits (OfDeclaration declaration.kind) ≡ true) × (declaration.full_name ≡ name)
      by_place found =
          let sought : IsSought files file admits name found.0 = found.1 in
          let has : HasName files name found.0 = record {
            declaration = sought.at.declaration;
            stands = sought.at.stands;
            named = sought.named;
          } in
          let index = owned.only.alone found.0.index
          (subst (λ (n : ℕ). HasName files name (place_at n found.0.index)) found.2 has) in
          let same = one_DeclaredPlace found.0 place found.2 index in
          let stands = subst (λ (p : DeclaredPlace). Stands files p sought.at.declaration) same sought.at.stands in (
            sought.at.declaration,
            record {
              stands = stands;
              is = refl;
              alone = λ other its there named. owned.only.alone other (record {
                declaration = its;
                stands = there;
                named = named ∙ sought.named;
              });
            },
            sought.at.admitted,
            sought.named,
          )

  -- and known to the file as such
  pub owned_known : (place : DeclaredPlace) → IsOwned files file admits name place → KnowsAs files file admits name
  owned_known place owned =
      let found = sought_giving files file admits typed name place.file owned.owner.gives in
      known_sought files file admits name found.0 found.1
