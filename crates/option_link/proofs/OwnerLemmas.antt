-- What has a name, and of which file what is sought is, by what is near the name.
use Rattle.std.proofs.Common.{◌≡◌, ◌↔◌, ℕ, Bool, true, false, List, [], ◌∷◌, length, get_or, IsTrue}
use Rattle.std.proofs.Common.{refl, ap, sym, ◌∙◌, subst, arith}
use Rattle.std.specs.List.{Contains}
use Rattle.proto_decl.specs.declared.declaration.Declaration.{Declaration}
use Rattle.proto_visibility.specs.Files.{File, IsPresent}
use Rattle.proto_visibility.specs.Knows.{NameKind, IsOwner}
use Rattle.proto_visibility.specs.Knows.NameKind.{OfPackage}
use Rattle.option_link.specs.declared.place.DeclaredPlace.{DeclaredPlace}
use Rattle.option_link.specs.declared.table.Listed.{Listed}
use Rattle.option_link.specs.Places.{place_at}
use Rattle.option_link.specs.Tables.{AreNear, HasName, IsAlone, IsOnly, IsOwned, IsSought, IsSoughtAt}
use Rattle.option_link.proofs.KnownLemmas.{giving_sought, sought_giving}
use Rattle.option_link.proofs.LoopLemmas.{iff_as, all_of, one_more, none_yet}
use Rattle.option_link.proofs.PlaceLemmas.{one_DeclaredPlace, same_declaration}

-- what is read behind the end of a list
abbrev pub nothing : Listed
nothing = record { hash64 = 0; place = place_at 0 0 }

-- ---- what has a name

-- what holds of all that is near holds of all that has the name
pub each_near : (files : List File) (name : List ℕ) (listed : List Listed) → AreNear files name listed
    → (Q : DeclaredPlace → Type 0) → ((one : Listed) → Contains listed one → Q one.place) → (place : DeclaredPlace)
    → HasName files name place → Q place
each_near files name listed near Q each place has =
    let one = near place has in
    subst Q one.2 (each one.0 one.1)

module _ (files : List File) (name : List ℕ) (file : ℕ) (place : DeclaredPlace) (in_file : place.file ≡ file)
    (has : HasName files name place) where
  only_here : IsAlone files name place → IsOnly files file name place
  only_here alone = record {
    in_file = in_file;
    has = has;
    alone = λ other its. ap (λ (p : DeclaredPlace). p.index) (alone (place_at file other) (sym in_file) its);
  }

  pub only_if : (is : Bool) → (IsTrue is ↔ IsAlone files name place) → is ≡ true → IsOnly files file name place
  only_if is iff t = only_here (iff.0 t)

  alone_here : (one : DeclaredPlace) → IsOnly files file name one → IsAlone files name place
  alone_here one only other beside_it its = (
      let in_its : other.file ≡ file = beside_it ∙ in_file in
      let same : other.index ≡ one.index =
      only.alone other.index (subst (λ (n : ℕ). HasName files name (place_at n other.index)) in_its its) in
      let here : place.index ≡ one.index =
      only.alone place.index (subst (λ (n : ℕ). HasName files name (place_at n place.index)) in_file has) in
      one_DeclaredPlace other place beside_it (same ∙ sym here))

  pub not_only : (IsAlone files name place → ⊥) → (one : DeclaredPlace) → IsOnly files file name one → ⊥
  not_only several one only = several (alone_here one only)

pub none_only : (files : List File) (name : List ℕ) (file : ℕ)
    → ((place : DeclaredPlace) → HasName files name place → place.file ≡ file → ⊥) → (place : DeclaredPlace)
    → IsOnly files file name place → ⊥
none_only files name file none place only = none place only.has only.in_file

-- by those that are near
pub alone_by_near : (files : List File) (name : List ℕ) (near : List Listed) (place : DeclaredPlace) (is : Bool)
    → AreNear files name near
    → (IsTrue is ↔ ((one : Listed) → Contains near one → one.place.file ≡ place.file → HasName files name one.place
    → one.place ≡ place))
    → IsTrue is ↔ IsAlone files name place
alone_by_near files name near place is all iff = (
  λ t other beside has. each_near files name near all
      (λ p. p.file ≡ place.file → HasName files name p → p ≡ place) (iff.0 t) other has beside has,
  λ alone. iff.1 (λ one there. alone one.place),
)

-- ---- where but one place is near

pub alone_near : (files : List File) (name : List ℕ) (listed : List Listed) (d : Listed) → length listed ≡ 1
    → AreNear files name listed → (place : DeclaredPlace) → HasName files name place
    → place ≡ (get_or listed 0 d).place
alone_near files name [] d size near = absurd (omega (arith, size))
alone_near files name (one ∷ []) d size near = each_near files name (one ∷ []) near (λ p. p ≡ one.place)
    (all_of Same (one ∷ []) 1 (omega arith) (one_more Same (one ∷ []) 0 one refl refl (none_yet Same (one ∷ []))))
  where
    Same : Listed → Type 0
    Same x = x.place ≡ one.place
alone_near files name (one ∷ (two ∷ more)) d size near = absurd (omega (arith, size))

module _ (files : List File) (name : List ℕ) (place : DeclaredPlace)
    (near : (other : DeclaredPlace) → HasName files name other → other ≡ place) (file : ℕ) where
  pub only_there : (place.file ≡ file) × HasName files name place → IsOnly files file name place
  only_there is = record {
    in_file = is.0;
    has = is.1;
    alone = λ other its. ap (λ (p : DeclaredPlace). p.index) (near (place_at file other) its);
  }

  pub not_there_only : ((place.file ≡ file) × HasName files name place → ⊥) → (one : DeclaredPlace)
      → IsOnly files file name one → ⊥
  not_there_only not one only =
      let same : one ≡ place = near one only.has in
      not (ap (λ (p : DeclaredPlace). p.file) (sym same) ∙ only.in_file, subst (HasName files name) same only.has)

-- ---- what is sought

module _ (files : List File) (file : ℕ) (admits : NameKind → Bool) (name : List ℕ) where
  pub sought_has : (place : DeclaredPlace) → IsSought files file admits name place → HasName files name place
  sought_has place sought = record {
    declaration = sought.at.declaration;
    stands = sought.at.stands;
    named = sought.named;
  }

  pub sought_by : (place : DeclaredPlace) (is : Bool) → IsSoughtAt files file admits place
      → (IsTrue is ↔ HasName files name place) → IsTrue is ↔ IsSought files file admits name place
  sought_by place is at iff = iff_as is (HasName files name place) (IsSought files file admits name place)
      (λ has. record {
        at = at;
        named = ap (λ (d : Declaration). d.full_name)
            (same_declaration files place at.declaration has.declaration at.stands has.stands) ∙ has.named;
      }) (sought_has place) iff

  module _ (listed : List Listed) (near : AreNear files name listed) where
    pub none_sought : ((one : Listed) → Contains listed one → IsSought files file admits name one.place → ⊥)
        → (place : DeclaredPlace) → IsSought files file admits name place → ⊥
    none_sought none place sought = each_near files name listed near
        (λ (p : DeclaredPlace). IsSought files file admits name p → ⊥) none place (sought_has place sought) sought

    pub all_sought : (owner : ℕ) (is : Bool)
        → (IsTrue is ↔ ((one : Listed) → Contains listed one → IsSought files file admits name one.place
        → one.place.file ≡ owner))
        → IsTrue is ↔ ((place : DeclaredPlace) → IsSought files file admits name place → place.file ≡ owner)
    all_sought owner is iff = (
      λ t place sought. each_near files name listed near
          (λ (p : DeclaredPlace). IsSought files file admits name p → p.file ≡ owner) (iff.0 t) place
          (sought_has place sought) sought,
      λ all. iff.1 (λ one there. all one.place),
    )

-- ---- who owns a name

module _ (files : List File) (file : ℕ) (admits : NameKind → Bool) (typed : admits OfPackage ≡ false)
    (name : List ℕ) where
  pub none_owner : ((place : DeclaredPlace) → IsSought files file admits name place → ⊥) → (owner : ℕ)
      → IsOwner files file admits name owner → ⊥
  none_owner none owner is =
      let found = sought_giving files file admits typed name owner is.gives in
      none found.0 found.1

  module _ (first : DeclaredPlace) (at : IsSought files file admits name first) where
    pub not_all_owned : (((place : DeclaredPlace) → IsSought files file admits name place
        → place.file ≡ first.file) → ⊥) → (owner : ℕ) → IsOwner files file admits name owner → ⊥
    not_all_owned not owner is = not (λ place sought.
        is.alone place.file (giving_sought files file admits name place sought)
        ∙ sym (is.alone first.file (giving_sought files file admits name first at)))

    pub not_there : (IsPresent files first.file → ⊥) → (owner : ℕ) → IsOwner files file admits name owner → ⊥
    not_there not owner is = not (subst (IsPresent files)
        (sym (is.alone first.file (giving_sought files file admits name first at))) is.present)

    pub owner_here : ((place : DeclaredPlace) → IsSought files file admits name place → place.file ≡ first.file)
        → IsPresent files first.file → IsOwner files file admits name first.file
    owner_here all present = record {
      gives = giving_sought files file admits name first at;
      present = present;
      alone = λ other gives. (
          let its = sought_giving files file admits typed name other gives in
          sym its.2 ∙ all its.0 its.1
          );
    }

  pub owned_in : (owner : ℕ) → IsOwner files file admits name owner → (place : DeclaredPlace)
      → IsOnly files owner name place → IsOwned files file admits name place
  owned_in owner is place only = record {
    owner = subst (IsOwner files file admits name) (sym only.in_file) is;
    only = subst (λ (n : ℕ). IsOnly files n name place) (sym only.in_file) only;
  }

  pub owned_out : (owner : ℕ) → IsOwner files file admits name owner → (place : DeclaredPlace)
      → IsOwned files file admits name place → IsOnly files owner name place
  owned_out owner is place owned =
      let same : place.file ≡ owner = is.alone place.file owned.owner.gives in
      subst (λ (n : ℕ). IsOnly files n name place) same owned.only

  -- where but one place may have the name

  module _ (place : DeclaredPlace) (near : (other : DeclaredPlace) → HasName files name other → other ≡ place) where
    sought_near : (other : DeclaredPlace) → IsSought files file admits name other → other ≡ place
    sought_near other sought = near other (sought_has files file admits name other sought)

    pub not_sought : (IsSought files file admits name place → ⊥) → (one : DeclaredPlace)
        → IsOwned files file admits name one → ⊥
    not_sought not one owned =
        none_owner (λ other sought. not (subst (IsSought files file admits name) (sought_near other sought) sought))
        one.file owned.owner

    module _ (at : IsSought files file admits name place) where
      pub left_out : (IsPresent files place.file → ⊥) → (one : DeclaredPlace) → IsOwned files file admits name one → ⊥
      left_out not one owned = not_there place at not one.file owned.owner

      pub owned_there : IsPresent files place.file → IsOwned files file admits name place
      owned_there present = record {
        owner = owner_here place at (λ other sought. ap (λ (p : DeclaredPlace). p.file) (sought_near other sought))
            present;
        only = only_there files name place near place.file (refl, sought_has files file admits name place at);
      }
