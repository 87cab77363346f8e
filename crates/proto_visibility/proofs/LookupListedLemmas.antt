-- The files that give a name, by the tables.
use Rattle.std.proofs.Common.{◌≡◌, ◌≢◌, ◌↔◌, ◌⊎◌, inl, inr, ℕ, ◌+◌, ◌<◌, ◌≤◌, Bool, true, false, List, length, get_or}
use Rattle.std.proofs.Common.{Option, Some, None, MatchOption, Result, refl, ap, sym, ◌∙◌, subst, arith, Decides}
use Rattle.std.specs.List.{Contains, slice_get}
use Rattle.std.specs.List.Sorted.{IsNonDecreasing, IsBinarySearchResult}
use Rattle.std.specs.Ordering.{nat_cmp}
use Rattle.std.specs.Result.{is_ok}
use Rattle.std.proofs.lemmas.Bool.{cases_lt, cases_order, false≢true}
use Rattle.std.proofs.lemmas.Option.{slice_get_within}
use Rattle.std.proofs.lemmas.List.{get_or_default}
use Rattle.std.proofs.lemmas.List.Sorted.{searched}
use Rattle.proto_decl.specs.Facts.{Facts}
use Rattle.proto_decl.specs.declared.declaration.DeclarationKind.{DeclarationKind}
use Rattle.proto_decl.specs.declared.declaration.DeclarationKind.TheVariants.{Message, Enum, Service, Field, Oneof}
use Rattle.proto_decl.specs.declared.declaration.DeclarationKind.TheVariants.{Value, Method}
use Rattle.proto_visibility.specs.declared.lookup.Role.{Role}
use Rattle.proto_visibility.specs.declared.lookup.Role.TheVariants.{AsType, AsMessage, AsAggregate}
use Rattle.proto_visibility.specs.declared.names.DeclaredAt.{DeclaredAt}
use Rattle.proto_visibility.specs.declared.names.Names.{Names}
use Rattle.proto_visibility.specs.Files.{File}
use Rattle.proto_visibility.specs.Knows.{NameKind, is_aggregate, admits, DeclaresName, IsGiving}
use Rattle.proto_visibility.specs.Knows.NameKind.{OfPackage, OfDeclaration}
use Rattle.proto_visibility.specs.Knows.DeclaresName.{declared as gives_declared, packaged as gives_packaged}
use Rattle.proto_visibility.specs.Tables.GivenNames.{owned_at, IsAloneIn, IsDeclaring, IsListed, HasPrefix, AreNames}
use Rattle.proto_visibility.proofs.RowRisingLemmas.{decides_found}
use Rattle.basics.proofs.FirstLemmas.{contained, contained_at}

-- ---- declarations in a row

-- none of the first so many declarations is admitted and of a file of the row
abbrev pub NoneDeclaresUpTo : List DeclaredAt → (row : List ℕ) → (NameKind → Bool) → (count : ℕ) → Type 0
NoneDeclaresUpTo declared row admits count = (k : ℕ) (one : DeclaredAt) → k < count → slice_get declared k ≡ Some one
    → admits (OfDeclaration one.kind) ≡ true → Contains row one.file → ⊥

pub declares : (declared : List DeclaredAt) (admits : NameKind → Bool) (k : ℕ) (one : DeclaredAt)
    → slice_get declared k ≡ Some one → admits (OfDeclaration one.kind) ≡ true → IsDeclaring declared admits one.file
declares declared admits k one stands admitted = (one, contained declared k one stands, refl, admitted)

-- ---- the only file that declares

-- none of the first so many declarations is admitted and of another file of the row than this one
abbrev pub NoneElsewhereUpTo : List DeclaredAt → (row : List ℕ) → (NameKind → Bool) → (file count : ℕ) → Type 0
NoneElsewhereUpTo declared row admits file count = (k : ℕ) (one : DeclaredAt) → k < count
    → slice_get declared k ≡ Some one → (one.file ≡ file → ⊥) → admits (OfDeclaration one.kind) ≡ true
    → Contains row one.file → ⊥

-- another file of the row declares
abbrev pub IsElsewhere : (row : List ℕ) → List DeclaredAt → (NameKind → Bool) → (file : ℕ) → Type 0
IsElsewhere row declared admits file =
    (number : ℕ) × (number ≢ file) × Contains row number × IsDeclaring declared admits number

pub elsewhere : (declared : List DeclaredAt) (row : List ℕ) (admits : NameKind → Bool) (file k : ℕ) (one : DeclaredAt)
    → slice_get declared k ≡ Some one → (one.file ≡ file → ⊥) → admits (OfDeclaration one.kind) ≡ true
    → Contains row one.file → IsElsewhere row declared admits file
elsewhere declared row admits file k one stands apart admitted there =
    (one.file, apart, there, declares declared admits k one stands admitted)

module _ (row : List ℕ) (declared : List DeclaredAt) (admits : NameKind → Bool) where
  pub not_alone : (first : ℕ) → Contains row first → IsDeclaring declared admits first
      → IsElsewhere row declared admits first → (number : ℕ) → IsAloneIn row declared admits number → ⊥
  not_alone first there declaring is number alone =
      is.1 (alone.alone is.0 is.2 is.3 ∙ sym (alone.alone first there declaring))

  pub is_alone : (first : ℕ) → Contains row first → IsDeclaring declared admits first
      → (IsElsewhere row declared admits first → ⊥) → IsAloneIn row declared admits first
  is_alone first there declaring isnt = record {
    there = there;
    declares = declaring;
    alone = λ other among its. elim (cases_order other first) [
      | inl same ↦ same
      | inr apart ↦ absurd (isnt (other, differ other first apart, among, its))
    ];
  }
    where
      differ : (a b : ℕ) → (a < b) ⊎ (b < a) → a ≡ b → ⊥
      differ a b (inl h) e = omega arith
      differ a b (inr h) e = omega arith

-- ---- numbers that two lists share

abbrev pub NoneSharedUpTo : (numbers others : List ℕ) → (count : ℕ) → Type 0
NoneSharedUpTo numbers others count = (k : ℕ) → k < count → Contains others (get_or numbers k 0) → ⊥

pub none_shared_more : (numbers others : List ℕ) (count : ℕ) → (Contains others (get_or numbers count 0) → ⊥)
    → NoneSharedUpTo numbers others count → NoneSharedUpTo numbers others (count + 1)
none_shared_more numbers others count not so_far k h there = elim (cases_lt k count) [
  | inl before ↦ so_far k before there
  | inr last ↦ (let here : k ≡ count = omega arith in
      not (subst (λ n. Contains others (get_or numbers n 0)) here there))
]

pub none_shared : (numbers others : List ℕ) (count : ℕ) → length numbers ≤ count → NoneSharedUpTo numbers others count
    → (number : ℕ) → Contains numbers number → Contains others number → ⊥
none_shared numbers others count all so_far number there among =
    so_far there.0 (omega (arith, there.1))
    (subst (Contains others) (sym (get_or_default numbers there.0 0 number there.1 ∙ there.2)) among)

-- none of the first so many declarations is of the file
abbrev pub NoneOfFileUpTo : List DeclaredAt → (file : ℕ) → (count : ℕ) → Type 0
NoneOfFileUpTo declared file count = (k : ℕ) (one : DeclaredAt) → k < count → slice_get declared k ≡ Some one
    → one.file ≡ file → ⊥

pub none_of_file : (declared : List DeclaredAt) (file count : ℕ) → length declared ≤ count
    → NoneOfFileUpTo declared file count → (one : DeclaredAt) → Contains declared one → one.file ≡ file → ⊥
none_of_file declared file count all so_far one there here =
    let at = contained_at declared one there in
    let within = slice_get_within declared at.0 one at.1 in
    so_far at.0 one (omega arith) at.1 here

-- what a binary search says of numbers that don't fall
pub decides_among : (xs : List ℕ) (x : ℕ) (r : Result ℕ ℕ) → IsNonDecreasing xs
    → IsBinarySearchResult (λ y. nat_cmp y x) xs r → Decides (is_ok r) (Contains xs x)
decides_among xs x r order h = decides_found xs x r (searched xs x r h (λ i j. order i j 0))

-- ---- what a file gives

role_aggregate : (role : Role) (kind : DeclarationKind) → admits role (OfDeclaration kind) ≡ true
    → is_aggregate (OfDeclaration kind) ≡ true
role_aggregate AsAggregate kind e = e
role_aggregate AsType Message e = refl
role_aggregate AsType Enum e = refl
role_aggregate AsType Service e = absurd (false≢true e)
role_aggregate AsType Field e = absurd (false≢true e)
role_aggregate AsType Oneof e = absurd (false≢true e)
role_aggregate AsType Value e = absurd (false≢true e)
role_aggregate AsType Method e = absurd (false≢true e)
role_aggregate AsMessage Message e = refl
role_aggregate AsMessage Enum e = absurd (false≢true e)
role_aggregate AsMessage Service e = absurd (false≢true e)
role_aggregate AsMessage Field e = absurd (false≢true e)
role_aggregate AsMessage Oneof e = absurd (false≢true e)
role_aggregate AsMessage Value e = absurd (false≢true e)
role_aggregate AsMessage Method e = absurd (false≢true e)

module _ (files : List File) (names : Names) (are : AreNames files names) (role : Role) (name : List ℕ)
    (number : ℕ) where
  giving_from : IsListed names (admits role) name number → IsGiving files (admits role) name number
  giving_from (inl d) =
      let at = (are.declared name d.0).0 d.1 in
      let by = at.1 in
      let its = by.2 in
      let one = its.3 in
      let here : at.0 ≡ number = ap (λ (x : DeclaredAt). x.file) (sym one.is) ∙ d.2 in
      record {
        file = by.0;
        numbered = subst (λ n. slice_get files n ≡ Some by.0) here by.1;
        gives = record {
          facts = its.0;
          known = its.1;
          gives = record {
            kind = OfDeclaration one.declaration.kind;
            gives = subst (λ n. DeclaresName its.0 n (OfDeclaration one.declaration.kind)) one.named
                (gives_declared (contained its.0.declarations its.2 one.declaration one.stands));
            admitted = ap (λ (x : DeclaredAt). admits role (OfDeclaration x.kind)) (sym one.is) ∙ d.3;
          };
        };
      }
  giving_from (inr p) =
      let at = (are.packaged name number).0 p.1 in
      record {
        file = at.0;
        numbered = at.2;
        gives = record {
          facts = at.1;
          known = at.3;
          gives = record { kind = OfPackage; gives = gives_packaged at.4; admitted = p.0 };
        };
      }

  listed_as : (file : File) (facts : Facts) → slice_get files number ≡ Some file → file.facts ≡ Some facts
      → (n : List ℕ) (kind : NameKind) → n ≡ name → DeclaresName facts n kind → admits role kind ≡ true
      → IsListed names (admits role) name number
  listed_as file facts stands known n kind same (gives_declared {declaration = d} listed) admitted =
      let at = contained_at facts.declarations d listed in
      let one : DeclaredAt = record { file = number; index = at.0; kind = d.kind } in
      inl (
        one,
        (are.declared name one).1 (
          number,
          (
            file,
            stands,
            (
              facts,
              known,
              at.0,
              record {
                declaration = d;
                stands = at.1;
                named = same;
                aggregate = role_aggregate role d.kind admitted;
                is = refl;
              },
            ),
          ),
        ),
        refl,
        admitted,
      )
  listed_as file facts stands known n kind same (gives_packaged of) admitted =
      inr (
        admitted,
        (are.packaged name number).1
            (subst (HasPrefix files number) same (file, facts, stands, known, of)),
      )

  listed_from : IsGiving files (admits role) name number → IsListed names (admits role) name number
  listed_from g = listed_as g.file g.gives.facts g.numbered g.gives.known name g.gives.gives.kind refl
      g.gives.gives.gives g.gives.gives.admitted

  pub listed_iff : IsListed names (admits role) name number ↔ IsGiving files (admits role) name number
  listed_iff = (giving_from, listed_from)

-- what is found by the tables is found in the files
pub found_in_files : (files : List File) (names : Names) → AreNames files names
    → (role : Role) (name row : List ℕ) (found : Option ℕ)
    → MatchOption found ((number : ℕ) → Contains row number → IsListed names (admits role) name number → ⊥)
    (λ number. Contains row number × IsListed names (admits role) name number)
    → MatchOption found ((number : ℕ) → Contains row number → IsGiving files (admits role) name number → ⊥)
    (λ number. Contains row number × IsGiving files (admits role) name number)
found_in_files files names are role name row None none =
    λ number there giving. none number there ((listed_iff files names are role name number).1 giving)
found_in_files files names are role name row (Some number) some =
    (some.0, (listed_iff files names are role name number).0 some.1)

-- where no declaration of the name is in the row, the files of the package are left
module _ (names : Names) (admits : NameKind → Bool) (name row : List ℕ)
    (none : (number : ℕ) → Contains row number → IsDeclaring (owned_at names.declared name) admits number → ⊥) where
  pub by_package : admits OfPackage ≡ true → (found : Option ℕ)
      → MatchOption found ((number : ℕ) → Contains (owned_at names.packages name) number → Contains row number → ⊥)
      (λ number. Contains (owned_at names.packages name) number × Contains row number)
      → MatchOption found ((number : ℕ) → Contains row number → IsListed names admits name number → ⊥)
      (λ number. Contains row number × IsListed names admits name number)
  by_package admitted None apart =
      λ number there listed. elim listed [ inl d ↦ none number there d | inr p ↦ apart number p.1 there ]
  by_package admitted (Some number) both = (both.1, inr (admitted, both.0))

  pub by_none : admits OfPackage ≡ false → (number : ℕ) → Contains row number → IsListed names admits name number → ⊥
  by_none refused number there listed =
      elim listed [ inl d ↦ none number there d | inr p ↦ false≢true (sym refused ∙ p.0) ]
