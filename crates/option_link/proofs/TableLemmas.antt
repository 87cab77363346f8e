-- The table of declarations: what is listed, and what is found there.
use Rattle.std.proofs.Common.{◌≡◌, ◌↔◌, inl, inr, ℕ, ◌+◌, ◌<◌, ◌≤◌, Bool, List, [], ◌∷◌, ◌++◌, length, Option, Some}
use Rattle.std.proofs.Common.{None, MatchOption, IsTrue, refl, ap, sym, ◌∙◌, subst, arith}
use Rattle.std.specs.List.{Contains, slice_get}
use Rattle.std.specs.List.Sorted.{IsNonDecreasingBy, IsPermutation}
use Rattle.std.proofs.lemmas.Bool.{cases_lt}
use Rattle.std.proofs.lemmas.Option.{same_Some, slice_get_within}
use Rattle.std.proofs.lemmas.List.Elements.{Contains-append_left, Contains-push}
use Rattle.std.proofs.lemmas.List.Sorted.{Contains-permutation}
use denote.Ref.{Bor}
use Rattle.proto_decl.specs.Names.{hash64}
use Rattle.proto_decl.specs.Facts.{Facts}
use Rattle.proto_decl.specs.declared.declaration.Declaration.{Declaration}
use Rattle.proto_visibility.specs.Files.{File, HasFacts, IsSource}
use Rattle.proto_visibility.specs.Reaches.{LinksOptions}
use Rattle.proto_visibility.proofs.FileFactLemmas.{one_list_of_facts}
use Rattle.option_link.specs.declared.place.DeclaredPlace.{DeclaredPlace}
use Rattle.option_link.specs.declared.table.Listed.{Listed}
use Rattle.option_link.specs.Places.{Stands, place_at}
use Rattle.option_link.specs.Tables.{Adds, AddsUpTo, AreNear, HasName, Lists, listed_at, listed_by, name_hash}
use Rattle.option_link.proofs.PlaceLemmas.{same_declaration}

-- ---- what is listed

pub adds_none : {A : Type 0} (hash_of : A → ℕ) (file : ℕ) (each : List A) (listed : List Listed)
    → AddsUpTo hash_of file each 0 listed listed
adds_none hash_of file each listed = record {
  kept = λ one there. there;
  added = λ index d before at. absurd (omega (arith, before));
}

pub adds_more : {A : Type 0} (hash_of : A → ℕ) (file : ℕ) (each : List A) (index : ℕ) (d : A)
    (old now new : List Listed) (hash : ℕ) → slice_get each index ≡ Some d → hash ≡ hash_of d
    → new ≡ now ++ record { hash64 = hash; place = place_at file index } ∷ []
    → AddsUpTo hash_of file each index old now → AddsUpTo hash_of file each (index + 1) old new
adds_more hash_of file each index d old now new hash at is made so_far =
    let one : Listed = record { hash64 = hash; place = place_at file index } in
    subst (AddsUpTo hash_of file each (index + 1) old) (sym made) (record {
      kept = λ other there. Contains-append_left now (one ∷ []) other (so_far.kept other there);
      added = λ k e before there. elim (cases_lt k index) [
        | inl less ↦ Contains-append_left now (one ∷ []) (listed_by hash_of (place_at file k) e)
            (so_far.added k e less there)
        | inr last ↦ (
            let here : index ≡ k = omega (arith, before, last) in
            let same : d ≡ e = same_Some d e (sym at ∙ (ap (slice_get each) here ∙ there)) in
            let listed : one ≡ listed_by hash_of (place_at file k) e =
            ap (λ (h : ℕ). record { hash64 = h; place = place_at file index }) (is ∙ ap hash_of same)
            ∙ ap (λ (n : ℕ). listed_by hash_of (place_at file n) e) here in
            subst (Contains (now ++ one ∷ [])) listed (Contains-push now one))
      ];
    })

pub adds_all : (files : List File) (file : ℕ) (facts : Facts) (declarations : List Declaration)
    (old new : List Listed) → HasFacts files file facts → declarations ≡ facts.declarations
    → AddsUpTo name_hash file declarations (length declarations) old new → Adds files file old new
adds_all files file facts declarations old new has are all = record {
  kept = all.kept;
  added = λ index d stands. (
      let same = one_list_of_facts files file stands.facts facts stands.known has in
      let at : slice_get declarations index ≡ Some d =
      ap (λ (ds : List Declaration). slice_get ds index) are
      ∙ (sym (ap (λ (f : Facts). slice_get f.declarations index) same) ∙ stands.listed) in
      all.added index d (slice_get_within declarations index d at) at
      );
}

pub adds_nothing : (files : List File) (file : ℕ) (listed : List Listed)
    → ((facts : Facts) → HasFacts files file facts → ⊥) → Adds files file listed listed
adds_nothing files file listed none = record {
  kept = λ one there. there;
  added = λ index d stands. absurd (none stands.facts stands.known);
}

-- all declarations of the first so many files are listed
abbrev pub ListsUpTo : List File → (count : ℕ) → List Listed → Type 0
ListsUpTo files count listed = (place : DeclaredPlace) (d : Declaration) → place.file < count → Stands files place d
    → Contains listed (listed_at place d)

pub lists_none : (files : List File) (listed : List Listed) → ListsUpTo files 0 listed
lists_none files listed place d before stands = absurd (omega (arith, before))

pub lists_more : (files : List File) (file : ℕ) (old new : List Listed) → Adds files file old new
    → ListsUpTo files file old → ListsUpTo files (file + 1) new
lists_more files file old new adds so_far place d before stands = elim (cases_lt place.file file) [
  | inl less ↦ adds.kept (listed_at place d) (so_far place d less stands)
  | inr last ↦ (
      let here : place.file ≡ file = omega (arith, before, last) in
      subst (λ (n : ℕ). Contains new (listed_at (place_at n place.index) d)) (sym here)
      (adds.added place.index d (subst (λ (n : ℕ). Stands files (place_at n place.index) d) here stands)))
]

pub within_files : (files : List File) (place : DeclaredPlace) (d : Declaration) → Stands files place d
    → place.file < length files
within_files files place d stands = slice_get_within files place.file stands.known.file stands.known.numbered

pub lists_all : (files : List File) (count : ℕ) (old new : List Listed) → length files ≤ count
    → ListsUpTo files count old → IsPermutation old new → IsNonDecreasingBy (λ (one : Listed). one.hash64) new
    → Lists files new
lists_all files count old new all so_far permutation sorted = record {
  sorted = sorted;
  each = λ place d stands. Contains-permutation old new (listed_at place d) permutation
      (so_far place d (omega (arith, within_files files place d stands, all)) stands);
}

-- ---- what is found

pub stands_by : (files : List File) (place : DeclaredPlace) (facts : Facts) (declarations : List Declaration)
    (found : Option (Bor Declaration)) → HasFacts files place.file facts → declarations ≡ facts.declarations
    → MatchOption found (slice_get declarations place.index ≡ None)
    (λ d. slice_get declarations place.index ≡ Some d.now)
    → MatchOption found ((d : Declaration) → Stands files place d → ⊥) (λ d. Stands files place d.now)
stands_by files place facts declarations None has are none = λ d stands. (
    let same = one_list_of_facts files place.file stands.facts facts stands.known has in
    let at : slice_get declarations place.index ≡ Some d =
    ap (λ (ds : List Declaration). slice_get ds place.index) are
    ∙ (sym (ap (λ (f : Facts). slice_get f.declarations place.index) same) ∙ stands.listed) in
    none_some d (sym none ∙ at)
    )
  where
    none_some : (d : Declaration) → None ≡ Some d → ⊥
    none_some d e = cc
stands_by files place facts declarations (Some d) has are at = record {
  facts = facts;
  known = has;
  listed = sym (ap (λ (ds : List Declaration). slice_get ds place.index) are) ∙ at;
}

pub has_name_by : (files : List File) (name : List ℕ) (place : DeclaredPlace) (d : Declaration) (full : List ℕ)
    (is : Bool) → Stands files place d → full ≡ d.full_name → (IsTrue is ↔ (full ≡ name))
    → IsTrue is ↔ HasName files name place
has_name_by files name place d full is stands whole test = (
  λ t. record {
    declaration = d;
    stands = stands;
    named = sym whole ∙ test.0 t;
  },
  λ has. test.1 (whole ∙ (ap (λ (x : Declaration). x.full_name)
      (same_declaration files place d has.declaration stands has.stands) ∙ has.named)),
)

pub near_has : (files : List File) (name : List ℕ) (listed near : List Listed) → Lists files listed
    → ((one : Listed) → Contains near one ↔ (Contains listed one × (one.hash64 ≡ hash64 name)))
    → AreNear files name near
near_has files name listed near lists is place has = (
  listed_at place has.declaration,
  (is (listed_at place has.declaration)).1
      (lists.each place has.declaration has.stands, ap hash64 has.named),
  refl,
)

pub links_within : (files : List File) (number : ℕ) → LinksOptions files number → number < length files
links_within files number links = slice_get_within files number links.file links.numbered

pub source_within : (files : List File) (number : ℕ) → IsSource files number → number < length files
source_within files number source = slice_get_within files number source.file source.numbered
