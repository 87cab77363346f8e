-- The marks of packages: what is added, and what has no mark.
use Rattle.std.proofs.Common.{Bool, ◌≡◌, inl, inr, ℕ, zero, suc, ◌+◌, ◌-◌, ◌<◌, ◌≤◌, List}
use Rattle.std.proofs.Common.{[], ◌∷◌, length, map, take, drop, get_or, refl, ap, sym, ◌∙◌, subst, arith}
use Rattle.std.specs.Prelude.{OnOk, Result}
use Rattle.std.specs.List.{Contains}
use Rattle.std.proofs.lemmas.Bool.{cases_lt}
use Rattle.std.proofs.lemmas.Option.{slice_get_within}
use Rattle.basics.proofs.FirstLemmas.{at_contained}
use Rattle.std.proofs.lemmas.List.{take_all}
use Rattle.proto_decl.specs.Facts.{Facts}
use Rattle.proto_decl.specs.Names.{dotted, hash64, package_of}
use Rattle.proto_decl.specs.declared.uses.Component.{Component}
use Rattle.proto_visibility.specs.Files.{File, HasFacts}
use Rattle.proto_visibility.specs.Knows.{NameKind, Knows, KnowsAs}
use Rattle.proto_visibility.specs.Knows.Knows.{declared as known_declared, packaged as known_packaged}
use Rattle.proto_visibility.proofs.FileFactLemmas.{one_list_of_facts}
use Rattle.option_link.specs.declared.table.Listed.{Listed}
use Rattle.option_link.specs.declared.place.DeclaredPlace.{DeclaredPlace}
use Rattle.option_link.specs.Places.{place_at}
use Rattle.option_link.specs.Marks.{AddsMark, AreListedMarked, IsMarked}
use Rattle.option_link.specs.Packages.{AddsFile, AddsPackages, HasPackages}
use Rattle.option_link.specs.Tables.{AreNear, HasName, Lists, listed_at}

-- ---- the packages of one name

-- those of a first component and so many others
pub record AddsUpTo (first : Component) (others : List Component) (count : ℕ) (old new : List Bool)
    : Type 0 where
  pub kept : (other : ℕ) → IsMarked old other → IsMarked new other
  pub added : (k : ℕ) → k ≤ count → IsMarked new (hash64 (dotted (map (λ c. c.name) (first ∷ take k others))))

pub up_to_first : (first : Component) (others : List Component) (old new : List Bool) (name : List ℕ)
    → name ≡ first.name → AddsMark (hash64 name) old new → AddsUpTo first others 0 old new
up_to_first first others old new name is adds = record {
  kept = adds.kept;
  added = λ k few. (
      let none : 0 ≡ k = omega (arith, few) in
      subst (λ (n : ℕ). IsMarked new (hash64 (dotted (map (λ c. c.name) (first ∷ take n others))))) none
      (subst (λ (t : List ℕ). IsMarked new (hash64 t)) is adds.added)
      );
}

pub up_to_more : (first : Component) (others : List Component) (index : ℕ) (old now new : List Bool)
    (name : List ℕ) → name ≡ dotted (map (λ c. c.name) (first ∷ take (index + 1) others))
    → AddsMark (hash64 name) now new → AddsUpTo first others index old now
    → AddsUpTo first others (index + 1) old new
up_to_more first others index old now new name is adds so_far = record {
  kept = λ other there. adds.kept other (so_far.kept other there);
  added = λ k few. elim (cases_lt index k) [
    | inl last ↦ (
        let here : index + 1 ≡ k = omega (arith, few, last) in
        subst (λ (n : ℕ). IsMarked new (hash64 (dotted (map (λ c. c.name) (first ∷ take n others))))) here
        (subst (λ (t : List ℕ). IsMarked new (hash64 t)) is adds.added))
    | inr before ↦ adds.kept _ (so_far.added k (omega (arith, before)))
  ];
}

pub up_to_all : (first : Component) (others : List Component) (count : ℕ) (old new : List Bool)
    → length others ≤ count → AddsUpTo first others count old new → AddsPackages (first ∷ others) old new
up_to_all first others count old new all so_far = record { kept = so_far.kept; added = by }
  where
    by : (k : ℕ) → 0 < k → k ≤ length (first ∷ others) → IsMarked new (hash64 (package_of (first ∷ others) k))
    by zero some few = absurd (omega (arith, some))
    by (suc k) some few = so_far.added k (omega (arith, few, all))

pub no_components : (components : List Component) (marks : List Bool) → length components < 1
    → AddsPackages components marks marks
no_components components marks none = record {
  kept = λ other there. there;
  added = λ count some few. absurd (omega (arith, none, some, few));
}

-- a list of components by its first and the others
pub package_by : {U E : Type 0} (components : List Component) (first : Component) (result : Result U E)
    (old new : List Bool) → 1 ≤ length components → first ≡ get_or components 0 first
    → OnOk result (AddsPackages (first ∷ take (length components - 1) (drop 1 components)) old new)
    → OnOk result (AddsPackages components old new)
package_by [] first result old new some is adds = absurd (omega (arith, some))
package_by (c ∷ cs) first result old new some is adds =
    subst (λ (x : Component). OnOk result (AddsPackages (x ∷ cs) old new)) is
    (subst (λ (xs : List Component). OnOk result (AddsPackages (first ∷ xs) old new))
    (take_all (length (c ∷ cs) - 1) cs (omega arith)) adds)

-- ---- the packages of files

pub file_added : (files : List File) (file : ℕ) (facts : Facts) (components : List Component)
    (old new : List Bool) → HasFacts files file facts → components ≡ facts.package_name
    → AddsPackages components old new → AddsFile files file old new
file_added files file facts components old new has are adds = record {
  kept = adds.kept;
  added = λ other count its some few. (
      let same : facts ≡ other = one_list_of_facts files file facts other has its in
      let name : components ≡ other.package_name = are ∙ ap (λ (f : Facts). f.package_name) same in
      subst (λ (cs : List Component). IsMarked new (hash64 (package_of cs count))) name
      (adds.added count some (subst (λ (cs : List Component). count ≤ length cs) (sym name) few))
      );
}

pub nothing_added : (files : List File) (file : ℕ) (marks : List Bool)
    → ((facts : Facts) → HasFacts files file facts → ⊥) → AddsFile files file marks marks
nothing_added files file marks none = record {
  kept = λ other there. there;
  added = λ facts count has some few. absurd (none facts has);
}

-- of the first so many files
abbrev pub HasPackagesUpTo : List File → (count : ℕ) → List Bool → Type 0
HasPackagesUpTo files count marks = (file : ℕ) (facts : Facts) (k : ℕ) → file < count → HasFacts files file facts
    → 0 < k → k ≤ length facts.package_name → IsMarked marks (hash64 (package_of facts.package_name k))

pub packages_none : (files : List File) (marks : List Bool) → HasPackagesUpTo files 0 marks
packages_none files marks file facts k before has some few = absurd (omega (arith, before))

pub packages_more : (files : List File) (file : ℕ) (old new : List Bool) → AddsFile files file old new
    → HasPackagesUpTo files file old → HasPackagesUpTo files (file + 1) new
packages_more files file old new adds so_far other facts k before has some few = elim (cases_lt other file) [
  | inl less ↦ adds.kept _ (so_far other facts k less has some few)
  | inr last ↦ (
      let here : other ≡ file = omega (arith, before, last) in
      adds.added facts k (subst (λ (n : ℕ). HasFacts files n facts) here has) some few)
]

pub packages_all : (files : List File) (count : ℕ) (marks : List Bool) → length files ≤ count
    → HasPackagesUpTo files count marks → HasPackages files marks
packages_all files count marks all so_far file facts k has some few =
    so_far file facts k (omega (arith, all, slice_get_within files file has.file has.numbered)) has some few

-- ---- what nothing has as its name

no_name : (files : List File) (file : ℕ) {name : List ℕ} {kind : NameKind} → Knows files file name kind
    → ((place : DeclaredPlace) → HasName files name place → ⊥)
    → ((number : ℕ) (facts : Facts) (count : ℕ) → HasFacts files number facts → 0 < count
    → count ≤ length facts.package_name → package_of facts.package_name count ≡ name → ⊥) → ⊥
no_name files file (known_declared {seen = n} {facts = fs} {declaration = d} sees has listed) none unpacked =
    none (place_at n listed.0) (record {
      declaration = d;
      stands = record { facts = fs; known = has; listed = at_contained fs.declarations d listed };
      named = refl;
    })
no_name files file (known_packaged {seen = n} {count = k} {facts = fs} sees has some few) none unpacked =
    unpacked n fs k has some few refl

-- that of a package is marked, and that of a declaration too, and it is listed
module _ (files : List File) (number : ℕ) (packages : List Bool) (has : HasPackages files packages) where
  unpacked : (IsMarked packages number → ⊥) → (name : List ℕ) → number ≡ hash64 name → (other : ℕ) (facts : Facts)
      (count : ℕ) → HasFacts files other facts → 0 < count → count ≤ length facts.package_name
      → package_of facts.package_name count ≡ name → ⊥
  unpacked unmarked name is other facts count known some few same =
      unmarked (subst (IsMarked packages) (ap hash64 same ∙ sym is) (has other facts count known some few))

  pub never_listed : (listed : List Listed) (declared : List Bool) → Lists files listed
      → AreListedMarked listed declared → (IsMarked packages number → ⊥) → (IsMarked declared number → ⊥)
      → (name : List ℕ) → number ≡ hash64 name → (file : ℕ) (admits : NameKind → Bool)
      → KnowsAs files file admits name → ⊥
  never_listed listed declared lists marked none unmarked name is file admits known =
      no_name files file known.known
      (λ place it. unmarked (subst (IsMarked declared) (ap hash64 it.named ∙ sym is)
      (marked (listed_at place it.declaration) (lists.each place it.declaration it.stands))))
      (unpacked none name is)

  pub never_known : (near : List Listed) → ((name : List ℕ) → number ≡ hash64 name → AreNear files name near)
      → length near ≡ 0 → (IsMarked packages number → ⊥) → (name : List ℕ) → number ≡ hash64 name
      → (file : ℕ) (admits : NameKind → Bool) → KnowsAs files file admits name → ⊥
  never_known near all empty none name is file admits known =
      no_name files file known.known
      (λ place it. (let one = all name is place it in nothing near one.0 empty one.1))
      (unpacked none name is)
    where
      nothing : (xs : List Listed) (one : Listed) → length xs ≡ 0 → Contains xs one → ⊥
      nothing xs one none there = omega (arith, none, there.1)
