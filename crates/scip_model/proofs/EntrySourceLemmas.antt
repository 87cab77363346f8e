-- The entries of a source, in the code's list: just those that it has, and no two with one symbol.
use Rattle.std.proofs.Common.{◌≡◌, ◌≢◌, ◌∙◌, inl, inr, ℕ, suc, ◌+◌, ◌<◌, ◌≤◌, Bool, true, false, cond}
use Rattle.std.proofs.Common.{Some, List}
use Rattle.std.proofs.Common.{[], ◌∷◌, ◌++◌, length, get_or, take, sym, ap, refl, subst, arith}
use Rattle.std.specs.Prelude.{Contains}
use Rattle.std.specs.List.{slice_get, IsDistinct}
use Rattle.std.specs.Option.{option_and_then}
use Rattle.std.specs.List.Sorted.{IsSorted, IsPermutation}
use Rattle.std.specs.Ordering.{eq_by_cmp}
use Rattle.std.specs.Cmp.{IsTotalOrder, Equal-is}
use Rattle.std.specs.Cmp.{IsStrictWeakOrder}
use Rattle.std.specs.Ordering.{is_lt}
use Rattle.std.proofs.lemmas.Bool.{cases_Bool}
use Rattle.std.proofs.lemmas.Cmp.{on_total, nat_list_cmp_total}
use Rattle.std.proofs.lemmas.List.{length-map, length-take-le}
use Rattle.std.proofs.lemmas.List.FromFn.{length-map-range_with_len, get_or-map-range_with_len}
use Rattle.std.proofs.lemmas.List.Elements.{Contains-append_left, Contains-append_right, Contains-append_cases}
use Rattle.std.proofs.lemmas.List.Sorted.{ranks_by}
use Rattle.std.proofs.lemmas.Map.Keys.{IsDistinct-from_apart}
use Rattle.std.proofs.lemmas.Map.Lookups.{exact_bytes}
use Rattle.std.proofs.lemmas.Option.{same_Some, slice_get_within}
use Rattle.basics.proofs.ListLemmas.{in_front, behind_it, item_at, only}
use Rattle.index_hooks.specs.declared.choice.Choice.{Choice}
use Rattle.proto_decl.specs.Facts.{Facts}
use Rattle.proto_decl.specs.declared.declaration.Declaration.{Declaration}
use Rattle.proto_decl.specs.declared.uses.Component.{Component}
use Rattle.proto_visibility.specs.Files.{File}
use Rattle.proto_visibility.proofs.FileFactLemmas.{one_list_of_facts}
use Rattle.scip_records.specs.declared.records.SymbolInformation.{SymbolInformation}
use Rattle.scip_symbol.specs.Path.{IsGoodPath}
use Rattle.scip_symbol.specs.Package.{Package, IsPackage}
use Rattle.scip_symbol.specs.Entities.{Entity, OfFile, OfPackage, OfDeclaration, IsEntity}
use Rattle.scip_symbol.specs.OneEntity.{IsAmong}
use Rattle.basics.proofs.FirstLemmas.{contained}
use Rattle.scip_model.specs.Packages.{Packages, ArePackages, path_at, path_if_there}
use Rattle.scip_model.specs.Chosen.{Chosen}
use Rattle.scip_model.specs.Named.{Home, home_of_file, text_of, package_at, declaration_in}
use Rattle.scip_model.specs.Detailed.{detail_at, details_in}
use Rattle.scip_model.specs.Entries.{file_entry, package_entry, declaration_entry, HasEntry}
use Rattle.scip_model.specs.Entries.HasEntry.{of_file, of_package, of_declaration}
use Rattle.scip_model.specs.Tables.EntryLists.{package_entries_up_to, package_entries, entry_if_kept, kept_entries}
use Rattle.scip_model.specs.Tables.EntryLists.{choices_for, source_entries}
use Rattle.scip_model.specs.Indexes.{info_cmp, IsAscendingListOf}
use Rattle.scip_model.proofs.NamedEntityLemmas.{package-is, declaration-is}
use Rattle.scip_model.proofs.EntryLemmas.{in-packages, package-in, in-one}
use Rattle.scip_model.proofs.EntryLemmas.{in-kept, kept-in, chosen-for, is-chosen}
use Rattle.scip_model.proofs.IndexSortLemmas.{ascending-list, distinct-cons, distinct-append}
use Rattle.scip_model.proofs.PackageLemmas.{file_good}
use Rattle.scip_model.proofs.NamedApartLemmas.{AreApart, AreReachable, both, in-first, one-text, one-declared}

pub infos_total : IsTotalOrder info_cmp
infos_total = on_total (λ (i : SymbolInformation). i.symbol) nat_list_cmp_total

pub infos_rank : IsStrictWeakOrder (λ x y. is_lt (info_cmp x y))
infos_rank = ranks_by infos_total (λ i. i)

-- entries of different symbols don't tie
pub differ : (x y : SymbolInformation) → x.symbol ≢ y.symbol → eq_by_cmp info_cmp x y ≡ false
differ x y other = elim (cases_Bool (eq_by_cmp info_cmp x y)) [
  | inl same ↦ absurd (other (exact_bytes x.symbol y.symbol ((Equal-is (info_cmp x y)).0 same)))
  | inr unlike ↦ unlike
]

one-distinct : (b : Bool) (entry : SymbolInformation) → IsDistinct (eq_by_cmp info_cmp) (cond b (entry ∷ []) [])
unfolding IsDistinct
one-distinct true entry = (tt, tt)
one-distinct false entry = tt

-- declarations with texts of their own have entries that differ
pub kept-distinct : (home : Home) (facts : Facts) (number : ℕ) (ds : List Declaration) (cs : List Choice)
    → ((i j : ℕ) (d e : Declaration) → i < j → slice_get ds i ≡ Some d → slice_get ds j ≡ Some e
    → text_of home.id (declaration_in home facts d) ≢ text_of home.id (declaration_in home facts e))
    → IsDistinct (eq_by_cmp info_cmp) (kept_entries home facts number ds cs)
unfolding IsDistinct
kept-distinct home facts number [] cs apart = tt
kept-distinct home facts number (d ∷ ds) [] apart = tt
kept-distinct home facts number (d ∷ ds) (c ∷ cs) apart =
    distinct-append (eq_by_cmp info_cmp) (entry_if_kept home facts number d c)
    (kept_entries home facts (number + 1) ds cs)
    (one-distinct c.keep (declaration_entry home facts d (detail_at facts number) c))
    (kept-distinct home facts (number + 1) ds cs
    (λ i j x y less at there. apart (suc i) (suc j) x y (omega (arith, less)) at there))
    (λ x y here later.
    let one = in-one home facts c.keep (declaration_entry home facts d (detail_at facts number) c) x here in
    let other = in-kept home facts (number + 1) ds cs y later in
    differ x y (λ same. apart 0 (suc other.index) d other.declared (omega arith) refl other.stands
    (sym (ap (λ (i : SymbolInformation). i.symbol) one.1)
    ∙ (same ∙ ap (λ (i : SymbolInformation). i.symbol) other.is))))

size-of : Entity → ℕ
size-of (OfFile path) = 0
size-of (OfPackage components) = length components
size-of (OfDeclaration components way) = 0

module _ (files : List File) (ids : Packages) (known : AreApart files ids) (good : ArePackages ids) (source : ℕ)
    (facts : Facts) (reachable : AreReachable files source facts) (path : IsGoodPath (path_at files source)) where
  -- where the declarations of the source belong, and the package of the run
  abbrev home : Home
  home = home_of_file files ids source

  abbrev run : Package
  run = ids.run

  home-good : IsPackage home.id
  home-good = file_good files ids source good

  package-entity : (index : ℕ) → index < length facts.package_name → IsEntity (package_at facts (index + 1))
  package-entity index within =
      package-is facts (index + 1) (known.spelled.named facts (known.origins source facts reachable.known)) (omega arith)
      (omega (arith, within))

  declaration-entity : (d : Declaration) → Contains facts.declarations d → IsEntity (declaration_in home facts d)
  declaration-entity d listed =
      declaration-is home facts d (known.spelled.named facts (known.origins source facts reachable.known))
      (known.spelled.paths facts (known.origins source facts reachable.known)) listed

  same-text : (p q : Package) → IsPackage p → IsPackage q → (a b : Entity) → IsEntity a → IsEntity b
      → IsAmong (both files ids known source source facts facts reachable reachable) a
      → IsAmong (both files ids known source source facts facts reachable reachable) b → text_of p a ≡ text_of q b → a ≡ b
  same-text = one-text files ids known source source facts facts reachable reachable

  among : (d : Declaration) → Contains facts.declarations d
      → IsAmong (both files ids known source source facts facts reachable reachable) (declaration_in home facts d)
  among d listed = in-first files ids known source source facts facts reachable reachable d listed

  file-package : (index : ℕ) → index < length facts.package_name
      → text_of home.id (OfFile home.path) ≢ text_of run (package_at facts (index + 1))
  file-package index within same = let one =
      same-text home.id run home-good good.run (OfFile home.path) (package_at facts (index + 1)) path (package-entity index within)
      tt tt same in cc

  file-declaration : (d : Declaration) → Contains facts.declarations d
      → text_of home.id (OfFile home.path) ≢ text_of home.id (declaration_in home facts d)
  file-declaration d listed same = let one =
      same-text home.id home.id home-good home-good (OfFile home.path) (declaration_in home facts d) path (declaration-entity d listed) tt
      (among d listed) same in cc

  package-declaration : (index : ℕ) (d : Declaration) → index < length facts.package_name
      → Contains facts.declarations d → text_of run (package_at facts (index + 1)) ≢ text_of home.id (declaration_in home facts d)
  package-declaration index d within listed same =
      let one = same-text run home.id good.run home-good (package_at facts (index + 1)) (declaration_in home facts d)
      (package-entity index within)
      (declaration-entity d listed) tt (among d listed) same in cc

  package-size : (index : ℕ) → index < length facts.package_name → size-of (package_at facts (index + 1)) ≡ index + 1
  unfolding size-of
  package-size index within =
      let front = take (index + 1) facts.package_name in
      length-map front (λ (c : Component). c.name)
      ∙ length-take-le (index + 1) facts.package_name (omega (arith, within))

  package-package : (i j : ℕ) → i < j → j < length facts.package_name
      → text_of run (package_at facts (i + 1)) ≢ text_of run (package_at facts (j + 1))
  package-package i j less within same =
      let one = same-text run run good.run good.run (package_at facts (i + 1)) (package_at facts (j + 1))
      (package-entity i (omega (arith, less, within))) (package-entity j within) tt tt same in
      omega (arith, less, ap size-of one, package-size i (omega (arith, less, within)), package-size j within)

  declaration-declaration : (i j : ℕ) (d e : Declaration) → i < j → slice_get facts.declarations i ≡ Some d
      → slice_get facts.declarations j ≡ Some e
      → text_of home.id (declaration_in home facts d) ≢ text_of home.id (declaration_in home facts e)
  declaration-declaration i j d e less at there same =
      let one = one-declared files ids known source source facts facts reachable
      reachable home.id home.id home-good home-good i j d e at there same in
      omega (arith, less, one.1)

  packages-distinct : (count : ℕ) → count ≤ length facts.package_name
      → IsDistinct (eq_by_cmp info_cmp) (package_entries_up_to run facts count)
  packages-distinct count most =
      let entry = λ (i : ℕ). package_entry run facts (i + 1) in
      let size = length-map-range_with_len entry 0 count in
      IsDistinct-from_apart (eq_by_cmp info_cmp) (package_entries_up_to run facts count) (λ i j d less within.
      let inside : j < count = omega (arith, within, size) in
      let first : get_or (package_entries_up_to run facts count) i d ≡ entry i =
      get_or-map-range_with_len entry 0 count i i d (omega (arith, less, inside)) (omega arith) in
      let second : get_or (package_entries_up_to run facts count) j d ≡ entry j =
      get_or-map-range_with_len entry 0 count j j d inside (omega arith) in
      let apart : eq_by_cmp info_cmp (entry i) (entry j) ≡ false =
      differ (entry i) (entry j) (package-package i j less (omega (arith, inside, most))) in
      rw (first, second) apart)

  packages : List SymbolInformation
  packages = package_entries run facts

  module _ (cs : List Choice) where
    kept-text : (y : SymbolInformation) → Contains (kept_entries home facts 0 facts.declarations cs) y
        → (d : Declaration) × Contains facts.declarations d × (y.symbol ≡ text_of home.id (declaration_in home facts d))
    kept-text y there =
        let of = in-kept home facts 0 facts.declarations cs y there in (
          of.declared,
          contained facts.declarations of.index of.declared of.stands,
          ap (λ (i : SymbolInformation). i.symbol) of.is,
        )

    pub distinct : IsDistinct (eq_by_cmp info_cmp) (source_entries home run facts cs)
    distinct =
        distinct-cons (eq_by_cmp info_cmp) (file_entry home.id home.path facts.details)
        (package_entries run facts ++ kept_entries home facts 0 facts.declarations cs)
        (λ y there. elim (Contains-append_cases (package_entries run facts)
        (kept_entries home facts 0 facts.declarations cs) y there) [
          | inl package_of ↦ (
              let of = in-packages run facts (length facts.package_name) y package_of in
              differ (file_entry home.id home.path facts.details) y
              (λ same. file-package of.0 of.1 (same ∙ ap (λ (i : SymbolInformation). i.symbol) of.2)))
          | inr kept ↦ (
              let of = kept-text y kept in
              differ (file_entry home.id home.path facts.details) y (λ same. file-declaration of.0 of.1 (same ∙ of.2)))
        ])
        (distinct-append (eq_by_cmp info_cmp) (package_entries run facts)
        (kept_entries home facts 0 facts.declarations cs)
        (packages-distinct (length facts.package_name) (omega arith))
        (kept-distinct home facts 0 facts.declarations cs declaration-declaration)
        (λ x y first second.
        let of = in-packages run facts (length facts.package_name) x first in
        let its = kept-text y second in
        differ x y (λ same. package-declaration of.0 its.0 of.1 its.1
        (sym (ap (λ (i : SymbolInformation). i.symbol) of.2) ∙ (same ∙ its.2)))))

-- ---- what the list has

module _ (files : List File) (chosen : Chosen) (ids : Packages) (source : ℕ) (file : File) (facts : Facts)
    (numbered : slice_get files source ≡ Some file) (reachable : AreReachable files source facts) where
  -- where the declarations of the source belong
  abbrev its-home : Home
  its-home = home_of_file files ids source

  abbrev entries : List SymbolInformation
  entries = source_entries its-home ids.run facts (choices_for chosen source)

  abbrev kept-list : List SymbolInformation
  kept-list = kept_entries its-home facts 0 facts.declarations (choices_for chosen source)

  abbrev own-entry : SymbolInformation
  own-entry = file_entry its-home.id its-home.path facts.details

  -- what is told of the file is what its facts tell
  its-details : details_in file ≡ facts.details
  its-details =
      ap details_in (same_Some file reachable.known.file (sym numbered ∙ reachable.known.numbered))
      ∙ ap (option_and_then (λ (f : Facts). f.details)) reachable.known.known

  listed-is : (x : SymbolInformation) → Contains entries x → HasEntry files chosen ids source x
  listed-is x there = elim
      (Contains-append_cases (own-entry ∷ []) (package_entries ids.run facts ++ kept-list) x there) [
        | inl file_is ↦ subst (HasEntry files chosen ids source)
            (ap (λ (path : List ℕ). file_entry its-home.id path (details_in file)) (sym (ap path_if_there numbered))
            ∙ (ap (file_entry its-home.id its-home.path) its-details
            ∙ only own-entry x file_is)) (of_file {file = file} numbered)
        | inr others ↦ elim (Contains-append_cases (package_entries ids.run facts) kept-list x others) [
          | inl package_of ↦ (
              let of = in-packages ids.run facts (length facts.package_name) x package_of in
              let component = item_at facts.package_name of.0 of.1 in
              subst (HasEntry files chosen ids source) (sym of.2)
              (of_package {facts = facts} of.0 {component = component.0} reachable.known component.1))
          | inr kept ↦ (
              let of = in-kept its-home facts 0 facts.declarations (choices_for chosen source) x kept in
              of_declaration of.index (record {
                facts = facts;
                declaration = of.declared;
                choice = of.choice;
                has = record { has_facts = reachable.known; numbered = of.stands };
                is_chosen = is-chosen chosen source of.index of.choice of.chosen;
                keeps = of.keeps;
                is = of.is ∙ ap (λ (n : ℕ). declaration_entry its-home facts of.declared (detail_at facts n) of.choice)
                    (omega arith);
              }))
        ]
      ]

  is-listed : {x : SymbolInformation} → HasEntry files chosen ids source x → Contains entries x
  is-listed (of_file {file = other} at) =
      subst (Contains entries)
      (ap (λ (path : List ℕ). file_entry its-home.id path facts.details) (ap path_if_there at)
      ∙ ap (file_entry its-home.id other.path)
      (sym its-details ∙ ap details_in (same_Some file other (sym numbered ∙ at))))
      (in_front own-entry (package_entries ids.run facts ++ kept-list))
  is-listed (of_package {facts = others} index known at) =
      let same : facts ≡ others = one_list_of_facts files source facts others reachable.known known in
      let within : index < length facts.package_name =
      subst (λ (f : Facts). index < length f.package_name) (sym same)
      (slice_get_within others.package_name index _ at) in
      subst (λ (f : Facts). Contains entries (package_entry ids.run f (index + 1))) same
      (behind_it own-entry (package_entries ids.run facts ++ kept-list)
      (package_entry ids.run facts (index + 1))
      (Contains-append_left (package_entries ids.run facts) kept-list (package_entry ids.run facts (index + 1))
      (package-in ids.run facts (length facts.package_name) index within)))
  is-listed (of_declaration index {entry = x} kept) =
      let same : kept.facts ≡ facts =
      one_list_of_facts files source kept.facts facts kept.has.has_facts reachable.known in
      let at : slice_get facts.declarations index ≡ Some kept.declaration =
      subst (λ (f : Facts). slice_get f.declarations index ≡ Some kept.declaration) same kept.has.numbered in
      let wanted : SymbolInformation =
      declaration_entry its-home facts kept.declaration (detail_at facts index) kept.choice in
      let is : x ≡ wanted =
      kept.is
      ∙ ap (λ (f : Facts). declaration_entry its-home f kept.declaration (detail_at f index) kept.choice) same in
      subst (Contains entries) (sym is)
      (behind_it own-entry (package_entries ids.run facts ++ kept-list)
      wanted
      (Contains-append_right (package_entries ids.run facts) kept-list wanted
      (kept-in its-home facts 0 facts.declarations (choices_for chosen source) index index kept.declaration kept.choice
      (omega arith) at
      (chosen-for chosen source index kept.choice kept.is_chosen) kept.keeps)))

  -- sorted, it is the list of them, where no two have one symbol
  pub source-list : IsDistinct (eq_by_cmp info_cmp) entries → (made list : List SymbolInformation) → made ≡ entries
      → IsPermutation made list → IsSorted info_cmp list
      → IsAscendingListOf info_cmp (HasEntry files chosen ids source) list
  source-list apart made list is moved up =
      ascending-list infos_total (HasEntry files chosen ids source) entries list
      (λ x. (listed-is x, λ has. is-listed has)) apart
      (subst (λ (l : List SymbolInformation). IsPermutation l list) is moved) up
