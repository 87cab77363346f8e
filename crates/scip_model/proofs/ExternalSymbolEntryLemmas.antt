-- The entries of declarations of included files that uses in sources name: just those, and no two with one symbol.
use Rattle.std.proofs.Common.{◌≡◌, ◌∙◌, ◌↔◌, inl, inr, ℕ, ◌+◌, ◌<◌, Bool, true, false, Some, List, [], ◌∷◌, length}
use Rattle.std.proofs.Common.{refl, sym, ap, subst, arith}
use Rattle.std.specs.declared.cmp.Ordering.{Ordering}
use Rattle.std.specs.declared.cmp.Ordering.TheVariants.{Less}
use Rattle.std.specs.Ordering.{nat_cmp, eq_by_cmp, ordering_then}
use Rattle.std.specs.List.{slice_get, AllZip, Contains, IsDistinct}
use Rattle.std.specs.List.Sorted.{IsSorted, IsPermutation, IsStrictlySortedBy}
use Rattle.std.proofs.lemmas.Bool.{cases_lt, false≢true}
use Rattle.std.proofs.lemmas.List.Elements.{All-from_recursion, All-contains, Contains-append_cases}
use Rattle.std.proofs.lemmas.Option.{same_Some, slice_get_within}
use Rattle.basics.proofs.ListLemmas.{in_front, behind_it, item_at, only, in_nothing}
use Rattle.index_hooks.specs.declared.choice.Choice.{Choice}
use Rattle.proto_decl.specs.Facts.{Facts}
use Rattle.proto_decl.specs.declared.declaration.Declaration.{Declaration}
use Rattle.proto_visibility.specs.Files.{File, HasFacts, IsIncludedAt}
use Rattle.proto_visibility.specs.Reaches.{IsReachable}
use Rattle.proto_visibility.specs.Reaches.Reaches.{sees as by_seeing}
use Rattle.proto_visibility.specs.Reaches.IsReachable.{reached}
use Rattle.proto_visibility.specs.Knows.{IsEntityOf}
use Rattle.proto_visibility.specs.Knows.IsEntityOf.{packaged, declared}
use Rattle.proto_visibility.specs.declared.lookup.Entity.{Entity}
use Rattle.proto_visibility.specs.declared.lookup.Entity.TheVariants as link
use Rattle.proto_visibility.proofs.FileFactLemmas.{one_list_of_facts}
use Rattle.basics.proofs.FirstLemmas.{contained, contained_at}
use Rattle.scip_records.specs.declared.records.SymbolInformation.{SymbolInformation}
use Rattle.scip_model.specs.Packages.{Packages, ArePackages, package_of_file}
use Rattle.scip_model.specs.Chosen.{Chosen, HaveChoices, HasChoice, IsChosen, IsKeptDeclaration}
use Rattle.scip_model.specs.Named.{Home, HasDeclaration, declaration_in, home_of_file}
use Rattle.scip_model.specs.Detailed.{detail_at}
use Rattle.scip_model.specs.Entries.{declaration_entry, IsKeptEntry, HasExternal}
use Rattle.scip_model.specs.Tables.ExternalLists.{Pair, pair_cmp, Adds, IsEntryAt, IsEntryOf, IsExternal}
use Rattle.scip_model.specs.Tables.ExternalLists.{HasEntryAmong, IsKeptThere, NoneIncluded}
use Rattle.scip_model.specs.Indexes.{IsAscendingListOf, info_cmp, AreExternals}
use Rattle.scip_model.proofs.PackageLemmas.{file_good}
use Rattle.scip_model.proofs.ExternalSymbolPairLemmas.{pairs_total}
use Rattle.scip_model.proofs.IndexSortLemmas.{ascending-list, distinct-cons, not-below}
use Rattle.scip_model.proofs.EntrySourceLemmas.{infos_total, differ}
use Rattle.scip_model.proofs.NamedApartLemmas.{AreApart, one-declared}

-- ---- lists that go together

module _ {X Y : Type 0} (R : X → Y → Type 0) where
  zip-from : (xs : List X) (ys : List Y) → AllZip R xs ys → (y : Y) → Contains ys y → (x : X) × Contains xs x × R x y
  zip-from [] [] all y there = absurd (in_nothing y there)
  zip-from [] (b ∷ ys) all y there = absurd all
  zip-from (a ∷ xs) [] all y there = absurd all
  zip-from (a ∷ xs) (b ∷ ys) all y there = elim (Contains-append_cases (b ∷ []) ys y there) [
    | inl one ↦ (a, in_front a xs, subst (R a) (only b y one) all.0)
    | inr more ↦ (let rest = zip-from xs ys all.1 y more in (rest.0, behind_it a xs rest.0 rest.1, rest.2))
  ]

  zip-to : (xs : List X) (ys : List Y) → AllZip R xs ys → (x : X) → Contains xs x → (y : Y) × Contains ys y × R x y
  zip-to [] [] all x there = absurd (in_nothing x there)
  zip-to [] (b ∷ ys) all x there = absurd all
  zip-to (a ∷ xs) [] all x there = absurd all
  zip-to (a ∷ xs) (b ∷ ys) all x there = elim (Contains-append_cases (a ∷ []) xs x there) [
    | inl one ↦ (b, in_front b ys, subst (λ (z : X). R z b) (only a x one) all.0)
    | inr more ↦ (let rest = zip-to xs ys all.1 x more in (rest.0, behind_it b ys rest.0 rest.1, rest.2))
  ]

-- ---- what is known of a declaration that a use names

abbrev file-of : Entity → ℕ
file-of (link.Package count) = 0
file-of (link.Declared file index) = file

abbrev index-of : Entity → ℕ
index-of (link.Package count) = 0
index-of (link.Declared file index) = index

-- it is there, in a reachable file
pub record IsThere (files : List File) (file index : ℕ) : Type 0 where
  pub facts : Facts
  pub declaration : Declaration
  pub has : HasDeclaration files file index facts declaration
  pub is_reachable : IsReachable files file

pub named-there : (files : List File) {owner count : ℕ} {facts : Facts} {name : List ℕ} {part : Entity} (file index : ℕ)
    → IsReachable files owner → HasFacts files owner facts → IsEntityOf owner facts name count part
    → part ≡ link.Declared file index → IsThere files file index
named-there files file index is_reachable has (packaged prefix) same = cc
named-there files {owner} {count} {facts} file index is_reachable has
    (declared {index = its} {declaration = declaration} at full) same =
    subst (λ n. IsThere files n index) (ap file-of same)
    (subst (λ n. IsThere files owner n) (ap index-of same)
    (record {
      facts = facts;
      declaration = declaration;
      has = record { has_facts = has; numbered = at };
      is_reachable = is_reachable;
    }))

module _ (files : List File) (chosen : Chosen) where
  pub kept-there : (x : Pair) → IsThere files x.0 x.1 → IsKeptDeclaration chosen x.0 x.1 → IsKeptThere files chosen x
  kept-there x there kept = record {
    is_reachable = there.is_reachable;
    facts = there.facts;
    declaration = there.declaration;
    has = there.has;
    kept = kept;
  }

  pub external-there : (count : ℕ) (x : Pair) → IsExternal files chosen count x → IsKeptThere files chosen x
  external-there count x is =
      let used = is.of_source.of_uses.is in
      let part = used.of_parts in
      let owned = used.is_target.names.owned in
      kept-there x
      (named-there files x.0 x.1 (reached is.of_source.is_source (by_seeing owned.gives.sees) owned.present)
      used.is_target.known (used.is_target.named part.index part.element part.stands) part.is.is) part.is.kept

  pub there-chosen : (x : Pair) → HaveChoices files chosen → IsKeptThere files chosen x → HasChoice chosen x.0 x.1
  there-chosen x choices there = choices x.0 x.1 there.facts there.declaration there.has

  pub there-within : (x : Pair) → IsKeptThere files chosen x → x.0 < length files
  there-within x there = slice_get_within files x.0 there.has.has_facts.file there.has.has_facts.numbered

  pub there-index : (x : Pair) (facts : Facts) → IsKeptThere files chosen x → HasFacts files x.0 facts
      → x.1 < length facts.declarations
  there-index x facts there known =
      subst (λ (f : Facts). x.1 < length f.declarations)
      (one_list_of_facts files x.0 there.facts facts there.has.has_facts known)
      (slice_get_within there.facts.declarations x.1 there.declaration there.has.numbered)

-- ---- its entry

one-choice : (chosen : Chosen) (file index : ℕ) (a b : Choice) → IsChosen chosen file index a
    → IsChosen chosen file index b → a ≡ b
one-choice chosen file index a b x y =
    let lists : x.of_file ≡ y.of_file = same_Some x.of_file y.of_file (sym x.file_is ∙ y.file_is) in
    same_Some a b (sym x.declaration_is ∙ (ap (λ (l : List Choice). slice_get l index) lists ∙ y.declaration_is))

module _ (files : List File) (chosen : Chosen) (ids : Packages) where
  pub kept-entry : (x : Pair) (facts : Facts) (entry : SymbolInformation) → IsKeptThere files chosen x
      → HasFacts files x.0 facts → IsEntryAt chosen (home_of_file files ids x.0) facts x.0 x.1 entry
      → IsKeptEntry files chosen ids x.0 x.1 entry
  kept-entry x facts entry there known made =
      let kept = there.kept in
      record {
        facts = facts;
        declaration = made.declaration;
        choice = made.choice;
        has = record { has_facts = known; numbered = made.stands };
        is_chosen = made.is_chosen;
        keeps = subst (λ (c : Choice). c.keep ≡ true)
            (one-choice chosen x.0 x.1 kept.choice made.choice kept.is_chosen made.is_chosen) kept.keeps;
        is = made.is;
      }

  pub one-entry : (file index : ℕ) (x y : SymbolInformation) → IsKeptEntry files chosen ids file index x
      → IsKeptEntry files chosen ids file index y → x ≡ y
  one-entry file index x y a b =
      let facts : a.facts ≡ b.facts = one_list_of_facts files file a.facts b.facts a.has.has_facts b.has.has_facts in
      let declaration : a.declaration ≡ b.declaration =
      same_Some a.declaration b.declaration
      (sym a.has.numbered ∙ (ap (λ (f : Facts). slice_get f.declarations index) facts ∙ b.has.numbered)) in
      let choice : a.choice ≡ b.choice = one-choice chosen file index a.choice b.choice a.is_chosen b.is_chosen in
      let home : Home = home_of_file files ids file in
      a.is
      ∙ (ap (λ (f : Facts). declaration_entry home f a.declaration (detail_at f index) a.choice) facts
      ∙ (ap (λ (d : Declaration). declaration_entry home b.facts d (detail_at b.facts index) a.choice) declaration
      ∙ (ap (λ (c : Choice). declaration_entry home b.facts b.declaration (detail_at b.facts index) c) choice
      ∙ sym b.is)))

  -- ---- the entries are those of such declarations

  pub external-pair : (entry : SymbolInformation) (has : HasExternal files chosen ids entry)
      → IsExternal files chosen (length files) (has.number, has.index)
  external-pair entry has =
      let names = has.names in
      let used = contained_at names.facts.uses names.type_use names.listed in
      record {
        source = has.source;
        within = slice_get_within files has.source has.is_source.file has.is_source.numbered;
        of_source = record {
          is_source = has.is_source;
          facts = names.facts;
          known = names.has_facts;
          of_uses = record {
            index = used.0;
            element = names.type_use;
            within = slice_get_within names.facts.uses used.0 names.type_use used.1;
            stands = used.1;
            is = record {
              target = names.target;
              is_target = names.is_target;
              of_parts = record {
                index = names.index;
                element = link.Declared has.number has.index;
                within = slice_get_within names.target.parts names.index
                    (link.Declared has.number has.index) names.part_is;
                stands = names.part_is;
                is = record {
                  is = refl;
                  file = has.file;
                  numbered = has.numbered;
                  included = has.included;
                  kept = record { choice = has.kept.choice; is_chosen = has.kept.is_chosen; keeps = has.kept.keeps };
                };
              };
            };
          };
        };
      }

  pub pair-external : (count : ℕ) (x : Pair) (entry : SymbolInformation) → IsExternal files chosen count x
      → IsKeptEntry files chosen ids x.0 x.1 entry → HasExternal files chosen ids entry
  pair-external count x entry is kept =
      let source = is.of_source in
      let used = source.of_uses in
      let target = used.is.target in
      let part = used.is.of_parts in
      let component = item_at used.element.components part.index
      (omega (arith, part.within, used.is.is_target.one_each)) in
      record {
        source = is.source;
        is_source = source.is_source;
        component = component.0;
        entity = declaration_in (home_of_file files ids x.0) kept.facts kept.declaration;
        number = x.0;
        index = x.1;
        names = record {
          facts = source.facts;
          type_use = used.element;
          target = target;
          index = part.index;
          has_facts = source.known;
          listed = contained source.facts.uses used.index used.element used.stands;
          is_target = used.is.is_target;
          component_is = component.1;
          part_is = part.stands ∙ ap Some part.is.is;
          entity_is = record { facts = kept.facts; declaration = kept.declaration; has = kept.has; is = refl };
        };
        file = part.is.file;
        numbered = part.is.numbered;
        included = part.is.included;
        kept = kept;
      }

  -- where no file is included there are none
  pub none-external : NoneIncluded files (length files) → AreExternals files chosen ids []
  unfolding IsStrictlySortedBy
  none-external none = record {
    exact = λ x. (λ there. absurd (in_nothing x there), λ has. absurd (unlike x has));
    ascends = tt;
  }
    where
      unlike : (x : SymbolInformation) → HasExternal files chosen ids x → ⊥
      unlike x has =
          let not = none has.number (slice_get_within files has.number has.file has.numbered) in
          false≢true (not.2 ∙ (ap (λ (f : File). f.is_included) (same_Some not.0 has.file (sym not.1 ∙ has.numbered))
          ∙ has.included))

-- one file more that isn't included
pub none-more : (files : List File) (count : ℕ) (included : Bool) → NoneIncluded files count
    → IsIncludedAt files count included → included ≡ false → NoneIncluded files (count + 1)
none-more files count included before here same = λ number less. elim (cases_lt number count) [
  | inl earlier ↦ before number earlier
  | inr last ↦ (
      let one : number ≡ count = omega (arith, last, less) in
      subst (λ n. IsIncludedAt files n false) (sym one) (subst (IsIncludedAt files count) same here))
]

-- ---- the list of them

-- one kind for another in the list of a set
pub same-list : {X : Type 0} {cmp : X → X → Ordering} {P Q : X → Type 0} (list : List X) → ((x : X) → P x → Q x)
    → ((x : X) → Q x → P x) → IsAscendingListOf cmp P list → IsAscendingListOf cmp Q list
same-list list there back is = record {
  exact = λ x. (λ h. there x ((is.exact x).0 h), λ q. (is.exact x).1 (back x q));
  ascends = is.ascends;
}

apart-pairs : (p q : Pair) → pair_cmp p q ≡ Less → p.0 ≡ q.0 → p.1 ≡ q.1 → ⊥
apart-pairs p q less first second =
    not-below pairs_total p
    (subst (λ n. ordering_then (nat_cmp p.0 n) (nat_cmp p.1 p.1) ≡ Less) (sym first)
    (subst (λ n. ordering_then (nat_cmp p.0 q.0) (nat_cmp p.1 n) ≡ Less) (sym second) less))

none-tie : IsDistinct (eq_by_cmp info_cmp) []
unfolding IsDistinct
none-tie = tt

module _ (files : List File) (ids : Packages) (known : AreApart files ids) (good : ArePackages ids)
    (chosen : Chosen) where
  -- declarations that differ have entries of different symbols
  symbols-differ : (p q : Pair) (x y : SymbolInformation) → IsKeptThere files chosen p
      → IsKeptThere files chosen q
      → IsEntryOf files chosen ids p x → IsEntryOf files chosen ids q y
      → x.symbol ≡ y.symbol → (p.0 ≡ q.0) × (p.1 ≡ q.1)
  symbols-differ p q x y there its a b same =
      one-declared files ids known p.0 q.0 a.facts b.facts
      (record { is_reachable = there.is_reachable; known = a.has.has_facts })
      (record { is_reachable = its.is_reachable; known = b.has.has_facts }) (package_of_file files ids p.0)
      (package_of_file files ids q.0) (file_good files ids p.0 good) (file_good files ids q.0 good)
      p.1 q.1 a.declaration b.declaration a.has.numbered b.has.numbered
      (sym (ap (λ (i : SymbolInformation). i.symbol) a.is) ∙ (same ∙ ap (λ (i : SymbolInformation). i.symbol) b.is))

  made-distinct : (pairs : List Pair) (made : List SymbolInformation)
      → ((x : Pair) → Contains pairs x → IsKeptThere files chosen x) → IsStrictlySortedBy pair_cmp pairs
      → AllZip (IsEntryOf files chosen ids) pairs made → IsDistinct (eq_by_cmp info_cmp) made
  unfolding IsStrictlySortedBy
  made-distinct [] [] there up all = none-tie
  made-distinct [] (y ∷ ys) there up all = absurd all
  made-distinct (p ∷ ps) [] there up all = absurd all
  made-distinct (p ∷ ps) (x ∷ xs) there up all =
      distinct-cons (eq_by_cmp info_cmp) x xs
      (λ y listed.
      let other = zip-from (IsEntryOf files chosen ids) ps xs all.1 y listed in
      let less = All-contains (λ (q : Pair). pair_cmp p q ≡ Less) ps other.0
      (All-from_recursion (λ (q : Pair). pair_cmp p q ≡ Less) ps up.0) other.1 in
      differ x y (λ same.
      let one = symbols-differ p other.0 x y (there p (in_front p ps))
      (there other.0 (behind_it p ps other.0 other.1)) all.0 other.2 same in
      apart-pairs p other.0 less one.0 one.1))
      (made-distinct ps xs (λ q listed. there q (behind_it p ps q listed)) up.1 all.1)

  -- the entries of all, in order
  pub entry-list : (pairs once : List Pair) → ((x : Pair) → Contains once x ↔ Contains pairs x)
      → ((x : Pair) → Contains pairs x → IsKeptThere files chosen x) → IsStrictlySortedBy pair_cmp once
      → (made list : List SymbolInformation) → AllZip (IsEntryOf files chosen ids) once made → IsPermutation made list
      → IsSorted info_cmp list → IsAscendingListOf info_cmp (HasEntryAmong files chosen ids pairs) list
  entry-list pairs once same there up made list all moved sorted =
      ascending-list infos_total (HasEntryAmong files chosen ids pairs) made list
      (λ x. (
        λ listed. (
            let of = zip-from (IsEntryOf files chosen ids) once made all x listed in
            (of.0, (same of.0).0 of.1, of.2)),
        λ has. (
            let of = zip-to (IsEntryOf files chosen ids) once made all has.0 ((same has.0).1 has.1) in
            subst (Contains made) (one-entry files chosen ids has.0.0 has.0.1 of.0 x of.2 has.2) of.1),
      ))
      (made-distinct once made (λ x listed. there x ((same x).0 listed)) up all)
      moved sorted

-- those of the pairs that uses name
pub of-externals : (files : List File) (ids : Packages) (chosen : Chosen) (pairs : List Pair)
    (list : List SymbolInformation) → Adds (IsExternal files chosen (length files)) [] pairs
    → IsAscendingListOf info_cmp (HasEntryAmong files chosen ids pairs) list → AreExternals files chosen ids list
of-externals files ids chosen pairs list adds =
    same-list list
    (λ x has. elim ((adds has.0).0 has.1) [
      | inl none ↦ absurd (in_nothing has.0 none)
      | inr is ↦ pair-external files chosen ids (length files) has.0 x is has.2
    ])
    (λ x has. (
      (has.number, has.index),
      (adds (has.number, has.index)).1 (inr (external-pair files chosen ids x has)),
      has.kept,
    ))

pub externals-there : (files : List File) (chosen : Chosen) (pairs : List Pair)
    → Adds (IsExternal files chosen (length files)) [] pairs → (x : Pair) → Contains pairs x
    → IsKeptThere files chosen x
externals-there files chosen pairs adds x listed = elim ((adds x).0 listed) [
  | inl none ↦ absurd (in_nothing x none)
  | inr is ↦ external-there files chosen (length files) x is
]
