-- One entity a name, one target a use, one clash, one absence, one refusal.
use Rattle.std.proofs.Common.{◌≡◌, ◌≢◌, ◌⊎◌, inl, inr, ℕ, ◌+◌, ◌<◌, List, length, get_or, Some, refl, ap, sym, ◌∙◌, subst}
use Rattle.std.proofs.Common.{arith}
use Rattle.std.specs.List.{Contains, slice_get}
use Rattle.std.proofs.lemmas.Bool.{cases_order}
use Rattle.std.proofs.lemmas.Option.{slice_get-get_or}
use Rattle.std.proofs.lemmas.List.{same_lists}
use Rattle.basics.proofs.ListLemmas.{contains_map}
use Rattle.proto_lex.specs.declared.span.Span.{Span}
use Rattle.proto_decl.specs.Names.{components_of, prefix_of}
use Rattle.proto_decl.specs.Facts.{Facts, AreOfSomeFile, NamesInOrder, ImportsInOrder, PackageInOrder}
use Rattle.proto_decl.specs.declared.declaration.Declaration.{Declaration}
use Rattle.proto_decl.specs.declared.imports.Imported.{Imported}
use Rattle.proto_decl.specs.declared.uses.Use.{Use}
use Rattle.proto_visibility.specs.declared.files.FilePlace.{FilePlace}
use Rattle.proto_visibility.specs.declared.fault.LinkFault.{LinkFault}
use Rattle.proto_visibility.specs.declared.fault.LinkFault.TheVariants as fault
use Rattle.proto_visibility.specs.declared.lookup.Entity.{Entity}
use Rattle.proto_visibility.specs.declared.lookup.Entity.TheVariants.{Declared}
use Rattle.proto_link.specs.declared.target.Target.{Target}
use Rattle.proto_visibility.specs.Files.{File, HasFacts, HaveOrigins, IsSource}
use Rattle.proto_visibility.specs.Reaches.{IsReachable}
use Rattle.proto_visibility.specs.Reaches.Reaches.{sees as reaches_seen}
use Rattle.proto_visibility.specs.Reaches.IsReachable.{reached as counts_seen}
use Rattle.proto_visibility.specs.Clashes.{Before, BeforeBy, Item, IsItem, IsItemBy, IsOwnItem}
use Rattle.proto_visibility.specs.Clashes.{Clash, ClashBy, NoClash}
use Rattle.proto_visibility.specs.Absences.{IsNeeded, Absent}
use Rattle.proto_visibility.specs.Absences.IsNeeded.{of_source, of_included}
use Rattle.proto_visibility.specs.Knows.{IsPrefix, IsEntityOf, SeesGiving}
use Rattle.proto_visibility.specs.Knows.IsEntityOf.{packaged, declared}
use Rattle.proto_link.specs.Resolves.{wanted}
use Rattle.proto_visibility.specs.declared.clash.Duplicates.{Duplicates}
use Rattle.proto_visibility.specs.declared.clash.Duplicates.TheVariants.{Refuse, Keep}
use Rattle.proto_visibility.proofs.DuplicateLemmas.{shared_itself}
use Rattle.proto_link.specs.Targets.{Names, IsTarget}
use Rattle.proto_visibility.specs.Linked.{MayRefuse}
use Rattle.proto_visibility.specs.Linked.MayRefuse.{broken_file, clashing, absent_import, lacks_memory}
use Rattle.proto_link.specs.Laws.{IsDeclaredAt, HasPackage}
use Rattle.proto_link.proofs.LawLemmas.{one_name_a_use, one_broken_file}
use Rattle.proto_visibility.proofs.FileFactLemmas.{one_list_of_facts}
use Rattle.proto_link.proofs.LawOneItemLemmas.{one_start, neither, neither_by, one_FilePlace, one_place, one_declaration}
use Rattle.proto_link.proofs.LawOneItemLemmas.{package_not_declared}

module _ (files : List File) (origins : HaveOrigins files)
    (names : (facts : Facts) → AreOfSomeFile facts → NamesInOrder facts.declarations)
    (packages : (facts : Facts) → AreOfSomeFile facts → PackageInOrder facts) where
  -- ---- entities

  module _ (duplicates : Duplicates) (clear : NoClash duplicates files) (number : ℕ) (is_reachable : IsReachable files number) (facts : Facts)
      (known : HasFacts files number facts) where
    at : {index : ℕ} {d : Declaration} → slice_get facts.declarations index ≡ Some d
        → IsDeclaredAt files number index d
    at stands = record { facts = facts; is_reachable = is_reachable; known = known; stands = stands }

    has_package : {name : List ℕ} → IsPrefix facts.package_name name → HasPackage files number name
    has_package prefix = record {
      facts = facts;
      count = prefix.0;
      is_reachable = is_reachable;
      known = known;
      some = prefix.1;
      few = prefix.2;
      named = prefix.3;
    }

    mixed : {name : List ℕ} (index : ℕ) {d : Declaration} → IsPrefix facts.package_name name
        → slice_get facts.declarations index ≡ Some d → d.full_name ≡ name → ⊥
    mixed index {d} prefix stands is =
        package_not_declared files origins names packages duplicates clear number index number d
        (shared_itself duplicates number) (at stands) (subst (HasPackage files number) (sym is) (has_package prefix))

    pub one_entity : (name : List ℕ) (count : ℕ) (a b : Entity) → IsEntityOf number facts name count a
        → IsEntityOf number facts name count b → a ≡ b
    one_entity name count a b (packaged prefix) (packaged also) = refl
    one_entity name count a b (packaged prefix) (declared {index = index} stands is) =
        absurd (mixed index prefix stands is)
    one_entity name count a b (declared {index = index} stands is) (packaged prefix) =
        absurd (mixed index prefix stands is)
    one_entity name count a b (declared {index = index} {declaration = d} stands is)
        (declared {index = its} {declaration = e} there named) =
        ap (Declared number)
        (one_declaration files origins names packages duplicates clear number index number its d e
        (shared_itself duplicates number) (at stands) (at there) (is ∙ sym named)).1

  -- ---- targets

  abbrev made : List ℕ → List Entity → Target
  made name parts = record { name = name; parts = parts }

  one_Target : (a b : Target) → a.name ≡ b.name → a.parts ≡ b.parts → a ≡ b
  one_Target a b name parts = ap (λ n. made n a.parts) name ∙ ap (made b.name) parts

  -- the file that declares what a use of a source names is reachable
  owner_reachable : (source : ℕ) → IsSource files source → (type_use : Use) (name : List ℕ) (owner : ℕ)
      → Names files source type_use name owner → IsReachable files owner
  owner_reachable source is type_use name owner names =
      counts_seen is (reaches_seen names.owned.gives.sees) names.owned.present

  pub one_target : (duplicates : Duplicates) → NoClash duplicates files → (source : ℕ) → IsSource files source
      → (type_use : Use) (a b : Target) → IsTarget files source type_use a → IsTarget files source type_use b → a ≡ b
  one_target duplicates clear source is_source type_use a b first second =
      let name = one_name_a_use files source type_use a.name b.name first.names.resolves second.names.resolves in
      let Gives : List ℕ → Type 0 = λ n. SeesGiving files source (wanted type_use.is_extended) n first.owner in
      let owner : first.owner ≡ second.owner =
      second.names.owned.alone first.owner (subst Gives name first.names.owned.gives) in
      let facts : first.facts ≡ second.facts = one_list_of_facts files second.owner first.facts second.facts
      (subst (λ n. HasFacts files n first.facts) owner first.known) second.known in
      let reachable = owner_reachable source is_source type_use b.name second.owner second.names in
      one_Target a b name (same_lists a.parts b.parts (first.one_each ∙ sym second.one_each) (λ k d within.
      let its = slice_get-get_or a.parts k d within in
      let other = slice_get-get_or b.parts k d (omega (arith, within, first.one_each, second.one_each)) in
      let skipped : first.skipped ≡ second.skipped =
      omega (arith, first.split, second.split, ap (λ (n : List ℕ). length (components_of n)) name) in
      let Is : ℕ → Facts → List ℕ → ℕ → Type 0 = λ number fs n s.
      IsEntityOf number fs (prefix_of n (s + k + 1)) (s + k + 1) (get_or a.parts k d) in
      let by_owner = subst (λ number. Is number first.facts a.name first.skipped) owner
      (first.named k (get_or a.parts k d) its) in
      let by_facts = subst (λ fs. Is second.owner fs a.name first.skipped) facts by_owner in
      let by_name = subst (λ n. Is second.owner second.facts n first.skipped) name by_facts in
      let moved = subst (Is second.owner second.facts b.name) skipped by_name in
      one_entity duplicates clear second.owner reachable second.facts second.known (prefix_of b.name (second.skipped + k + 1))
      (second.skipped + k + 1) (get_or a.parts k d) (get_or b.parts k d) moved
      (second.named k (get_or b.parts k d) other)))

  -- ---- clashes

  pub one_clash_of : (Earlier : ℕ → ℕ → Type 0) (C : ℕ → Type 0) (I : Item → Type 0)
      → ((m n : ℕ) → (m ≡ n) ⊎ (Earlier m n ⊎ Earlier n m)) → ((item : Item) → I item → IsItemBy files C item)
      → (first second other its : FilePlace) → ClashBy (BeforeBy Earlier) I first second
      → ClashBy (BeforeBy Earlier) I other its → (first ≡ other) × (second ≡ its)
  one_clash_of Earlier C I ordered items first second other its a b =
      let seconds = neither_by Earlier second its (ordered second.file its.file)
      (λ before. b.least_second a.earlier a.later a.exclude
      (subst (λ p. BeforeBy Earlier p its) (sym a.second_is) before))
      (λ before. a.least_second b.earlier b.later b.exclude
      (subst (λ p. BeforeBy Earlier p second) (sym b.second_is) before)) in
      let second_is : second ≡ its =
      place_of a.later b.later second its a.second_is b.second_is (items a.later a.exclude.second_is)
      (items b.later b.exclude.second_is) seconds in
      let firsts = neither_by Earlier first other (ordered first.file other.file)
      (λ before. b.least_first a.earlier a.later a.exclude (a.second_is ∙ second_is)
      (subst (λ p. BeforeBy Earlier p other) (sym a.first_is) before))
      (λ before. a.least_first b.earlier b.later b.exclude (b.second_is ∙ sym second_is)
      (subst (λ p. BeforeBy Earlier p first) (sym b.first_is) before)) in (
        place_of a.earlier b.earlier first other a.first_is b.first_is (items a.earlier a.exclude.first_is)
            (items b.earlier b.exclude.first_is) firsts,
        second_is,
      )
    where
      place_of : (x y : Item) (p q : FilePlace) → x.place ≡ p → y.place ≡ q → IsItemBy files C x → IsItemBy files C y
          → (p.file ≡ q.file) × (p.span.start ≡ q.span.start) → p ≡ q
      place_of x y p q is its_is item other_item same =
          let file : x.place.file ≡ y.place.file =
          ap (λ (r : FilePlace). r.file) is ∙ (same.0 ∙ ap (λ (r : FilePlace). r.file) (sym its_is)) in
          let start : x.place.span.start ≡ y.place.span.start =
          ap (λ (r : FilePlace). r.span.start) is ∙ (same.1 ∙ ap (λ (r : FilePlace). r.span.start) (sym its_is)) in
          sym is ∙ (one_place files origins names packages item other_item file start ∙ its_is)

  pub one_clash : (duplicates : Duplicates) (first second other its : FilePlace) → Clash duplicates files first second
      → Clash duplicates files other its → (first ≡ other) × (second ≡ its)
  one_clash Refuse first second other its a b =
      one_clash_of (λ number other. number < other) (IsReachable files) (IsItem files) cases_order (λ item is. is)
      first second other its a b
  one_clash Keep first second other its a b = elim (cases_order a.number b.number) [
    | inl same ↦ one_clash_of (λ number other. number < other) (λ number. number ≡ b.number)
        (IsOwnItem files b.number) cases_order (λ item is. is) first second other its
        (subst (λ n. ClashBy Before (IsOwnItem files n) first second) same a.clash) b.clash
    | inr apart ↦ absurd (elim apart [
      | inl less ↦ b.least a.number a.is_reachable less a.clash.earlier a.clash.later a.clash.exclude
      | inr more ↦ a.least b.number b.is_reachable more b.clash.earlier b.clash.later b.clash.exclude
    ])
  ]

-- ---- imports

module _ (files : List File) (origins : HaveOrigins files)
    (imports : (facts : Facts) → AreOfSomeFile facts → ImportsInOrder facts.imports) where
  listed : {number : ℕ} {import : Imported} → IsNeeded files number import
      → (facts : Facts) × HasFacts files number facts × Contains facts.imports import
  listed (of_source {facts = facts} source has there) = (facts, has, there)
  listed (of_included {facts = facts} is_reachable has there public) = (facts, has, there)

  pub one_absence : (place other : FilePlace) → Absent files place → Absent files other → place ≡ other
  one_absence place other a b =
      let same = neither place other (λ before. b.least place a.missing before)
      (λ before. a.least other b.missing before) in
      let x = listed a.missing.needed in
      let y = listed b.missing.needed in
      let facts : x.0 ≡ y.0 = one_list_of_facts files other.file x.0 y.0
      (subst (λ n. HasFacts files n x.0) same.0 x.1) y.1 in
      let spans = one_start 0 _ a.missing.import.span b.missing.import.span (imports y.0 (origins other.file y.0 y.1))
      (contains_map (λ (i : Imported). i.span) y.0.imports a.missing.import
      (subst (λ (f : Facts). Contains f.imports a.missing.import) facts x.2))
      (contains_map (λ (i : Imported). i.span) y.0.imports b.missing.import y.2)
      (ap (λ (s : Span). s.start) a.missing.stands ∙ (same.1 ∙ ap (λ (s : Span). s.start) (sym b.missing.stands))) in
      one_FilePlace place other same.0 (sym a.missing.stands ∙ (spans ∙ b.missing.stands))

-- ---- refusals

module _ (files : List File) (origins : HaveOrigins files)
    (names : (facts : Facts) → AreOfSomeFile facts → NamesInOrder facts.declarations)
    (packages : (facts : Facts) → AreOfSomeFile facts → PackageInOrder facts)
    (imports : (facts : Facts) → AreOfSomeFile facts → ImportsInOrder facts.imports) (duplicates : Duplicates) where
  no_clash_by : (word : Duplicates) (first second : FilePlace) → Clash word files first second → NoClash word files → ⊥
  no_clash_by Refuse first second clash clear = clear clash.earlier clash.later clash.exclude
  no_clash_by Keep first second its clear =
      clear its.number its.is_reachable its.clash.earlier its.clash.later its.clash.exclude

  no_clash : (first second : FilePlace) → Clash duplicates files first second → NoClash duplicates files → ⊥
  no_clash first second clash clear = no_clash_by duplicates first second clash clear

  pub one_refusal : (a b : LinkFault) → MayRefuse duplicates files a → MayRefuse duplicates files b
      → a ≢ fault.Memory → b ≢ fault.Memory → a ≡ b
  one_refusal _ _ (broken_file {number = n} p) (broken_file {number = m} q) x y =
      ap fault.Broken (one_broken_file files n m p q)
  one_refusal _ _ (broken_file {number = n} p) (clashing read clash) x y = absurd (read n p.unread)
  one_refusal _ _ (broken_file {number = n} p) (absent_import read clear absent) x y = absurd (read n p.unread)
  one_refusal _ _ (broken_file p) lacks_memory x y = absurd (y refl)
  one_refusal _ _ (clashing read clash) (broken_file {number = m} q) x y = absurd (read m q.unread)
  one_refusal _ _ (clashing {first = f} {second = s} read clash) (clashing {first = g} {second = t} also other) x y =
      let same = one_clash files origins names packages duplicates f s g t clash other in
      ap (λ place. fault.Duplicate place s) same.0 ∙ ap (fault.Duplicate g) same.1
  one_refusal _ _ (clashing {first = f} {second = s} read clash) (absent_import also clear absent) x y =
      absurd (no_clash f s clash clear)
  one_refusal _ _ (clashing read clash) lacks_memory x y = absurd (y refl)
  one_refusal _ _ (absent_import read clear absent) (broken_file {number = m} q) x y = absurd (read m q.unread)
  one_refusal _ _ (absent_import read clear absent) (clashing {first = f} {second = s} also clash) x y =
      absurd (no_clash f s clash clear)
  one_refusal _ _ (absent_import {place = p} read clear absent) (absent_import {place = q} also none lacks) x y =
      ap fault.MissingImport (one_absence files origins imports p q absent lacks)
  one_refusal _ _ (absent_import read clear absent) lacks_memory x y = absurd (y refl)
  one_refusal _ _ lacks_memory q x y = absurd (x refl)
