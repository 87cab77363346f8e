-- A part of files that can be linked can be linked.
use Rattle.std.proofs.Common.{◌≡◌, ◌∙◌, inl, inr, ℕ, Bool, true, false, ◌||◌, Option, Some, None, List, refl, ap, sym}
use Rattle.std.proofs.Common.{arith}
use Rattle.std.proofs.Common.{subst}
use Rattle.std.specs.List.{Contains, slice_get}
use Rattle.std.proofs.lemmas.Bool.{cases_order}
use Rattle.std.proofs.lemmas.Option.{none-some, same_Some}
use Rattle.proto_decl.specs.Facts.{Facts}
use Rattle.proto_decl.specs.declared.imports.Imported.{Imported}
use Rattle.proto_visibility.specs.declared.clash.Duplicates.{Duplicates}
use Rattle.proto_visibility.specs.declared.clash.Duplicates.TheVariants.{Refuse, Keep}
use Rattle.proto_visibility.specs.declared.files.FilePlace.{FilePlace}
use Rattle.proto_visibility.specs.Files.{File, HasFacts, HasPath, HasPathAt, HaveOwnPaths, Imports, IsPresent}
use Rattle.proto_visibility.specs.Files.{IsSource, is_public}
use Rattle.proto_visibility.specs.Reaches.{IsReachable}
use Rattle.proto_visibility.specs.Reaches.Reaches.{sees}
use Rattle.proto_visibility.specs.Reaches.IsReachable.{reached}
use Rattle.proto_visibility.specs.Sees.LeadsTo.{at_once}
use Rattle.proto_visibility.specs.Sees.SeesBy.{import}
use Rattle.proto_visibility.specs.Absences.{IsMissing, IsNeeded, IsUnread}
use Rattle.proto_visibility.specs.Absences.IsNeeded.{of_source, of_included}
use Rattle.proto_visibility.specs.Clashes.{Before, Excludes, IsItemBy, Item, NoClash, NoClashBy}
use Rattle.proto_visibility.specs.Clashes.IsItemBy.{declared, packaged}
use Rattle.proto_visibility.specs.Parts.{AreAlike, HasAllReached, IsOfPart, IsPart, PartsCanBeLinked, renumbered}
use Rattle.proto_visibility.proofs.PartLemmas.{facts_to, shares}
use Rattle.proto_visibility.proofs.PartReachLemmas.{path_at_back, reaches_more, reaches_to}

none_to : (a b : Option Facts) → AreAlike a b → a ≡ None → b ≡ None
none_to None None alike is = refl
none_to None (Some g) alike is = absurd alike
none_to (Some f) b alike is = absurd (none-some f (sym is))

either_way : (a b : Bool) → (a || b) ≡ true → (b || a) ≡ true
either_way false false h = h
either_way false true h = refl
either_way true false h = refl
either_way true true h = refl

module _ (part whole : List File) (at : ℕ → ℕ) (are : IsPart part whole at) where
  pub present_to : (k : ℕ) → IsPresent part k → IsPresent whole (at k)
  present_to k is =
      let its = are k is.file is.numbered in
      record { file = its.other; numbered = its.numbered; present = sym its.same.left_out ∙ is.present }

  pub present_back : (k : ℕ) (file : File) → slice_get part k ≡ Some file → IsPresent whole (at k) → IsPresent part k
  present_back k file stands is =
      let its = are k file stands in
      let same : its.other ≡ is.file = same_Some its.other is.file (sym its.numbered ∙ is.numbered) in
      record {
        file = file;
        numbered = stands;
        present = its.same.left_out ∙ (ap (λ (f : File). f.is_left_out) same ∙ is.present);
      }

  pub source_to : (k : ℕ) → IsSource part k → IsSource whole (at k)
  source_to k is =
      let its = are k is.file is.numbered in
      record {
        file = its.other;
        numbered = its.numbered;
        source = its.same.included is.source;
        present = sym its.same.left_out ∙ is.present;
      }

  -- the one file has one number only
  pub one_number : HaveOwnPaths part → (i j : ℕ) (a b : File) → slice_get part i ≡ Some a → slice_get part j ≡ Some b
      → at i ≡ at j → i ≡ j
  one_number own i j a b here there same =
      let first = are i a here in
      let second = are j b there in
      let one : first.other ≡ second.other =
      same_Some first.other second.other (sym first.numbered ∙ (ap (slice_get whole) same ∙ second.numbered)) in
      own i j a b here there
      (first.same.path ∙ (ap (λ (f : File). f.path) one ∙ sym second.same.path))

  pub reachable_to : HasAllReached part whole at → (k : ℕ) → IsReachable part k → IsReachable whole (at k)
  reachable_to all k (reached {source = source} is way present) =
      reached (source_to source is) (reaches_to part whole at are all source is k way) (present_to k present)

  pub path_back : (n : ℕ) (path : List ℕ) → HasPathAt whole path n → IsPresent whole n → IsOfPart part at n
      → HasPath part path
  path_back n path has present own = (
    own.number,
    path_at_back part whole at are n path has own,
    present_back own.number own.file own.numbered (subst (IsPresent whole) (sym own.same) present),
  )

  -- ---- nothing is broken, and no import is missing

  unread_to : HasAllReached part whole at → (k : ℕ) → IsUnread part k → IsUnread whole (at k)
  unread_to all k is =
      let its = are k is.file is.numbered in
      record {
        file = its.other;
        counts = reachable_to all k is.counts;
        numbered = its.numbered;
        unread = none_to is.file.facts its.other.facts its.same.facts is.unread;
      }

  pub imported : (k n : ℕ) (facts : Facts) (one : Imported) → HasFacts part k facts → Contains facts.imports one
      → HasPathAt whole one.path n → Imports whole (at k) (is_public one.kind) n
  imported k n facts one has listed there =
      let known = facts_to part whole at (shares part whole at are) k facts has in
      record {
        facts = renumbered known.0 facts;
        import = one;
        file = there.0;
        known = known.1;
        listed = listed;
        kind = refl;
        numbered = there.1;
        path = there.2;
      }

  needed : HasAllReached part whole at → (k : ℕ) (one : Imported) → IsNeeded part k one
      → IsNeeded whole (at k) one × (HasPath whole one.path → HasPath part one.path)
  needed all k one (of_source {facts = facts} is has listed) = (
    of_source (source_to k is) (facts_to part whole at (shares part whole at are) k facts has).1 listed,
    λ there. path_back there.0 one.path there.1 there.2
        (all k there.0 is (sees (import (imported k there.0 facts one has listed there.1) at_once))),
  )
  needed all k one (of_included {facts = facts} (reached {source = source} is way present) has listed public) = (
    of_included (reachable_to all k (reached is way present))
        (facts_to part whole at (shares part whole at are) k facts has).1 listed public,
    λ there. path_back there.0 one.path there.1 there.2
        (all source there.0 is (reaches_more (reaches_to part whole at are all source is k way)
        (subst (λ b. Imports whole (at k) b there.0) public (imported k there.0 facts one has listed there.1)))),
  )

  missing_to : HasAllReached part whole at → (place : FilePlace) → IsMissing part place
      → IsMissing whole (record { file = at place.file; span = place.span })
  missing_to all place is =
      let its = needed all place.file is.import is.needed in
      record { import = is.import; needed = its.0; stands = is.stands; missing = λ there. is.missing (its.1 there) }

  -- ---- no names clash

  module _ (Counts Others : ℕ → Type 0) (counts_to : (k : ℕ) → Counts k → Others (at k)) where
    abbrev moved : Item → Item
    moved item = record {
      place = record { file = at item.place.file; span = item.place.span };
      full_name = item.full_name;
      is_declaration = item.is_declaration;
    }

    item_to : (item : Item) → IsItemBy part Counts item → IsItemBy whole Others (moved item)
    item_to _ (declared {number = number} {facts = facts} counts has listed) =
        declared (counts_to number counts) (facts_to part whole at (shares part whole at are) number facts has).1 listed
    item_to _ (packaged {number = number} {facts = facts} index counts has stands) =
        packaged index (counts_to number counts) (facts_to part whole at (shares part whole at are) number facts has).1
        stands

    file_of : (item : Item) → IsItemBy part Counts item
        → (file : File) × (slice_get part item.place.file ≡ Some file)
    file_of _ (declared counts has listed) = (has.file, has.numbered)
    file_of _ (packaged index counts has stands) = (has.file, has.numbered)

    excludes_to : (a b : Item) → Excludes Before (IsItemBy part Counts) a b → Before (moved a).place (moved b).place
        → Excludes Before (IsItemBy whole Others) (moved a) (moved b)
    excludes_to a b is ordered = record {
      first_is = item_to a is.first_is;
      second_is = item_to b is.second_is;
      ordered = ordered;
      one_name = is.one_name;
      declares = is.declares;
    }

    excludes_back : (a b : Item) → Excludes Before (IsItemBy part Counts) a b → Before (moved b).place (moved a).place
        → Excludes Before (IsItemBy whole Others) (moved b) (moved a)
    excludes_back a b is ordered = record {
      first_is = item_to b is.second_is;
      second_is = item_to a is.first_is;
      ordered = ordered;
      one_name = sym is.one_name;
      declares = either_way a.is_declaration b.is_declaration is.declares;
    }

    no_clash : HaveOwnPaths part → NoClashBy Before (IsItemBy whole Others) → NoClashBy Before (IsItemBy part Counts)
    no_clash own none a b is = elim is.ordered [
      | inr same ↦ none (moved a) (moved b) (excludes_to a b is (inr (ap at same.0, same.1)))
      | inl before ↦ elim (cases_order (at a.place.file) (at b.place.file)) [
        | inl same ↦ (
            let first = file_of a is.first_is in
            let second = file_of b is.second_is in
            let one = one_number own a.place.file b.place.file first.0 second.0 first.1 second.1 same in
            absurd (omega (arith, before, one)))
        | inr apart ↦ elim apart [
          | inl less ↦ none (moved a) (moved b) (excludes_to a b is (inl less))
          | inr more ↦ none (moved b) (moved a) (excludes_back a b is (inl more))
        ]
      ]
    ]

  clear : HasAllReached part whole at → (duplicates : Duplicates) → HaveOwnPaths part → NoClash duplicates whole
      → NoClash duplicates part
  clear all Refuse own none = no_clash (IsReachable part) (IsReachable whole) (reachable_to all) own none
  clear all Keep own none = λ number is.
      no_clash (λ other. other ≡ number) (λ other. other ≡ at number) (λ k same. ap at same) own
      (none (at number) (reachable_to all number is))

pub parts_can_be_linked : PartsCanBeLinked
parts_can_be_linked duplicates part whole at own are all linked = record {
  read = λ number is. linked.read (at number) (unread_to part whole at are all number is);
  clear = clear part whole at are all duplicates own linked.clear;
  complete = λ place is. linked.complete _ (missing_to part whole at are all place is);
}
