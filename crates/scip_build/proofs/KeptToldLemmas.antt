-- What is told of a tree: just what is left out and what has no target, each once.
use Rattle.std.proofs.Common.{◌≡◌, ◌∙◌, ◌↔◌, inl, inr, ℕ, ◌-◌, ◌++◌, Bool, false, true≢false, List, []}
use Rattle.std.proofs.Common.{length, map, Option, Some, None, Result, Err, ap, sym, refl, subst, arith}
use Rattle.std.specs.List.{Contains, flat_map, slice_get}
use Rattle.std.specs.Option.{unwrap_or}
use Rattle.std.specs.declared.cmp.Ordering.TheVariants.{Equal}
use Rattle.std.specs.Ordering.{nat_cmp, ordering_then, is_lt}
use Rattle.std.specs.Cmp.{IsTotalOrder, IsStrictWeakOrder}
use Rattle.std.proofs.lemmas.Cmp.{on_total, then_total, nat_cmp_total}
use Rattle.std.proofs.lemmas.List.Sorted.{ranks_by}
use Rattle.std.proofs.lemmas.Map.Lookups.{exact_unsigned}
use Rattle.std.proofs.lemmas.Bool.{cases_lt}
use Rattle.std.proofs.lemmas.Option.{same_Some, slice_get_within}
use Rattle.std.proofs.lemmas.List.Elements.{Contains-append_right, Contains-append_left, Contains-append_cases}
use Rattle.basics.proofs.ListLemmas.{contains_map, in_front, in_nothing, only}
use Rattle.proto_visibility.specs.declared.files.FilePlace.{FilePlace}
use Rattle.proto_visibility.specs.declared.fault.LinkFault.{LinkFault}
use Rattle.proto_visibility.specs.declared.fault.LinkFault.TheVariants as link
use Rattle.proto_link.specs.Targets.{IsUseFault}
use Rattle.proto_link.specs.declared.uncertain_use.UncertainUse.{UncertainUse}
use Rattle.proto_link.specs.Uncertain.{IsFirstUnread}
use Rattle.proto_visibility.specs.declared.omissions.FileOmission.{FileOmission}
use Rattle.proto_visibility.specs.declared.omissions.FileOmission.TheVariants as left_for
use Rattle.proto_visibility.specs.declared.clash.Duplicates.{Duplicates}
use Rattle.proto_visibility.specs.declared.clash.Duplicates.TheVariants as names
use Rattle.proto_visibility.specs.Files as files
use Rattle.proto_visibility.specs.Clashes.{ClashBy}
use Rattle.proto_visibility.specs.Reaches.IsReachable.{reached}
use Rattle.proto_visibility.specs.Absences.{IsNeeded, IsMissing, AreMissing}
use Rattle.proto_visibility.specs.Absences.IsNeeded.{of_source, of_included}
use Rattle.proto_visibility.specs.Kept.{Omissions, IsMet, IsOmission, AreOmissions, IsTakenBefore, Precedes, kept_of}
use Rattle.proto_visibility.specs.Kept.{left_of as behind_of, number_among_all}
use Rattle.proto_visibility.proofs.KeptAmongLemmas.{behind, from_mapped, is_kept, one_number}
use Rattle.proto_visibility.proofs.KeptLemmas.{excludes_as}
use Rattle.proto_visibility.proofs.KeptOrderLemmas.{taken_one_way}
use Rattle.proto_visibility.proofs.SeeingLemmas.{slice_get_prefix}
use Rattle.scip_build.specs.declared.fault.FileFault.{FileFault}
use Rattle.scip_build.specs.declared.omission.Omission.{Omission}
use Rattle.scip_build.specs.declared.omission.Omission.TheVariants.{File, MissingImport, Unresolved}
use Rattle.scip_build.specs.declared.omission.Omission.TheVariants.{Ambiguous, OptionGap, Uncertain}
use Rattle.scip_build.specs.Files.{FileContents, ReadFile}
use Rattle.scip_build.specs.Linking.{linked_file, linked_files, HasFault}
use Rattle.scip_build.specs.Documents.{asked_if, IsGapAt, IsUncertainAt, IsUnresolvedAt}
use Rattle.scip_build.specs.Kept.{IsLeftFor, place_among_all, IsTold, Key, told_key, key_cmp, told_cmp}
use Rattle.scip_build.specs.Kept.IsTold.{of_file, of_import, of_use, of_ambiguous, of_uncertain, of_gap}
use Rattle.scip_build.specs.Keeping.{linked_numbers, as_left_out, linked_of}
use Rattle.scip_build.specs.Telling.{Adds, FromFront, IsLeftIf, place_by, told_import, told_use, HaveOwnKeys}
use Rattle.scip_build.specs.Telling.{AreUncertain, AreUseFaults, IsFaultAt, number_in, told_gap, told_uncertain}
use Rattle.scip_build.proofs.ToldUseLemmas.{from_lists, to_lists, unresolved_file, ambiguous_file}
use Rattle.scip_build.proofs.ToldUseLemmas.{unresolved_there, ambiguous_there}
use Rattle.scip_build.proofs.LinkingLemmas.{mapped_at}
use Rattle.scip_build.proofs.KeptTreeLemmas.{number_of}
use Rattle.scip_build.proofs.KeptUncertainLemmas.{IsLeftBehind, one_behind}
use Rattle.scip_build.proofs.UncertainNameLemmas.{uncertain_behind, uncertain_source}
use Rattle.source_tree.proofs.TreeLemmas.{mapped_from}
use Rattle.scip_model.proofs.OccurrenceOrderLemmas.{both_equal}

-- ---- keys

pub key_total : IsTotalOrder key_cmp
key_total = then_total
    (then_total (on_total (λ (x : Key). x.0.0) nat_cmp_total) (on_total (λ (x : Key). x.0.1) nat_cmp_total))
    (then_total (on_total (λ (x : Key). x.1.0) nat_cmp_total) (on_total (λ (x : Key). x.1.1) nat_cmp_total))

pub told_total : IsTotalOrder told_cmp
told_total = on_total told_key key_total

pub told_rank : IsStrictWeakOrder (λ x y. is_lt (told_cmp x y))
told_rank = ranks_by told_total (λ (fault : Omission). fault)

-- two keys are one
pub record AreOneKey (x y : Key) : Type 0 where
  pub file : x.0.0 ≡ y.0.0
  pub start : x.0.1 ≡ y.0.1
  pub end : x.1.0 ≡ y.1.0
  pub what : x.1.1 ≡ y.1.1

pub one_key : (x y : Key) → key_cmp x y ≡ Equal → AreOneKey x y
one_key x y e =
    let halves = both_equal (ordering_then (nat_cmp x.0.0 y.0.0) (nat_cmp x.0.1 y.0.1))
    (ordering_then (nat_cmp x.1.0 y.1.0) (nat_cmp x.1.1 y.1.1)) e in
    let first = both_equal (nat_cmp x.0.0 y.0.0) (nat_cmp x.0.1 y.0.1) halves.0 in
    let second = both_equal (nat_cmp x.1.0 y.1.0) (nat_cmp x.1.1 y.1.1) halves.1 in
    record {
      file = exact_unsigned x.0.0 y.0.0 first.0;
      start = exact_unsigned x.0.1 y.0.1 first.1;
      end = exact_unsigned x.1.0 y.1.0 second.0;
      what = exact_unsigned x.1.1 y.1.1 second.1;
    }

pub of_same : (x y : Key) → x ≡ y → AreOneKey x y
of_same x y e = record {
  file = ap (λ (k : Key). k.0.0) e;
  start = ap (λ (k : Key). k.0.1) e;
  end = ap (λ (k : Key). k.1.0) e;
  what = ap (λ (k : Key). k.1.1) e;
}

one_place : (a b : FilePlace) → a.file ≡ b.file → a.span.start ≡ b.span.start → a.span.end ≡ b.span.end → a ≡ b
one_place a b file start end = λ i. record { file = file i; span = record { start = start i; end = end i } }

-- ---- a file that is left out

one_fault : (all : List ReadFile) (number : ℕ) (a b : FileFault) → HasFault all number a → HasFault all number b → a ≡ b
one_fault all number a b first second =
    let same : first.parsed_file ≡ second.parsed_file =
    same_Some first.parsed_file second.parsed_file (sym first.numbered ∙ second.numbered) in
    one (sym first.unread ∙ (ap (λ (r : ReadFile). r.contents) same ∙ second.unread))
  where
    one : ◌≡◌ {A = Result FileContents FileFault} (Err a) (Err b) → a ≡ b
    one e = cc

-- a file is left out for one fault
pub one_left : (all : List ReadFile) (number : ℕ) (omission : FileOmission) (a b : Omission)
    → IsLeftFor all number omission a → IsLeftFor all number omission b → a ≡ b
one_left all number left_for.Broken a b first second =
    first.2 ∙ (ap (File number) (one_fault all number first.0 second.0 first.1 second.1) ∙ sym second.2)
one_left all number (left_for.Duplicate p q) a b first second = first ∙ sym second

-- the later place of a clash is one of the file that is left out for it
second_in : (duplicates : Duplicates) (all : List ReadFile) (omissions : Omissions)
    → AreOmissions duplicates (linked_files all) omissions → (number : ℕ) (first second : FilePlace)
    → ClashBy (Precedes (linked_files all)) (IsMet duplicates (linked_files all) omissions number) first second
    → second.file ≡ number
second_in names.Refuse all omissions are number first second clash = elim clash.exclude.second_is.meets [
  | inl own ↦ sym (ap (λ (p : FilePlace). p.file) clash.second_is) ∙ own
  | inr before ↦ (
      let there = clash.later.place.file in
      let met : IsMet names.Refuse (linked_files all) omissions there clash.earlier = record {
        is_item = clash.exclude.first_is.is_item;
        meets = elim clash.exclude.ordered [
          | inl taken ↦ elim clash.exclude.first_is.meets [
            | inl own ↦ absurd (taken_one_way (linked_files all) number there
                (subst (λ n. IsTakenBefore (linked_files all) n there) own taken) before.0)
            | inr is ↦ inr (taken, is.1)
          ]
          | inr same ↦ inl same.0
        ];
      } in
      let itself : IsMet names.Refuse (linked_files all) omissions there clash.later =
      record { is_item = clash.exclude.second_is.is_item; meets = inl refl } in
      absurd ((are.each there None before.1).1 clash.earlier clash.later
      (excludes_as clash.earlier clash.later (λ _. met) (λ _. itself) clash.exclude)))
]
second_in names.Keep all omissions are number first second clash = elim clash.exclude.second_is.meets [
  | inl own ↦ sym (ap (λ (p : FilePlace). p.file) clash.second_is) ∙ own
  | inr before ↦ absurd before.0
]

module _ (duplicates : Duplicates) (asks : Bool) (all : List ReadFile) (omissions : Omissions)
    (are : AreOmissions duplicates (linked_files all) omissions) where
  abbrev linked : List files.File
  linked = linked_files (linked_of omissions all)

  left_in : (number : ℕ) (omission : FileOmission) (told : Omission)
      → IsOmission duplicates (linked_files all) omissions number (Some omission) → IsLeftFor all number omission told
      → (told_key told).0.0 ≡ number
  left_in number left_for.Broken told is left = ap (λ (o : Omission). (told_key o).0.0) left.2
  left_in number (left_for.Duplicate first second) told is left =
      ap (λ (o : Omission). (told_key o).0.0) left ∙ second_in duplicates all omissions are number first second is

  abbrev IsUnsure : UncertainUse → Type 0
  IsUnsure = IsUncertainAt (asked_if asks (linked_of omissions all)) (linked_of omissions all) linked

  unsure_source : (uncertain : UncertainUse) → IsUnsure uncertain → files.IsSource linked uncertain.place.file
  unsure_source = uncertain_source (asked_if asks (linked_of omissions all)) (linked_of omissions all) linked

  unsure_behind : (uncertain : UncertainUse) → IsUnsure uncertain
      → IsFirstUnread linked uncertain.place.file uncertain.behind
  unsure_behind = uncertain_behind (asked_if asks (linked_of omissions all)) (linked_of omissions all) linked

  -- the number of a file that is left out is none of a file that is kept
  not_kept : (number : ℕ) (omission : FileOmission) → slice_get omissions number ≡ Some (Some omission)
      → (k : ℕ) (parsed_file : ReadFile) → slice_get (kept_of omissions all) k ≡ Some parsed_file
      → number ≡ number_among_all omissions k → ⊥
  not_kept number omission at k parsed_file there same =
      let is = is_kept omissions all k parsed_file there in
      some_is (same_Some (Some omission) None (sym at ∙ (ap (λ n. slice_get omissions n) same ∙ is)))
    where
      some_is : ◌≡◌ {A = Option FileOmission} (Some omission) None → ⊥
      some_is e = cc

  -- a file that isn't left out is one that is kept
  parsed_file_at : (k : ℕ) (file : files.File) → slice_get linked k ≡ Some file → file.is_left_out ≡ false
      → (parsed_file : ReadFile) × (slice_get (kept_of omissions all) k ≡ Some parsed_file)
  parsed_file_at k file at present =
      let of = mapped_at linked_file (linked_of omissions all) k file at in
      let back = map as_left_out (behind_of omissions all) in
      elim (cases_lt k (length (kept_of omissions all))) [
        | inl front ↦ (of.0, sym (slice_get_prefix (kept_of omissions all) back k front) ∙ of.1)
        | inr later ↦ (
            let its = from_mapped as_left_out (behind_of omissions all) (k - length (kept_of omissions all)) of.0
            (sym (behind (kept_of omissions all) back k later) ∙ of.1) in
            absurd (true≢false (ap (λ (r : ReadFile). r.is_left_out) its.2
            ∙ (sym (ap (λ (f : files.File). f.is_left_out) of.2) ∙ present))))
      ]

  pub import_at : (place : FilePlace) → IsMissing linked place
      → (parsed_file : ReadFile) × (slice_get (kept_of omissions all) place.file ≡ Some parsed_file)
  import_at place missing = by place.file missing.needed
    where
      by : (number : ℕ) → IsNeeded linked number missing.import
          → (parsed_file : ReadFile) × (slice_get (kept_of omissions all) number ≡ Some parsed_file)
      by number (of_source is has listed) = parsed_file_at number is.file is.numbered is.present
      by number (of_included (reached is reaches present) has listed public) =
          parsed_file_at number present.file present.numbered present.present

  pub use_at : (place : FilePlace) → files.IsSource linked place.file
      → (parsed_file : ReadFile) × (slice_get (kept_of omissions all) place.file ≡ Some parsed_file)
  use_at place source = parsed_file_at place.file source.file source.numbered source.present

  -- ---- no two are told at one key

  left_of : (number : ℕ) (omission : FileOmission) (told : Omission)
      → slice_get omissions number ≡ Some (Some omission)
      → IsLeftFor all number omission told → (told_key told).0.0 ≡ number
  left_of number omission told at left = left_in number omission told (are.each number (Some omission) at) left

  pub one_told : (a b : Omission) → IsTold asks all omissions a → IsTold asks all omissions b
      → AreOneKey (told_key a) (told_key b) → a ≡ b
  one_told a b (of_file n o at left) (of_file m p and right) same =
      let numbers : n ≡ m = sym (left_of n o a at left) ∙ (same.file ∙ left_of m p b and right) in
      let omission : o ≡ p =
      same_Some o p (same_Some (Some o) (Some p) (sym at ∙ (ap (λ k. slice_get omissions k) numbers ∙ and))) in
      let here = subst (λ k. IsLeftFor all k o a) numbers left in
      one_left all m p a b (subst (λ (x : FileOmission). IsLeftFor all m x a) omission here) right
  one_told a _ (of_file n o at left) (of_import q missing) same =
      let there = import_at q missing in
      absurd (not_kept n o at q.file there.0 there.1 (sym (left_of n o a at left) ∙ same.file))
  one_told a _ (of_file n o at left) (of_use q is) same =
      let there = use_at q is.0 in
      absurd (not_kept n o at q.file there.0 there.1 (sym (left_of n o a at left) ∙ same.file))
  one_told a _ (of_file n o at left) (of_ambiguous q is) same =
      let there = use_at q is.0 in
      absurd (not_kept n o at q.file there.0 there.1 (sym (left_of n o a at left) ∙ same.file))
  one_told a _ (of_file n o at left) (of_uncertain v m more is numbered out) same =
      let there = use_at v.place (unsure_source v is) in
      absurd (not_kept n o at v.place.file there.0 there.1 (sym (left_of n o a at left) ∙ same.file))
  one_told a _ (of_file n o at left) (of_gap q is) same =
      let there = use_at q is.source in
      absurd (not_kept n o at q.file there.0 there.1 (sym (left_of n o a at left) ∙ same.file))
  one_told _ b (of_import p missing) (of_file m o and right) same =
      let there = import_at p missing in
      absurd (not_kept m o and p.file there.0 there.1 (sym (left_of m o b and right) ∙ sym same.file))
  one_told _ _ (of_import p missing) (of_import q also) same =
      ap MissingImport (one_place (place_among_all omissions p) (place_among_all omissions q) same.file same.start
      same.end)
  one_told _ _ (of_import p missing) (of_use q is) same = absurd (omega (arith, same.what))
  one_told _ _ (of_import p missing) (of_ambiguous q is) same = absurd (omega (arith, same.what))
  one_told _ _ (of_import p missing) (of_uncertain v m more is numbered out) same = absurd (omega (arith, same.what))
  one_told _ _ (of_import p missing) (of_gap q is) same = absurd (omega (arith, same.what))
  one_told _ b (of_use p is) (of_file m o and right) same =
      let there = use_at p is.0 in
      absurd (not_kept m o and p.file there.0 there.1 (sym (left_of m o b and right) ∙ sym same.file))
  one_told _ _ (of_use p is) (of_import q missing) same = absurd (omega (arith, same.what))
  one_told _ _ (of_use p is) (of_use q also) same =
      ap Unresolved (one_place (place_among_all omissions p) (place_among_all omissions q) same.file same.start
      same.end)
  one_told _ _ (of_use p is) (of_ambiguous q also) same = absurd (omega (arith, same.what))
  one_told _ _ (of_use p is) (of_uncertain v m more also numbered out) same = absurd (omega (arith, same.what))
  one_told _ _ (of_use p is) (of_gap q also) same = absurd (omega (arith, same.what))
  one_told _ b (of_ambiguous p is) (of_file m o and right) same =
      let there = use_at p is.0 in
      absurd (not_kept m o and p.file there.0 there.1 (sym (left_of m o b and right) ∙ sym same.file))
  one_told _ _ (of_ambiguous p is) (of_import q missing) same = absurd (omega (arith, same.what))
  one_told _ _ (of_ambiguous p is) (of_use q also) same = absurd (omega (arith, same.what))
  one_told _ _ (of_ambiguous p is) (of_ambiguous q also) same =
      ap Ambiguous (one_place (place_among_all omissions p) (place_among_all omissions q) same.file same.start
      same.end)
  one_told _ _ (of_ambiguous p is) (of_uncertain v m more also numbered out) same =
      absurd (omega (arith, same.what))
  one_told _ _ (of_ambiguous p is) (of_gap q also) same = absurd (omega (arith, same.what))
  one_told _ b (of_uncertain u n less is numbered out) (of_file m o and right) same =
      let there = use_at u.place (unsure_source u is) in
      absurd (not_kept m o and u.place.file there.0 there.1 (sym (left_of m o b and right) ∙ sym same.file))
  one_told _ _ (of_uncertain u n less is numbered out) (of_import q missing) same = absurd (omega (arith, same.what))
  one_told _ _ (of_uncertain u n less is numbered out) (of_use q also) same = absurd (omega (arith, same.what))
  one_told _ _ (of_uncertain u n less is numbered out) (of_ambiguous q also) same = absurd (omega (arith, same.what))
  one_told _ _ (of_uncertain u n less is numbered out) (of_uncertain v m more also too again) same =
      let place = one_place (place_among_all omissions u.place) (place_among_all omissions v.place) same.file same.start
      same.end in
      let file : u.place.file ≡ v.place.file = one_number omissions u.place.file v.place.file same.file in
      let first = subst (λ k. IsFirstUnread linked k u.behind) file (unsure_behind u is) in
      let behind_same : u.behind ≡ v.behind =
      one_behind linked v.place.file u.behind v.behind first (unsure_behind v also) in
      let number : n ≡ m =
      same_Some n m (sym numbered ∙ (ap (slice_get (linked_numbers omissions)) behind_same ∙ too)) in
      λ i. Uncertain (place i) (number i)
  one_told _ _ (of_uncertain u n less is numbered out) (of_gap q also) same = absurd (omega (arith, same.what))
  one_told _ b (of_gap p is) (of_file m o and right) same =
      let there = use_at p is.source in
      absurd (not_kept m o and p.file there.0 there.1 (sym (left_of m o b and right) ∙ sym same.file))
  one_told _ _ (of_gap p is) (of_import q missing) same = absurd (omega (arith, same.what))
  one_told _ _ (of_gap p is) (of_use q also) same = absurd (omega (arith, same.what))
  one_told _ _ (of_gap p is) (of_ambiguous q also) same = absurd (omega (arith, same.what))
  one_told _ _ (of_gap p is) (of_uncertain v m more also numbered out) same = absurd (omega (arith, same.what))
  one_told _ _ (of_gap p is) (of_gap q also) same =
      ap OptionGap (one_place (place_among_all omissions p) (place_among_all omissions q) same.file same.start
      same.end)

  -- ---- what is told

  of_left : (number : ℕ) (omission : Option FileOmission) (told : Omission) → slice_get omissions number ≡ Some omission
      → IsLeftIf all number omission told → IsTold asks all omissions told
  of_left number None told at is = absurd is
  of_left number (Some left) told at is = of_file number left at is

  moved : (place : FilePlace) (parsed_file : ReadFile) → slice_get (kept_of omissions all) place.file ≡ Some parsed_file
      → place_by (linked_numbers omissions) place ≡ place_among_all omissions place
  moved place parsed_file at =
      let to : ℕ → FilePlace = λ n. record { file = n; span = place.span } in
      ap to (number_of omissions all place.file parsed_file at)

  module _ (left : List Omission) (missing unresolved_uses : List FilePlace) (faults : List LinkFault)
      (uncertain : List UncertainUse) (option_gaps : List FilePlace)
      (left_are : Adds (FromFront (IsLeftIf all) omissions (length omissions)) [] left)
      (missing_are : AreMissing linked missing)
      (unresolved_are : (place : FilePlace) → Contains unresolved_uses place ↔ IsUnresolvedAt linked place)
      (faults_are : AreUseFaults linked unresolved_uses faults)
      (uncertain_are : AreUncertain (asked_if asks (linked_of omissions all)) (linked_of omissions all) linked
      uncertain)
      (gaps_are : (place : FilePlace) → Contains option_gaps place
      ↔ IsGapAt (asked_if asks (linked_of omissions all)) (linked_of omissions all) linked place)
      (left_behind : (source behind : ℕ) → files.IsSource linked source → IsFirstUnread linked source behind
      → IsLeftBehind omissions behind) where
    abbrev imports : List Omission
    imports = map (told_import (linked_numbers omissions)) missing

    abbrev uses : List Omission
    uses = flat_map (told_use (linked_numbers omissions)) faults

    -- a use that names nothing for this is told
    told_by : (of : LinkFault) (x : Omission) → IsFaultAt linked unresolved_uses of
        → Contains (told_use (linked_numbers omissions) of) x → IsTold asks all omissions x
    told_by (link.Unresolved p) x at there =
        let same : p.file ≡ at.place.file = unresolved_file linked at.place.file p at.is in
        let is = subst (λ n. IsUseFault linked n (link.Unresolved p)) (sym same) at.is in
        let source = subst (files.IsSource linked) (sym same) ((unresolved_are at.place).0 at.listed).source in
        let kept = use_at p source in
        subst (IsTold asks all omissions) (ap Unresolved (sym (moved p kept.0 kept.1))
        ∙ only (Unresolved (place_by (linked_numbers omissions) p)) x there) (of_use p (source, is))
    told_by (link.Ambiguous p) x at there =
        let same : p.file ≡ at.place.file = ambiguous_file linked at.place.file p at.is in
        let is = subst (λ n. IsUseFault linked n (link.Ambiguous p)) (sym same) at.is in
        let source = subst (files.IsSource linked) (sym same) ((unresolved_are at.place).0 at.listed).source in
        let kept = use_at p source in
        subst (IsTold asks all omissions) (ap Ambiguous (sym (moved p kept.0 kept.1))
        ∙ only (Ambiguous (place_by (linked_numbers omissions) p)) x there) (of_ambiguous p (source, is))
    told_by (link.Broken number) x at there = absurd (in_nothing x there)
    told_by (link.Duplicate first second) x at there = absurd (in_nothing x there)
    told_by (link.MissingImport place) x at there = absurd (in_nothing x there)
    told_by link.Memory x at there = absurd (in_nothing x there)

    -- and of such a use this is told
    use_told : (p : FilePlace) (of : LinkFault) (x : Omission) → IsUnresolvedAt linked p → IsUseFault linked p.file of
        → Contains (told_use (linked_numbers omissions) of) x → Contains uses x
    use_told p of x unresolved is there =
        to_lists (told_use (linked_numbers omissions)) faults of x
        ((faults_are of).1 (record { place = p; listed = (unresolved_are p).1 unresolved; is = is })) there

    abbrev front : List Omission
    front = (left ++ imports) ++ uses

    abbrev more : List Omission
    more = map (told_uncertain (linked_numbers omissions)) uncertain

    abbrev gaps : List Omission
    gaps = map (told_gap (linked_numbers omissions)) option_gaps

    front_told : (fault : Omission) → Contains front fault → IsTold asks all omissions fault
    front_told fault there = elim (Contains-append_cases (left ++ imports) uses fault there) [
      | inl before ↦ elim (Contains-append_cases left imports fault before) [
        | inl one ↦ elim ((left_are fault).0 one) [
          | inl none ↦ absurd (in_nothing fault none)
          | inr from ↦ of_left from.index from.element fault from.stands from.is
        ]
        | inr import ↦ (
            let of = mapped_from (told_import (linked_numbers omissions)) missing fault import in
            let is = (missing_are.each of.0).0 of.1 in
            let at = import_at of.0 is in
            subst (IsTold asks all omissions) (ap MissingImport (sym (moved of.0 at.0 at.1)) ∙ of.2)
            (of_import of.0 is))
      ]
      | inr use_ ↦ (
          let of = from_lists (told_use (linked_numbers omissions)) faults fault use_ in
          told_by of.0 fault ((faults_are of.0).0 of.1) of.2)
    ]

    -- what is told of an uncertain use or name
    uncertain_is : (u : UncertainUse) (number : ℕ) → IsUnsure u
        → slice_get (linked_numbers omissions) u.behind ≡ Some number
        → told_uncertain (linked_numbers omissions) u ≡ Uncertain (place_among_all omissions u.place) number
    uncertain_is u number is numbered =
        let at = use_at u.place (unsure_source u is) in
        let place = moved u.place at.0 at.1 in
        let behind_is : number_in (linked_numbers omissions) u.behind ≡ number =
        ap (λ (o : Option ℕ). unwrap_or o u.behind) numbered in
        λ i. Uncertain (place i) (behind_is i)

    before_told : (fault : Omission) → Contains (front ++ more) fault → IsTold asks all omissions fault
    before_told fault there = elim (Contains-append_cases front more fault there) [
      | inl before ↦ front_told fault before
      | inr last ↦ (
          let of = mapped_from (told_uncertain (linked_numbers omissions)) uncertain fault last in
          let is = (uncertain_are of.0).0 of.1 in
          let out = left_behind of.0.place.file of.0.behind (unsure_source of.0 is) (unsure_behind of.0 is) in
          subst (IsTold asks all omissions) (sym (uncertain_is of.0 out.number is out.numbered) ∙ of.2)
          (of_uncertain of.0 out.number out.omission is out.numbered out.left_out))
    ]

    pub is_told : (fault : Omission) → Contains ((front ++ more) ++ gaps) fault → IsTold asks all omissions fault
    is_told fault there = elim (Contains-append_cases (front ++ more) gaps fault there) [
      | inl before ↦ before_told fault before
      | inr gap ↦ (
          let of = mapped_from (told_gap (linked_numbers omissions)) option_gaps fault gap in
          let is = (gaps_are of.0).0 of.1 in
          let at = use_at of.0 is.source in
          subst (IsTold asks all omissions) (ap OptionGap (sym (moved of.0 at.0 at.1)) ∙ of.2) (of_gap of.0 is))
    ]

    in_front_of_gaps : (fault : Omission) → Contains (front ++ more) fault → Contains ((front ++ more) ++ gaps) fault
    in_front_of_gaps = Contains-append_left (front ++ more) gaps

    in_uses : (fault : Omission) → Contains uses fault → Contains ((front ++ more) ++ gaps) fault
    in_uses fault there = in_front_of_gaps fault
        (Contains-append_left front more fault (Contains-append_right (left ++ imports) uses fault there))

    pub told_is : (fault : Omission) → IsTold asks all omissions fault → Contains ((front ++ more) ++ gaps) fault
    told_is fault (of_file n o at found) =
        let there = (left_are fault).1 (inr (record {
          index = n;
          element = Some o;
          within = slice_get_within omissions n (Some o) at;
          stands = at;
          is = found;
        })) in
        in_front_of_gaps fault (Contains-append_left front more fault
        (Contains-append_left (left ++ imports) uses fault (Contains-append_left left imports fault there)))
    told_is _ (of_import p is) =
        let at = import_at p is in
        let there = contains_map (told_import (linked_numbers omissions)) missing p ((missing_are.each p).1 is) in
        let fault : Omission = MissingImport (place_among_all omissions p) in
        in_front_of_gaps fault (Contains-append_left front more fault
        (Contains-append_left (left ++ imports) uses fault (Contains-append_right left imports fault
        (subst (Contains imports) (ap MissingImport (moved p at.0 at.1)) there))))
    told_is _ (of_use p is) =
        let at = use_at p is.0 in
        let its : Omission = Unresolved (place_by (linked_numbers omissions) p) in
        let there = use_told p (link.Unresolved p) its (unresolved_there linked p is) is.1 (in_front its []) in
        in_uses (Unresolved (place_among_all omissions p))
        (subst (Contains uses) (ap Unresolved (moved p at.0 at.1)) there)
    told_is _ (of_ambiguous p is) =
        let at = use_at p is.0 in
        let its : Omission = Ambiguous (place_by (linked_numbers omissions) p) in
        let there = use_told p (link.Ambiguous p) its (ambiguous_there linked p is) is.1 (in_front its []) in
        in_uses (Ambiguous (place_among_all omissions p))
        (subst (Contains uses) (ap Ambiguous (moved p at.0 at.1)) there)
    told_is _ (of_uncertain u n o is numbered out) =
        let fault : Omission = Uncertain (place_among_all omissions u.place) n in
        let there = contains_map (told_uncertain (linked_numbers omissions)) uncertain u ((uncertain_are u).1 is) in
        in_front_of_gaps fault
        (Contains-append_right front more fault (subst (Contains more) (uncertain_is u n is numbered) there))
    told_is _ (of_gap p is) =
        let at = use_at p is.source in
        let fault : Omission = OptionGap (place_among_all omissions p) in
        let there = contains_map (told_gap (linked_numbers omissions)) option_gaps p ((gaps_are p).1 is) in
        Contains-append_right (front ++ more) gaps fault
        (subst (Contains gaps) (ap OptionGap (moved p at.0 at.1)) there)

    pub own_keys : HaveOwnKeys ((front ++ more) ++ gaps)
    own_keys a b first second equal =
        one_told a b (is_told a first) (is_told b second) (one_key (told_key a) (told_key b) equal)
