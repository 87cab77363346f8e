-- A use of a kept file that isn't told as uncertain names the same, however files are mended.
use Rattle.std.proofs.Common.{◌≡◌, ◌∙◌, ◌⊎◌, inl, inr, ℕ, ◌-◌, ◌<◌, ◌≤◌, zero, suc, List, [], ◌∷◌, ◌++◌}
use Rattle.std.proofs.Common.{length, map, Some, None, ap, sym, refl, subst, arith}
use Rattle.std.specs.List.{slice_get}
use Rattle.std.proofs.lemmas.Bool.{cases_lt}
use Rattle.std.proofs.lemmas.Option.{same_Some, none-some, slice_get_within}
use Rattle.std.proofs.lemmas.List.{length-map}
use Rattle.proto_decl.specs.declared.uses.Use.{Use}
use Rattle.proto_visibility.specs.Files.{File, HasFacts, HaveOrigins, IsSource}
use Rattle.proto_visibility.specs.Knows.{SeesGiving}
use Rattle.proto_visibility.specs.Kept.{Omissions, KeptFilesAreClear, kept_of, left_of, as_left_out, linked_of}
use Rattle.proto_visibility.specs.Kept.{number_among_all}
use Rattle.proto_visibility.specs.Absences.{NoneBroken}
use Rattle.proto_visibility.proofs.KeptAmongLemmas.{facts_among, left_among_all, origin, origin_kept, place, present_kept}
use Rattle.proto_link.specs.declared.uncertain_use.UncertainUse.{UncertainUse}
use Rattle.proto_link.specs.Certain.{CertainResolvesAlike, IsCertain, NothingClashes, is_any}
use Rattle.proto_link.specs.Mended.{AreMended, IsMended}
use Rattle.proto_link.specs.Mended.IsMended.{unchanged, read}
use Rattle.proto_link.specs.Resolves.{wanted}
use Rattle.proto_link.specs.Targets.{IsTarget}
use Rattle.proto_link.specs.Uncertain.{IsUncertain}
use Rattle.scip_build.specs.CertainUses.{CertainUsesResolveAlike}
use Rattle.scip_build.specs.Keeping as keeping
use Rattle.scip_build.specs.Kept.IsTold.{of_uncertain}
use Rattle.scip_build.specs.Linking.{linked_file, linked_files}
use Rattle.scip_build.proofs.KeptTreeLemmas.{kept_count, linked_is}
use Rattle.scip_build.proofs.KeptUncertainLemmas.{behind_left}
use Rattle.scip_build.proofs.KeptUseLemmas.{gives_back, gives_to, never_invented, one_place}

-- ---- mended files, one by one

data AllMended : List File → List File → Type 0 where
  none : AllMended [] []
  more : {file other : File} {files mended : List File} → IsMended file other → AllMended files mended
      → AllMended (file ∷ files) (other ∷ mended)

all_of : (files mended : List File) → AreMended files mended → AllMended files mended
all_of [] [] are = none
all_of [] (other ∷ mended) are = absurd (omega (arith, are.one_each))
all_of (file ∷ files) [] are = absurd (omega (arith, are.one_each))
all_of (file ∷ files) (other ∷ mended) are =
    more (are.each zero file other refl refl) (all_of files mended (record {
      one_each = omega (arith, are.one_each);
      each = λ number a b at now. are.each (suc number) a b at now;
    }))

same_size : {files mended : List File} → AllMended files mended → length mended ≡ length files
same_size none = refl
same_size (more is all) = ap suc (same_size all)

each_of : {files mended : List File} → AllMended files mended → (number : ℕ) (file other : File)
    → slice_get files number ≡ Some file → slice_get mended number ≡ Some other → IsMended file other
each_of none number file other at now = absurd (none-some file at)
each_of (more {file = a} {other = b} is all) zero file other at now =
    subst (IsMended file) (same_Some b other now) (subst (λ f. IsMended f b) (same_Some a file at) is)
each_of (more is all) (suc number) file other at now = each_of all number file other at now

are_of : {files mended : List File} → AllMended files mended → AreMended files mended
are_of all = record { one_each = same_size all; each = each_of all }

-- ---- as they are linked

kept_mended : (omissions : Omissions) {files mended : List File} → AllMended files mended
    → AllMended (kept_of omissions files) (kept_of omissions mended)
kept_mended [] all = none
kept_mended (None ∷ omissions) none = none
kept_mended (Some omission ∷ omissions) none = none
kept_mended (None ∷ omissions) (more is all) = more is (kept_mended omissions all)
kept_mended (Some omission ∷ omissions) (more is all) = kept_mended omissions all

left_mended : (omissions : Omissions) {files mended : List File} → AllMended files mended
    → AllMended (left_of omissions files) (left_of omissions mended)
left_mended [] all = none
left_mended (None ∷ omissions) none = none
left_mended (Some omission ∷ omissions) none = none
left_mended (None ∷ omissions) (more is all) = left_mended omissions all
left_mended (Some omission ∷ omissions) (more is all) = more is (left_mended omissions all)

turned : {file other : File} → IsMended file other → IsMended (as_left_out file) (as_left_out other)
turned (unchanged) = unchanged
turned (read facts unread) = read facts unread

turned_mended : {files mended : List File} → AllMended files mended
    → AllMended (map as_left_out files) (map as_left_out mended)
turned_mended none = none
turned_mended (more is all) = more (turned is) (turned_mended all)

both_mended : {files mended others again : List File} → AllMended files mended → AllMended others again
    → AllMended (files ++ others) (mended ++ again)
both_mended none behind = behind
both_mended (more is all) behind = more is (both_mended all behind)

linked_mended : (omissions : Omissions) {files mended : List File} → AllMended files mended
    → AllMended (linked_of omissions files) (linked_of omissions mended)
linked_mended omissions all =
    both_mended (kept_mended omissions all) (turned_mended (left_mended omissions all))

module _ (omissions : Omissions) (files mended : List File) (all : AllMended files mended) where
  kept_size : length (kept_of omissions mended) ≡ length (kept_of omissions files)
  kept_size = same_size (kept_mended omissions all)

  -- the number among all is the same
  same_origin : (k : ℕ) → origin mended omissions k ≡ origin files omissions k
  same_origin k = by (cases_lt k (length (kept_of omissions mended))) (cases_lt k (length (kept_of omissions files)))
    where
      by : (c : (k < length (kept_of omissions mended)) ⊎ (length (kept_of omissions mended) ≤ k))
          → (d : (k < length (kept_of omissions files)) ⊎ (length (kept_of omissions files) ≤ k))
          → place mended omissions k c ≡ place files omissions k d
      by (inl front) (inl also) = refl
      by (inl front) (inr later) = absurd (omega (arith, front, later, kept_size))
      by (inr later) (inl front) = absurd (omega (arith, front, later, kept_size))
      by (inr later) (inr also) = ap (λ size. left_among_all omissions (k - size)) kept_size

  module _ (size : length omissions ≡ length files) (number : ℕ)
      (within : number < length (linked_of omissions files)) (type_use : Use) (name : List ℕ) where
    mended_size : length omissions ≡ length mended
    mended_size = size ∙ sym (same_size all)

    linked_size : length (linked_of omissions mended) ≡ length (linked_of omissions files)
    linked_size = same_size (linked_mended omissions all)

    within_mended : number < length (linked_of omissions mended)
    within_mended = omega (arith, within, linked_size)

    -- among the linked files nothing clashes
    nothing_linked : NothingClashes files mended (origin files omissions number) type_use name
        → NothingClashes (linked_of omissions files) (linked_of omissions mended) number type_use name
    nothing_linked nothing = record {
      own = λ facts declaration has listed seen gives.
          let seen_in = slice_get_within (linked_of omissions mended) seen gives.giving.file gives.giving.numbered in
          let there = nothing.own facts declaration
          (subst (λ n. HasFacts mended n facts) (same_origin number) (facts_among mended omissions number facts has))
          listed (origin mended omissions seen)
          (subst (λ n. SeesGiving mended n is_any declaration.full_name (origin mended omissions seen))
          (same_origin number)
          (gives_to mended omissions mended_size number within_mended is_any declaration.full_name seen gives)) in
          one_place mended omissions mended_size seen number seen_in within_mended (there ∙ sym (same_origin number));
      given = λ seen gives.
          let admits = wanted type_use.is_extended in
          let seen_in : seen < length (linked_of omissions files) =
          (let inside = slice_get_within (linked_of omissions mended) seen gives.giving.file gives.giving.numbered in
          omega (arith, inside, linked_size)) in
          let before = nothing.given (origin mended omissions seen)
          (subst (λ n. SeesGiving mended n admits name (origin mended omissions seen)) (same_origin number)
          (gives_to mended omissions mended_size number within_mended admits name seen gives)) in
          let its = gives_back files omissions size number within admits name (origin mended omissions seen) before in
          subst (SeesGiving (linked_of omissions files) number admits name)
          (one_place files omissions size its.own seen its.inside seen_in (its.same ∙ same_origin seen)) its.gives;
    }

-- ---- of a tree

module _ (kept_clear : KeptFilesAreClear) (alike : CertainResolvesAlike) where
  pub certain_uses_resolve_alike : CertainUsesResolveAlike
  certain_uses_resolve_alike duplicates asks all parsed told own present kept mended are origins number source facts has
      type_use listed target is told_not nothing =
      (never_invented mended omissions mended_size number is_kept_one type_use target linked_target).0
    where
      omissions : Omissions
      omissions = kept.omissions

      files : List File
      files = linked_files all

      linked : List File
      linked = linked_of omissions files

      same : linked_files parsed ≡ linked
      same = ap linked_files kept.kept ∙ linked_is omissions all

      size : length omissions ≡ length files
      size = kept.left_out.one_each

      each : AllMended files mended
      each = all_of files mended are

      mended_size : length omissions ≡ length mended
      mended_size = size ∙ sym (same_size each)

      its_source : IsSource linked number
      its_source = subst (λ fs. IsSource fs number) same source

      at_front : slice_get (kept_of omissions files) number ≡ Some its_source.file
      at_front = present_kept files omissions number its_source.file its_source.numbered its_source.present

      is_kept_one : number < length (keeping.kept_numbers 0 omissions)
      is_kept_one =
          let front = slice_get_within (kept_of omissions files) number its_source.file at_front in
          omega (arith, front, kept_count 0 omissions files size)

      within : number < length linked
      within = slice_get_within linked number its_source.file its_source.numbered

      there : origin files omissions number ≡ number_among_all omissions number
      there = origin_kept files omissions number its_source.file at_front

      certain : IsCertain linked number type_use
      certain behind uncertain =
          let its_use : UncertainUse = record { place = record { file = number; span = type_use.span }; behind = behind }
          in
          let here = subst (λ fs. IsUncertain fs its_use) (sym (linked_is omissions all)) uncertain in
          let read = subst NoneBroken (sym (linked_is omissions all))
          (kept_clear duplicates files omissions kept.left_out own).1.read in
          let out = behind_left all omissions (size ∙ length-map all linked_file) present read number behind here.source
          here.behind in
          told_not out.number ((kept.told_is.exact _).1
          (of_uncertain its_use out.number out.omission (inl here) out.numbered out.left_out))

      linked_origins : HaveOrigins (linked_of omissions mended)
      linked_origins k its known =
          origins (origin mended omissions k) its (facts_among mended omissions k its known)

      linked_target : IsTarget (linked_of omissions mended) number type_use target
      linked_target =
          alike linked (linked_of omissions mended) (are_of (linked_mended omissions each)) linked_origins number
          its_source facts (subst (λ fs. HasFacts fs number facts) same has) type_use listed target
          (subst (λ fs. IsTarget fs number type_use target) same is) certain
          (nothing_linked omissions files mended each size number within type_use target.name
          (subst (λ n. NothingClashes files mended n type_use target.name) (sym there) nothing))
