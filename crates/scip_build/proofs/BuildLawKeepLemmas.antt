-- Where nothing is left out for a name that is given twice, the same is built if several files may give one name.
use Rattle.std.proofs.Common.{◌≡◌, inl, inr, ℕ, List, Option, Some, None, refl}
use Rattle.std.specs.List.{slice_get}
use Rattle.proto_decl.specs.Values.{Seen}
use Rattle.index_hooks.specs.declared.choice.Choice.{Choice}
use Rattle.proto_visibility.specs.declared.clash.Duplicates.{Duplicates}
use Rattle.proto_visibility.specs.declared.clash.Duplicates.TheVariants.{Keep}
use Rattle.proto_visibility.specs.declared.files.FilePlace.{FilePlace}
use Rattle.proto_visibility.specs.declared.omissions.FileOmission.{FileOmission}
use Rattle.proto_visibility.specs.declared.omissions.FileOmission.TheVariants as left_for
use Rattle.proto_visibility.specs.Clashes.{Item}
use Rattle.proto_visibility.specs.Files.{File}
use Rattle.proto_visibility.specs.Kept.{Omissions, IsMet, IsOmission, AreOmissions}
use Rattle.proto_visibility.specs.Linked.{CanBeLinked}
use Rattle.proto_visibility.proofs.DuplicateLemmas.{clear_each}
use Rattle.proto_visibility.proofs.KeptLemmas.{excludes_as}
use Rattle.scip_build.specs.declared.omission.Omission.TheVariants as omitted
use Rattle.scip_build.specs.Linking.{linked_files}
use Rattle.scip_build.specs.Kept.IsTold.{of_file}
use Rattle.scip_build.specs.BuildLaws.{BuiltAlikeIfKept}

-- what a file meets if each is a namespace of its own it meets if all are one
met_too : (duplicates : Duplicates) (files : List File) (omissions : Omissions) (number : ℕ) (item : Item)
    → IsMet Keep files omissions number item → IsMet duplicates files omissions number item
met_too duplicates files omissions number item is = record {
  is_item = is.is_item;
  meets = elim is.meets [
    | inl own ↦ inl own
    | inr never ↦ absurd never.0
  ];
}

-- nothing is left out for a name that is given twice
abbrev NoneIsDuplicate : Omissions → Type 0
NoneIsDuplicate omissions = (number : ℕ) (first second : FilePlace)
    → slice_get omissions number ≡ Some (Some (left_for.Duplicate first second)) → ⊥

left_out_too : (duplicates : Duplicates) (files : List File) (omissions : Omissions) → NoneIsDuplicate omissions
    → AreOmissions duplicates files omissions → AreOmissions Keep files omissions
left_out_too duplicates files omissions none are = record {
  one_each = are.one_each;
  each = λ number omission at. by number omission at (are.each number omission at);
}
  where
    by : (number : ℕ) (omission : Option FileOmission) → slice_get omissions number ≡ Some omission
        → IsOmission duplicates files omissions number omission → IsOmission Keep files omissions number omission
    by number None at is = (
      is.0,
      λ a b e. is.1 a b
          (excludes_as a b (met_too duplicates files omissions number a)
          (met_too duplicates files omissions number b) e),
    )
    by number (Some left_for.Broken) at is = is
    by number (Some (left_for.Duplicate first second)) at is = absurd (none number first second at)

can_too : (duplicates : Duplicates) (files : List File) → CanBeLinked duplicates files → CanBeLinked Keep files
can_too duplicates files can = record {
  read = can.read;
  clear = (clear_each duplicates files (record { read = can.read; clear = can.clear })).clear;
  complete = can.complete;
}

pub built_alike_if_kept : (allows : Seen → Choice → Type 0) → BuiltAlikeIfKept allows
built_alike_if_kept allows settings tree built none is = record {
  all = is.all;
  read = is.read;
  plain = is.plain;
  placed = is.placed;
  of_files = record {
    parsed = is.of_files.parsed;
    kept = record {
      omissions = is.of_files.kept.omissions;
      left_out = left_out_too settings.duplicates (linked_files is.all) is.of_files.kept.omissions
          (λ number first second at. none first second
          ((is.of_files.kept.told_is.exact (omitted.Duplicate first second)).1
          (of_file number (left_for.Duplicate first second) at refl)))
          is.of_files.kept.left_out;
      kept = is.of_files.kept.kept;
      decided = is.of_files.kept.decided;
      told_is = is.of_files.kept.told_is;
    };
    clear = clear_each settings.duplicates (linked_files is.of_files.parsed) is.of_files.clear;
    refused = λ refuse.
        let good = is.of_files.refused refuse in
        record {
          none = good.none;
          all_kept = good.all_kept;
          linked = can_too settings.duplicates (linked_files is.all) good.linked;
          resolved = good.resolved;
          filled = good.filled;
        };
    choices = is.of_files.choices;
    repeated = is.of_files.repeated;
    are_repeated = is.of_files.are_repeated;
    index = is.of_files.index;
  };
}
