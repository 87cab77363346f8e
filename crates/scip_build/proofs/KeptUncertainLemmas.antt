-- Uses of kept files, and names in their options, that may name another thing once a file that is left out can be read.
use Rattle.std.proofs.Common.{◌≡◌, ◌∙◌, inl, inr, ℕ, ◌-◌, List, length, map, Some, ap, sym}
use Rattle.std.specs.List.{slice_get}
use Rattle.std.proofs.lemmas.Bool.{cases_lt, cases_order}
use Rattle.proto_visibility.specs.declared.omissions.FileOmission.{FileOmission}
use Rattle.proto_visibility.specs.Files.{File, IsSource}
use Rattle.proto_visibility.specs.Reaches.Reaches.{sees}
use Rattle.proto_visibility.specs.Reaches.IsReachable.{reached}
use Rattle.proto_visibility.specs.Absences.{NoneBroken}
use Rattle.proto_visibility.specs.Kept.{Omissions, kept_of, left_of, number_among_all}
use Rattle.proto_visibility.proofs.KeptAmongLemmas.{at_all, behind, from_mapped, is_left, left_among_all}
use Rattle.proto_visibility.proofs.SeeingLemmas.{slice_get_prefix}
use Rattle.proto_link.specs.Uncertain.{IsFirstUnread}
use Rattle.scip_build.specs.Files.{ReadFile}
use Rattle.scip_build.specs.Linking.{linked_file, linked_files}
use Rattle.scip_build.specs.Ready.{ArePresent}
use Rattle.scip_build.specs.Keeping.{as_left_out, linked_numbers, linked_of}
use Rattle.scip_build.proofs.LinkingLemmas.{mapped_at}
use Rattle.scip_build.proofs.KeptTreeLemmas.{left_number}

-- a file has one first file without facts that it sees
pub one_behind : (files : List File) (file a b : ℕ) → IsFirstUnread files file a → IsFirstUnread files file b → a ≡ b
one_behind files file a b first second = elim (cases_order a b) [
  | inl same ↦ same
  | inr apart ↦ elim apart [
    | inl less ↦ absurd (second.least a less first.unread first.sees)
    | inr more ↦ absurd (first.least b more second.unread second.sees)
  ]
]

-- the file with this number, as files are linked, has another number among all, where it is left out
pub record IsLeftBehind (omissions : Omissions) (linked : ℕ) : Type 0 where
  pub number : ℕ
  pub omission : FileOmission
  pub numbered : slice_get (linked_numbers omissions) linked ≡ Some number
  pub left_out : slice_get omissions number ≡ Some (Some omission)

-- A file without facts that a source sees is left out: among those that are kept it would be a broken one.
pub behind_left : (all : List ReadFile) (omissions : Omissions) → length omissions ≡ length all → ArePresent all
    → NoneBroken (linked_files (linked_of omissions all)) → (source number : ℕ)
    → IsSource (linked_files (linked_of omissions all)) source
    → IsFirstUnread (linked_files (linked_of omissions all)) source number → IsLeftBehind omissions number
behind_left all omissions size present read source number is_source is =
    let kept = kept_of omissions all in
    let left = map as_left_out (left_of omissions all) in
    let first = is.unread in
    let of = mapped_at linked_file (linked_of omissions all) number first.file first.numbered in
    elim (cases_lt number (length kept)) [
      | inl front ↦ (
          let at = sym (slice_get_prefix kept left number front) ∙ of.1 in
          let here = present (number_among_all omissions number) of.0 (at_all omissions all number of.0 at) in
          absurd (read number (record {
            file = first.file;
            counts = reached is_source (sees is.sees) (record {
              file = first.file;
              numbered = first.numbered;
              present = ap (λ (f : File). f.is_left_out) of.2 ∙ here;
            });
            numbered = first.numbered;
            unread = first.unread;
          })))
      | inr later ↦ (
          let index = number - length kept in
          let its = from_mapped as_left_out (left_of omissions all) index of.0
          (sym (behind kept left number later) ∙ of.1) in
          let out = is_left omissions all index its.0 its.1 in
          record {
            number = left_among_all omissions index;
            omission = out.0;
            numbered = left_number omissions all number its.0 size later its.1;
            left_out = out.1;
          })
    ]
