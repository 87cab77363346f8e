-- Whether a tree has a file with a path.
use Rattle.std.proofs.Common.{◌≡◌, ◌∙◌, ℕ, ◌+◌, ◌<◌, true, false, List, [], length, take, get_or, Some}
use Rattle.std.proofs.Common.{ap, sym}
use Rattle.std.specs.List.{slice_get}
use Rattle.std.specs.Option.{option_map}
use Rattle.std.specs.Str.{bytes_eq}
use Rattle.std.proofs.lemmas.List.Folds.{list_any_at, list_any_more}
use Rattle.std.proofs.lemmas.Slice.Eq.{bytes_eq-Decides}
use Rattle.std.proofs.lemmas.Option.{same_Some, slice_get-get_or}
use Rattle.basics.proofs.TestLemmas.{same_tests}
use Rattle.source_tree.specs.Files.{TreeFile}
use Rattle.protoscip.specs.Explanations.{has_path}

pub flipped : (xs ys : List ℕ) → bytes_eq xs ys ≡ bytes_eq ys xs
flipped xs ys =
    same_tests (bytes_eq xs ys) (bytes_eq ys xs)
    (λ same. (bytes_eq-Decides ys xs).1 (sym ((bytes_eq-Decides xs ys).0 same)))
    (λ same. (bytes_eq-Decides xs ys).1 (sym ((bytes_eq-Decides ys xs).0 same)))

no_file : TreeFile
no_file = record { path = []; bytes = []; text = []; is_included = false; is_unread = false }

module _ (path : List ℕ) (tree : List TreeFile) (number : ℕ) (within : number < length tree) (found : List ℕ)
    (is : option_map (λ (file : TreeFile). file.path) (slice_get tree number) ≡ Some found) where
  path_is : (get_or tree number no_file).path ≡ found
  path_is =
      same_Some (get_or tree number no_file).path found
      (sym (ap (option_map (λ (file : TreeFile). file.path)) (slice_get-get_or tree number no_file within)) ∙ is)

  pub here : bytes_eq found path ≡ true → has_path path tree ≡ true
  here same =
      list_any_at (λ (file : TreeFile). bytes_eq file.path path) tree number no_file within
      (ap (λ (p : List ℕ). bytes_eq p path) path_is ∙ same)

  pub not_here : has_path path (take number tree) ≡ false → bytes_eq found path ≡ false
      → has_path path (take (number + 1) tree) ≡ false
  not_here before other =
      let more = list_any_more (λ (file : TreeFile). bytes_eq file.path path) tree number no_file within in
      more ∙ rw (before, path_is) other
