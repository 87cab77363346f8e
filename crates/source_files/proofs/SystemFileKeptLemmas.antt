-- What is read, or none; and what is kept of a source where nothing is known of the files.
use Rattle.std.proofs.Common.{◌≡◌, ◌≤◌, ℕ, List, Option, Some, None, Result, Ok, Err, length, sym, subst}
use Rattle.std.specs.Prelude.{⊤, IfOk, IfSome}
use Rattle.std.specs.Option.{option_map}
use Rattle.std.proofs.lemmas.List.{take_all}
use Rattle.source_tree.specs.Reading.{max_kept_length}
use Rattle.source_files.specs.Source.{MayKeep}

-- bytes that are no more than what is kept are kept whole
pub kept_whole : {A E : Type 0} (items : A → List ℕ) (read : Result (Option A) E)
    → IfOk read (λ o. IfSome o (λ a. length (items a) ≤ max_kept_length))
    → IfOk read (λ o. MayKeep (λ _. ⊤) (option_map items o))
kept_whole items (Ok (Some a)) few = (items a, tt, sym (take_all max_kept_length (items a) few))
kept_whole items (Ok None) few = tt
kept_whole items (Err e) few = tt

module _ {A B : Type 0} (P : Option B → Type 0) (view : A → B) (read : Option A) where
  -- what is said of an answer is said of what was read,
  pub read_some : (a : A) → read ≡ Some a → P (option_map view read) → P (Some (view a))
  read_some a is said = subst (λ o. P (option_map view o)) is said

  -- or of none
  pub read_none : read ≡ None → P (option_map view read) → P None
  read_none is said = subst (λ o. P (option_map view o)) is said
