-- What stands for what is chosen, for lists in order and for details, if what they are made of is alike.
use Rattle.std.proofs.Common.{◌≡◌, ◌∙◌, ap, sym, refl, ℕ, Option, Some, None, List}
use Rattle.std.specs.declared.cmp.Ordering.{Ordering}
use Rattle.std.specs.List.{slice_get}
use Rattle.std.specs.Option.{option_and_then}
use Rattle.proto_decl.specs.Facts.{Facts}
use Rattle.proto_visibility.specs.Parts.{AreAlike}
use Rattle.index_hooks.specs.declared.choice.Choice.{Choice}
use Rattle.scip_model.specs.Chosen.{Chosen, IsChosen, IsKeptDeclaration}
use Rattle.scip_model.specs.Indexes.{IsAscendingListOf}

pub ascending_too : {X : Type 0} (cmp : X → X → Ordering) (W V : X → Type 0) (list : List X) → ((x : X) → W x → V x)
    → ((x : X) → V x → W x) → IsAscendingListOf cmp W list → IsAscendingListOf cmp V list
ascending_too cmp W V list to back is = record {
  exact = λ x. (λ there. to x ((is.exact x).0 there), λ wanted. (is.exact x).1 (back x wanted));
  ascends = is.ascends;
}

pub same_details : (a b : Option Facts) → AreAlike a b → option_and_then (λ (facts : Facts). facts.details) a
    ≡ option_and_then (λ (facts : Facts). facts.details) b
same_details None None alike = refl
same_details None (Some g) alike = absurd alike
same_details (Some f) None alike = absurd alike
same_details (Some f) (Some g) alike = ap (λ (facts : Facts). facts.details) (sym alike)

-- what is chosen for files of which the lists of choices are one
pub chosen_as : (chosen others : Chosen) (a b : ℕ) → slice_get chosen a ≡ slice_get others b → (index : ℕ) (choice : Choice)
    → IsChosen chosen a index choice → IsChosen others b index choice
chosen_as chosen others a b same index choice is =
    record { of_file = is.of_file; file_is = sym same ∙ is.file_is; declaration_is = is.declaration_is }

pub kept_as : (chosen others : Chosen) (a b : ℕ) → slice_get chosen a ≡ slice_get others b → (index : ℕ)
    → IsKeptDeclaration chosen a index → IsKeptDeclaration others b index
kept_as chosen others a b same index is = record {
  choice = is.choice;
  is_chosen = chosen_as chosen others a b same index is.choice is.is_chosen;
  keeps = is.keeps;
}
