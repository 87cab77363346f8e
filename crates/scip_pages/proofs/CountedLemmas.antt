-- Lines of a source, and their milestones.
use Rattle.std.proofs.Common.{◌≡◌, ◌∙◌, ◌<◌, ap, sym, subst, ℕ, List, [], ◌∷◌, ◌++◌, length, map, get_or}
use Rattle.std.proofs.Common.{Bool, true, false, cond}
use Rattle.std.specs.List.{All}
use Rattle.std.proofs.lemmas.List.{append-nil}
use Rattle.std.proofs.lemmas.List.Elements.{All-push}
use Rattle.std.specs.Prelude.{Option}
use Rattle.std.specs.Borrow.{Bor}
use Rattle.std.specs.Option.{option_map, unwrap_or}
use Rattle.std.proofs.lemmas.Option.{slice_get-map, slice_get-get_or}
use Rattle.scip_pages.specs.declared.columns.ColumnUnit.{ColumnUnit}
use Rattle.scip_pages.specs.declared.counted.Milestone.{Milestone}
use Rattle.scip_pages.specs.CodeText.{line_at}
use Rattle.scip_pages.specs.Counted.{IsMilestone}

abbrev pub now : Bor (List ℕ) → List ℕ
now line = line.now

-- the line with a number
pub line_listed : (lines : List (Bor (List ℕ))) (number : ℕ) (d : Bor (List ℕ)) → number < length lines
    → line_at (map now lines) number ≡ (get_or lines number d).now
line_listed lines number d within =
    ap (λ (line : Option (List ℕ)). unwrap_or line [])
    (slice_get-map now lines number ∙ ap (option_map now) (slice_get-get_or lines number d within))

-- of what holds of all items and of one more, it holds with that one or without it
pub all_or_one : {X : Type 0} (P : X → Type 0) (xs : List X) (x : X) (b : Bool) → All P xs → P x
    → All P (xs ++ cond b (x ∷ []) [])
all_or_one P xs x true all is = All-push P xs x all is
all_or_one P xs x false all is = subst (All P) (sym (append-nil xs)) all

-- a milestone of a line is one of that line of a source
pub of_line : (unit : ColumnUnit) (lines : List (List ℕ)) (line : List ℕ) (milestone : Milestone)
    → line_at lines milestone.line ≡ line → IsMilestone unit line milestone
    → IsMilestone unit (line_at lines milestone.line) milestone
of_line unit lines line milestone same is =
    subst (λ (text : List ℕ). IsMilestone unit text milestone) (sym same) is
