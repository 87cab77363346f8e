-- What is reported of a run that doesn't start.
use Rattle.std.proofs.Common.{◌≡◌, ℕ, false, List, Result}
use Rattle.protoscip.specs.declared.fault.Fault.{Fault}
use Rattle.programs.specs.Placing.{IsLeft, Place}
use Rattle.programs.specs.Reporting.{GoesTo, cut_off, put, refused, unmade}
use Rattle.programs.specs.StartReports.{is_tried}

-- a place to which nothing was tried to be written is as it was
pub left_untried : {Q V : Type 0} (at : Place Q V) (Is : List ℕ → Type 0) (workers : ℕ)
    (reported : Result (Unit {0}) Fault) → GoesTo at Is workers reported → is_tried reported ≡ false → IsLeft at
left_untried at Is workers _ (put is there) untried = absurd cc
left_untried at Is workers _ (cut_off begun left is nothing cut gone) untried = absurd cc
left_untried at Is workers _ (refused begun whole is nothing written gone) untried = absurd cc
left_untried at Is workers _ (unmade may left) untried = left
