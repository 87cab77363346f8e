use Rattle.std.proofs.Common.{◌≡◌, ◌<◌, ◌^◌, ◌-◌, ℕ, map, drop}
use Rattle.std.specs.Int.Digits.{number_from_digits_after}
use Rattle.scip_query.specs.Commands.{value_of}
use Rattle.scip_query.proofs.command.value_of.Given as goal

-- the number of the digits so far
abbrev pub invariant-loop-digit : goal.invariant-loop-digit
invariant-loop-digit l = record {
  value : number_from_digits_after 10 l.value (map (λ (d : ℕ). d - 48) (drop l.digit-index l.digits))
      ≡ value_of l.digits;
  small : l.value < 10 ^ l.digit-index;
}
