use Rattle.std.proofs.Common.{List, ℕ, []}
use Rattle.std.specs.List.Sorted.{IsNonDecreasing}
use Rattle.proto_visibility.specs.Tables.GivenNames.{owned_at}
use Rattle.proto_visibility.proofs.NameLemmas.{HasUpTo, HasPrefixOf}
use Rattle.proto_visibility.proofs.names.package_names.Given as goal

abbrev pub invariant-loop-number : goal.invariant-loop-number
invariant-loop-number l =
    record {
      has : HasUpTo (λ name. []) (owned_at l.names) (HasPrefixOf l.prefixes) l.number;
      order : (name : List ℕ)
          → IsNonDecreasing (owned_at l.names name);
    }
