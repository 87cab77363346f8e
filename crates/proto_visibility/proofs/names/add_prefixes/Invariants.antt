use Rattle.std.proofs.Common.{List, ℕ}
use Rattle.std.specs.List.Sorted.{IsNonDecreasing}
use Rattle.proto_visibility.specs.Tables.GivenNames.{owned_at}
use Rattle.proto_visibility.proofs.NameLemmas.{HasUpTo, IsPrefixAt}
use Rattle.proto_visibility.proofs.names.add_prefixes.Given as goal

abbrev pub invariant-loop-prefix : goal.invariant-loop-prefix
invariant-loop-prefix l =
    record {
      has : HasUpTo (owned_at l.fn.names) (owned_at l.names) (IsPrefixAt l.number l.prefixes) l.prefix-index;
      order : (name : List ℕ) → IsNonDecreasing (owned_at l.names name);
    }
