use Rattle.std.proofs.Common.{◌≡◌}
use Rattle.std.specs.String.{string_bytes}
use Rattle.proto_decl.specs.Names.{prefix_of}
use Rattle.proto_link.proofs.TargetLemmas.{AreParts}
use Rattle.proto_link.proofs.parts.parts_in.Given as goal

abbrev pub invariant-loop-index : goal.invariant-loop-index
invariant-loop-index l =
    record {
      prefix : string_bytes l.prefix ≡ prefix_of l.name l.index;
      parts : AreParts l.number l.facts l.name l.skipped l.index l.parts.items;
    }
