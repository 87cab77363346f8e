use Rattle.std.proofs.Common.{◌≡◌, Some, length, codes, option_map}
use Rattle.proto_steps.specs.Version.{is_left, joined_of, past_literals}
use Rattle.proto_steps.proofs.syntax.version.Given as goal

abbrev pub invariant-literals : goal.invariant-literals
invariant-literals l = record {
  proto3 : is_left (option_map (λ t. t.now) l.proto3) (joined_of l.parser.left)
      ≡ is_left (Some (codes "proto3")) (joined_of l.initial.parser.left);
  proto2 : is_left (option_map (λ t. t.now) l.proto2) (joined_of l.parser.left)
      ≡ is_left (Some (codes "proto2")) (joined_of l.initial.parser.left);
  behind : past_literals l.parser ≡ past_literals l.initial.parser;
}

abbrev pub decreases-literals : goal.decreases-literals
decreases-literals l = length l.parser.left
