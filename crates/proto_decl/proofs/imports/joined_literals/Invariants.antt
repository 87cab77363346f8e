use Rattle.std.proofs.Common.{◌≡◌, take, string_bytes}
use Rattle.proto_decl.specs.Imports.{joined_literals}
use Rattle.proto_decl.proofs.imports.joined_literals.Given as goal

-- what the literals so far spell
abbrev pub invariant-loop-literal : goal.invariant-loop-literal
invariant-loop-literal l = string_bytes l.path ≡ joined_literals l.text (take l.literal-index l.literals)
