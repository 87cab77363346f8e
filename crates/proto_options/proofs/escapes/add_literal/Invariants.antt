use Rattle.std.proofs.Common.{◌≡◌, ◌++◌, drop}
use Rattle.proto_options.specs.declared.escapes.Escape.TheVariants.{Outside}
use Rattle.proto_options.specs.Escapes.{unescaped}
use Rattle.proto_options.proofs.escapes.add_literal.Given as goal

-- what is said so far, and by the bytes left, is all
abbrev pub invariant-loop-byte : goal.invariant-loop-byte
invariant-loop-byte l =
    l.text.items ++ unescaped l.state (drop l.byte-index l.byte-items)
    ≡ l.fn.text.items ++ unescaped Outside l.byte-items
