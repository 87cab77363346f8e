use Rattle.std.proofs.Common.{◌≡◌, ◌∷◌, map, take}
use Rattle.std.specs.String.{string_bytes}
use Rattle.proto_decl.specs.Names.{qualified, dotted}
use Rattle.option_link.proofs.WordLemmas.{now}
use Rattle.option_link.proofs.lookup.joined_behind.Given as goal

abbrev pub invariant-loop-word : goal.invariant-loop-word
invariant-loop-word l =
    string_bytes l.text ≡ qualified l.scope (dotted (l.first ∷ map now (take l.word-index l.others)))
