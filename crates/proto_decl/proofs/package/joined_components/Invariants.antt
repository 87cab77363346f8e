use Rattle.std.proofs.Common.{◌≡◌, ◌∷◌, map, take, string_bytes}
use Rattle.proto_lex.specs.Lexed.{part_of}
use Rattle.proto_decl.specs.Names.{dotted}
use Rattle.proto_decl.proofs.package.joined_components.Given as goal

-- the components so far
abbrev pub invariant-loop-component : goal.invariant-loop-component
invariant-loop-component l =
    string_bytes l.joined ≡ dotted (map (part_of l.text) (l.fn.first ∷ take l.component-index l.others))
