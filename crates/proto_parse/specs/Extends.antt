-- Which tokens hold no extend (proto3 and proto2 specifications, "Extend").
use Rattle.std.specs.Prelude.{◌≡◌, false, List, codes}
use Rattle.std.specs.List.{list_any}
use Rattle.proto_grammar.specs.Lexeme.{Lexeme}
use Rattle.proto_grammar.specs.Terminal.{is_word}

-- No token is the word `extend`.
abbrev pub HasNoExtend : List Lexeme → Type 0
HasNoExtend tokens = list_any (is_word (codes "extend")) tokens ≡ false
