-- What a file imports (proto3 specification, "Import statement").
use Rattle.std.specs.Prelude.{ℕ, List, [], ◌∷◌, map}
use Rattle.std.specs.List.{flat_map}
use Rattle.proto_lex.specs.declared.span.Span.{Span}
use Rattle.proto_lex.specs.declared.token.TokenKind.TheVariants.{StringLiteral}
use Rattle.proto_lex.specs.Lexed.{IsPart, part_of}
use Rattle.proto_lex.specs.Lexes.{Spells}
use Rattle.proto_parse.specs.tree.Import.{Import}
use Rattle.proto_parse.specs.Terminal.{between_quotes}
use Rattle.proto_decl.specs.declared.imports.Imported.{Imported}

-- A string literal of the text is at the span.
pub record IsLiteral (text : List ℕ) (span : Span) : Type 0 where
  pub part : IsPart text span
  pub spelled : Spells StringLiteral (part_of text span)

-- Where the first of the spans starts, and where the last one ends.
abbrev pub start_of : List Span → ℕ
start_of [] = 0
start_of (span ∷ others) = span.start

abbrev pub end_of : List Span → ℕ
end_of [] = 0
end_of (span ∷ []) = span.end
end_of (span ∷ (next ∷ others)) = end_of (next ∷ others)

-- From the first span to the last.
abbrev pub whole_span : List Span → Span
whole_span spans = record { start = start_of spans; end = end_of spans }

-- What the literals spell when joined, without their quotes.
abbrev pub joined_literals : (text : List ℕ) → List Span → List ℕ
joined_literals text literals = flat_map (λ literal. between_quotes (part_of text literal)) literals

abbrev pub imported_by : (text : List ℕ) → Import → Imported
imported_by text import = record {
  path = joined_literals text import.literals;
  kind = import.kind;
  span = whole_span import.literals;
}

-- What imports import, in order.
abbrev pub imports_of : (text : List ℕ) → List Import → List Imported
imports_of text imports = map (imported_by text) imports
