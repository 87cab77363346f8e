-- What begins a field or a group of a message: none of what begins its other statements.
use Rattle.std.specs.Prelude.{ℕ, Bool, ◌||◌, List, [], ◌∷◌, codes}
use Rattle.std.specs.List.{list_any}
use Rattle.proto_lex.specs.declared.token.TokenKind.TheVariants.{Semicolon}
use Rattle.proto_grammar.specs.Lexeme.{Lexeme}
use Rattle.proto_grammar.specs.Terminal.{first_is, of_kind, is_word}
use Rattle.proto_grammar.specs.declared.dialect.Syntax.{Syntax}
use Rattle.proto_steps.specs.Choice.{begins_map}

-- The first words of the others.
abbrev pub statement_words : List (List ℕ)
statement_words =
    codes "message" ∷ (codes "enum" ∷ (codes "option" ∷ (codes "oneof"
    ∷ (codes "reserved" ∷ (codes "extend" ∷ (codes "extensions" ∷ []))))))

-- Whether anything else is next: `;`, one of these words, or a map field.
abbrev pub begins_other : Syntax → List Lexeme → Bool
begins_other syntax a =
    first_is (of_kind Semicolon) a
    || (first_is (λ t. list_any (λ word. is_word word t) statement_words) a || begins_map syntax a)
