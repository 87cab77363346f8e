-- Marks at single tokens, and what is between the marks of a tree.
use Rattle.std.proofs.Common.{ℕ, Bool, List, ◌∷◌}
use Rattle.std.proofs.lemmas.Bool.{and_parts}
use Rattle.proto_lex.specs.declared.span.Span.{Span}
use Rattle.proto_lex.specs.declared.token.TokenKind.TheVariants.{Identifier, StringLiteral}
use Rattle.proto_grammar.specs.Lexeme.{Lexeme}
use Rattle.proto_grammar.specs.Terminal.{is_kind, of_kind, is_word, is_group_name, is_key, is_scalar}
use Rattle.proto_grammar.specs.Terminal.{is_plain_literal}
use Rattle.proto_parse.specs.Walk.{Mark, Among}
use Rattle.proto_parse.specs.Walk.Among.{skip}
use Rattle.proto_parse.proofs.Walk.Then.{First, Name, Literal, Other, at_first, at_name, at_literal, at_other}
use Rattle.proto_grammar.specs.Grammar.Repetition.{One}
use Rattle.proto_grammar.specs.Grammar.Repetition.One.{one}
use Rattle.proto_grammar.proofs.TerminalTokenLemmas.{same_kind}
use Rattle.proto_parse.proofs.GrammarTailLemmas.{IsTail}
use Rattle.proto_parse.proofs.GrammarTailLemmas.IsTail.{here, onward}

-- single tokens
pub past : {test : Lexeme → Bool} {a b : List Lexeme} {span : Span} {marks : List Mark} → One test a span b
    → Among marks b → Among marks a
past (one e) behind = skip behind

pub at_a_name : {a b : List Lexeme} {span : Span} {marks : List Mark} → One (of_kind Identifier) a span b
    → Among marks b → Among (Name span ∷ marks) a
at_a_name (one {t} e) behind = at_name (same_kind Identifier t.kind e) behind

pub at_a_word : (word : List ℕ) {a b : List Lexeme} {span : Span} {marks : List Mark} → One (is_word word) a span b
    → Among marks b
    → Among (Name span ∷ marks) a
at_a_word word (one {t} e) behind =
    at_name (same_kind Identifier t.kind (and_parts (is_kind Identifier t.kind) _ e).0) behind

pub at_a_group_name : {a b : List Lexeme} {span : Span} {marks : List Mark} → One is_group_name a span b
    → Among marks b
    → Among (Name span ∷ marks) a
at_a_group_name (one {t} e) behind =
    at_name (same_kind Identifier t.kind (and_parts (is_kind Identifier t.kind) _ e).0) behind

pub at_a_scalar : {a b : List Lexeme} {span : Span} {marks : List Mark} → One is_scalar a span b → Among marks b
    → Among (Name span ∷ marks) a
at_a_scalar (one {t} e) behind =
    at_name (same_kind Identifier t.kind (and_parts (is_kind Identifier t.kind) _ e).0) behind

pub at_a_key : {a b : List Lexeme} {span : Span} {marks : List Mark} → One is_key a span b → Among marks b
    → Among (Name span ∷ marks) a
at_a_key (one {t} e) behind = at_name (same_kind Identifier t.kind (and_parts (is_kind Identifier t.kind) _ e).0) behind

pub at_a_literal : {a b : List Lexeme} {span : Span} {marks : List Mark} → One is_plain_literal a span b → Among marks b
    → Among (Literal span ∷ marks) a
at_a_literal (one {t} e) behind =
    at_literal (same_kind StringLiteral t.kind (and_parts (is_kind StringLiteral t.kind) _ e).0) behind

pub at_another : {test : Lexeme → Bool} {a b : List Lexeme} {span : Span} {marks : List Mark} → One test a span b
    → Among marks b → Among (Other span ∷ marks) a
at_another (one e) behind = at_other behind

-- a first token, of which the rest is past
pub at_its_first : {test : Lexeme → Bool} {a b : List Lexeme} {span : Span} {marks : List Mark} → One test a span b
    → Among marks b → Among (First span ∷ marks) a
at_its_first (one e) behind = at_first (skip behind)

-- tokens of which nothing is marked
pub over : {tail a : List Lexeme} {marks : List Mark} → IsTail tail a → Among marks tail → Among marks a
over here behind = behind
over (onward rest) behind = skip (over rest behind)
