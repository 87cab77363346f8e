-- Marks are in order where the tokens are.
use Rattle.std.proofs.Common.{◌≡◌, ℕ, List, [], ◌∷◌, map, refl, ap, arith}
use Rattle.proto_lex.proofs.LexedLemmas.{in_order_before as from_earlier}
use Rattle.proto_lex.specs.declared.token.Token.{Token}
use Rattle.proto_lex.specs.Lexed.{AreInOrder}
use Rattle.proto_grammar.specs.Lexeme.{Lexeme, lexemes_of}
use Rattle.proto_parse.specs.Walk.{Role as role}
use Rattle.proto_parse.specs.Walk.{Mark, Among, MarksAreInOrder}
use Rattle.proto_parse.specs.Walk.Among.{none as no_marks, skip, token}

-- marks are in order where the tokens are
pub Among-MarksAreInOrder : {marks : List Mark} {tokens : List Lexeme} → Among marks tokens → (place : ℕ)
    → AreInOrder place (map (λ t. t.span) tokens) → MarksAreInOrder place marks
Among-MarksAreInOrder no_marks place ordered = tt
Among-MarksAreInOrder (skip {t = t} {rest} behind) place ordered =
    Among-MarksAreInOrder behind place
    (from_earlier place t.span.end (map (λ u. u.span) rest) (omega (arith, ordered.0, ordered.1)) ordered.2)
Among-MarksAreInOrder (token {role = role.First} {t = t} fits behind) place ordered =
    (ordered.0, ordered.1, Among-MarksAreInOrder behind t.span.start (omega arith, ordered.1, ordered.2))
Among-MarksAreInOrder (token {role = role.Name} {t = t} fits behind) place ordered =
    (ordered.0, ordered.1, Among-MarksAreInOrder behind t.span.end ordered.2)
Among-MarksAreInOrder (token {role = role.Literal} {t = t} fits behind) place ordered =
    (ordered.0, ordered.1, Among-MarksAreInOrder behind t.span.end ordered.2)
Among-MarksAreInOrder (token {role = role.Other} {t = t} fits behind) place ordered =
    (ordered.0, ordered.1, Among-MarksAreInOrder behind t.span.end ordered.2)

pub spans-lexemes_of : (text : List ℕ) (tokens : List Token)
    → map (λ t. t.span) (lexemes_of text tokens) ≡ map (λ t. t.span) tokens
spans-lexemes_of text [] = refl
spans-lexemes_of text (t ∷ tokens) = ap (λ spans. t.span ∷ spans) (spans-lexemes_of text tokens)

-- of a text's tokens
pub marks-in_order : (text : List ℕ) (tokens : List Token) (marks : List Mark) → Among marks (lexemes_of text tokens)
    → AreInOrder 0 (map (λ t. t.span) tokens) → MarksAreInOrder 0 marks
marks-in_order text tokens marks among ordered =
    Among-MarksAreInOrder among 0 (rw (spans-lexemes_of text tokens) ordered)
