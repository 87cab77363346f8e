-- What is named in an option as its grammar says is read.
use Rattle.std.proofs.Common.{◌≡◌, ℕ, false, true, Ok, Option, List, [], ◌∷◌, refl, ◌∙◌}
use Rattle.proto_lex.specs.declared.span.Span.{Span}
use Rattle.proto_lex.specs.declared.token.TokenKind.{TokenKind}
use Rattle.proto_lex.specs.declared.token.TokenKind.TheVariants.{Identifier, Integer, Float, StringLiteral, Dot}
use Rattle.proto_lex.specs.declared.token.TokenKind.TheVariants.{OpenBrace, OpenParenthesis, Minus, Plus}
use Rattle.proto_parse.specs.tree.TypeName.{TypeName}
use Rattle.proto_grammar.specs.Lexeme.{Lexeme, Place, place_of}
use Rattle.proto_grammar.specs.Terminal.{is_kind, first_is, of_kind, is_sign, is_numeral, not_next}
use Rattle.proto_grammar.specs.Grammar.Repetition.{One}
use Rattle.proto_grammar.specs.Grammar.Repetition.One.{one}
use Rattle.proto_grammar.specs.Grammar.Names.{IsTypeName}
use Rattle.proto_grammar.specs.Grammar.Names.IsTypeName.{rooted, plain as unrooted}
use Rattle.proto_grammar.specs.Grammar.Options.{IsStrings}
use Rattle.proto_grammar.specs.Reading.Options.{strings_at as passed_strings_at, literals_at as passed_literals_at}
use Rattle.proto_grammar.specs.Reading.Options.{literal_at as passed_literal_at}
use Rattle.proto_grammar.proofs.RepetitionStepLemmas.{either_true}
use Rattle.proto_grammar.proofs.RepetitionUntilLemmas.{until_at-exact}
use Rattle.proto_grammar.proofs.TerminalTokenLemmas.{token_exact, one_next, other_kind, next_other_kind}
use Rattle.proto_grammar.proofs.Exact.Names.{name_exact, name_next}
use Rattle.proto_grammar.proofs.Exact.Options.{strings_exact as passed_strings_exact, strings_next}
use Rattle.proto_options.specs.declared.names.Setting.{Setting}
use Rattle.proto_options.specs.Names.{Names, last_number}
use Rattle.proto_options.specs.Grammar.Aggregates.{max_aggregate_depth}
use Rattle.proto_options.specs.Grammar.Settings.{NamesPart, NamesDotPart, NamesOption, NamesValue, NamesSetting}
use Rattle.proto_options.specs.Grammar.Settings.NamesPart.{field, extension}
use Rattle.proto_options.specs.Grammar.Settings.NamesDotPart.{dot_part}
use Rattle.proto_options.specs.Grammar.Settings.NamesOption.{option_name}
use Rattle.proto_options.specs.Grammar.Settings.NamesValue.{name, signed, unsigned, strings, aggregate}
use Rattle.proto_options.specs.Grammar.Settings.NamesSetting.{setting}
use Rattle.proto_options.specs.Reading.Aggregates.{literal_at, literals_at, strings_at, word_at}
use Rattle.proto_options.specs.Reading.Settings.{type_name_at, extension_at, part_at, dot_part_at}
use Rattle.proto_options.specs.Reading.Settings.{dot_parts_at, option_name_at, name_value_at, signed_value_at}
use Rattle.proto_options.specs.Reading.Settings.{aggregate_at, value_at, setting_at}
use Rattle.proto_options.proofs.FallLemmas.{dot_parts_fall}
use Rattle.proto_options.proofs.Exact.Aggregates.{message_exact}

-- a sign is no name, and what is neither sign is none
pub sign_no_name : {a b : List Lexeme} {s : Span} → One is_sign a s b → first_is (of_kind Identifier) a ≡ false
sign_no_name (one {t} s) =
    either_true (of_kind Minus t) (of_kind Plus t) s (λ m. other_kind Minus Identifier t refl m)
    (λ p. other_kind Plus Identifier t refl p)

pub no_sign : (a : List Lexeme) → first_is (of_kind Minus) a ≡ false → first_is (of_kind Plus) a ≡ false
    → first_is is_sign a ≡ false
no_sign [] p q = refl
no_sign (t ∷ rest) p q = rw (p, q) refl

pub kind_no_sign : (kind : TokenKind) (a : List Lexeme) → is_kind Minus kind ≡ false → is_kind Plus kind ≡ false
    → first_is (of_kind kind) a ≡ true → first_is is_sign a ≡ false
kind_no_sign kind a p q is = no_sign a (next_other_kind kind Minus a p is) (next_other_kind kind Plus a q is)

-- a number is of no other kind
pub numeral_other : (wanted : TokenKind) → is_kind wanted Integer ≡ false → is_kind wanted Float ≡ false
    → {a b : List Lexeme} {s : Span} → One is_numeral a s b → first_is (of_kind wanted) a ≡ false
numeral_other wanted p q (one {t} n) =
    either_true (of_kind Integer t) (of_kind Float t) n (λ i. other_kind Integer wanted t p i)
    (λ f. other_kind Float wanted t q f)

-- strings are read as where nothing is named
same_strings : (tokens : Place) → strings_at tokens ≡ passed_strings_at tokens
unfolding strings_at literals_at literal_at passed_strings_at passed_literals_at passed_literal_at
same_strings tokens = refl

module _ (end : ℕ) where
  strings_exact : {a b : List Lexeme} → IsStrings a b → strings_at (place_of end a) ≡ Ok (tt, place_of end b)
  strings_exact {a} s = same_strings (place_of end a) ∙ passed_strings_exact end s

  type_name_exact : {a b : List Lexeme} {x : TypeName} → IsTypeName a x b
      → type_name_at (place_of end a) ≡ Ok (x, place_of end b)
  unfolding type_name_at
  type_name_exact (rooted d n) = rw (one_next d, token_exact end d, name_exact end n) refl
  type_name_exact (unrooted {a = a} n) =
      rw (next_other_kind Identifier Dot a refl (name_next end n), name_exact end n) refl

  part_exact : {around : Option ℕ} {names after : Names} {a b : List Lexeme} → NamesPart around names a after b
      → part_at around names (place_of end a) ≡ Ok (after, place_of end b)
  unfolding part_at extension_at word_at
  part_exact (field {a = a} w) =
      rw (next_other_kind Identifier OpenParenthesis a refl (one_next w), token_exact end w) refl
  part_exact (extension o n c) =
      rw (one_next o, token_exact end o, type_name_exact n, token_exact end c) refl

  dot_part_exact : (names after : Names) (a b : List Lexeme) → NamesDotPart names a after b
      → dot_part_at names (place_of end a) ≡ Ok (after, place_of end b)
  unfolding dot_part_at
  dot_part_exact names after a b (dot_part d p) = rw (token_exact end d) (part_exact p)

  option_name_exact : {a b : List Lexeme} {names : Names} → NamesOption a names b
      → option_name_at (place_of end a) ≡ Ok (names, place_of end b)
  unfolding option_name_at dot_parts_at
  option_name_exact (option_name p u) =
      rw (part_exact p) (until_at-exact end (not_next Dot) dot_part_at NamesDotPart dot_parts_fall dot_part_exact u)

  value_exact : {names after : Names} {a b : List Lexeme} → NamesValue names a after b
      → value_at names (place_of end a) ≡ Ok (after, place_of end b)
  unfolding value_at name_value_at signed_value_at aggregate_at
  value_exact (name n) = rw (name_next end n, name_exact end n) refl
  value_exact (signed s n) = rw (sign_no_name s, one_next s, token_exact end s, token_exact end n) refl
  value_exact (unsigned {a = a} n) =
      rw (
        numeral_other Identifier refl refl n,
        no_sign a (numeral_other Minus refl refl n) (numeral_other Plus refl refl n),
        numeral_other StringLiteral refl refl n,
        numeral_other OpenBrace refl refl n,
        token_exact end n,
      ) refl
  value_exact (strings {a = a} t) =
      rw (
        next_other_kind StringLiteral Identifier a refl (strings_next end t),
        kind_no_sign StringLiteral a refl refl (strings_next end t),
        strings_next end t,
        strings_exact t,
      ) refl
  value_exact (aggregate {names = names} {a = a} o balanced inside) =
      rw (
        next_other_kind OpenBrace Identifier a refl (one_next o),
        kind_no_sign OpenBrace a refl refl (one_next o),
        next_other_kind OpenBrace StringLiteral a refl (one_next o),
        one_next o,
      ) (message_exact end max_aggregate_depth (last_number names) names _ _ _ inside)

  pub setting_exact : {a b : List Lexeme} {x : Setting} → NamesSetting a x b
      → setting_at (place_of end a) ≡ Ok (x, place_of end b)
  unfolding setting_at
  setting_exact (setting p q v) = rw (option_name_exact p, token_exact end q, value_exact v) refl
