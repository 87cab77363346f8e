-- What is in the grammar is read: options.
use Rattle.std.proofs.Common.{◌≡◌, ℕ, suc, ◌+◌, ◌-◌, ◌==◌, true, false, ◌||◌, List, [], ◌∷◌, refl, arith}
use Rattle.std.proofs.lemmas.Bool.Decides.{nat_tests}
use Rattle.proto_lex.specs.declared.span.Span.{Span}
use Rattle.proto_lex.specs.declared.token.TokenKind.{TokenKind}
use Rattle.proto_lex.specs.declared.token.TokenKind.TheVariants.{Identifier, Integer, Float, StringLiteral, OpenBrace}
use Rattle.proto_lex.specs.declared.token.TokenKind.TheVariants.{CloseBrace, OpenParenthesis, Comma, Dot, Plus, Minus}
use Rattle.proto_grammar.specs.declared.dialect.CustomOptions.{CustomOptions}
use Rattle.proto_grammar.specs.Lexeme.{Lexeme}
use Rattle.proto_grammar.specs.Terminal.{is_kind, first_is, of_kind, is_sign, is_numeral, not_next}
use Rattle.proto_grammar.specs.Grammar.Repetition.{One, Passes}
use Rattle.proto_grammar.specs.Grammar.Repetition.One.{one}
use Rattle.proto_grammar.specs.Grammar.Options.{IsOptionPart, IsDotPart, IsOptionName, IsLiteral, IsStrings, IsClosed}
use Rattle.proto_grammar.specs.Grammar.Options.{IsConstant, IsSetting, IsCommaSetting, IsOption, IsOptions}
use Rattle.proto_grammar.specs.Grammar.Options.IsOptionPart.{plain, extension}
use Rattle.proto_grammar.specs.Grammar.Options.IsDotPart.{dot_part}
use Rattle.proto_grammar.specs.Grammar.Options.IsOptionName.{option_name}
use Rattle.proto_grammar.specs.Grammar.Options.IsLiteral.{literal}
use Rattle.proto_grammar.specs.Grammar.Options.IsStrings.{strings}
use Rattle.proto_grammar.specs.Grammar.Options.IsClosed.{closed, open_brace, close_brace, other}
use Rattle.proto_grammar.specs.Grammar.Options.IsConstant.{name as a_name, signed, unsigned, strings as some_strings}
use Rattle.proto_grammar.specs.Grammar.Options.IsConstant.{aggregate}
use Rattle.proto_grammar.specs.Grammar.Options.IsSetting.{setting}
use Rattle.proto_grammar.specs.Grammar.Options.IsCommaSetting.{comma_setting}
use Rattle.proto_grammar.specs.Grammar.Options.IsOption.{option}
use Rattle.proto_grammar.specs.Grammar.Options.IsOptions.{none, some}
use Rattle.proto_grammar.specs.Reading.Repetition.{passing}
use Rattle.proto_grammar.specs.Reading.Options.{extension_at, part_at, dot_part_at, dot_parts_at, option_name_at}
use Rattle.proto_grammar.specs.Reading.Options.{literal_at, literals_at, strings_at, closed_at, aggregate_at, signed_at}
use Rattle.proto_grammar.specs.Reading.Options.{constant_at, setting_at, comma_setting_at, comma_settings_at, option_at}
use Rattle.proto_grammar.specs.Reading.Options.{bracketed_at, options_at}
use Rattle.proto_grammar.proofs.RepetitionStepLemmas.{either_true}
use Rattle.proto_grammar.proofs.TerminalTokenLemmas.{token_exact, one_next, other_kind, next_other_kind}
use Rattle.proto_grammar.proofs.RepetitionUntilLemmas.{until_at-exact, passing-exact}
use Rattle.proto_grammar.proofs.RepetitionFallLemmas.{dot_parts_fall, literals_fall, comma_settings_fall}
use Rattle.proto_grammar.proofs.Exact.Names.{pass_name_exact, pass_type_name_exact, name_next}
use Rattle.std.proofs.Common.{Ok}
use Rattle.proto_grammar.specs.Reading.Options.{closed_by}
use Rattle.proto_grammar.specs.Lexeme.{place_of}

module _ (end : ℕ) where
  part_exact : {custom : CustomOptions} {a b : List Lexeme} → IsOptionPart custom a b
      → part_at custom (place_of end a) ≡ Ok (tt, place_of end b)
  unfolding part_at extension_at
  part_exact (plain {a = a} n) = rw (next_other_kind Identifier OpenParenthesis a refl (one_next n), token_exact end n)
      refl
  part_exact (extension o n c) = rw (one_next o, token_exact end o, pass_type_name_exact end n, token_exact end c) refl

  dot_part_exact : (custom : CustomOptions) (a b : List Lexeme) → IsDotPart custom a b
      → dot_part_at custom (place_of end a) ≡ Ok (tt, place_of end b)
  unfolding dot_part_at
  dot_part_exact custom a b (dot_part d p) = rw (token_exact end d) (part_exact p)

  option_name_exact : {custom : CustomOptions} {a b : List Lexeme} → IsOptionName custom a b
      → option_name_at custom (place_of end a) ≡ Ok (tt, place_of end b)
  unfolding option_name_at dot_parts_at
  option_name_exact {custom} (option_name p u) =
      rw (part_exact p)
      (until_at-exact end (not_next Dot) (passing (dot_part_at custom)) (Passes (IsDotPart custom))
      (dot_parts_fall custom)
      (passing-exact end (dot_part_at custom) (IsDotPart custom) (dot_part_exact custom)) u)

  literal_exact : (a b : List Lexeme) → IsLiteral a b → literal_at (place_of end a) ≡ Ok (tt, place_of end b)
  unfolding literal_at
  literal_exact a b (literal t) = rw (token_exact end t) refl

  pub strings_exact : {a b : List Lexeme} → IsStrings a b → strings_at (place_of end a) ≡ Ok (tt, place_of end b)
  unfolding strings_at literals_at
  strings_exact (strings l u) =
      rw (literal_exact _ _ l)
      (until_at-exact end (not_next StringLiteral) (passing literal_at) (Passes IsLiteral) literals_fall
      (passing-exact end literal_at IsLiteral literal_exact) u)

  pub strings_next : {a b : List Lexeme} → IsStrings a b → first_is (of_kind StringLiteral) a ≡ true
  strings_next (strings (literal t) u) = one_next t

  not_zero : (depth : ℕ) → (suc depth == 0) ≡ false
  not_zero depth = grind (arith, nat_tests)

  closed_by_exact : {depth : ℕ} {a b : List Lexeme} → IsClosed depth a b
      → closed_by depth a end ≡ Ok (tt, place_of end b)
  closed_by_exact (closed {a = []}) = refl
  closed_by_exact (closed {a = t ∷ rest}) = refl
  closed_by_exact (open_brace {depth} (one o) behind) =
      let deeper : suc depth + 1 ≡ suc (suc depth) = omega arith in
      rw (not_zero depth, o, deeper) (closed_by_exact behind)
  closed_by_exact (close_brace {depth} (one {t} c) behind) =
      let no_open : of_kind OpenBrace t ≡ false = other_kind CloseBrace OpenBrace t refl c in
      let less : suc depth - 1 ≡ depth = omega arith in
      rw (not_zero depth, no_open, c, less) (closed_by_exact behind)
  closed_by_exact (other {depth} no_open no_close (one e) behind) =
      rw (not_zero depth, no_open, no_close) (closed_by_exact behind)

  closed_exact : {depth : ℕ} {a b : List Lexeme} → IsClosed depth a b
      → closed_at depth (place_of end a) ≡ Ok (tt, place_of end b)
  unfolding closed_at
  closed_exact c = closed_by_exact c

  -- a token of neither of two kinds
  either_other : (kind second wanted : TokenKind) (t : Lexeme) → is_kind wanted kind ≡ false
      → is_kind wanted second ≡ false → (of_kind kind t || of_kind second t) ≡ true → of_kind wanted t ≡ false
  either_other kind second wanted t p q is =
      either_true (of_kind kind t) (of_kind second t) is (λ a. other_kind kind wanted t p a)
      (λ b. other_kind second wanted t q b)

  sign_no_name : {a b : List Lexeme} {s : Span} → One is_sign a s b → first_is (of_kind Identifier) a ≡ false
  sign_no_name (one {t} s) = either_other Minus Plus Identifier t refl refl s

  numeral_other : (wanted : TokenKind) → is_kind wanted Integer ≡ false → is_kind wanted Float ≡ false
      → {a b : List Lexeme} {s : Span} → One is_numeral a s b → first_is (of_kind wanted) a ≡ false
  numeral_other wanted p q (one {t} n) = either_other Integer Float wanted t p q n

  no_sign : (a : List Lexeme) → first_is (of_kind Minus) a ≡ false → first_is (of_kind Plus) a ≡ false
      → first_is is_sign a ≡ false
  no_sign [] p q = refl
  no_sign (t ∷ rest) p q = rw (p, q) refl

  kind_no_sign : (kind : TokenKind) (a : List Lexeme) → is_kind Minus kind ≡ false → is_kind Plus kind ≡ false
      → first_is (of_kind kind) a ≡ true → first_is is_sign a ≡ false
  kind_no_sign kind a p q is = no_sign a (next_other_kind kind Minus a p is) (next_other_kind kind Plus a q is)

  constant_exact : {custom : CustomOptions} {a b : List Lexeme} → IsConstant custom a b
      → constant_at custom (place_of end a) ≡ Ok (tt, place_of end b)
  unfolding constant_at signed_at aggregate_at
  constant_exact (a_name n) = rw (name_next end n) (pass_name_exact end n)
  constant_exact (signed s n) = rw (sign_no_name s, one_next s, token_exact end s, token_exact end n) refl
  constant_exact (unsigned {a = a} n) =
      rw (
        numeral_other Identifier refl refl n,
        no_sign a (numeral_other Minus refl refl n) (numeral_other Plus refl refl n),
        numeral_other StringLiteral refl refl n,
        numeral_other OpenBrace refl refl n,
        token_exact end n,
      ) refl
  constant_exact (some_strings {a = a} t) =
      rw (
        next_other_kind StringLiteral Identifier a refl (strings_next t),
        kind_no_sign StringLiteral a refl refl (strings_next t),
        strings_next t,
      ) (strings_exact t)
  constant_exact (aggregate {a} o behind) =
      rw (
        next_other_kind OpenBrace Identifier a refl (one_next o),
        kind_no_sign OpenBrace a refl refl (one_next o),
        next_other_kind OpenBrace StringLiteral a refl (one_next o),
        one_next o,
        token_exact end o,
      ) (closed_exact behind)

  setting_exact : {custom : CustomOptions} {a b : List Lexeme} → IsSetting custom a b
      → setting_at custom (place_of end a) ≡ Ok (tt, place_of end b)
  unfolding setting_at
  setting_exact (setting n q c) = rw (option_name_exact n, token_exact end q) (constant_exact c)

  comma_setting_exact : (custom : CustomOptions) (a b : List Lexeme) → IsCommaSetting custom a b
      → comma_setting_at custom (place_of end a) ≡ Ok (tt, place_of end b)
  unfolding comma_setting_at
  comma_setting_exact custom a b (comma_setting c s) = rw (token_exact end c) (setting_exact s)

  pub option_exact : {custom : CustomOptions} {a b : List Lexeme} → IsOption custom a b
      → option_at custom (place_of end a) ≡ Ok (tt, place_of end b)
  unfolding option_at
  option_exact (option k v s) = rw (token_exact end k, setting_exact v, token_exact end s) refl

  pub options_exact : {custom : CustomOptions} {a b : List Lexeme} → IsOptions custom a b
      → options_at custom (place_of end a) ≡ Ok (tt, place_of end b)
  unfolding options_at bracketed_at comma_settings_at
  options_exact (none none_next) = rw none_next refl
  options_exact {custom} (some o v u c) =
      rw (
        one_next o,
        token_exact end o,
        setting_exact v,
        until_at-exact end (not_next Comma) (passing (comma_setting_at custom)) (Passes (IsCommaSetting custom))
            (comma_settings_fall custom)
            (passing-exact end (comma_setting_at custom) (IsCommaSetting custom) (comma_setting_exact custom)) u,
        token_exact end c,
      ) refl
