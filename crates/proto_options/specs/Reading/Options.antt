-- Options in statements and in brackets: what a step reads, with the options so far.
use Rattle.std.specs.Prelude.{ℕ, cond, Ok, List, [], ◌∷◌, ◌++◌, codes}
use Rattle.proto_lex.specs.declared.token.TokenKind.TheVariants.{Semicolon, Comma, OpenBracket, CloseBracket}
use Rattle.proto_grammar.specs.Terminal.{first_is, of_kind, is_word, not_next}
use Rattle.proto_grammar.specs.Reading.Repetition.{◌>>=◌, Read, token_that, until_at}
use Rattle.proto_options.specs.declared.elements.Element.{Element}
use Rattle.proto_options.specs.declared.options.FileOption.{FileOption}
use Rattle.proto_options.specs.declared.names.Setting.{Setting}
use Rattle.proto_options.specs.Reading.Settings.{setting_at}

-- from the options so far to those with the ones that stand here
abbrev pub Keeping : Type 0
Keeping = List FileOption → Read (List FileOption)

abbrev pub option_of : (scope : List ℕ) → Element → Setting → FileOption
option_of scope element setting = record { scope = scope; element = element; setting = setting }

unfoldable pub kept_at : (scope : List ℕ) → Element → Keeping
kept_at scope element options tokens =
    setting_at tokens >>= λ found. Ok (options ++ option_of scope element found.0 ∷ [], found.1)

unfoldable pub option_at : (scope : List ℕ) → Element → Keeping
option_at scope element options tokens = do
  keyword ← token_that (is_word (codes "option")) tokens
  kept ← kept_at scope element options keyword.1
  semicolon ← token_that (of_kind Semicolon) kept.1
  Ok (kept.0, semicolon.1)

unfoldable pub comma_option_at : (scope : List ℕ) → Element → Keeping
comma_option_at scope element options tokens =
    token_that (of_kind Comma) tokens >>= λ comma. kept_at scope element options comma.1

unfoldable pub comma_options_at : (scope : List ℕ) → Element → Keeping
comma_options_at scope element options tokens =
    until_at (not_next Comma) (comma_option_at scope element) options tokens

unfoldable pub bracketed_at : (scope : List ℕ) → Element → Keeping
bracketed_at scope element options tokens = do
  open_bracket ← token_that (of_kind OpenBracket) tokens
  first ← kept_at scope element options open_bracket.1
  others ← comma_options_at scope element first.0 first.1
  close_bracket ← token_that (of_kind CloseBracket) others.1
  Ok (others.0, close_bracket.1)

unfoldable pub brackets_at : (scope : List ℕ) → Element → Keeping
brackets_at scope element options tokens =
    cond (first_is (of_kind OpenBracket) tokens.left) (bracketed_at scope element options tokens) (Ok (options, tokens))
