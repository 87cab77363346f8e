-- What isn't read where no level is left, and what is inside is read a level down.
use Rattle.std.proofs.Common.{◌≡◌, ℕ, zero, suc, ◌-◌, ◌<◌, cond, Option, Ok, Err, List, refl, sym, ap, arith}
use Rattle.proto_lex.specs.declared.token.TokenKind.TheVariants.{OpenBrace, CloseBrace, Less, Greater}
use Rattle.proto_grammar.specs.declared.fault.SyntaxFault.TheVariants.{TooDeep}
use Rattle.proto_grammar.specs.Lexeme.{Place, place_of}
use Rattle.proto_grammar.specs.Terminal.{first_is, of_kind, offset_at, behind}
use Rattle.proto_grammar.specs.Reading.Repetition.{◌>>=◌, token_that}
use Rattle.proto_decl.specs.Names.{qualified}
use Rattle.proto_options.specs.declared.options.FileOption.{FileOption}
use Rattle.proto_options.specs.declared.statements.Within.TheVariants as within
use Rattle.proto_options.specs.Names.{Names}
use Rattle.proto_options.specs.Grammar.Passed.{past_one}
use Rattle.proto_options.specs.Reading.Aggregates.{body_at, message_at}
use Rattle.proto_options.specs.Reading.Walk.{message_body_at, block_at, inside_at}

pub no_level : (levels : ℕ) (around : Option ℕ) (names : Names) (tokens : Place) → levels ≡ 0
    → message_at levels around names tokens ≡ Ok (names, place_of tokens.end (past_one tokens.left))
unfolding message_at
no_level levels around names tokens e = rw e refl

pub some_level : (levels : ℕ) (around : Option ℕ) (names : Names) (tokens : Place) → 0 < levels
    → message_at levels around names tokens
    ≡ cond (first_is (of_kind Less) tokens.left)
    (body_at (message_at (levels - 1)) Greater around names (behind tokens))
    (token_that (of_kind OpenBrace) tokens
    >>= λ open_brace. body_at (message_at (levels - 1)) CloseBrace around names open_brace.1)
unfolding message_at
some_level zero around names tokens some = absurd (omega arith)
some_level (suc levels) around names tokens some =
    let one : suc levels - 1 ≡ levels = omega arith in
    ap (λ n. cond (first_is (of_kind Less) tokens.left)
    (body_at (message_at n) Greater around names (behind tokens))
    (token_that (of_kind OpenBrace) tokens
    >>= λ open_brace. body_at (message_at n) CloseBrace around names open_brace.1)) (sym one)

-- a message where no level is left, and where one is
pub no_message : (levels : ℕ) (around name : List ℕ) (options : List FileOption) (tokens : Place) → levels ≡ 0
    → message_body_at (inside_at levels) around name options tokens ≡ Err (TooDeep (offset_at tokens))
unfolding inside_at
no_message levels around name options tokens e = rw e refl

pub some_message : (levels : ℕ) (around name : List ℕ) (options : List FileOption) (tokens : Place) → 0 < levels
    → message_body_at (inside_at levels) around name options tokens
    ≡ block_at within.Message (inside_at (levels - 1)) around (qualified around name) options tokens
unfolding inside_at
some_message zero around name options tokens some = absurd (omega arith)
some_message (suc levels) around name options tokens some =
    let one : suc levels - 1 ≡ levels = omega arith in
    ap (λ n. block_at within.Message (inside_at n) around (qualified around name) options tokens) (sym one)
