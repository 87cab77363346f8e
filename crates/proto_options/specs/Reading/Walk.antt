-- Where options are in a file: what the second reading reads, with the options so far.
use Rattle.std.specs.Prelude.{ℕ, zero, suc, true, cond, Ok, Err, Option, Some, None, List, [], codes}
use Rattle.std.specs.Option.{option_map_or}
use Rattle.proto_lex.specs.declared.token.TokenKind.TheVariants.{Semicolon, Equals, OpenBrace, OpenBracket}
use Rattle.proto_grammar.specs.declared.fault.SyntaxFault.TheVariants.{TooDeep}
use Rattle.proto_grammar.specs.Terminal.{first_is, of_kind, is_word, closes, is_end, offset_at, behind}
use Rattle.proto_lex.specs.declared.token.TokenKind.TheVariants.{CloseBrace}
use Rattle.proto_grammar.specs.Reading.Repetition.{◌>>=◌, Read, misplaced, token_that, until_at}
use Rattle.proto_grammar.specs.Reading.Reserved.{integer_at}
use Rattle.proto_decl.specs.Names.{qualified}
use Rattle.proto_options.specs.declared.elements.Element.TheVariants.{ExtensionRange}
use Rattle.proto_options.specs.declared.options.FileOption.{FileOption}
use Rattle.proto_options.specs.declared.statements.Within.{Within}
use Rattle.proto_options.specs.declared.statements.Within.TheVariants as within
use Rattle.proto_options.specs.declared.statements.Statement.{Statement}
use Rattle.proto_options.specs.declared.statements.Statement.TheVariants.{Passed, Braces, Ranges, Member, Method}
use Rattle.proto_options.specs.Reading.Options.{Keeping, option_at, brackets_at}
use Rattle.proto_options.specs.Reading.Statements.{name_before_at, pass_statement_at, heading_at, statement_of}
use Rattle.proto_options.specs.Reading.Statements.{element_of, member_of}

-- How what is behind the `{` of a message is read, by the scopes around it and in it, if a level is left for it.
abbrev pub Inside : Type 0
Inside = Option ((around inner : List ℕ) → Keeping)

unfoldable pub ranges_at : (scope : List ℕ) → Keeping
ranges_at scope options tokens = do
  last ← name_before_at OpenBracket Semicolon tokens
  brackets ← brackets_at scope ExtensionRange options last.1
  semicolon ← token_that (of_kind Semicolon) brackets.1
  Ok (brackets.0, semicolon.1)

-- statements by this, up to and with the `}`
abbrev pub braced_at : Keeping → Keeping
braced_at statement options tokens = do
  items ← until_at closes statement options tokens
  close_brace ← token_that (of_kind CloseBrace) items.1
  Ok (items.0, close_brace.1)

-- an option statement, a lone `;`, or another statement
abbrev pub item_by : Within → (around : List ℕ) → Keeping → Keeping
item_by kind around statement options tokens =
    cond (first_is (of_kind Semicolon) tokens.left) (Ok (options, behind tokens))
    (cond (first_is (is_word (codes "option")) tokens.left)
    (option_map_or (λ element. option_at around element options tokens) (element_of kind) (statement options tokens))
    (statement options tokens))

abbrev pub message_body_at : Inside → (around : List ℕ) (name : List ℕ) → Keeping
message_body_at None around name options tokens = Err (TooDeep (offset_at tokens))
message_body_at (Some inner) around name options tokens = inner around (qualified around name) options tokens

-- a `;`, or a message's braces
abbrev pub ended_by : Keeping → Keeping
ended_by body options tokens =
    cond (first_is (of_kind Semicolon) tokens.left) (Ok (options, behind tokens))
    (token_that (of_kind OpenBrace) tokens >>= λ open_brace. body options open_brace.1)

unfoldable pub member_at : Within → Inside → (scope : List ℕ) → Keeping
member_at kind inside scope options tokens = do
  name ← name_before_at Equals Equals tokens
  equals ← token_that (of_kind Equals) name.1
  number ← integer_at true equals.1
  brackets ← brackets_at scope (member_of kind name.0.span) options number.1
  ended_by (message_body_at inside scope name.0.spelling) brackets.0 brackets.1

-- ---- statements, by what they are in

abbrev pub passed_at : Keeping
passed_at options tokens = pass_statement_at tokens >>= λ x. Ok (options, x.1)

abbrev pub method_item_at : (scope : List ℕ) → Keeping
method_item_at scope = item_by within.Method scope passed_at

abbrev pub enum_statement_at : Inside → (scope : List ℕ) → Keeping
enum_statement_at inside scope options tokens =
    cond (first_is (is_word (codes "reserved")) tokens.left) (passed_at options tokens)
    (member_at within.Enum inside scope options tokens)

unfoldable pub method_at : (scope : List ℕ) → Keeping
method_at scope options tokens =
    name_before_at Semicolon OpenBrace tokens >>= λ last. ended_by (braced_at (method_item_at scope)) options last.1

-- what is behind the `{` of this, in a scope, with the name in front of the `{`
abbrev pub body_at : Within → Inside → (scope name : List ℕ) → Keeping
body_at within.Message inside scope name = message_body_at inside scope name
body_at within.Service inside scope name =
    braced_at (item_by within.Service scope (method_at (qualified scope name)))
body_at within.Oneof inside scope name = braced_at (item_by within.Oneof scope (member_at within.Oneof inside scope))
body_at within.Extend inside scope name = braced_at (item_by within.Extend scope (member_at within.Extend inside scope))
body_at within.Enum inside scope name = braced_at (item_by within.Enum scope (enum_statement_at inside scope))
body_at within.Method inside scope name = braced_at (method_item_at scope)
body_at within.File inside scope name = λ options tokens. misplaced tokens

unfoldable pub ended_at : Within → Inside → (scope name : List ℕ) → Keeping
ended_at kind inside scope name options tokens = ended_by (body_at kind inside scope name) options tokens

unfoldable pub braces_at : Within → Inside → (scope : List ℕ) → Keeping
braces_at kind inside scope options tokens =
    heading_at tokens >>= λ name. body_at kind inside scope name.0.spelling options name.1

abbrev pub statement_by : Statement → Within → Inside → (around inner : List ℕ) → Keeping
statement_by Passed kind inside around inner options tokens = passed_at options tokens
statement_by (Braces other) kind inside around inner options tokens = braces_at other inside inner options tokens
statement_by Ranges kind inside around inner options tokens = ranges_at around options tokens
statement_by Member kind inside around inner options tokens = member_at kind inside inner options tokens
statement_by Method kind inside around inner options tokens = method_at inner options tokens

unfoldable pub statement_at : Within → Inside → (around inner : List ℕ) → Keeping
statement_at kind inside around inner options tokens =
    statement_by (statement_of kind tokens.left) kind inside around inner options tokens

abbrev pub item_at : Within → Inside → (around inner : List ℕ) → Keeping
item_at kind inside around inner = item_by kind around (statement_at kind inside around inner)

unfoldable pub items_at : Within → Inside → (around inner : List ℕ) → Keeping
items_at kind inside around inner options tokens = until_at closes (item_at kind inside around inner) options tokens

unfoldable pub block_at : Within → Inside → (around inner : List ℕ) → Keeping
block_at kind inside around inner options tokens = do
  items ← items_at kind inside around inner options tokens
  close_brace ← token_that (of_kind CloseBrace) items.1
  Ok (items.0, close_brace.1)

unfoldable pub inside_at : (levels : ℕ) → Inside
inside_at zero = None
inside_at (suc levels) = Some (block_at within.Message (inside_at levels))

-- a file, in the scope of its package
unfoldable pub file_items_at : (levels : ℕ) (scope : List ℕ) → Keeping
file_items_at levels scope options tokens =
    until_at is_end (item_at within.File (inside_at levels) scope scope) options tokens

unfoldable pub file_at : (levels : ℕ) (scope : List ℕ) → Read (List FileOption)
file_at levels scope tokens = file_items_at levels scope [] tokens
