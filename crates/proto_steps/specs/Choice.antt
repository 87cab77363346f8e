-- What the next token of a statement chooses.
use Rattle.std.specs.Prelude.{ℕ, Bool, false, ◌&&◌, ◌||◌, cond, Option, Some, None, option_map, option_to_list}
use Rattle.std.specs.Prelude.{List, [], ◌∷◌, ◌++◌, codes}
use Rattle.proto_lex.specs.declared.token.TokenKind.TheVariants.{Semicolon, Less}
use Rattle.proto_grammar.specs.declared.dialect.Syntax.{Syntax}
use Rattle.proto_grammar.specs.declared.dialect.CustomOptions.{CustomOptions}
use Rattle.proto_grammar.specs.declared.tree.MapField.{MapField}
use Rattle.proto_grammar.specs.declared.tree.Item.{Item}
use Rattle.proto_grammar.specs.declared.tree.Item.TheVariants.{Block, Leaf}
use Rattle.proto_grammar.specs.declared.tree.Leaf.TheVariants as leaf
use Rattle.proto_grammar.specs.declared.tree.File.{File}
use Rattle.proto_grammar.specs.declared.tree.FileItem.TheVariants as statement
use Rattle.proto_grammar.specs.declared.fault.SyntaxFault.TheVariants.{Grammar}
use Rattle.proto_grammar.specs.Lexeme.{Lexeme}
use Rattle.proto_grammar.specs.Terminal.{first_is, others, of_kind, is_word}
use Rattle.proto_grammar.specs.Syntax.{custom_of, is_proto2}
use Rattle.proto_steps.specs.declared.statement.FileStatement.{FileStatement}
use Rattle.proto_steps.specs.declared.statement.FileStatement.TheVariants as file
use Rattle.proto_steps.specs.declared.statement.MessageStatement.{MessageStatement}
use Rattle.proto_steps.specs.declared.statement.MessageStatement.TheVariants as message
use Rattle.proto_steps.specs.declared.statement.Within.{Within}
use Rattle.proto_steps.specs.declared.statement.Within.TheVariants as within
use Rattle.proto_steps.specs.Step.{Step, Done, Never, ◌>>=◌}
use Rattle.proto_steps.specs.Terminals.{sign, word}
use Rattle.proto_steps.specs.Grammar.Parts.{option_statement, map_field, reserved}
use Rattle.proto_steps.specs.Grammar.Definitions.{empty, enumeration, Inside, member, oneof, extend_statement, ranges}
use Rattle.proto_steps.specs.Grammar.Definitions.{message as message_step, message_item, oneof_item, extend_item}
use Rattle.proto_steps.specs.Grammar.Definitions.{inside, service, import, only_package, with_items}

-- In a file. Nothing else can be there.
abbrev pub file_statement_of : List Lexeme → FileStatement
file_statement_of a =
    cond (first_is (of_kind Semicolon) a) file.Empty
    (cond (first_is (is_word (codes "import")) a) file.Import
    (cond (first_is (is_word (codes "package")) a) file.Package
    (cond (first_is (is_word (codes "option")) a) file.Option
    (cond (first_is (is_word (codes "message")) a) file.Message
    (cond (first_is (is_word (codes "enum")) a) file.Enum
    (cond (first_is (is_word (codes "service")) a) file.Service
    (cond (first_is (is_word (codes "extend")) a) file.Extend
    file.Other)))))))

-- Whether a map field is next: the word `map`. In proto3 a `<` has to follow, since a field may begin with the name of
-- its type there.
abbrev pub begins_map : Syntax → List Lexeme → Bool
begins_map syntax a =
    first_is (is_word (codes "map")) a && (is_proto2 syntax || first_is (of_kind Less) (others a))

-- In a message. Anything else is a field or a group.
abbrev pub message_statement_of : Syntax → List Lexeme → MessageStatement
message_statement_of syntax a =
    cond (first_is (of_kind Semicolon) a) message.Empty
    (cond (first_is (is_word (codes "message")) a) message.Message
    (cond (first_is (is_word (codes "enum")) a) message.Enum
    (cond (first_is (is_word (codes "option")) a) message.Option
    (cond (first_is (is_word (codes "oneof")) a) message.Oneof
    (cond (begins_map syntax a) message.Map
    (cond (first_is (is_word (codes "reserved")) a) message.Reserved
    (cond (first_is (is_word (codes "extend")) a) message.Extend
    (cond (first_is (is_word (codes "extensions")) a) message.Extensions
    message.Member))))))))

-- ---- what is chosen

-- mapField, from the word `map` on
unfoldable pub map_statement : CustomOptions → Step MapField
map_statement custom = do
  first ← word (codes "map")
  map_field custom first

abbrev pub chosen_item : MessageStatement → Syntax → Inside → Step (Option Item)
chosen_item message.Empty syntax inside = empty
chosen_item message.Message syntax inside = message_step inside >>= λ x. Done (Some (Block x))
chosen_item message.Enum syntax inside = enumeration (custom_of syntax) >>= λ x. Done (Some (Leaf (leaf.Enum x)))
chosen_item message.Option syntax inside = option_statement (custom_of syntax) >>= λ x. Done None
chosen_item message.Oneof syntax inside = oneof syntax inside >>= λ x. Done (Some (Block x))
chosen_item message.Map syntax inside =
    map_statement (custom_of syntax) >>= λ x. Done (Some (Leaf (leaf.MapField x)))
chosen_item message.Reserved syntax inside = reserved false >>= λ x. Done None
chosen_item message.Extend syntax inside = extend_statement syntax inside >>= λ x. Done (option_map Block x)
chosen_item message.Extensions syntax inside = ranges syntax
chosen_item message.Member syntax inside = member syntax inside >>= λ x. Done (Some x)

-- what may be between these braces
abbrev pub item_of : Within → Syntax → Inside → Step (Option Item)
item_of within.Message syntax inside = message_item syntax inside
item_of within.Oneof syntax inside = oneof_item syntax inside
item_of within.Extend syntax inside = extend_item syntax inside

abbrev pub chosen_statement : (levels : ℕ) → FileStatement → Syntax → File → Step File
chosen_statement levels file.Empty syntax so_far = sign Semicolon >>= λ x. Done so_far
chosen_statement levels file.Import syntax so_far =
    import >>= λ x. Done (record so_far { imports = so_far.imports ++ x ∷ [] })
chosen_statement levels file.Package syntax so_far = only_package so_far
chosen_statement levels file.Option syntax so_far = option_statement (custom_of syntax) >>= λ x. Done so_far
chosen_statement levels file.Message syntax so_far =
    message_step (inside syntax levels) >>= λ x. with_items so_far (statement.Block x ∷ [])
chosen_statement levels file.Enum syntax so_far =
    enumeration (custom_of syntax) >>= λ x. with_items so_far (statement.Enum x ∷ [])
chosen_statement levels file.Service syntax so_far =
    service (custom_of syntax) >>= λ x. with_items so_far (statement.Service x ∷ [])
chosen_statement levels file.Extend syntax so_far =
    extend_statement syntax (inside syntax levels) >>= λ x. with_items so_far
    (option_to_list (option_map statement.Block x))
chosen_statement levels file.Other syntax so_far = Never Grammar
