-- How messages, groups, oneofs and extends are read, on places.
use Rattle.std.specs.Prelude.{ℕ, zero, suc, false, ◌&&◌, cond, Ok, Err, Option, Some, None, option_map, List, []}
use Rattle.std.specs.Prelude.{codes}
use Rattle.proto_lex.specs.declared.span.Span.{Span}
use Rattle.proto_lex.specs.declared.token.TokenKind.TheVariants.{Semicolon, OpenBrace, CloseBrace}
use Rattle.proto_grammar.specs.declared.dialect.CustomOptions.{CustomOptions}
use Rattle.proto_grammar.specs.declared.dialect.CustomOptions.TheVariants.{Refuse, Skip}
use Rattle.proto_grammar.specs.declared.dialect.Syntax.{Syntax}
use Rattle.proto_grammar.specs.declared.dialect.Syntax.TheVariants.{Proto3, Extended, Proto2}
use Rattle.proto_grammar.specs.declared.tree.Label.{Label}
use Rattle.proto_grammar.specs.declared.tree.Head.TheVariants as head
use Rattle.proto_grammar.specs.declared.tree.Leaf.TheVariants as leaf
use Rattle.proto_grammar.specs.declared.tree.Item.{Item}
use Rattle.proto_grammar.specs.declared.tree.Item.TheVariants.{Block, Leaf}
use Rattle.proto_steps.specs.declared.statement.MessageStatement.{MessageStatement}
use Rattle.proto_steps.specs.declared.statement.MessageStatement.TheVariants as chosen
use Rattle.proto_steps.specs.declared.statement.Within.{Within}
use Rattle.proto_steps.specs.declared.statement.Within.TheVariants as within
use Rattle.proto_grammar.specs.Terminal.{behind, offset_at, first_is, of_kind, is_word, closes, begins_group}
use Rattle.proto_grammar.specs.Syntax.{custom_of, is_proto2}
use Rattle.proto_steps.specs.Choice.{message_statement_of}
use Rattle.proto_grammar.specs.Tree.{BlockTree}
use Rattle.proto_grammar.specs.Items.{body_of}
use Rattle.proto_grammar.specs.Reading.Repetition.{◌>>=◌, Read, misplaced, token_that, span_at, until_at, adding}
use Rattle.proto_grammar.specs.Reading.Repetition.{passing}
use Rattle.proto_grammar.specs.Reading.Names.{named_type_at, pass_type_name_at}
use Rattle.proto_grammar.specs.Reading.Options.{option_at}
use Rattle.proto_grammar.specs.Reading.Fields.{typed_at, label_at, group_head_at, map_field_at, pass_field_at}
use Rattle.proto_grammar.specs.Reading.Reserved.{reserved_at, extensions_at}
use Rattle.proto_parse.proofs.Reading.Enums.{heading_at, enum_at}
use Rattle.proto_grammar.specs.declared.fault.SyntaxFault.TheVariants as fault
use Rattle.proto_grammar.specs.declared.fault.SyntaxFault.TheVariants.{TooDeep}

unfoldable pub braced_at : Read (Option Item) → Read (List Item)
braced_at item tokens = do
  items ← until_at closes (adding item) [] tokens
  close_brace ← token_that (of_kind CloseBrace) items.1
  Ok (items.0, close_brace.1)

-- How what is in a message or a group is read, if a level is left for it.
abbrev pub Inside : Type 0
Inside = Option (Read (List Item))

unfoldable pub group_at : CustomOptions → Inside → Span → Option Label → Read BlockTree
group_at custom None first label tokens = Err (TooDeep first.start)
group_at custom (Some inner) first label tokens = do
  group ← group_head_at custom first label tokens
  items ← inner group.1
  Ok (record { head = head.Group group.0; body = body_of items.0 }, items.1)

unfoldable pub labelled_at : Syntax → Inside → Span → Option Label → Read Item
labelled_at syntax inner first label tokens =
    cond (is_proto2 syntax && begins_group tokens.left)
    (group_at (custom_of syntax) inner first label tokens >>= λ x. Ok (Block x.0, x.1))
    (typed_at (custom_of syntax) first label tokens >>= λ x. Ok (Leaf (leaf.Field x.0), x.1))

unfoldable pub member_at : Syntax → Inside → Read Item
member_at syntax inner tokens = do
  first ← span_at tokens
  label ← label_at syntax first.1
  labelled_at syntax inner first.0 label.0 label.1

unfoldable pub oneof_member_at : Syntax → Inside → Read Item
oneof_member_at syntax inner tokens = span_at tokens >>= λ first. labelled_at syntax inner first.0 None first.1

unfoldable pub oneof_item_at : Syntax → Inside → Read (Option Item)
oneof_item_at syntax inner tokens =
    cond (first_is (of_kind Semicolon) tokens.left) (Ok (None, behind tokens))
    (cond (first_is (is_word (codes "option")) tokens.left)
    (option_at (custom_of syntax) tokens >>= λ x. Ok (None, x.1))
    (oneof_member_at syntax inner tokens >>= λ x. Ok (Some x.0, x.1)))

unfoldable pub extend_item_at : Syntax → Inside → Read (Option Item)
extend_item_at syntax inner tokens =
    cond (first_is (of_kind Semicolon) tokens.left) (Ok (None, behind tokens))
    (member_at syntax inner tokens >>= λ x. Ok (Some x.0, x.1))

unfoldable pub oneof_at : Syntax → Inside → Read BlockTree
oneof_at syntax inner tokens = do
  heading ← heading_at (codes "oneof") tokens
  items ← braced_at (oneof_item_at syntax inner) heading.1
  Ok (record { head = head.Oneof heading.0; body = body_of items.0 }, items.1)

unfoldable pub extend_at : Syntax → Inside → Read BlockTree
extend_at syntax inner tokens = do
  keyword ← token_that (is_word (codes "extend")) tokens
  type ← named_type_at keyword.1
  open_brace ← token_that (of_kind OpenBrace) type.1
  items ← braced_at (extend_item_at syntax inner) open_brace.1
  Ok (record { head = head.Extend type.0; body = body_of items.0 }, items.1)

unfoldable pub passed_item_at : Read (Unit {0})
passed_item_at tokens = cond (first_is (of_kind Semicolon) tokens.left) (Ok (tt, behind tokens))
    (pass_field_at Skip tokens)

unfoldable pub passed_items_at : Read (Unit {0})
passed_items_at tokens = until_at closes (passing passed_item_at) tt tokens

unfoldable pub passed_extend_at : CustomOptions → Read (Unit {0})
passed_extend_at Refuse tokens = Err (fault.Extend (offset_at tokens))
passed_extend_at Skip tokens = do
  keyword ← token_that (is_word (codes "extend")) tokens
  name ← pass_type_name_at keyword.1
  open_brace ← token_that (of_kind OpenBrace) name.1
  items ← passed_items_at open_brace.1
  close_brace ← token_that (of_kind CloseBrace) items.1
  Ok (tt, close_brace.1)

unfoldable pub extend_statement_at : Syntax → Inside → Read (Option BlockTree)
extend_statement_at (Proto3 custom) inner tokens = passed_extend_at custom tokens >>= λ x. Ok (None, x.1)
extend_statement_at Extended inner tokens = extend_at Extended inner tokens >>= λ x. Ok (Some x.0, x.1)
extend_statement_at Proto2 inner tokens = extend_at Proto2 inner tokens >>= λ x. Ok (Some x.0, x.1)

unfoldable pub message_at : Inside → Read BlockTree
message_at None tokens = Err (TooDeep (offset_at tokens))
message_at (Some inner) tokens = do
  heading ← heading_at (codes "message") tokens
  items ← inner heading.1
  Ok (record { head = head.Message heading.0; body = body_of items.0 }, items.1)

-- Only proto2 has extension ranges.
unfoldable pub ranges_at : Syntax → Read (Option Item)
ranges_at syntax tokens =
    cond (is_proto2 syntax) (extensions_at (custom_of syntax) tokens >>= λ x. Ok (None, x.1)) (misplaced tokens)

abbrev pub message_item_by : MessageStatement → Syntax → Inside → Read (Option Item)
message_item_by chosen.Empty syntax inner tokens = token_that (of_kind Semicolon) tokens >>= λ x. Ok (None, x.1)
message_item_by chosen.Message syntax inner tokens = message_at inner tokens >>= λ x. Ok (Some (Block x.0), x.1)
message_item_by chosen.Enum syntax inner tokens =
    enum_at (custom_of syntax) tokens >>= λ x. Ok (Some (Leaf (leaf.Enum x.0)), x.1)
message_item_by chosen.Option syntax inner tokens = option_at (custom_of syntax) tokens >>= λ x. Ok (None, x.1)
message_item_by chosen.Oneof syntax inner tokens = oneof_at syntax inner tokens >>= λ x. Ok (Some (Block x.0), x.1)
message_item_by chosen.Map syntax inner tokens =
    map_field_at (custom_of syntax) tokens >>= λ x. Ok (Some (Leaf (leaf.MapField x.0)), x.1)
message_item_by chosen.Reserved syntax inner tokens = reserved_at false tokens >>= λ x. Ok (None, x.1)
message_item_by chosen.Extend syntax inner tokens =
    extend_statement_at syntax inner tokens >>= λ x. Ok (option_map Block x.0, x.1)
message_item_by chosen.Extensions syntax inner tokens = ranges_at syntax tokens
message_item_by chosen.Member syntax inner tokens = member_at syntax inner tokens >>= λ x. Ok (Some x.0, x.1)

unfoldable pub message_item_at : Syntax → Inside → Read (Option Item)
message_item_at syntax inner tokens = message_item_by (message_statement_of syntax tokens.left) syntax inner tokens

abbrev pub item_at : Within → Syntax → Inside → Read (Option Item)
item_at within.Message syntax inner = message_item_at syntax inner
item_at within.Oneof syntax inner = oneof_item_at syntax inner
item_at within.Extend syntax inner = extend_item_at syntax inner

unfoldable pub inside_at : Syntax → (levels : ℕ) → Inside
inside_at syntax zero = None
inside_at syntax (suc levels) = Some (braced_at (message_item_at syntax (inside_at syntax levels)))
