-- The grammar of a file, in the order of the specifications: "Top Level definitions", "Proto file".
use Rattle.std.specs.Prelude.{ℕ, zero, suc, true, false, ◌&&◌, Option, Some, None, is_some, option_map, option_to_list}
use Rattle.std.specs.Prelude.{List, [], ◌∷◌, ◌++◌, bytes_eq, codes}
use Rattle.proto_lex.specs.declared.span.Span.{Span}
use Rattle.proto_lex.specs.declared.token.TokenKind.TheVariants.{StringLiteral, Semicolon, Equals, Less}
use Rattle.proto_lex.specs.declared.token.TokenKind.TheVariants.{OpenBrace, CloseBrace}
use Rattle.proto_lex.specs.declared.token.TokenKind.TheVariants.{OpenParenthesis, CloseParenthesis}
use Rattle.proto_grammar.specs.declared.dialect.CustomOptions.{CustomOptions}
use Rattle.proto_grammar.specs.declared.dialect.CustomOptions.TheVariants.{Refuse, Skip}
use Rattle.proto_grammar.specs.declared.dialect.Dialect.{Dialect}
use Rattle.proto_grammar.specs.declared.dialect.Syntax.{Syntax}
use Rattle.proto_grammar.specs.declared.dialect.Syntax.TheVariants.{Proto3, Extended, Proto2}
use Rattle.proto_grammar.specs.declared.fault.SyntaxFault.TheVariants.{NotProto3, TwoPackages, ImportEscape, TooDeep}
use Rattle.proto_grammar.specs.declared.fault.SyntaxFault.TheVariants.{Grammar}
use Rattle.proto_grammar.specs.declared.fault.SyntaxFault.TheVariants as fault
use Rattle.proto_grammar.specs.declared.tree.TypeName.{TypeName}
use Rattle.proto_grammar.specs.declared.tree.Heading.{Heading}
use Rattle.proto_grammar.specs.declared.tree.Label.{Label}
use Rattle.proto_grammar.specs.declared.tree.Enum.{Enum}
use Rattle.proto_grammar.specs.declared.tree.Method.{Method}
use Rattle.proto_grammar.specs.declared.tree.Service.{Service}
use Rattle.proto_grammar.specs.declared.tree.Import.{Import}
use Rattle.proto_grammar.specs.declared.tree.ImportKind.{ImportKind}
use Rattle.proto_grammar.specs.declared.tree.ImportKind.TheVariants.{Plain, Weak, Public}
use Rattle.proto_grammar.specs.declared.tree.File.{File}
use Rattle.proto_grammar.specs.declared.tree.FileItem.{FileItem}
use Rattle.proto_grammar.specs.declared.tree.FileItem.TheVariants as statement
use Rattle.proto_grammar.specs.declared.tree.FieldType.TheVariants.{Named}
use Rattle.proto_grammar.specs.declared.tree.Field.{Field}
use Rattle.proto_grammar.specs.declared.tree.Leaf.{Leaf as LeafTree}
use Rattle.proto_grammar.specs.declared.tree.Head.TheVariants as head
use Rattle.proto_grammar.specs.declared.tree.Leaf.TheVariants as leaf
use Rattle.proto_grammar.specs.declared.tree.Item.{Item}
use Rattle.proto_grammar.specs.declared.tree.Item.TheVariants.{Block, Leaf}
use Rattle.proto_grammar.specs.Terminal.{of_kind, is_word, is_group_word, between_quotes}
use Rattle.proto_grammar.specs.Syntax.{custom_of, proto3_in, is_all, is_proto2}
use Rattle.proto_grammar.specs.Tree.{BlockTree}
use Rattle.proto_grammar.specs.Items.{body_of}
use Rattle.proto_steps.specs.Step.{Step, Done, Never, Peek, If, While, ◌>>=◌, adding, passing, passed, when}
use Rattle.proto_steps.specs.Terminals.{like, an_ident, a_label, a_literal, sign, word, ident, literal, plain_literal}
use Rattle.proto_steps.specs.Terminals.{is_inside}
use Rattle.proto_steps.specs.Terminals.{is_token, is_escaped}
use Rattle.proto_steps.specs.Grammar.Parts.{name, dot_names, type_name, named_type, option_statement, options, numbered}
use Rattle.proto_steps.specs.Grammar.Parts.{typed, label}
use Rattle.proto_steps.specs.Grammar.Parts.{field, group_head, map_field, integer, reserved, extensions}

-- a lone `;`
abbrev pub empty : {A : Type 0} → Step (Option A)
empty = sign Semicolon >>= λ semicolon. Done None

-- the declaring word, IDENT, "{"
unfoldable pub heading : List ℕ → Step Heading
heading spelling = do
  first ← word spelling
  named ← ident
  closing ← sign OpenBrace
  Done (record { first = first; name = named; closing = closing })

-- ---- "Enum definition"

-- value = IDENT "=" [ "-" ] INT [ fieldOptions ] ";"
unfoldable pub value : CustomOptions → Step Heading
value custom = do
  named ← ident
  equals ← sign Equals
  given ← integer true
  settings ← options custom
  closing ← sign Semicolon
  Done (record { first = named; name = named; closing = closing })

-- option | enumReserved | value | ";"
unfoldable pub enum_item : CustomOptions → Step (Option Heading)
enum_item custom =
    If (of_kind Semicolon) empty
    (If (is_word (codes "option")) (option_statement custom >>= λ x. Done None)
    (If (is_word (codes "reserved")) (reserved true >>= λ x. Done None)
    (value custom >>= λ x. Done (Some x))))

unfoldable pub enum_items : CustomOptions → Step (List Heading)
enum_items custom = While is_inside (adding (enum_item custom)) []

-- enum = "enum" IDENT "{" { option | enumReserved | value | ";" } "}"
unfoldable pub enumeration : CustomOptions → Step Enum
enumeration custom = do
  declared ← heading (codes "enum")
  values ← enum_items custom
  close_brace ← sign CloseBrace
  Done (record { heading = declared; values = values })

-- ---- "Message definition", "Group field", "Oneof and oneof field", "Extend"

-- what is behind the "{" of a message or a group, its "}" included, if one more of them may be inside the others
pub data Inside : Type 1 where
  NoLevel : Inside
  Level : Step (List Item) → Inside

-- { item } "}"
unfoldable pub braced : Step (Option Item) → Step (List Item)
braced item = do
  items ← While is_inside (adding item) []
  close_brace ← sign CloseBrace
  Done items

-- group = [ label ] "group" IDENT "=" INT [ fieldOptions ] "{" { .. } "}", from behind its label on. It is told at its
-- first token if it is too deep.
unfoldable pub group : CustomOptions → Inside → Span → Option Label → Step BlockTree
group custom NoLevel first kind = Never (λ at. TooDeep first.start)
group custom (Level inner) first kind = do
  before ← group_head custom first kind
  items ← inner
  Done (record { head = head.Group before; body = body_of items })

-- field | group, from behind its label on. In proto2 the word `group` that no `.` follows begins a group.
unfoldable pub labelled : Syntax → Inside → Span → Option Label → Step Item
labelled syntax inside first kind =
    If (λ t. is_proto2 syntax && is_group_word t)
    (group (custom_of syntax) inside first kind >>= λ x. Done (Block x))
    (typed (custom_of syntax) first kind >>= λ x. Done (Leaf (leaf.Field x)))

-- field | group, in a message or an extend
unfoldable pub member : Syntax → Inside → Step Item
member syntax inside =
    Peek a_label (λ first. label syntax >>= λ kind. labelled syntax inside first.span kind)

-- field | group, in a oneof: it has no label
unfoldable pub oneof_member : Syntax → Inside → Step Item
oneof_member syntax inside = Peek an_ident (λ first. labelled syntax inside first.span None)

-- option | oneofField | group | ";"
unfoldable pub oneof_item : Syntax → Inside → Step (Option Item)
oneof_item syntax inside =
    If (of_kind Semicolon) empty
    (If (is_word (codes "option")) (option_statement (custom_of syntax) >>= λ x. Done None)
    (oneof_member syntax inside >>= λ x. Done (Some x)))

-- oneof = "oneof" IDENT "{" { option | oneofField | group | ";" } "}"
unfoldable pub oneof : Syntax → Inside → Step BlockTree
oneof syntax inside = do
  declared ← heading (codes "oneof")
  items ← braced (oneof_item syntax inside)
  Done (record { head = head.Oneof declared; body = body_of items })

-- field | group | ";", in an extend
unfoldable pub extend_item : Syntax → Inside → Step (Option Item)
extend_item syntax inside =
    If (of_kind Semicolon) empty (member syntax inside >>= λ x. Done (Some x))

-- extend = "extend" typename "{" { field | group | ";" } "}"
unfoldable pub extend : Syntax → Inside → Step BlockTree
extend syntax inside = do
  keyword ← word (codes "extend")
  extended ← named_type
  open_brace ← sign OpenBrace
  items ← braced (extend_item syntax inside)
  Done (record { head = head.Extend extended; body = body_of items })

-- field | ";", in an extend that is read past
unfoldable pub passed_item : Step (Unit {0})
passed_item = If (of_kind Semicolon) (passed (sign Semicolon)) (passed (field Skip))

unfoldable pub passed_items : Step (Unit {0})
passed_items = While is_inside (passing passed_item) tt

-- "extend" typename "{" { field | ";" } "}", if custom options are read past (the project's own). Nothing is kept.
unfoldable pub passed_extend : CustomOptions → Step (Unit {0})
passed_extend Refuse = Never fault.Extend
passed_extend Skip = do
  keyword ← word (codes "extend")
  extended ← passed type_name
  open_brace ← sign OpenBrace
  items ← passed_items
  close_brace ← sign CloseBrace
  Done tt

-- Extends declare fields, unless only proto3 is accepted: then they are refused or read past, as custom options are.
unfoldable pub extend_statement : Syntax → Inside → Step (Option BlockTree)
extend_statement (Proto3 custom) inside = passed_extend custom >>= λ x. Done None
extend_statement Extended inside = extend Extended inside >>= λ x. Done (Some x)
extend_statement Proto2 inside = extend Proto2 inside >>= λ x. Done (Some x)

-- message = "message" IDENT "{" { .. } "}"
unfoldable pub message : Inside → Step BlockTree
message NoLevel = Never TooDeep
message (Level inner) = do
  declared ← heading (codes "message")
  items ← inner
  Done (record { head = head.Message declared; body = body_of items })

-- only in proto2
unfoldable pub ranges : Syntax → Step (Option Item)
ranges syntax = when (is_proto2 syntax) (extensions (custom_of syntax) >>= λ x. Done None) (Never Grammar)

-- A field of proto3 whose type's name begins with the word `map`, from behind this word on.
unfoldable pub field_of_map : CustomOptions → Span → Step Field
field_of_map custom first = do
  components ← dot_names (first ∷ [])
  heading ← numbered custom first
  Done (record {
    heading = heading;
    label = None;
    field_type = Named (record { leading_dot = None; components = components });
  })

unfoldable pub declared_map : Syntax → Span → Step LeafTree
declared_map syntax first = map_field (custom_of syntax) first >>= λ x. Done (leaf.MapField x)

-- mapField. In proto3 the word `map` begins a map field if a `<` follows, and else the name of a field's type.
unfoldable pub map_item : Syntax → Step LeafTree
map_item syntax = do
  first ← word (codes "map")
  when (is_proto2 syntax) (declared_map syntax first)
      (If (of_kind Less) (declared_map syntax first)
      (field_of_map (custom_of syntax) first >>= λ x. Done (leaf.Field x)))

-- message | enum | option | oneof | mapField | reserved | extend | extensions | field | group | ";"
unfoldable pub message_item : Syntax → Inside → Step (Option Item)
message_item syntax inside =
    If (of_kind Semicolon) empty
    (If (is_word (codes "message")) (message inside >>= λ x. Done (Some (Block x)))
    (If (is_word (codes "enum")) (enumeration (custom_of syntax) >>= λ x. Done (Some (Leaf (leaf.Enum x))))
    (If (is_word (codes "option")) (option_statement (custom_of syntax) >>= λ x. Done None)
    (If (is_word (codes "oneof")) (oneof syntax inside >>= λ x. Done (Some (Block x)))
    (If (is_word (codes "map")) (map_item syntax >>= λ x. Done (Some (Leaf x)))
    (If (is_word (codes "reserved")) (reserved false >>= λ x. Done None)
    (If (is_word (codes "extend")) (extend_statement syntax inside >>= λ x. Done (option_map Block x))
    (If (is_word (codes "extensions")) (ranges syntax)
    (member syntax inside >>= λ x. Done (Some x))))))))))

-- Each message and each group takes up one of this many levels; oneofs and extends take up none.
unfoldable pub inside : Syntax → (levels : ℕ) → Inside
inside syntax zero = NoLevel
inside syntax (suc levels) = Level (braced (message_item syntax (inside syntax levels)))

-- ---- "Service definition"

-- [ "stream" ]
unfoldable pub stream : Step (Unit {0})
stream = If (is_word (codes "stream")) (passed (word (codes "stream"))) (Done tt)

-- "(" [ "stream" ] typename ")"
unfoldable pub method_type : Step TypeName
method_type = do
  open_parenthesis ← sign OpenParenthesis
  marker ← stream
  type ← named_type
  close_parenthesis ← sign CloseParenthesis
  Done type

-- option | ";"
unfoldable pub method_item : CustomOptions → Step (Unit {0})
method_item custom = If (of_kind Semicolon) (passed (sign Semicolon)) (option_statement custom)

unfoldable pub method_items : CustomOptions → Step (Unit {0})
method_items custom = While is_inside (passing (method_item custom)) tt

unfoldable pub method_body : CustomOptions → Step Span
method_body custom = do
  open_brace ← sign OpenBrace
  items ← method_items custom
  close_brace ← sign CloseBrace
  Done open_brace

-- ";" | "{" { option | ";" } "}", with its first token
unfoldable pub method_end : CustomOptions → Step Span
method_end custom = If (of_kind Semicolon) (sign Semicolon) (method_body custom)

-- rpc = "rpc" IDENT "(" [ "stream" ] typename ")" "returns" "(" [ "stream" ] typename ")" ( ";" | "{" { option | ";" }
-- "}" )
unfoldable pub method : CustomOptions → Step Method
method custom = do
  first ← word (codes "rpc")
  named ← ident
  input ← method_type
  returns ← word (codes "returns")
  output ← method_type
  closing ← method_end custom
  Done (record {
    heading = record { first = first; name = named; closing = closing };
    input = input;
    output = output;
  })

-- option | rpc | ";"
unfoldable pub service_item : CustomOptions → Step (Option Method)
service_item custom =
    If (of_kind Semicolon) empty
    (If (is_word (codes "option")) (option_statement custom >>= λ x. Done None)
    (method custom >>= λ x. Done (Some x)))

unfoldable pub service_items : CustomOptions → Step (List Method)
service_items custom = While is_inside (adding (service_item custom)) []

-- service = "service" IDENT "{" { option | rpc | ";" } "}"
unfoldable pub service : CustomOptions → Step Service
service custom = do
  declared ← heading (codes "service")
  methods ← service_items custom
  close_brace ← sign CloseBrace
  Done (record { heading = declared; methods = methods })

-- ---- "Syntax", "Import Statement", "Package", "Proto file"

-- what is between the quotes of a literal
unfoldable pub content : Step (List ℕ)
content = Peek a_literal (λ text. literal >>= λ quoted. Done (between_quotes text.spelling))

unfoldable pub more_contents : List ℕ → Step (List ℕ)
more_contents text = While (of_kind StringLiteral) (λ so_far. content >>= λ more. Done (so_far ++ more)) text

-- Which grammar a file has whose first statement names this version. Another version is told at the first literal.
unfoldable pub accepted : Dialect → Span → List ℕ → Step Syntax
accepted dialect first text =
    when (bytes_eq text (codes "proto3")) (Done (proto3_in dialect))
    (when (bytes_eq text (codes "proto2") && is_all dialect) (Done Proto2) (Never (λ at. NotProto3 first.start)))

unfoldable pub spelled : Dialect → Span → Step Syntax
spelled dialect first = do
  begin ← content
  text ← more_contents begin
  accepted dialect first text

unfoldable pub version : Dialect → Step Syntax
version dialect = Peek (like StringLiteral (codes "'proto3'")) (λ first. spelled dialect first.span)

-- syntax = "syntax" "=" strings ";", where the strings spell `proto3` when joined; or `proto2`, if all are accepted
unfoldable pub syntax_statement : Dialect → Step Syntax
syntax_statement dialect = do
  keyword ← word (codes "syntax")
  equals ← sign Equals
  syntax ← version dialect
  semicolon ← sign Semicolon
  Done syntax

-- [ syntax ]: a file without one is proto2, if all are accepted and the word `edition` isn't first
unfoldable pub syntax : Dialect → Step Syntax
syntax dialect =
    If (is_word (codes "syntax")) (syntax_statement dialect)
    (If (is_word (codes "edition")) (Never NotProto3) (when (is_all dialect) (Done Proto2) (Never NotProto3)))

-- [ "weak" | "public" ]
unfoldable pub import_kind : Step ImportKind
import_kind =
    If (is_word (codes "weak")) (word (codes "weak") >>= λ keyword. Done Weak)
    (If (is_word (codes "public")) (word (codes "public") >>= λ keyword. Done Public) (Done Plain))

-- a literal of a path: it has no `\` (the profile's)
unfoldable pub path_literal : Step Span
path_literal = If is_escaped (Never ImportEscape) plain_literal

abbrev pub kept_literal : Step (Option Span)
kept_literal = path_literal >>= λ x. Done (Some x)

unfoldable pub path_literals : List Span → Step (List Span)
path_literals first = While (of_kind StringLiteral) (adding kept_literal) first

-- import = "import" [ "weak" | "public" ] strings ";"
unfoldable pub import : Step Import
import = do
  keyword ← word (codes "import")
  kind ← import_kind
  first ← path_literal
  literals ← path_literals (first ∷ [])
  semicolon ← sign Semicolon
  Done (record { kind = kind; literals = literals })

-- package = "package" name ";"
unfoldable pub package_statement : Step (List Span)
package_statement = do
  keyword ← word (codes "package")
  components ← name
  semicolon ← sign Semicolon
  Done components

-- At most one.
unfoldable pub only_package : File → Step File
only_package file =
    when (is_some file.package_name) (Never TwoPackages)
    (package_statement >>= λ x. Done (record file { package_name = Some x }))

-- the file with one more item, or with none
abbrev pub with_items : File → List FileItem → Step File
with_items file more = Done (record file { items = file.items ++ more })

-- import | package | option | message | enum | service | extend | ";", from the file so far to the file with it
unfoldable pub file_statement : (levels : ℕ) → Syntax → File → Step File
file_statement levels syntax file =
    If (of_kind Semicolon) (sign Semicolon >>= λ x. Done file)
    (If (is_word (codes "import")) (import >>= λ x. Done (record file { imports = file.imports ++ x ∷ [] }))
    (If (is_word (codes "package")) (only_package file)
    (If (is_word (codes "option")) (option_statement (custom_of syntax) >>= λ x. Done file)
    (If (is_word (codes "message")) (message (inside syntax levels) >>= λ x. with_items file (statement.Block x ∷ []))
    (If (is_word (codes "enum")) (enumeration (custom_of syntax) >>= λ x. with_items file (statement.Enum x ∷ []))
    (If (is_word (codes "service")) (service (custom_of syntax) >>= λ x. with_items file (statement.Service x ∷ []))
    (If (is_word (codes "extend")) (extend_statement syntax (inside syntax levels) >>= λ x. with_items file
    (option_to_list (option_map statement.Block x)))
    (Never Grammar))))))))

abbrev pub empty_file : File
empty_file = record { package_name = None; imports = []; items = [] }

unfoldable pub file_statements : (levels : ℕ) → Syntax → Step File
file_statements levels syntax = While is_token (file_statement levels syntax) empty_file

-- file = [ syntax ] { import | package | option | message | enum | service | extend | ";" }, up to the last token. At
-- most `levels` messages and groups are inside one another.
unfoldable pub file : (levels : ℕ) → Dialect → Step File
file levels dialect = do
  grammar ← syntax dialect
  file_statements levels grammar
