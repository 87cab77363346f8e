-- Messages in an option's value (Text Format Language Specification, "Message and Field", "Values"). A relation is from
-- the names of the option so far, and the tokens, to the names with those that stand here, and the tokens left.
-- `around` is the number of the name that the braces, or the value, belong to.
--
-- What the text format has nothing of is read past, up to where a field's name can be again: the other names stay.
-- Numbers, strings and separators name nothing, and are read past as well.
use Rattle.std.specs.Prelude.{◌≡◌, ◌||◌, ◌&&◌, cond, ℕ, zero, suc, true, false, Bool, Option, Some, List, [], ◌∷◌}
use Rattle.std.specs.Prelude.{◌++◌, length, codes}
use Rattle.proto_lex.specs.declared.span.Span.{Span}
use Rattle.proto_lex.specs.declared.token.TokenKind.{TokenKind}
use Rattle.proto_lex.specs.declared.token.TokenKind.TheVariants.{Identifier, Colon, Slash}
use Rattle.proto_lex.specs.declared.token.TokenKind.TheVariants.{OpenBrace, CloseBrace, OpenBracket, CloseBracket}
use Rattle.proto_lex.specs.declared.token.TokenKind.TheVariants.{Less, Greater}
use Rattle.proto_grammar.specs.Lexeme.{Lexeme}
use Rattle.proto_grammar.specs.Terminal.{first_is, others, of_kind, is_word}
use Rattle.proto_grammar.specs.Grammar.Repetition.{One, Until}
use Rattle.proto_grammar.specs.Grammar.Names.{IsName}
use Rattle.proto_options.specs.declared.names.OptionRole.{OptionRole}
use Rattle.proto_options.specs.declared.names.OptionRole.TheVariants.{Field, Extension, Message as Packed, Elsewhere}
use Rattle.proto_options.specs.declared.names.OptionRole.TheVariants.{Value}
use Rattle.proto_options.specs.declared.names.FieldName.{FieldName}
use Rattle.proto_options.specs.Names.{Names, named, plain, one_word}
use Rattle.proto_options.specs.Grammar.Passed.{is_message_next, is_whole_word, past_one, past_odd}

abbrev pub field_name : OptionRole → List Span → FieldName
field_name role components = record { role = role; components = components }

-- "type" "." ( "googleapis" | "googleprod" ) "." "com" "/": the domains by which protoc finds what is packed
abbrev pub ends_domain : List Lexeme → Bool
ends_domain a = first_is (is_word (codes "com")) a && first_is (of_kind Slash) (others a)

abbrev pub is_own_domain : List Lexeme → Bool
is_own_domain a =
    (first_is (is_word (codes "googleapis")) a || first_is (is_word (codes "googleprod")) a)
    && ends_domain (others (others a))

abbrev pub is_known_domain : List Lexeme → Bool
is_known_domain a = first_is (is_word (codes "type")) a && is_own_domain (others (others a))

abbrev pub packed_role : List Lexeme → OptionRole
packed_role domain = cond (is_known_domain domain) Packed Elsewhere

-- FieldName = IDENT | "[" TypeName "]" | "[" Domain "/" TypeName "]"
pub data IsFieldName : List Lexeme → FieldName → List Lexeme → Type 0 where
  field : {a b : List Lexeme} {word : Span} → One (of_kind Identifier) a word b
      → IsFieldName a (field_name Field (word ∷ [])) b
  extension : {a b c d : List Lexeme} {open_bracket close_bracket : Span} {components : List Span}
      → One (of_kind OpenBracket) a open_bracket b → IsName b components c
      → One (of_kind CloseBracket) c close_bracket d
      → IsFieldName a (field_name Extension components) d
  packed : {a b c d e f : List Lexeme} {open_bracket slash close_bracket : Span} {domain components : List Span}
      → One (of_kind OpenBracket) a open_bracket b → IsName b domain c → One (of_kind Slash) c slash d
      → IsName d components e → One (of_kind CloseBracket) e close_bracket f
      → IsFieldName a (field_name (packed_role b) components) f

-- what a value begins with, behind a field's name
abbrev pub begins_value : List Lexeme → Bool
begins_value a = first_is (of_kind Colon) a || (first_is (of_kind OpenBracket) a || is_message_next a)

-- A field begins with its name, and something of a value is behind that.
pub record Begins (a : List Lexeme) (name : FieldName) (b : List Lexeme) : Type 0 where
  pub is : IsFieldName a name b
  pub valued : begins_value b ≡ true

-- a message as a value, by what it is the value of
abbrev pub Message : Type 1
Message = (around : Option ℕ) → Names → List Lexeme → Names → List Lexeme → Type 0

-- A word as a value: it may name a value of an enum.
pub data IsWord (around : Option ℕ) : Names → List Lexeme → Names → List Lexeme → Type 0 where
  word : {names : Names} {a b : List Lexeme} {word : Span} → is_whole_word a ≡ true → One (of_kind Identifier) a word b
      → IsWord around names a (names ++ named Value around (one_word word) ∷ []) b

-- An odd thing names nothing.
pub data IsOdd : Names → List Lexeme → Names → List Lexeme → Type 0 where
  odd : {names : Names} {t : Lexeme} {rest : List Lexeme} → IsOdd names (t ∷ rest) names (past_odd (t ∷ rest))

-- [ sign ]
pub data IsOptional (sign : TokenKind) : List Lexeme → List Lexeme → Type 0 where
  there : {a b : List Lexeme} {span : Span} → One (of_kind sign) a span b → IsOptional sign a b
  missing : {a : List Lexeme} → first_is (of_kind sign) a ≡ false → IsOptional sign a a

-- an element of a list, or what is between two
pub data IsElement (IsMessage : Message) (around : Option ℕ) : Names → List Lexeme → Names → List Lexeme
    → Type 0 where
  message : {names after : Names} {a b : List Lexeme} → is_message_next a ≡ true → IsMessage around names a after b
      → IsElement IsMessage around names a after b
  word : {names after : Names} {a b : List Lexeme} → IsWord around names a after b
      → IsElement IsMessage around names a after b
  other : {names after : Names} {a b : List Lexeme}
      → is_message_next a ≡ false → is_whole_word a ≡ false → IsOdd names a after b
      → IsElement IsMessage around names a after b

-- A list is over at its `]`, and where what is around it is over.
abbrev pub list_is_over : List Lexeme → Bool
list_is_over a =
    first_is (of_kind CloseBracket) a || (first_is (of_kind CloseBrace) a || first_is (of_kind Greater) a)

-- "[" { element } [ "]" ]
pub data IsListOf (IsMessage : Message) (around : Option ℕ) : Names → List Lexeme → Names → List Lexeme → Type 0 where
  list : {names after : Names} {a b c d : List Lexeme} {open_bracket : Span}
      → One (of_kind OpenBracket) a open_bracket b → Until list_is_over (IsElement IsMessage around) names b after c
      → IsOptional CloseBracket c d → IsListOf IsMessage around names a after d

-- What is given to a field. An odd value isn't taken here: it is read past as odd things are.
pub data IsValue (IsMessage : Message) (around : Option ℕ) : Names → List Lexeme → Names → List Lexeme → Type 0 where
  message : {names after : Names} {a b : List Lexeme} → is_message_next a ≡ true → IsMessage around names a after b
      → IsValue IsMessage around names a after b
  list : {names after : Names} {a b : List Lexeme} → IsListOf IsMessage around names a after b
      → IsValue IsMessage around names a after b
  word : {names after : Names} {a b : List Lexeme} → IsWord around names a after b
      → IsValue IsMessage around names a after b
  other : {names : Names} {a : List Lexeme}
      → is_message_next a ≡ false → first_is (of_kind OpenBracket) a ≡ false → is_whole_word a ≡ false
      → IsValue IsMessage around names a names a

-- Field = FieldName [ ":" ] value; or an odd thing, where no field begins. What is in a field's value is looked up in
-- the field's type: the field's name gets the next number.
pub data IsItem (IsMessage : Message) (around : Option ℕ) : Names → List Lexeme → Names → List Lexeme → Type 0 where
  field : {names after : Names} {a b c d : List Lexeme} {name : FieldName}
      → Begins a name b → IsOptional Colon b c
      → IsValue IsMessage (Some (length names)) (names ++ named name.role around (plain name.components) ∷ []) c after d
      → IsItem IsMessage around names a after d
  other : {names after : Names} {a b : List Lexeme}
      → ((name : FieldName) (rest : List Lexeme) → Begins a name rest → ⊥) → IsOdd names a after b
      → IsItem IsMessage around names a after b

-- A message is over at what closes it, and at the `}` that closes what is around it.
abbrev pub is_over : (closing : TokenKind) → List Lexeme → Bool
is_over closing a = first_is (of_kind closing) a || first_is (of_kind CloseBrace) a

-- { item } [ what closes them ]
pub data IsBody (IsMessage : Message) (closing : TokenKind) (around : Option ℕ) : Names → List Lexeme → Names
    → List Lexeme → Type 0 where
  body : {names after : Names} {a b c : List Lexeme} → Until (is_over closing) (IsItem IsMessage around) names a after b
      → IsOptional closing b c → IsBody IsMessage closing around names a after c

-- "{" { item } "}" | "<" { item } [ ">" ]
pub data IsBraced (IsMessage : Message) (around : Option ℕ) : Names → List Lexeme → Names → List Lexeme → Type 0 where
  braces : {names after : Names} {a b c : List Lexeme} {open_brace : Span}
      → One (of_kind OpenBrace) a open_brace b → IsBody IsMessage CloseBrace around names b after c
      → IsBraced IsMessage around names a after c
  angles : {names after : Names} {a b c : List Lexeme} {less : Span}
      → One (of_kind Less) a less b → IsBody IsMessage Greater around names b after c
      → IsBraced IsMessage around names a after c

-- How many braces may be inside one another in an option's value, `<` and `>` among them (the profile's).
abbrev pub max_aggregate_depth : ℕ
max_aggregate_depth = 64

-- A message takes up one of this many levels. What is deeper is read past.
unfoldable pub IsMessageWithin : (levels : ℕ) → Message
IsMessageWithin zero around names a after b = (after ≡ names) × (b ≡ past_one a)
IsMessageWithin (suc levels) around names a after b = IsBraced (IsMessageWithin levels) around names a after b
