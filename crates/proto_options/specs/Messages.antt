-- What messages say, beside their fields, of the names in values of them (proto3 specification, "Reserved";
-- descriptor.proto, `MessageOptions.message_set_wire_format`), in order of place.
use Rattle.std.specs.Prelude.{ℕ, ◌==◌, Bool, false, ◌&&◌, ◌||◌, cond, List, [], ◌∷◌, ◌++◌, map, nat_lt, codes}
use Rattle.std.specs.Option.{option_map_or}
use Rattle.proto_lex.specs.Lexed.{Lexed}
use Rattle.proto_lex.specs.declared.span.Span.{Span}
use Rattle.proto_lex.specs.declared.token.TokenKind.TheVariants.{StringLiteral, Comma, Equals, CloseBrace}
use Rattle.proto_grammar.specs.Lexeme.{Lexeme, lexemes_of}
use Rattle.proto_grammar.specs.Terminal.{first, first_is, others, of_kind, is_word, is_end}
use Rattle.proto_parse.specs.tree.Heading.{Heading}
use Rattle.proto_parse.specs.tree.Head.TheVariants as head
use Rattle.proto_parse.specs.tree.File.{File}
use Rattle.proto_parse.specs.Parts.{Part, anywhere, of_items}
use Rattle.proto_parse.specs.Parts.Part.{BlockPart}
use Rattle.proto_options.specs.declared.messages.MessageClause.{MessageClause}
use Rattle.proto_options.specs.declared.messages.MessageClause.TheVariants.{Reserves, IsMessageSet}
use Rattle.proto_options.specs.declared.messages.MessageFact.{MessageFact}
use Rattle.proto_options.specs.Escapes.{literal_text}
use Rattle.proto_options.specs.Grammar.Passed.{braces_behind}

-- ---- what begins here

-- "reserved" strings
abbrev pub reserves_names : List Lexeme → Bool
reserves_names a = first_is (of_kind StringLiteral) (others a) && first_is (is_word (codes "reserved")) a

-- "option" "message_set_wire_format" "=" "true"
abbrev pub sets_wire_format : List Lexeme → Bool
sets_wire_format a =
    first_is (is_word (codes "message_set_wire_format")) (others a)
    && first_is (is_word (codes "true")) (others (others (others a)))

abbrev pub makes_message_set : List Lexeme → Bool
makes_message_set a =
    first_is (of_kind Equals) (others (others a)) && (first_is (is_word (codes "option")) a && sets_wire_format a)

-- A literal, or the comma between the names in literals. Adjacent literals spell one name.
abbrev pub is_of_names : List Lexeme → Bool
is_of_names a = first_is (of_kind Comma) a || first_is (of_kind StringLiteral) a

-- the names that end here, and the part of a name that is read behind that
abbrev pub names_ended : (joined : List ℕ) → List Lexeme → List (List ℕ)
names_ended joined a = cond (first_is (of_kind Comma) a) (joined ∷ []) []

abbrev pub joined_behind : (joined : List ℕ) → List Lexeme → List ℕ
joined_behind joined a =
    cond (first_is (of_kind Comma) a) [] (joined ++ option_map_or (λ t. literal_text t.spelling) (first a) [])

-- The names in strings, behind a part of the first of them.
abbrev pub names_in : (joined : List ℕ) → List Lexeme → List (List ℕ)
names_in joined [] = joined ∷ []
names_in joined (t ∷ rest) =
    cond (is_of_names (t ∷ rest))
    (names_ended joined (t ∷ rest) ++ names_in (joined_behind joined (t ∷ rest)) rest)
    (joined ∷ [])

-- what is said by what begins here
abbrev pub clauses_at : List Lexeme → List MessageClause
clauses_at a =
    cond (reserves_names a) (map Reserves (names_in [] (others a)))
    (cond (makes_message_set a) (IsMessageSet ∷ []) [])

-- ---- what is said in braces

abbrev pub clauses_direct : (open_braces : ℕ) → List Lexeme → List MessageClause
clauses_direct open_braces a = cond (open_braces == 0) (clauses_at a) []

-- whether there is nothing more in braces in which this many others are open
abbrev pub is_over : (open_braces : ℕ) → List Lexeme → Bool
is_over open_braces a = is_end a || ((open_braces == 0) && first_is (of_kind CloseBrace) a)

-- What is said directly in braces in which this many others are open, up to the `}` that closes them. In a message that
-- derives only what says something begins so.
abbrev pub clauses_in : (open_braces : ℕ) → List Lexeme → List MessageClause
clauses_in open_braces [] = []
clauses_in open_braces (t ∷ rest) =
    cond (is_over open_braces (t ∷ rest)) []
    (clauses_direct open_braces (t ∷ rest) ++ clauses_in (braces_behind (t ∷ rest) open_braces) rest)

-- the tokens from an offset on, and those behind the token that starts there
abbrev pub tokens_from : (start : ℕ) → List Lexeme → List Lexeme
tokens_from start [] = []
tokens_from start (t ∷ rest) = cond (nat_lt t.span.start start) (tokens_from start rest) (t ∷ rest)

abbrev pub behind_start : (start : ℕ) → List Lexeme → List Lexeme
behind_start start tokens = others (tokens_from start tokens)

-- ---- what is said in a file

abbrev pub fact_of : (message : Span) → MessageClause → MessageFact
fact_of message clause = record { name = message; clause = clause }

-- in the braces of a message or of a group, whose `{` is the closing token of its heading
abbrev pub said_in : List Lexeme → Heading → List MessageFact
said_in tokens heading = map (fact_of heading.name) (clauses_in 0 (behind_start heading.closing.start tokens))

abbrev pub said_by : List Lexeme → Unit {0} → Part → List MessageFact
said_by tokens around (BlockPart (head.Message heading)) = said_in tokens heading
said_by tokens around (BlockPart (head.Group group)) = said_in tokens group.heading
said_by tokens around part = []

-- All that the messages of a file say, a message before those in it.
abbrev pub messages_in : Lexed → File → List MessageFact
messages_in lexed file = of_items anywhere (said_by (lexemes_of lexed.text lexed.tokens)) tt file.items

-- whether anything is said behind some of these tokens, in whatever it stands
abbrev pub says_any : List Lexeme → Bool
says_any [] = false
says_any (t ∷ rest) = reserves_names (t ∷ rest) || (makes_message_set (t ∷ rest) || says_any rest)
