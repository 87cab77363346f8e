-- What the next token chooses is what is read: the steps of a statement, and the one that is chosen.
use Rattle.std.proofs.Common.{◌≡◌, ℕ, Bool, true, false, cond, ◌&&◌, ◌||◌, Result, Ok, Err, Option, Some, List, []}
use Rattle.std.proofs.Common.{◌∷◌, refl, bytes_eq, codes}
use Rattle.std.proofs.lemmas.Bool.{and_parts}
use Rattle.std.proofs.lemmas.Slice.Eq.{bytes_eq-Decides}
use Rattle.proto_lex.specs.declared.token.TokenKind.TheVariants.{Identifier, Semicolon, Less}
use Rattle.proto_grammar.specs.declared.dialect.CustomOptions.TheVariants.{Skip}
use Rattle.proto_grammar.specs.declared.dialect.Syntax.{Syntax}
use Rattle.proto_grammar.specs.declared.dialect.Syntax.TheVariants.{Proto3, Extended, Proto2}
use Rattle.proto_grammar.specs.declared.fault.SyntaxFault.{SyntaxFault}
use Rattle.proto_grammar.specs.declared.tree.Item.{Item}
use Rattle.proto_grammar.specs.declared.tree.Item.TheVariants.{Leaf}
use Rattle.proto_grammar.specs.declared.tree.Leaf.{Leaf as LeafTree}
use Rattle.proto_grammar.specs.declared.tree.Leaf.TheVariants as leaf
use Rattle.proto_grammar.specs.declared.tree.MapField.{MapField}
use Rattle.proto_grammar.specs.Lexeme.{Lexeme, Place, place_of}
use Rattle.proto_grammar.specs.Terminal.{is_kind, first_is, of_kind, is_word, is_group_word}
use Rattle.proto_grammar.specs.Syntax.{is_proto2}
use Rattle.proto_grammar.specs.Reading.Repetition.{and_then, token_that}
use Rattle.proto_grammar.proofs.RepetitionStepLemmas.{both_false}
use Rattle.proto_grammar.proofs.TerminalTokenLemmas.{same_kind, other_word}
use Rattle.proto_steps.specs.declared.statement.MessageStatement.{MessageStatement}
use Rattle.proto_steps.specs.declared.statement.MessageStatement.TheVariants as choice
use Rattle.proto_steps.specs.Step.{Done, run, ◌>>=◌}
use Rattle.proto_steps.specs.Choice.{message_statement_of, map_statement, chosen_item}
use Rattle.proto_steps.specs.Grammar.Parts.{dot_names, name, leading_dot, type_name, field_type, numbered, typed, label}
use Rattle.proto_steps.specs.Grammar.Parts.{map_field}
use Rattle.proto_steps.specs.Grammar.Definitions.{Inside, labelled, member, field_of_map, declared_map, map_item}
use Rattle.proto_steps.specs.Grammar.Definitions.{message_item}
use Rattle.proto_steps.proofs.TurnLemmas.{by_bool, by_result}

-- ---- one choice

pub picked : {A C : Type 0} (read : C → A) (b : Bool) {x y : A} (c d : C) → x ≡ read c → y ≡ read d
    → cond b x y ≡ read (cond b c d)
picked read true c d e f = e
picked read false c d e f = f

-- ---- a statement of a message

word_parts : (word : List ℕ) (t : Lexeme) → is_word word t ≡ true → (t.kind ≡ Identifier) × (t.spelling ≡ word)
word_parts word t is =
    let both = and_parts (is_kind Identifier t.kind) (bytes_eq t.spelling word) is in
    (same_kind Identifier t.kind both.0, (bytes_eq-Decides t.spelling word).0 both.1)

abbrev Outcome : Type 0
Outcome = Result (Option Item × Place) SyntaxFault

abbrev leaf_of : MapField × Place → Result (LeafTree × Place) SyntaxFault
leaf_of x = Ok (leaf.MapField x.0, x.1)

abbrev item_of : LeafTree × Place → Outcome
item_of x = Ok (Some (Leaf x.0), x.1)

abbrev field_of : MapField × Place → Outcome
field_of x = Ok (Some (Leaf (leaf.MapField x.0)), x.1)

mapped : (o : Result (MapField × Place) SyntaxFault) → and_then (and_then o leaf_of) item_of ≡ and_then o field_of
mapped (Ok x) = refl
mapped (Err fault) = refl

module _ (inside : Inside) (t : Lexeme) (rest : List Lexeme) (end : ℕ) where
  abbrev read : Syntax → MessageStatement → Outcome
  read syntax statement = run (chosen_item statement syntax inside) (place_of end (t ∷ rest))

  abbrev map_read : Syntax → Outcome
  map_read syntax = run (map_item syntax >>= λ x. Done (Some (Leaf x))) (place_of end (t ∷ rest))

  -- where a map field is next
  declared_by : (syntax : Syntax) → is_word (codes "map") t ≡ true
      → (is_proto2 syntax || first_is (of_kind Less) rest) ≡ true → map_read syntax ≡ read syntax choice.Map
  unfolding run token_that map_item declared_map map_statement
  declared_by (Proto3 custom) is less = rw (is, less) (mapped (run (map_field custom t.span) (place_of end rest)))
  declared_by Extended is less = rw (is, less) (mapped (run (map_field Skip t.span) (place_of end rest)))
  declared_by Proto2 is less = rw is (mapped (run (map_field Skip t.span) (place_of end rest)))

  -- where the name of a type begins with this word
  member_by : (syntax : Syntax) → t.kind ≡ Identifier → t.spelling ≡ codes "map" → is_proto2 syntax ≡ false
      → first_is (of_kind Less) rest ≡ false → map_read syntax ≡ read syntax choice.Member
  unfolding run token_that map_item field_of_map member label labelled typed field_type type_name leading_dot name
  member_by (Proto3 custom) kind spelling proto less =
      rw (kind, spelling, less)
      (by_result (run (dot_names (t.span ∷ [])) (place_of end rest))
      (λ x found.
      rw found
      (by_result (run (numbered custom t.span) x.1) (λ y ended. rw ended refl) (λ fault none. rw none refl)))
      (λ fault none. rw none refl))
  member_by Extended kind spelling proto less =
      rw (kind, spelling, less)
      (by_result (run (dot_names (t.span ∷ [])) (place_of end rest))
      (λ x found.
      rw found (by_result (run (numbered Skip t.span) x.1) (λ y ended. rw ended refl) (λ fault none. rw none refl)))
      (λ fault none. rw none refl))
  member_by Proto2 kind spelling proto less = absurd (let never : true ≡ false = proto in cc)

  -- what is behind the word `map` in the order of the choices
  abbrev later : MessageStatement
  later =
      cond (is_word (codes "reserved") t) choice.Reserved
      (cond (is_word (codes "extend") t) choice.Extend
      (cond (is_word (codes "extensions") t) choice.Extensions choice.Member))

  none_later : is_word (codes "map") t ≡ true → later ≡ choice.Member
  none_later is =
      rw (
        other_word (codes "map") (codes "reserved") t refl is,
        other_word (codes "map") (codes "extend") t refl is,
        other_word (codes "map") (codes "extensions") t refl is,
      )
      refl

  map_picked : (syntax : Syntax) (y : Outcome) → y ≡ read syntax later
      → cond (is_word (codes "map") t) (map_read syntax) y
      ≡ read syntax
      (cond (is_word (codes "map") t && (is_proto2 syntax || first_is (of_kind Less) rest)) choice.Map later)
  map_picked syntax y e =
      by_bool (is_word (codes "map") t)
      (λ is.
      by_bool (is_proto2 syntax || first_is (of_kind Less) rest)
      (λ wide. rw (is, wide) (declared_by syntax is wide))
      (λ narrow.
      let parts = word_parts (codes "map") t is in
      let both = both_false (is_proto2 syntax) (first_is (of_kind Less) rest) narrow in
      rw (is, narrow, none_later is) (member_by syntax parts.0 parts.1 both.0 both.1)))
      (λ off. rw off e)

  item_by : (syntax : Syntax) → run (message_item syntax inside) (place_of end (t ∷ rest))
      ≡ read syntax (message_statement_of syntax (t ∷ rest))
  unfolding run message_item
  item_by syntax =
      picked (read syntax) (of_kind Semicolon t) choice.Empty _ refl
      (picked (read syntax) (is_word (codes "message") t) choice.Message _ refl
      (picked (read syntax) (is_word (codes "enum") t) choice.Enum _ refl
      (picked (read syntax) (is_word (codes "option") t) choice.Option _ refl
      (picked (read syntax) (is_word (codes "oneof") t) choice.Oneof _ refl
      (map_picked syntax _
      (picked (read syntax) (is_word (codes "reserved") t) choice.Reserved _ refl
      (picked (read syntax) (is_word (codes "extend") t) choice.Extend _ refl
      (picked (read syntax) (is_word (codes "extensions") t) choice.Extensions choice.Member refl refl))))))))

item_of_left : (syntax : Syntax) (inside : Inside) (left : List Lexeme) (end : ℕ)
    → run (message_item syntax inside) (place_of end left)
    ≡ run (chosen_item (message_statement_of syntax left) syntax inside) (place_of end left)
unfolding run message_item
item_of_left syntax inside [] end = refl
item_of_left syntax inside (t ∷ rest) end = item_by inside t rest end syntax

pub item_chosen : (syntax : Syntax) (inside : Inside) (place : Place)
    → run (message_item syntax inside) place
    ≡ run (chosen_item (message_statement_of syntax place.left) syntax inside) place
item_chosen syntax inside place = item_of_left syntax inside place.left place.end

-- ---- a test of the grammar and the token

pub both_first : (b : Bool) (test : Lexeme → Bool) (left : List Lexeme)
    → first_is (λ t. b && test t) left ≡ (b && first_is test left)
both_first true test [] = refl
both_first false test [] = refl
both_first b test (t ∷ rest) = refl

-- a group is next only in proto2
pub group_there : (b next : Bool) (left : List Lexeme) → b ≡ true → next ≡ first_is is_group_word left
    → next ≡ first_is (λ t. b && is_group_word t) left
group_there true next left is here = here
group_there false next left is here = absurd (let never : false ≡ true = is in cc)

pub no_group_there : (b : Bool) (left : List Lexeme) → b ≡ false → false ≡ first_is (λ t. b && is_group_word t) left
no_group_there true left off = absurd (let never : true ≡ false = off in cc)
no_group_there false [] off = refl
no_group_there false (t ∷ rest) off = refl
