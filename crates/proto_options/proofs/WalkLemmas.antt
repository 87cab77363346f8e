-- The second reading keeps the options of the derivation: each production of messages, enums and services.
use Rattle.std.proofs.Common.{◌≡◌, ℕ, Bool, true, false, ◌||◌, Ok, Option, Some, List, [], ◌∷◌}
use Rattle.std.proofs.Common.{refl, codes, bytes_eq, cond}
use Rattle.std.proofs.lemmas.Bool.{and_parts}
use Rattle.std.proofs.lemmas.Slice.Eq.{bytes_eq-Decides}
use Rattle.std.specs.List.{list_any}
use Rattle.proto_lex.specs.declared.span.Span.{Span}
use Rattle.proto_lex.specs.declared.token.TokenKind.TheVariants.{Identifier, Semicolon, Equals, OpenBrace}
use Rattle.proto_lex.specs.declared.token.TokenKind.TheVariants.{OpenBracket}
use Rattle.proto_grammar.specs.declared.dialect.CustomOptions.{CustomOptions}
use Rattle.proto_grammar.specs.declared.dialect.Syntax.{Syntax}
use Rattle.proto_grammar.specs.declared.tree.Heading.{Heading}
use Rattle.proto_grammar.specs.declared.tree.Label.{Label}
use Rattle.proto_grammar.specs.declared.tree.Field.{Field}
use Rattle.proto_grammar.specs.declared.tree.MapField.{MapField}
use Rattle.proto_grammar.specs.declared.tree.Enum.{Enum}
use Rattle.proto_grammar.specs.Lexeme.{Lexeme, place_of}
use Rattle.proto_grammar.specs.Terminal.{is_kind, first_is, of_kind, is_word, closes}
use Rattle.proto_grammar.specs.Grammar.Repetition.{One}
use Rattle.proto_grammar.specs.Grammar.Repetition.One.{one}
use Rattle.proto_grammar.specs.Grammar.Options.{IsOption, IsOptions}
use Rattle.proto_grammar.specs.Grammar.Options.IsOptions.{none as no_options, some as some_options}
use Rattle.proto_grammar.specs.Grammar.Fields.{IsNumbered, IsTyped, IsMapField}
use Rattle.proto_grammar.specs.Grammar.Fields.IsNumbered.{numbered}
use Rattle.proto_grammar.specs.Grammar.Fields.IsTyped.{typed}
use Rattle.proto_grammar.specs.Grammar.Fields.IsMapField.{map_field}
use Rattle.proto_grammar.specs.Grammar.Reserved.{IsReserved, IsExtensions}
use Rattle.proto_grammar.specs.Grammar.Reserved.IsReserved.{reserved}
use Rattle.proto_grammar.specs.Grammar.Reserved.IsExtensions.{extensions}
use Rattle.proto_grammar.specs.Grammar.Reserved.IsInteger.{plain as plain_integer}
use Rattle.proto_grammar.specs.Reading.Reserved.{integer_at}
use Rattle.proto_grammar.proofs.RepetitionStepLemmas.{both_false}
use Rattle.proto_grammar.proofs.TerminalTokenLemmas.{token_exact, one_next, one_others, next_other_kind, next_word_kind}
use Rattle.proto_grammar.proofs.TerminalTokenLemmas.{next_other_word, same_kind}
use Rattle.proto_grammar.proofs.Exact.Fields.{integer_exact}
use Rattle.proto_parse.specs.Grammar.Messages.{IsHeading, IsValue, IsEnumItem, IsEnum}
use Rattle.proto_parse.specs.Grammar.Messages.IsHeading.{heading}
use Rattle.proto_parse.specs.Grammar.Messages.IsValue.{value}
use Rattle.proto_parse.specs.Grammar.Messages.IsEnumItem.{empty as enums-empty, option as enums-option}
use Rattle.proto_parse.specs.Grammar.Messages.IsEnumItem.{reserved as enums-reserved, value as enums-value}
use Rattle.proto_parse.specs.Grammar.Messages.IsEnum.{enum}
use Rattle.proto_parse.specs.Choice.{begins_other, statement_words}
use Rattle.proto_steps.specs.Choice.{begins_map}
use Rattle.proto_parse.proofs.Choices.{named, option_begins, reserved_begins}
use Rattle.proto_options.specs.declared.elements.Element.{Element}
use Rattle.proto_options.specs.declared.elements.Element.TheVariants as of_a
use Rattle.proto_options.specs.declared.statements.Within.{Within}
use Rattle.proto_options.specs.declared.statements.Within.TheVariants as within
use Rattle.proto_options.specs.declared.statements.Statement.TheVariants.{Member}
use Rattle.proto_options.specs.Elements.{Placed, of_option, of_options, of_numbered, of_typed}
use Rattle.proto_options.specs.Elements.{of_map_field, of_value, of_ranges, of_items}
use Rattle.proto_options.specs.Elements.{of_enum_item, of_enum}
use Rattle.proto_options.specs.Elements.{name_of_heading}
use Rattle.proto_options.specs.Reading.Options.{Keeping}
use Rattle.proto_options.specs.Reading.Statements.{name_before_at, pass_statement_at, heading_at, message_statement_of}
use Rattle.proto_options.specs.Reading.Statements.{element_of, member_of}
use Rattle.proto_options.specs.Reading.Walk.{Inside, ranges_at, item_by, member_at}
use Rattle.proto_options.specs.Reading.Walk.{passed_at, enum_statement_at, body_at, braces_at}
use Rattle.proto_options.proofs.WalkFallLemmas.{InsideLeaves, item_falls}
use Rattle.proto_options.proofs.WalkFallLemmas.{enum_statement_takes}
use Rattle.proto_options.proofs.FrontLemmas.{Begins, Clear, begins_one, begins_then, clear_then, name_before}
use Rattle.proto_options.proofs.FrontLemmas.{first_before}
use Rattle.proto_options.proofs.FrontLemmas.{some_before, word_passes, type_clear, type_begins, map_type_clear}
use Rattle.proto_options.proofs.FrontLemmas.{range_clear, item_clear, comma_items_clear}
use Rattle.proto_options.proofs.KeptLemmas.{Walks, walks_end, option_walks, brackets_walk, items_walk}

-- ---- what statements are, by the words that they begin with

pub word_parts : (word : List ℕ) (t : Lexeme) → is_word word t ≡ true
    → (t.kind ≡ Identifier) × (t.spelling ≡ word)
word_parts word t is =
    let both = and_parts (is_kind Identifier t.kind) (bytes_eq t.spelling word) is in
    (same_kind Identifier t.kind both.0, (bytes_eq-Decides t.spelling word).0 both.1)

pub message_word : (word : List ℕ) (a : List Lexeme) → first_is (is_word word) a ≡ true
    → message_statement_of a ≡ message_statement_of (named word ∷ [])
message_word word [] is = cc
message_word word (t ∷ rest) is = by_parts (word_parts word t is).0 (word_parts word t is).1
  where
    by_parts : t.kind ≡ Identifier → t.spelling ≡ word
        → message_statement_of (t ∷ rest) ≡ message_statement_of (named word ∷ [])
    by_parts e f = rw (e, f) refl

-- a word that isn't `option` begins no option nor is it a `;`
pub other_begins : (word : List ℕ) (a : List Lexeme) → bytes_eq word (codes "option") ≡ false
    → first_is (is_word word) a ≡ true
    → (first_is (of_kind Semicolon) a ≡ false) × (first_is (is_word (codes "option")) a ≡ false)
other_begins word a differs is = (
  next_other_kind Identifier Semicolon a refl (next_word_kind word a is),
  next_other_word word (codes "option") a
      differs is,
)

-- what a field or a group of a message doesn't begin with
pub record MemberBegins (a : List Lexeme) : Type 0 where
  pub no_semicolon : first_is (of_kind Semicolon) a ≡ false
  pub no_option : first_is (is_word (codes "option")) a ≡ false
  pub is_member : message_statement_of a ≡ Member

pub member_begins : (syntax : Syntax) (a : List Lexeme) → begins_other syntax a ≡ false → MemberBegins a
member_begins syntax [] off = record { no_semicolon = refl; no_option = refl; is_member = refl }
member_begins syntax (t ∷ rest) off =
    let s = both_false (of_kind Semicolon t) _ off in
    let m = both_false (list_any (λ word. is_word word t) statement_words) (begins_map syntax (t ∷ rest)) s.1 in
    let a = both_false (is_word (codes "message") t) _ m.0 in
    let b = both_false (is_word (codes "enum") t) _ a.1 in
    let c = both_false (is_word (codes "option") t) _ b.1 in
    let d = both_false (is_word (codes "oneof") t) _ c.1 in
    let f = both_false (is_word (codes "reserved") t) _ d.1 in
    let g = both_false (is_word (codes "extend") t) _ f.1 in
    let h = both_false (is_word (codes "extensions") t) _ g.1 in
    record {
      no_semicolon = s.0;
      no_option = c.0;
      is_member = rw (a.0, b.0, d.0, f.0, g.0, h.0) refl;
    }

module _ (end : ℕ) where
  -- ---- an item: a `;`, an option, or another statement

  pub semicolon_walks : (kind : Within) (around : List ℕ) (statement : Keeping) {a b : List Lexeme} {span : Span}
      → One (of_kind Semicolon) a span b → Walks end (item_by kind around statement) [] a b
  semicolon_walks kind around statement s = record { kept = λ options. rw (one_next s, one_others s) refl }

  pub option_item_walks : (kind : Within) (element : Element) (around : List ℕ) (statement : Keeping)
      → element_of kind ≡ Some element → {custom : CustomOptions} {a b : List Lexeme} (o : IsOption custom a b)
      → Walks end (item_by kind around statement) (of_option around element o) a b
  option_item_walks kind element around statement is {a = a} o = record {
    kept = λ options. rw (
      next_other_kind Identifier Semicolon a refl (next_word_kind (codes "option") a (option_begins o)),
      option_begins o,
      is,
    ) (option_walks end around element o options);
  }

  pub other_item_walks : (kind : Within) (around : List ℕ) (statement : Keeping) (settings : List Placed)
      {a b : List Lexeme} → first_is (of_kind Semicolon) a ≡ false → first_is (is_word (codes "option")) a ≡ false
      → Walks end statement settings a b → Walks end (item_by kind around statement) settings a b
  other_item_walks kind around statement settings p q walks =
      record { kept = λ options. rw (p, q) (walks.kept options) }

  either_way : {Y : Type 0} {x y : Y} (test : Bool) → x ≡ y → cond test x x ≡ y
  either_way true e = e
  either_way false e = e

  -- in an extend, where the word `option` begins no option
  pub extend_item_walks : (around : List ℕ) (statement : Keeping) (settings : List Placed) {a b : List Lexeme}
      → first_is (of_kind Semicolon) a ≡ false → Walks end statement settings a b
      → Walks end (item_by within.Extend around statement) settings a b
  extend_item_walks around statement settings {a = a} p walks =
      record { kept = λ options. rw p (either_way (first_is (is_word (codes "option")) a) (walks.kept options)) }

  -- ---- statements that have no options

  pub passed_walks : {a c d : List Lexeme} {span : Span} → Begins Semicolon Semicolon end a c
      → One (of_kind Semicolon) c span d → Walks end passed_at [] a d
  unfolding pass_statement_at
  passed_walks {c = c} front s = record {
    kept = λ options.
        let is : (first_is (of_kind Semicolon) c || first_is (of_kind Semicolon) c) ≡ true = rw (one_next s) refl in
        let found = some_before Semicolon Semicolon end front is in
        rw (found.1, token_exact end s) refl;
  }

  pub reserved_walks : {negative : Bool} {a b : List Lexeme} → IsReserved negative a b → Walks end passed_at [] a b
  reserved_walks (reserved k is i u s) =
      passed_walks
      (begins_then Semicolon Semicolon end (begins_one Semicolon Semicolon end k)
      (clear_then Semicolon Semicolon end
      (item_clear Semicolon Semicolon end (refl, refl) (refl, refl) (refl, refl) (refl, refl) (refl, refl) i)
      (comma_items_clear Semicolon Semicolon end (refl, refl) (refl, refl) (refl, refl) (refl, refl) (refl, refl) u))) s

  -- ---- extension ranges

  options_next : {custom : CustomOptions} {x y z : List Lexeme} {span : Span} → IsOptions custom x y
      → One (of_kind Semicolon) y span z
      → (first_is (of_kind OpenBracket) x || first_is (of_kind Semicolon) x) ≡ true
  options_next (no_options none) s = rw (none, one_next s) refl
  options_next (some_options o v u c) s = rw (one_next o) refl

  pub ranges_walk : (scope : List ℕ) {custom : CustomOptions} {a b : List Lexeme} (e : IsExtensions custom a b)
      → Walks end (ranges_at scope) (of_ranges scope e) a b
  unfolding ranges_at
  ranges_walk scope (extensions {d = d} {e = e} {f = f} keyword first others options semicolon) = record {
    kept = λ so_far.
        let front = begins_then OpenBracket Semicolon end (begins_one OpenBracket Semicolon end keyword)
        (clear_then OpenBracket Semicolon end
        (range_clear OpenBracket Semicolon end (refl, refl) (refl, refl) (refl, refl) (refl, refl) first)
        (comma_items_clear OpenBracket Semicolon end (refl, refl) (refl, refl) (refl, refl) (refl, refl) (refl, refl)
        others)) in
        let found = some_before OpenBracket Semicolon end front (options_next options semicolon) in
        rw found.1
        (walks_end end (of_options scope of_a.ExtensionRange options) so_far (place_of end e) (place_of end f) _ _
        (brackets_walk end scope of_a.ExtensionRange options so_far) (λ all. rw (token_exact end semicolon) refl));
  }

  -- ---- fields, map fields and values of enums

  -- behind the name: its number and its options, and a `;`
  tail_walks : (kind : Within) (inside : Inside) (scope : List ℕ) {custom : CustomOptions} {t : Lexeme}
      {a b c d e f : List Lexeme} {equals closing : Span}
      → name_before_at Equals Equals (place_of end a) ≡ Ok (t, place_of end b) → One (of_kind Equals) b equals c
      → integer_at true (place_of end c) ≡ Ok (tt, place_of end d) → (options : IsOptions custom d e)
      → One (of_kind Semicolon) e closing f
      → Walks end (member_at kind inside scope) (of_options scope (member_of kind t.span) options) a f
  unfolding member_at
  tail_walks kind inside scope {t = t} {e = e} {f = f} found equals number options closing = record {
    kept = λ so_far. rw (found, token_exact end equals, number)
        (walks_end end (of_options scope (member_of kind t.span) options) so_far (place_of end e) (place_of end f) _ _
        (brackets_walk end scope (member_of kind t.span) options so_far)
        (λ all. rw (one_next closing, one_others closing) refl));
  }

  pub equals_next : {a b : List Lexeme} {span : Span} → One (of_kind Equals) a span b
      → (first_is (of_kind Equals) a || first_is (of_kind Equals) a) ≡ true
  equals_next q = rw (one_next q) refl

  -- the options of a field, and not of a value of an enum
  abbrev pub OfFields : Within → Type 0
  OfFields kind = (span : Span) → member_of kind span ≡ of_a.Field span

  numbered_walks : (kind : Within) → OfFields kind → (inside : Inside) (scope : List ℕ) {custom : CustomOptions}
      {first : Span} {a b c : List Lexeme} {x : Heading} → Begins Equals Equals end a b
      → (n : IsNumbered custom first b x c) → Walks end (member_at kind inside scope) (of_numbered scope n) a c
  numbered_walks kind is inside scope front (numbered (one {t} w) equals number options closing) =
      rw (← is t.span)
      (tail_walks kind inside scope
      (name_before Equals Equals end front (word_passes Equals Equals end (refl, refl) t w) (equals_next equals)) equals
      (integer_exact end (plain_integer {negative = true} number)) options closing)

  -- what begins behind a label, or where there is none, begins in front of it
  abbrev pub Front : (a b : List Lexeme) → Type 0
  Front a b = (c : List Lexeme) → Begins Equals Equals end b c → Clear Equals Equals end b c
      → Begins Equals Equals end a c

  pub typed_walks : (kind : Within) → OfFields kind → (inside : Inside) (scope : List ℕ) {custom : CustomOptions}
      {first : Span} {label : Option Label} {a b c : List Lexeme} {x : Field} → Front a b
      → (f : IsTyped custom first label b x c) → Walks end (member_at kind inside scope) (of_typed scope f) a c
  typed_walks kind is inside scope front (typed {b = e} type rest) =
      numbered_walks kind is inside scope
      (front e (type_begins Equals Equals end (refl, refl) (refl, refl) type)
      (type_clear Equals Equals end (refl, refl) (refl, refl) type)) rest

  pub map_field_walks : (inside : Inside) (scope : List ℕ) {custom : CustomOptions} {a b : List Lexeme} {x : MapField}
      (f : IsMapField custom a x b) → Walks end (member_at within.Message inside scope) (of_map_field scope f) a b
  map_field_walks inside scope (map_field first less key comma type greater rest) =
      numbered_walks within.Message (λ span. refl) inside scope
      (begins_then Equals Equals end (begins_one Equals Equals end first)
      (map_type_clear Equals Equals end (refl, refl) (refl, refl) (refl, refl) (refl, refl) (refl, refl) less key comma
      type greater)) rest

  value_walks : (inside : Inside) (scope : List ℕ) {custom : CustomOptions} {a b : List Lexeme} {x : Heading}
      (v : IsValue custom a x b) → Walks end (member_at within.Enum inside scope) (of_value scope v) a b
  value_walks inside scope (value (one {t} w) equals number options closing) =
      tail_walks within.Enum inside scope {t = t} (first_before Equals Equals end (equals_next equals)) equals
      (integer_exact end number) options closing

  -- ---- enums

  -- statements of an enum, with their options
  enum_item_walks : (inside : Inside) (scope : List ℕ) (custom : CustomOptions) (a b : List Lexeme)
      (x : Option Heading) (i : IsEnumItem custom a x b)
      → Walks end (item_by within.Enum scope (enum_statement_at inside scope)) (of_enum_item scope custom a b x i) a b
  enum_item_walks inside scope custom a b x (enums-empty s) =
      semicolon_walks within.Enum scope (enum_statement_at inside scope) s
  enum_item_walks inside scope custom a b x (enums-option o) =
      option_item_walks within.Enum of_a.Enum scope (enum_statement_at inside scope) refl o
  enum_item_walks inside scope custom a b x (enums-reserved r) =
      let isnt = other_begins (codes "reserved") a refl (reserved_begins r) in
      let its = reserved_walks r in
      let statement : Walks end (enum_statement_at inside scope) [] a b =
      record { kept = λ options. rw (reserved_begins r) (its.kept options) } in
      other_item_walks within.Enum scope (enum_statement_at inside scope) [] isnt.0 isnt.1 statement
  enum_item_walks inside scope custom a b x (enums-value no_semicolon no_option no_reserved v) =
      let its = value_walks inside scope v in
      let statement : Walks end (enum_statement_at inside scope) (of_value scope v) a b =
      record { kept = λ options. rw no_reserved (its.kept options) } in
      other_item_walks within.Enum scope (enum_statement_at inside scope) (of_value scope v) no_semicolon no_option
      statement

  -- what begins with a word and a name, and has braces
  pub headed_walks : (kind : Within) (inside : Inside) (scope : List ℕ) {word : List ℕ} (settings : List Placed)
      {a b c : List Lexeme} {x : Heading} (h : IsHeading word a x b)
      → Walks end (body_at kind inside scope (name_of_heading h)) settings b c
      → Walks end (braces_at kind inside scope) settings a c
  unfolding braces_at heading_at
  headed_walks kind inside scope settings (heading {c = e} keyword (one {t} n) open_brace) body = record {
    kept = λ options.
        let is : (first_is (of_kind OpenBrace) e || first_is (of_kind OpenBrace) e) ≡ true =
        rw (one_next open_brace) refl in
        rw (
          name_before OpenBrace OpenBrace end (begins_one OpenBrace OpenBrace end keyword)
              (word_passes OpenBrace OpenBrace end (refl, refl) t n) is,
          token_exact end open_brace,
        ) (body.kept options);
  }

  module _ (inside : Inside) (leaves : InsideLeaves inside) where
    pub enum_walks : (scope : List ℕ) {custom : CustomOptions} {a b : List Lexeme} {x : Enum} (e : IsEnum custom a x b)
        → Walks end (braces_at within.Enum inside scope) (of_enum scope e) a b
    enum_walks scope {custom = custom} (enum {b = b} {c = c} {d = d} head items close_brace) =
        let body : Walks end (body_at within.Enum inside scope (name_of_heading head))
        (of_items (of_enum_item scope custom) items) b d = record {
          kept = λ options.
              walks_end end (of_items (of_enum_item scope custom) items) options (place_of end c) (place_of end d) _ _
              (items_walk end closes (IsEnumItem custom) (of_enum_item scope custom)
              (item_by within.Enum scope (enum_statement_at inside scope))
              (item_falls within.Enum scope (enum_statement_at inside scope)
              (enum_statement_takes inside leaves scope))
              (λ x y z i so_far. (enum_item_walks inside scope custom x y z i).kept so_far) items options)
              (λ all. rw (token_exact end close_brace) refl);
        } in
        headed_walks within.Enum inside scope (of_items (of_enum_item scope custom) items) head body
