-- Messages, groups, oneofs and extends as data are read as the functions on places read them.
use Rattle.std.proofs.Common.{◌≡◌, ℕ, zero, suc, false, cond, ◌&&◌, Result, Ok, Err, Option, Some, None}
use Rattle.std.proofs.Common.{option_map, List, [], ◌∷◌, refl, ap, ◌∙◌, inl, codes}
use Rattle.proto_lex.specs.declared.span.Span.{Span}
use Rattle.proto_lex.specs.declared.token.TokenKind.TheVariants.{Semicolon, OpenBrace}
use Rattle.proto_grammar.specs.declared.dialect.CustomOptions.{CustomOptions}
use Rattle.proto_grammar.specs.declared.dialect.CustomOptions.TheVariants.{Refuse, Skip}
use Rattle.proto_grammar.specs.declared.dialect.Syntax.{Syntax}
use Rattle.proto_grammar.specs.declared.dialect.Syntax.TheVariants.{Proto3, Extended, Proto2}
use Rattle.proto_grammar.specs.declared.fault.SyntaxFault.{SyntaxFault}
use Rattle.proto_grammar.specs.declared.fault.SyntaxFault.TheVariants.{Grammar}
use Rattle.proto_grammar.specs.declared.tree.Heading.{Heading}
use Rattle.proto_grammar.specs.declared.tree.Label.{Label}
use Rattle.proto_grammar.specs.declared.tree.TypeName.{TypeName}
use Rattle.proto_grammar.specs.declared.tree.Field.{Field}
use Rattle.proto_grammar.specs.declared.tree.Group.{Group}
use Rattle.proto_grammar.specs.declared.tree.MapField.{MapField}
use Rattle.proto_grammar.specs.declared.tree.Enum.{Enum}
use Rattle.proto_grammar.specs.declared.tree.Head.{Head}
use Rattle.proto_grammar.specs.declared.tree.Head.TheVariants as head
use Rattle.proto_grammar.specs.declared.tree.Leaf.TheVariants as leaf
use Rattle.proto_grammar.specs.declared.tree.Item.{Item}
use Rattle.proto_grammar.specs.declared.tree.Item.TheVariants.{Block, Leaf}
use Rattle.proto_grammar.specs.Lexeme.{Lexeme, Place, place_of}
use Rattle.proto_grammar.specs.Terminal.{first_is, of_kind, is_word, is_group_word, behind}
use Rattle.proto_grammar.specs.Syntax.{custom_of, is_proto2}
use Rattle.proto_grammar.specs.Tree.{BlockTree}
use Rattle.proto_grammar.specs.Items.{body_of}
use Rattle.proto_grammar.specs.Reading.Repetition.{and_then, Read, token_that, span_at, adding as adding_at}
use Rattle.proto_grammar.specs.Reading.Repetition.{passing as passing_at}
use Rattle.proto_grammar.specs.Reading.Fields.{pass_field_at}
use Rattle.proto_parse.proofs.Reading.Enums.{heading_at}
use Rattle.proto_parse.proofs.Reading.Messages.{braced_at, Inside as InsideAt, group_at, labelled_at}
use Rattle.proto_parse.proofs.Reading.Messages.{member_at, oneof_member_at, oneof_item_at, extend_item_at, oneof_at}
use Rattle.proto_parse.proofs.Reading.Messages.{extend_at, passed_item_at, passed_items_at, passed_extend_at}
use Rattle.proto_parse.proofs.Reading.Messages.{extend_statement_at, message_at, ranges_at, message_item_by}
use Rattle.proto_parse.proofs.Reading.Messages.{message_item_at, item_at, inside_at}
use Rattle.proto_steps.specs.declared.statement.MessageStatement.{MessageStatement}
use Rattle.proto_steps.specs.declared.statement.MessageStatement.TheVariants as choice
use Rattle.proto_steps.specs.declared.statement.Within.{Within}
use Rattle.proto_steps.specs.declared.statement.Within.TheVariants as within
use Rattle.proto_steps.specs.Step.{Step, adding, passing, passed, run}
use Rattle.proto_steps.specs.Choice.{message_statement_of, chosen_item, item_of}
use Rattle.proto_steps.specs.Grammar.Parts.{option_statement, field, typed}
use Rattle.proto_steps.specs.Grammar.Definitions.{heading, Inside, braced, group, labelled, member, oneof_member}
use Rattle.proto_steps.specs.Grammar.Definitions.{oneof_item, oneof, extend_item, extend, passed_item, passed_items}
use Rattle.proto_steps.specs.Grammar.Definitions.{passed_extend, extend_statement, message, ranges, message_item}
use Rattle.proto_steps.specs.Grammar.Definitions.{inside}
use Rattle.proto_steps.specs.Grammar.Definitions.Inside.{NoLevel, Level}
use Rattle.proto_steps.proofs.MoveLemmas.{Moves}
use Rattle.proto_steps.proofs.MessageLemmas.{item_moves, passed_item_moves}
use Rattle.proto_steps.proofs.ChoiceLemmas.{item_chosen, both_first}
use Rattle.proto_steps.proofs.AgreeLemmas.{bind_agree, named_type_agrees, pass_type_name_agrees}
use Rattle.proto_steps.proofs.AgreeLemmas.{option_statement_agrees}
use Rattle.proto_steps.proofs.AgreeFieldLemmas.{next_taken, typed_agrees, label_agrees, group_head_agrees}
use Rattle.proto_steps.proofs.AgreeFieldLemmas.{map_statement_agrees, passed_field_agrees, reserved_agrees}
use Rattle.proto_steps.proofs.AgreeFieldLemmas.{extensions_agree}
use Rattle.proto_parse.proofs.Agreement.Enums.{enum_agrees}
use Rattle.proto_parse.proofs.Agreement.Braced.{braced_agree, adding_agrees, adding_missing, same_cond}

-- What is inside, as data and as a function on places.
abbrev pub SameInside : Inside → InsideAt → Type 0
SameInside NoLevel None = Unit {0}
SameInside NoLevel (Some read) = ⊥
SameInside (Level step) None = ⊥
SameInside (Level step) (Some read) = (place : Place) → run step place ≡ read place

-- ---- values

abbrev block_of : Head → List Item × Place → Result (BlockTree × Place) SyntaxFault
block_of head x = Ok (record { head = head; body = body_of x.0 }, x.1)

abbrev block_item : BlockTree × Place → Result (Item × Place) SyntaxFault
block_item x = Ok (Block x.0, x.1)

abbrev field_item : Field × Place → Result (Item × Place) SyntaxFault
field_item x = Ok (Leaf (leaf.Field x.0), x.1)

abbrev no_item : Unit {0} × Place → Result (Option Item × Place) SyntaxFault
no_item x = Ok (None, x.1)

abbrev some_item : Item × Place → Result (Option Item × Place) SyntaxFault
some_item x = Ok (Some x.0, x.1)

abbrev some_block : BlockTree × Place → Result (Option Item × Place) SyntaxFault
some_block x = Ok (Some (Block x.0), x.1)

abbrev some_enum : Enum × Place → Result (Option Item × Place) SyntaxFault
some_enum x = Ok (Some (Leaf (leaf.Enum x.0)), x.1)

abbrev some_map : MapField × Place → Result (Option Item × Place) SyntaxFault
some_map x = Ok (Some (Leaf (leaf.MapField x.0)), x.1)

abbrev none_kept : Unit {0} × Place → Result (Option BlockTree × Place) SyntaxFault
none_kept x = Ok (None, x.1)

abbrev one_kept : BlockTree × Place → Result (Option BlockTree × Place) SyntaxFault
one_kept x = Ok (Some x.0, x.1)

abbrev maybe_block : Option BlockTree × Place → Result (Option Item × Place) SyntaxFault
maybe_block x = Ok (option_map Block x.0, x.1)

-- ---- items in braces

abbrev all_kept : List Item → Span × Place → Result (List Item × Place) SyntaxFault
all_kept items y = Ok (items, y.1)

braced_agrees : (item : Step (Option Item)) (read : Read (Option Item))
    → ((place : Place) → run item place ≡ read place)
    → Moves item → ((end : ℕ) → read (place_of end []) ≡ Err (Grammar end)) → (place : Place)
    → run (braced item) place ≡ braced_at read place
unfolding run braced braced_at
braced_agrees item read same moving missing place =
    braced_agree (adding item) (adding_at read) all_kept (adding_agrees item read same) (λ s. inl moving)
    (adding_missing read missing) [] place

-- ---- what may be inside

module _ (syntax : Syntax) (inner : Inside) (old : InsideAt) (same : SameInside inner old) where
  group_by : (custom : CustomOptions) (now : Inside) (was : InsideAt) → SameInside now was → (first : Span)
      (kind : Option Label) (place : Place) → run (group custom now first kind) place ≡ group_at custom was first kind
      place
  unfolding run group group_at
  group_by custom NoLevel None is first kind place = refl
  group_by custom NoLevel (Some read) is first kind place = absurd is
  group_by custom (Level step) None is first kind place = absurd is
  group_by custom (Level step) (Some read) is first kind place =
      bind_agree (group_head_agrees custom first kind place)
      (λ (before : Group × Place). ap (λ o. and_then o (block_of (head.Group before.0))) (is before.1))

  labelled_agrees : (first : Span) (kind : Option Label) (place : Place)
      → run (labelled syntax inner first kind) place ≡ labelled_at syntax old first kind place
  unfolding run labelled labelled_at
  labelled_agrees first kind place =
      ap (λ b. cond b (and_then (run (group (custom_of syntax) inner first kind) place) block_item)
      (and_then (run (typed (custom_of syntax) first kind) place) field_item))
      (both_first (is_proto2 syntax) is_group_word place.left)
      ∙ same_cond (is_proto2 syntax && first_is is_group_word place.left)
      (ap (λ o. and_then o block_item) (group_by (custom_of syntax) inner old same first kind place))
      (ap (λ o. and_then o field_item) (typed_agrees (custom_of syntax) first kind place))

  member_by : (left : List Lexeme) (end : ℕ)
      → run (member syntax inner) (place_of end left) ≡ member_at syntax old (place_of end left)
  unfolding run member member_at span_at
  member_by [] end = refl
  member_by (t ∷ rest) end =
      bind_agree (label_agrees syntax (place_of end (t ∷ rest)))
      (λ (kind : Option Label × Place). labelled_agrees t.span kind.0 kind.1)

  member_agrees : (place : Place) → run (member syntax inner) place ≡ member_at syntax old place
  member_agrees place = member_by place.left place.end

  oneof_member_by : (left : List Lexeme) (end : ℕ)
      → run (oneof_member syntax inner) (place_of end left) ≡ oneof_member_at syntax old (place_of end left)
  unfolding run oneof_member oneof_member_at span_at
  oneof_member_by [] end = refl
  oneof_member_by (t ∷ rest) end = labelled_agrees t.span None (place_of end (t ∷ rest))

  oneof_item_agrees : (place : Place) → run (oneof_item syntax inner) place ≡ oneof_item_at syntax old place
  unfolding run oneof_item oneof_item_at
  oneof_item_agrees place =
      next_taken (of_kind Semicolon) place (λ p. Ok (None, p))
      (cond (first_is (is_word (codes "option")) place.left)
      (and_then (run (option_statement (custom_of syntax)) place) no_item)
      (and_then (run (oneof_member syntax inner) place) some_item))
      ∙ ap (λ o. cond (first_is (of_kind Semicolon) place.left) (Ok (None, behind place)) o)
      (same_cond (first_is (is_word (codes "option")) place.left)
      (ap (λ o. and_then o no_item) (option_statement_agrees (custom_of syntax) place))
      (ap (λ o. and_then o some_item) (oneof_member_by place.left place.end)))

  extend_item_agrees : (place : Place) → run (extend_item syntax inner) place ≡ extend_item_at syntax old place
  unfolding run extend_item extend_item_at
  extend_item_agrees place =
      next_taken (of_kind Semicolon) place (λ p. Ok (None, p)) (and_then (run (member syntax inner) place) some_item)
      ∙ ap (λ o. cond (first_is (of_kind Semicolon) place.left) (Ok (None, behind place)) o)
      (ap (λ o. and_then o some_item) (member_agrees place))

  oneof_missing : (end : ℕ) → oneof_item_at syntax old (place_of end []) ≡ Err (Grammar end)
  unfolding oneof_item_at oneof_member_at span_at
  oneof_missing end = refl

  extend_missing : (end : ℕ) → extend_item_at syntax old (place_of end []) ≡ Err (Grammar end)
  unfolding extend_item_at member_at span_at
  extend_missing end = refl

  message_missing : (end : ℕ) → message_item_at syntax old (place_of end []) ≡ Err (Grammar end)
  unfolding message_item_at member_at span_at
  message_missing end = refl

  oneof_agrees : (place : Place) → run (oneof syntax inner) place ≡ oneof_at syntax old place
  unfolding run oneof oneof_at heading heading_at
  oneof_agrees place =
      bind_agree {o = run (heading (codes "oneof")) place} refl
      (λ (declared : Heading × Place).
      ap (λ o. and_then o (block_of (head.Oneof declared.0)))
      (braced_agrees (oneof_item syntax inner) (oneof_item_at syntax old) oneof_item_agrees
      (item_moves within.Oneof syntax inner) oneof_missing declared.1))

  extend_agrees : (place : Place) → run (extend syntax inner) place ≡ extend_at syntax old place
  unfolding run extend extend_at
  extend_agrees place =
      bind_agree {o = token_that (is_word (codes "extend")) place} refl
      (λ (keyword : Span × Place).
      bind_agree (named_type_agrees keyword.1)
      (λ (type : TypeName × Place).
      bind_agree {o = token_that (of_kind OpenBrace) type.1} refl
      (λ (open_brace : Span × Place).
      ap (λ o. and_then o (block_of (head.Extend type.0)))
      (braced_agrees (extend_item syntax inner) (extend_item_at syntax old) extend_item_agrees
      (item_moves within.Extend syntax inner) extend_missing open_brace.1))))

-- ---- extends that are read past

pub passed_item_agrees : (place : Place) → run passed_item place ≡ passed_item_at place
unfolding run passed_item passed_item_at
passed_item_agrees place =
    next_taken (of_kind Semicolon) place (λ p. Ok (tt, p)) (run (passed (field Skip)) place)
    ∙ ap (λ o. cond (first_is (of_kind Semicolon) place.left) (Ok (tt, behind place)) o)
    (passed_field_agrees Skip place)

passed_missing : (end : ℕ) → passed_item_at (place_of end []) ≡ Err (Grammar end)
unfolding passed_item_at pass_field_at span_at
passed_missing end = refl

abbrev all_passed : Unit {0} → Span × Place → Result (Unit {0} × Place) SyntaxFault
all_passed s y = Ok (tt, y.1)

pub passed_extend_agrees : (custom : CustomOptions) (place : Place)
    → run (passed_extend custom) place ≡ passed_extend_at custom place
unfolding run passed_extend passed_items passed_extend_at passed_items_at
passed_extend_agrees Refuse place = refl
passed_extend_agrees Skip place =
    bind_agree {o = token_that (is_word (codes "extend")) place} refl
    (λ (keyword : Span × Place).
    bind_agree (pass_type_name_agrees keyword.1)
    (λ (type : Unit {0} × Place).
    bind_agree {o = token_that (of_kind OpenBrace) type.1} refl
    (λ (open_brace : Span × Place).
    braced_agree (passing passed_item) (passing_at passed_item_at) all_passed (λ s at. passed_item_agrees at)
    (λ s. passed_item_moves) (λ s end. passed_missing end) tt open_brace.1)))

-- ---- statements

module _ (syntax : Syntax) (inner : Inside) (old : InsideAt) (same : SameInside inner old) where
  extend_by : (chosen : Syntax) (place : Place) → SameInside inner old
      → run (extend_statement chosen inner) place ≡ extend_statement_at chosen old place
  unfolding run extend_statement extend_statement_at
  extend_by (Proto3 custom) place is = ap (λ o. and_then o none_kept) (passed_extend_agrees custom place)
  extend_by Extended place is = ap (λ o. and_then o one_kept) (extend_agrees Extended inner old is place)
  extend_by Proto2 place is = ap (λ o. and_then o one_kept) (extend_agrees Proto2 inner old is place)

  pub extend_statement_agrees : (place : Place)
      → run (extend_statement syntax inner) place ≡ extend_statement_at syntax old place
  extend_statement_agrees place = extend_by syntax place same

  message_by : (now : Inside) (was : InsideAt) → SameInside now was → (place : Place)
      → run (message now) place ≡ message_at was place
  unfolding run message message_at heading heading_at
  message_by NoLevel None is place = refl
  message_by NoLevel (Some read) is place = absurd is
  message_by (Level step) None is place = absurd is
  message_by (Level step) (Some read) is place =
      bind_agree {o = run (heading (codes "message")) place} refl
      (λ (declared : Heading × Place). ap (λ o. and_then o (block_of (head.Message declared.0))) (is declared.1))

  pub message_agrees : (place : Place) → run (message inner) place ≡ message_at old place
  message_agrees place = message_by inner old same place

  ranges_agree : (chosen : Syntax) (place : Place) → run (ranges chosen) place ≡ ranges_at chosen place
  unfolding run ranges ranges_at
  ranges_agree (Proto3 custom) place = refl
  ranges_agree Extended place = refl
  ranges_agree Proto2 place = ap (λ o. and_then o no_item) (extensions_agree Skip place)

  chosen_agrees : (statement : MessageStatement) (place : Place)
      → run (chosen_item statement syntax inner) place ≡ message_item_by statement syntax old place
  unfolding run
  chosen_agrees choice.Empty place = refl
  chosen_agrees choice.Message place = ap (λ o. and_then o some_block) (message_agrees place)
  chosen_agrees choice.Enum place = ap (λ o. and_then o some_enum) (enum_agrees (custom_of syntax) place)
  chosen_agrees choice.Option place = ap (λ o. and_then o no_item) (option_statement_agrees (custom_of syntax) place)
  chosen_agrees choice.Oneof place = ap (λ o. and_then o some_block) (oneof_agrees syntax inner old same place)
  chosen_agrees choice.Map place = ap (λ o. and_then o some_map) (map_statement_agrees (custom_of syntax) place)
  chosen_agrees choice.Reserved place = ap (λ o. and_then o no_item) (reserved_agrees false place)
  chosen_agrees choice.Extend place = ap (λ o. and_then o maybe_block) (extend_statement_agrees place)
  chosen_agrees choice.Extensions place = ranges_agree syntax place
  chosen_agrees choice.Member place = ap (λ o. and_then o some_item) (member_agrees syntax inner old same place)

  message_item_agrees : (place : Place) → run (message_item syntax inner) place ≡ message_item_at syntax old place
  unfolding message_item_at
  message_item_agrees place =
      item_chosen syntax inner place ∙ chosen_agrees (message_statement_of syntax place.left) place

pub inside_agrees : (syntax : Syntax) (levels : ℕ) → SameInside (inside syntax levels) (inside_at syntax levels)
unfolding inside inside_at
inside_agrees syntax zero = tt
inside_agrees syntax (suc levels) = λ place.
    braced_agrees (message_item syntax (inside syntax levels)) (message_item_at syntax (inside_at syntax levels))
    (message_item_agrees syntax (inside syntax levels) (inside_at syntax levels) (inside_agrees syntax levels))
    (item_moves within.Message syntax (inside syntax levels))
    (message_missing syntax (inside syntax levels) (inside_at syntax levels) (inside_agrees syntax levels)) place

-- what may be between braces
pub item_agrees : (within : Within) (syntax : Syntax) (levels : ℕ) (place : Place)
    → run (item_of within syntax (inside syntax levels)) place ≡ item_at within syntax (inside_at syntax levels) place
item_agrees within.Message syntax levels place =
    message_item_agrees syntax (inside syntax levels) (inside_at syntax levels) (inside_agrees syntax levels) place
item_agrees within.Oneof syntax levels place =
    oneof_item_agrees syntax (inside syntax levels) (inside_at syntax levels) (inside_agrees syntax levels) place
item_agrees within.Extend syntax levels place =
    extend_item_agrees syntax (inside syntax levels) (inside_at syntax levels) (inside_agrees syntax levels) place
