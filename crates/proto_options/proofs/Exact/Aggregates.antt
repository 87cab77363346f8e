-- What is named as the grammar of messages in values says is read.
use Rattle.std.proofs.Common.{◌≡◌, ℕ, zero, suc, ◌||◌, true, false, not, Ok, Option, List, refl}
use Rattle.std.proofs.lemmas.Bool.{and_parts}
use Rattle.proto_lex.specs.declared.token.TokenKind.{TokenKind}
use Rattle.proto_lex.specs.declared.token.TokenKind.TheVariants.{Identifier, Colon, OpenBrace}
use Rattle.proto_lex.specs.declared.token.TokenKind.TheVariants.{OpenBracket}
use Rattle.proto_lex.specs.declared.token.TokenKind.TheVariants.{Less}
use Rattle.proto_grammar.specs.Lexeme.{Lexeme, place_of}
use Rattle.proto_grammar.specs.Terminal.{is_kind, first_is, others, of_kind}
use Rattle.proto_grammar.proofs.RepetitionUntilLemmas.{until_at-exact}
use Rattle.proto_grammar.proofs.TerminalTokenLemmas.{token_exact, one_next, one_others, next_other_kind}
use Rattle.proto_options.specs.declared.names.OptionRole.TheVariants.{Value}
use Rattle.proto_options.specs.Names.{Names}
use Rattle.proto_options.specs.Grammar.Passed.{is_message_next, is_joint_next, is_whole_word}
use Rattle.proto_options.specs.Grammar.Aggregates.{Message, IsWord, IsOdd, IsOptional, IsElement, list_is_over}
use Rattle.proto_options.specs.Grammar.Aggregates.{IsListOf, IsValue, IsItem, is_over, IsBody, IsMessageWithin}
use Rattle.proto_options.specs.Grammar.Aggregates.IsWord.{word as a_word}
use Rattle.proto_options.specs.Grammar.Aggregates.IsOdd.{odd}
use Rattle.proto_options.specs.Grammar.Aggregates.IsOptional.{there, missing}
use Rattle.proto_options.specs.Grammar.Aggregates.IsElement.{message, word, other}
use Rattle.proto_options.specs.Grammar.Aggregates.IsListOf.{list}
use Rattle.proto_options.specs.Grammar.Aggregates.IsValue.{message as values-message, list as values-list}
use Rattle.proto_options.specs.Grammar.Aggregates.IsValue.{word as values-word, other as values-other}
use Rattle.proto_options.specs.Grammar.Aggregates.IsItem.{field, other as items-other}
use Rattle.proto_options.specs.Grammar.Aggregates.IsBody.{body}
use Rattle.proto_options.specs.Grammar.Aggregates.IsBraced.{braces, angles}
use Rattle.proto_options.specs.Reading.Aggregates.{Reads, word_at, odd_at, optional_at, element_at, elements_at}
use Rattle.proto_options.specs.Reading.Aggregates.{list_at, value_at, field_at, item_at, items_at, body_at, message_at}
use Rattle.proto_options.proofs.BeginLemmas.{begin_exact, no_begin}
use Rattle.proto_options.proofs.MessageFallLemmas.{MessageTakes, element_falls, item_falls, message_takes}

-- what begins with a token of another kind is no message
pub no_message : (kind : TokenKind) (a : List Lexeme) → is_kind OpenBrace kind ≡ false → is_kind Less kind ≡ false
    → first_is (of_kind kind) a ≡ true → is_message_next a ≡ false
no_message kind a p q is = rw (next_other_kind kind OpenBrace a p is, next_other_kind kind Less a q is) refl

pub whole_is_word : (a : List Lexeme) → is_whole_word a ≡ true → first_is (of_kind Identifier) a ≡ true
whole_is_word a is =
    (and_parts (first_is (of_kind Identifier) a)
    (not (is_joint_next (others a) || (first_is (of_kind Colon) (others a) || is_message_next (others a)))) is).0

module _ (end : ℕ) where
  word_exact : {around : Option ℕ} {names after : Names} {a b : List Lexeme} → IsWord around names a after b
      → word_at Value around names (place_of end a) ≡ Ok (after, place_of end b)
  unfolding word_at
  word_exact (a_word whole w) = rw (token_exact end w) refl

  word_whole : {around : Option ℕ} {names after : Names} {a b : List Lexeme} → IsWord around names a after b
      → is_whole_word a ≡ true
  word_whole (a_word whole w) = whole

  odd_exact : {names after : Names} {a b : List Lexeme} → IsOdd names a after b
      → odd_at names (place_of end a) ≡ Ok (after, place_of end b)
  unfolding odd_at
  odd_exact odd = refl

  optional_exact : {sign : TokenKind} {a b : List Lexeme} → IsOptional sign a b
      → optional_at sign (place_of end a) ≡ Ok (tt, place_of end b)
  unfolding optional_at
  optional_exact (there o) = rw (one_next o, one_others o) refl
  optional_exact (missing p) = rw p refl

  -- a message is read
  abbrev pub ReadsMessage : Reads → Message → Type 0
  ReadsMessage read Is = (around : Option ℕ) (names after : Names) (a b : List Lexeme) → Is around names a after b
      → read around names (place_of end a) ≡ Ok (after, place_of end b)

  module _ (read : Reads) (takes : MessageTakes read) (Is : Message) (reads : ReadsMessage read Is) where
    pub element_exact : (around : Option ℕ) (names after : Names) (a b : List Lexeme)
        → IsElement Is around names a after b
        → element_at read around names (place_of end a) ≡ Ok (after, place_of end b)
    unfolding element_at
    element_exact around names after a b (message is m) = rw is (reads around names after a b m)
    element_exact around names after a b (word w) =
        rw (no_message Identifier a refl refl (whole_is_word a (word_whole w)), word_whole w) (word_exact w)
    element_exact around names after a b (other p q o) = rw (p, q) (odd_exact o)

    list_exact : {around : Option ℕ} {names after : Names} {a b : List Lexeme} → IsListOf Is around names a after b
        → list_at read around names (place_of end a) ≡ Ok (after, place_of end b)
    unfolding list_at elements_at
    list_exact {around} (list o u c) =
        rw (
          token_exact end o,
          until_at-exact end list_is_over (element_at read around) (IsElement Is around)
              (element_falls read takes around) (element_exact around) u,
          optional_exact c,
        ) refl

    list_next : {around : Option ℕ} {names after : Names} {a b : List Lexeme} → IsListOf Is around names a after b
        → first_is (of_kind OpenBracket) a ≡ true
    list_next (list o u c) = one_next o

    value_exact : {around : Option ℕ} {names after : Names} {a b : List Lexeme} → IsValue Is around names a after b
        → value_at read around names (place_of end a) ≡ Ok (after, place_of end b)
    unfolding value_at
    value_exact (values-message is m) = rw is (reads _ _ _ _ _ m)
    value_exact (values-list {a = a} l) =
        rw (no_message OpenBracket a refl refl (list_next l), list_next l) (list_exact l)
    value_exact (values-word {a = a} w) =
        let is : first_is (of_kind Identifier) a ≡ true = whole_is_word a (word_whole w) in
        rw (
          no_message Identifier a refl refl is,
          next_other_kind Identifier OpenBracket a refl is,
          word_whole w,
        ) (word_exact w)
    value_exact (values-other p q r) = rw (p, q, r) refl

    pub item_exact : (around : Option ℕ) (names after : Names) (a b : List Lexeme) → IsItem Is around names a after b
        → item_at read around names (place_of end a) ≡ Ok (after, place_of end b)
    unfolding item_at field_at
    item_exact around names after a b (field begins colon v) =
        rw (begin_exact end begins, optional_exact colon) (value_exact v)
    item_exact around names after a b (items-other none o) = rw (no_begin (place_of end a) none) (odd_exact o)

    body_exact : {closing : TokenKind} {around : Option ℕ} {names after : Names} {a b : List Lexeme}
        → IsBody Is closing around names a after b
        → body_at read closing around names (place_of end a) ≡ Ok (after, place_of end b)
    unfolding body_at items_at
    body_exact {closing} {around} (body u c) =
        rw (
          until_at-exact end (is_over closing) (item_at read around) (IsItem Is around) (item_falls read takes around)
              (item_exact around) u,
          optional_exact c,
        ) refl

  pub message_exact : (levels : ℕ) → ReadsMessage (message_at levels) (IsMessageWithin levels)
  unfolding message_at IsMessageWithin
  message_exact zero around names after a b m = rw (m.0, m.1) refl
  message_exact (suc levels) around names after a b (braces o i) =
      rw (next_other_kind OpenBrace Less a refl (one_next o), token_exact end o)
      (body_exact (message_at levels) (message_takes levels) (IsMessageWithin levels) (message_exact levels) i)
  message_exact (suc levels) around names after a b (angles l i) =
      rw (one_next l, one_others l)
      (body_exact (message_at levels) (message_takes levels) (IsMessageWithin levels) (message_exact levels) i)
