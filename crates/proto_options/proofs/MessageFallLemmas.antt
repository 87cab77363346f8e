-- Each step of the loops over what is in messages takes a token.
use Rattle.std.proofs.Common.{◌≡◌, ◌<◌, ℕ, zero, suc, true, Ok, Option, Some, None, List, [], ◌∷◌, length, ap, arith}
use Rattle.proto_lex.specs.declared.token.TokenKind.{TokenKind}
use Rattle.proto_lex.specs.declared.token.TokenKind.TheVariants.{Colon, OpenBrace, CloseBrace, OpenBracket}
use Rattle.proto_lex.specs.declared.token.TokenKind.TheVariants.{CloseBracket, Less, Greater}
use Rattle.proto_lex.proofs.ReadingTestLemmas.{chosen}
use Rattle.proto_grammar.specs.Lexeme.{Lexeme, Place, place_of}
use Rattle.proto_grammar.specs.Terminal.{first_is, of_kind, behind}
use Rattle.proto_grammar.specs.Reading.Repetition.{token_that}
use Rattle.proto_grammar.proofs.RepetitionStepLemmas.{same_ok, bind_ok, either_true}
use Rattle.proto_grammar.proofs.RepetitionUntilLemmas.{Falls}
use Rattle.proto_options.specs.declared.names.FieldName.{FieldName}
use Rattle.proto_options.specs.declared.names.OptionRole.TheVariants.{Value}
use Rattle.proto_options.specs.Names.{Names}
use Rattle.proto_options.specs.Grammar.Passed.{is_message_next, is_whole_word, past_one, past_odd}
use Rattle.proto_options.specs.Grammar.Aggregates.{list_is_over, is_over}
use Rattle.proto_options.specs.Reading.Aggregates.{Reads, begin_at, odd_at, optional_at, element_at, elements_at}
use Rattle.proto_options.specs.Reading.Aggregates.{list_at, value_at, field_at, item_by, item_at, items_at, body_at, message_at}
use Rattle.proto_options.proofs.OddLemmas.{odd_takes, one_takes}
use Rattle.proto_options.proofs.FallLemmas.{Takes, Leaves, token_takes, until_leaves, word_takes, others_leave}
use Rattle.proto_options.proofs.FallLemmas.{behind_takes}
use Rattle.proto_options.proofs.BeginLemmas.{begin_takes, begin_leaves}

-- an odd thing
odd_falls_by : (names : Names) (left : List Lexeme) (end : ℕ) (x : Names × Place)
    → odd_at names (place_of end left) ≡ Ok x → length x.1.left < length left
unfolding odd_at
odd_falls_by names [] end x e = cc
odd_falls_by names (t ∷ rest) end x e =
    let left : past_odd (t ∷ rest) ≡ x.1.left = ap (λ y. y.1.left) (same_ok _ x e) in
    rw (← left) (odd_takes t rest)

pub odd_falls : (names : Names) → Takes (odd_at names)
odd_falls names tokens x e = odd_falls_by names tokens.left tokens.end x e

pub optional_leaves : (sign : TokenKind) → Leaves (optional_at sign)
unfolding optional_at
optional_leaves sign tokens x e =
    chosen (first_is (of_kind sign) tokens.left) {z = Ok x} e
    (λ _ read.
    let left : (behind tokens).left ≡ x.1.left = ap (λ y. y.1.left) (same_ok _ x read) in
    rw (← left) (others_leave tokens.left))
    (λ _ read. let left : tokens.left ≡ x.1.left = ap (λ y. y.1.left) (same_ok _ x read) in rw (← left) (omega arith))

-- a message that is next takes a token
abbrev pub MessageTakes : Reads → Type 0
MessageTakes message = (around : Option ℕ) (names : Names) (tokens : Place) (x : Names × Place)
    → is_message_next tokens.left ≡ true → message around names tokens ≡ Ok x → length x.1.left < length tokens.left

module _ (message : Reads) (takes : MessageTakes message) where
  pub element_falls : (around : Option ℕ) → Falls (element_at message around)
  unfolding element_at
  element_falls around names tokens x e =
      chosen (is_message_next tokens.left) {z = Ok x} e (λ is. takes around names tokens x is)
      (λ _ e. chosen (is_whole_word tokens.left) {z = Ok x} e (λ _. word_takes Value around names tokens x)
      (λ _. odd_falls names tokens x))

  pub list_takes : (around : Option ℕ) (names : Names) → Takes (list_at message around names)
  unfolding list_at elements_at
  list_takes around names tokens x e =
      let o = bind_ok (token_that (of_kind OpenBracket) tokens) _ x e in
      let i = bind_ok (elements_at message around names o.0.1) _ x o.2 in
      let c = bind_ok (optional_at CloseBracket i.0.1) _ x i.2 in
      let left : c.0.1.left ≡ x.1.left = ap (λ y. y.1.left) (same_ok _ x c.2) in
      rw (← left)
      (omega (
        arith,
        token_takes _ tokens o.0 o.1,
        until_leaves list_is_over (element_at message around) (element_falls around) names o.0.1 i.0 i.1,
        optional_leaves CloseBracket i.0.1 c.0 c.1,
      ))

  pub value_leaves : (around : Option ℕ) (names : Names) → Leaves (value_at message around names)
  unfolding value_at
  value_leaves around names tokens x e =
      chosen (is_message_next tokens.left) {z = Ok x} e
      (λ is read. omega (arith, takes around names tokens x is read))
      (λ _ e. chosen (first_is (of_kind OpenBracket) tokens.left) {z = Ok x} e
      (λ _ read. omega (arith, list_takes around names tokens x read))
      (λ _ e. chosen (is_whole_word tokens.left) {z = Ok x} e
      (λ _ read. omega (arith, word_takes Value around names tokens x read))
      (λ _ read.
      let left : tokens.left ≡ x.1.left = ap (λ y. y.1.left) (same_ok _ x read) in rw (← left) (omega arith))))

  pub field_leaves : (around : Option ℕ) (name : FieldName) (names : Names)
      → Leaves (field_at message around name names)
  unfolding field_at
  field_leaves around name names tokens x e =
      let c = bind_ok (optional_at Colon tokens) _ x e in
      omega (arith, optional_leaves Colon tokens c.0 c.1, value_leaves (Some (length names)) _ c.0.1 x c.2)

  item_falls_by : (around : Option ℕ) (names : Names) (tokens rest : Place) (x : Names × Place)
      (begin : Option FieldName) → begin_at tokens ≡ Ok (begin, rest)
      → item_by message around begin names rest ≡ Ok x → length x.1.left < length tokens.left
  item_falls_by around names tokens rest x (Some name) begins e =
      omega (arith, begin_takes tokens rest name begins, field_leaves around name names rest x e)
  item_falls_by around names tokens rest x None begins e =
      omega (arith, begin_leaves tokens rest begins, odd_falls names rest x e)

  pub item_falls : (around : Option ℕ) → Falls (item_at message around)
  unfolding item_at
  item_falls around names tokens x e =
      let b = bind_ok (begin_at tokens) _ x e in
      item_falls_by around names tokens b.0.1 x b.0.0 b.1 b.2

  pub body_leaves : (closing : TokenKind) (around : Option ℕ) (names : Names)
      → Leaves (body_at message closing around names)
  unfolding body_at items_at
  body_leaves closing around names tokens x e =
      let i = bind_ok (items_at message closing around names tokens) _ x e in
      let c = bind_ok (optional_at closing i.0.1) _ x i.2 in
      let left : c.0.1.left ≡ x.1.left = ap (λ y. y.1.left) (same_ok _ x c.2) in
      rw (← left)
      (omega (
        arith,
        until_leaves (is_over closing) (item_at message around) (item_falls around) names tokens i.0 i.1,
        optional_leaves closing i.0.1 c.0 c.1,
      ))

-- at any level
message_next_takes : (tokens : Place) → is_message_next tokens.left ≡ true
    → length (past_one tokens.left) < length tokens.left
message_next_takes tokens is =
    either_true (first_is (of_kind OpenBrace) tokens.left) (first_is (of_kind Less) tokens.left) is
    (λ o. one_takes (of_kind OpenBrace) tokens.left o) (λ l. one_takes (of_kind Less) tokens.left l)

pub message_takes : (levels : ℕ) → MessageTakes (message_at levels)
unfolding message_at
message_takes zero around names tokens x is e =
    let left : past_one tokens.left ≡ x.1.left = ap (λ y. y.1.left) (same_ok _ x e) in
    rw (← left) (message_next_takes tokens is)
message_takes (suc levels) around names tokens x is e =
    chosen (first_is (of_kind Less) tokens.left) {z = Ok x} e
    (λ less read. omega (
      arith,
      behind_takes _ tokens less,
      body_leaves (message_at levels) (message_takes levels) Greater around names (behind tokens) x read,
    ))
    (λ _ read.
    let o = bind_ok (token_that (of_kind OpenBrace) tokens) _ x read in
    omega (
      arith,
      token_takes _ tokens o.0 o.1,
      body_leaves (message_at levels) (message_takes levels) CloseBrace around names o.0.1 x o.2,
    ))

pub elements_fall : (levels : ℕ) (around : Option ℕ) → Falls (element_at (message_at levels) around)
elements_fall levels around = element_falls (message_at levels) (message_takes levels) around

pub items_fall : (levels : ℕ) (around : Option ℕ) → Falls (item_at (message_at levels) around)
items_fall levels around = item_falls (message_at levels) (message_takes levels) around
