-- Whatever is in balanced braces, it is a message, with names.
use Rattle.std.proofs.Common.{◌≡◌, inl, inr, ℕ, zero, suc, ◌+◌, ◌<◌, ◌≤◌, ◌==◌, ◌||◌, ◌&&◌}
use Rattle.std.proofs.Common.{Bool, true, false, Option, Some, List, [], ◌∷◌, ◌++◌, length}
use Rattle.std.proofs.Common.{refl, sym, ◌∙◌, subst, arith}
use Rattle.std.proofs.lemmas.Bool.{and_parts}
use Rattle.basics.proofs.TestLemmas.{not_zero}
use Rattle.proto_lex.specs.declared.span.Span.{Span}
use Rattle.proto_lex.specs.declared.token.TokenKind.{TokenKind}
use Rattle.proto_lex.specs.declared.token.TokenKind.TheVariants.{Identifier, Colon, Dot, Slash, Minus, Plus, Equals}
use Rattle.proto_lex.specs.declared.token.TokenKind.TheVariants.{OpenBrace, CloseBrace, OpenBracket, CloseBracket}
use Rattle.proto_lex.specs.declared.token.TokenKind.TheVariants.{Less, Greater}
use Rattle.proto_lex.proofs.ReadingTestLemmas.{chosen}
use Rattle.proto_grammar.specs.Lexeme.{Lexeme, place_of}
use Rattle.proto_grammar.specs.Terminal.{is_kind, first_is, others, of_kind}
use Rattle.proto_grammar.specs.Grammar.Repetition.{One, Until, Adds}
use Rattle.proto_grammar.specs.Grammar.Repetition.One.{one}
use Rattle.proto_grammar.specs.Grammar.Repetition.Until.{done, more}
use Rattle.proto_grammar.specs.Grammar.Repetition.Adds.{adds}
use Rattle.proto_grammar.specs.Grammar.Names.{IsName, IsDotName}
use Rattle.proto_grammar.specs.Grammar.Names.IsName.{name}
use Rattle.proto_grammar.specs.Grammar.Names.IsDotName.{dot_name}
use Rattle.proto_grammar.specs.Grammar.Options.{IsClosed}
use Rattle.proto_grammar.specs.Grammar.Options.IsClosed.{closed, open_brace, close_brace, other as other_token}
use Rattle.proto_grammar.proofs.RepetitionStepLemmas.{either_true, both_false}
use Rattle.proto_grammar.proofs.TerminalTokenLemmas.{other_kind, next_found, next_other_kind, one_shorter}
use Rattle.proto_options.specs.declared.names.FieldName.{FieldName}
use Rattle.proto_options.specs.declared.names.OptionRole.TheVariants.{Value}
use Rattle.proto_options.specs.Names.{Names, named, plain, one_word}
use Rattle.proto_options.specs.Grammar.Passed.{braces_behind, brackets_behind, is_past, behind_open, past_one}
use Rattle.proto_options.specs.Grammar.Passed.{opens_bracket, is_joint_next, is_message_next, is_whole_word}
use Rattle.proto_options.specs.Grammar.Passed.{is_opening_next, has_sign, past_odd}
use Rattle.proto_options.specs.Grammar.Aggregates.{IsFieldName, Message, IsWord, IsOdd, IsOptional}
use Rattle.proto_options.specs.Grammar.Aggregates.{IsElement, list_is_over, IsListOf, IsValue, IsItem, is_over, IsBody}
use Rattle.proto_options.specs.Grammar.Aggregates.{IsMessageWithin}
use Rattle.proto_options.specs.Grammar.Aggregates.IsFieldName.{field as a_field, extension, packed}
use Rattle.proto_options.specs.Grammar.Aggregates.IsWord.{word as a_word}
use Rattle.proto_options.specs.Grammar.Aggregates.IsOdd.{odd}
use Rattle.proto_options.specs.Grammar.Aggregates.IsOptional.{there, missing}
use Rattle.proto_options.specs.Grammar.Aggregates.IsElement.{message, word, other}
use Rattle.proto_options.specs.Grammar.Aggregates.IsListOf.{list}
use Rattle.proto_options.specs.Grammar.Aggregates.IsValue.{message as values-message, list as values-list}
use Rattle.proto_options.specs.Grammar.Aggregates.IsValue.{word as values-word, other as values-other}
use Rattle.proto_options.specs.Grammar.Aggregates.IsItem.{field, other as items-other}
use Rattle.proto_options.specs.Grammar.Aggregates.IsBody.{body}
use Rattle.proto_options.specs.Grammar.Aggregates.IsBraced.{braces, angles}
use Rattle.proto_options.specs.Reading.Aggregates.{message_at}
use Rattle.proto_options.proofs.BeginLemmas.{Either, begin_cases, none_begins}
use Rattle.proto_options.proofs.MessageFallLemmas.{message_takes, element_falls, item_falls}
use Rattle.proto_options.proofs.Exact.Aggregates.{whole_is_word, element_exact, item_exact, message_exact}

-- ---- braces are closed behind a token

by_test : {P : Type 0} (b : Bool) → (b ≡ true → P) → (b ≡ false → P) → P
by_test true p q = p refl
by_test false p q = q refl

never_closed : {depth : ℕ} {c : List Lexeme} → IsClosed (suc depth) [] c → ⊥
never_closed (open_brace o behind) = absurd (omega (arith, one_shorter o))
never_closed (close_brace k behind) = absurd (omega (arith, one_shorter k))
never_closed (other_token p q o behind) = absurd (omega (arith, one_shorter o))

two_kinds : (t : Lexeme) → of_kind OpenBrace t ≡ true → of_kind CloseBrace t ≡ true → ⊥
two_kinds t o k =
    let no : of_kind CloseBrace t ≡ false = other_kind OpenBrace CloseBrace t refl o in
    let both : true ≡ false = sym k ∙ no in cc

differ : (b : Bool) → b ≡ true → b ≡ false → ⊥
differ b p q = let both : true ≡ false = sym p ∙ q in cc

behind_open_brace : {depth : ℕ} {t : Lexeme} {rest c : List Lexeme} → IsClosed (suc depth) (t ∷ rest) c
    → of_kind OpenBrace t ≡ true → IsClosed (suc (suc depth)) rest c
behind_open_brace (open_brace (one o) behind) is = behind
behind_open_brace {t = t} (close_brace (one k) behind) is = absurd (two_kinds t is k)
behind_open_brace {t = t} (other_token p q (one o) behind) is = absurd (differ (of_kind OpenBrace t) is p)

behind_close_brace : {depth : ℕ} {t : Lexeme} {rest c : List Lexeme} → IsClosed (suc depth) (t ∷ rest) c
    → of_kind CloseBrace t ≡ true → IsClosed depth rest c
behind_close_brace {t = t} (open_brace (one o) behind) is = absurd (two_kinds t o is)
behind_close_brace (close_brace (one k) behind) is = behind
behind_close_brace {t = t} (other_token p q (one o) behind) is = absurd (differ (of_kind CloseBrace t) is q)

behind_other : {depth : ℕ} {t : Lexeme} {rest c : List Lexeme} → IsClosed (suc depth) (t ∷ rest) c
    → of_kind OpenBrace t ≡ false → of_kind CloseBrace t ≡ false → IsClosed (suc depth) rest c
behind_other {t = t} (open_brace (one o) behind) p q = absurd (differ (of_kind OpenBrace t) o p)
behind_other {t = t} (close_brace (one k) behind) p q = absurd (differ (of_kind CloseBrace t) k q)
behind_other (other_token no_open no_close (one o) behind) p q = behind

-- behind a token of a kind that is no brace's
behind_kind : (kind : TokenKind) → is_kind OpenBrace kind ≡ false → is_kind CloseBrace kind ≡ false → {depth : ℕ}
    {a b c : List Lexeme} {span : Span} → One (of_kind kind) a span b → IsClosed (suc depth) a c
    → IsClosed (suc depth) b c
behind_kind kind p q (one {t} is) behind =
    behind_other behind (other_kind kind OpenBrace t p is) (other_kind kind CloseBrace t q is)

behind_dot_name : {depth : ℕ} {a b c : List Lexeme} {x : Option Span} → IsDotName a x b → IsClosed (suc depth) a c
    → IsClosed (suc depth) b c
behind_dot_name (dot_name d n) behind =
    behind_kind Identifier refl refl n (behind_kind Dot refl refl d behind)

behind_dot_names : {depth : ℕ} {ends : List Lexeme → Bool} {s t : List Span} {a b c : List Lexeme}
    → Until ends (Adds IsDotName) s a t b → IsClosed (suc depth) a c → IsClosed (suc depth) b c
behind_dot_names (done ended) behind = behind
behind_dot_names (more further (adds d) others) behind = behind_dot_names others (behind_dot_name d behind)

behind_name : {depth : ℕ} {a b c : List Lexeme} {x : List Span} → IsName a x b → IsClosed (suc depth) a c
    → IsClosed (suc depth) b c
behind_name (name t u) behind = behind_dot_names u (behind_kind Identifier refl refl t behind)

behind_field_name : {depth : ℕ} {a b c : List Lexeme} {x : FieldName} → IsFieldName a x b → IsClosed (suc depth) a c
    → IsClosed (suc depth) b c
behind_field_name (a_field w) behind = behind_kind Identifier refl refl w behind
behind_field_name (extension o n k) behind =
    behind_kind CloseBracket refl refl k (behind_name n (behind_kind OpenBracket refl refl o behind))
behind_field_name (packed o n s m k) behind =
    behind_kind CloseBracket refl refl k
    (behind_name m (behind_kind Slash refl refl s (behind_name n (behind_kind OpenBracket refl refl o behind))))

-- ---- and behind what is read past

-- where this many braces more are open
open_closed : (open_braces brackets depth all_open : ℕ) (a : List Lexeme) {c : List Lexeme}
    → all_open ≡ open_braces + depth → IsClosed (suc all_open) a c
    → IsClosed (suc depth) (behind_open open_braces brackets a) c
open_closed open_braces brackets depth all_open [] e p = absurd (never_closed p)
open_closed zero brackets depth all_open (t ∷ rest) {c} sum p =
    let level : all_open ≡ depth = omega (arith, sum) in
    let here : IsClosed (suc depth) (t ∷ rest) c = subst (λ (n : ℕ). IsClosed (suc n) (t ∷ rest) c) level p in
    let brackets_left : ℕ = brackets_behind (t ∷ rest) zero brackets in
    chosen (is_past zero brackets (t ∷ rest)) {z = behind_open zero brackets (t ∷ rest)} refl
    (λ _ same. subst (λ (left : List Lexeme). IsClosed (suc depth) left c) same here)
    (λ further same. subst (λ (left : List Lexeme). IsClosed (suc depth) left c) same
    (let no_close : of_kind CloseBrace t ≡ false = (both_false (brackets == 0) (of_kind CloseBrace t) further).1 in
    chosen (of_kind OpenBrace t) {z = braces_behind (t ∷ rest) zero} refl
    (λ opens deeper.
    let count : 1 ≡ braces_behind (t ∷ rest) zero = omega (arith, deeper) in
    subst (λ (n : ℕ). IsClosed (suc depth) (behind_open n brackets_left rest) c) count
    (open_closed 1 brackets_left depth (suc depth) rest (omega arith) (behind_open_brace here opens)))
    (λ no_open e. chosen (of_kind CloseBrace t) {z = braces_behind (t ∷ rest) zero} e
    (λ closes _. absurd (differ (of_kind CloseBrace t) closes no_close))
    (λ _ same_count. subst (λ (n : ℕ). IsClosed (suc depth) (behind_open n brackets_left rest) c) same_count
    (open_closed zero brackets_left depth depth rest (omega arith) (behind_other here no_open no_close))))))
open_closed (suc open_braces) brackets depth all_open (t ∷ rest) {c} sum p =
    let further : is_past (suc open_braces) brackets (t ∷ rest) ≡ false = rw (not_zero open_braces) refl in
    let brackets_left : ℕ = brackets_behind (t ∷ rest) (suc open_braces) brackets in
    let same : behind_open (suc open_braces) brackets (t ∷ rest)
    ≡ behind_open (braces_behind (t ∷ rest) (suc open_braces)) brackets_left rest = rw further refl in
    subst (λ (left : List Lexeme). IsClosed (suc depth) left c) (sym same)
    (chosen (of_kind OpenBrace t) {z = braces_behind (t ∷ rest) (suc open_braces)} refl
    (λ opens deeper.
    let count : suc (suc open_braces) ≡ braces_behind (t ∷ rest) (suc open_braces) = omega (arith, deeper) in
    subst (λ (n : ℕ). IsClosed (suc depth) (behind_open n brackets_left rest) c) count
    (open_closed (suc (suc open_braces)) brackets_left depth (suc all_open) rest (omega (arith, sum))
    (behind_open_brace p opens)))
    (λ no_open e. chosen (of_kind CloseBrace t) {z = braces_behind (t ∷ rest) (suc open_braces)} e
    (λ closes less.
    let count : open_braces ≡ braces_behind (t ∷ rest) (suc open_braces) = omega (arith, less) in
    let fewer : all_open ≡ suc (open_braces + depth) = omega (arith, sum) in
    subst (λ (n : ℕ). IsClosed (suc depth) (behind_open n brackets_left rest) c) count
    (open_closed open_braces brackets_left depth (open_braces + depth) rest refl
    (subst (λ (n : ℕ). IsClosed n rest c) fewer (behind_close_brace p closes))))
    (λ no_close same_count.
    subst (λ (n : ℕ). IsClosed (suc depth) (behind_open n brackets_left rest) c) same_count
    (open_closed (suc open_braces) brackets_left depth all_open rest sum (behind_other p no_open no_close)))))

one_closed : {depth : ℕ} (t : Lexeme) (rest : List Lexeme) {c : List Lexeme} → of_kind CloseBrace t ≡ false
    → IsClosed (suc depth) (t ∷ rest) c → IsClosed (suc depth) (past_one (t ∷ rest)) c
one_closed {depth} t rest {c} no_close p =
    chosen (of_kind OpenBrace t) {z = past_one (t ∷ rest)} refl
    (λ opens same. subst (λ (left : List Lexeme). IsClosed (suc depth) left c) same
    (open_closed 1 0 depth (suc depth) rest (omega arith) (behind_open_brace p opens)))
    (λ no_open e. chosen (opens_bracket (t ∷ rest)) {z = past_one (t ∷ rest)} e
    (λ _ same. subst (λ (left : List Lexeme). IsClosed (suc depth) left c) same
    (open_closed 0 1 depth depth rest (omega arith) (behind_other p no_open no_close)))
    (λ _ same. subst (λ (left : List Lexeme). IsClosed (suc depth) left c) same (behind_other p no_open no_close)))

past_one_closed : {depth : ℕ} (a : List Lexeme) {c : List Lexeme} → first_is (of_kind CloseBrace) a ≡ false
    → IsClosed (suc depth) a c → IsClosed (suc depth) (past_one a) c
past_one_closed [] no_close p = absurd (never_closed p)
past_one_closed (t ∷ rest) no_close p = one_closed t rest no_close p

-- a token of a kind that is no brace's
record IsNoBrace (a : List Lexeme) : Type 0 where
  no_open : first_is (of_kind OpenBrace) a ≡ false
  no_close : first_is (of_kind CloseBrace) a ≡ false

of_no_brace : (kind : TokenKind) → is_kind OpenBrace kind ≡ false → is_kind CloseBrace kind ≡ false
    → (a : List Lexeme) → first_is (of_kind kind) a ≡ true → IsNoBrace a
of_no_brace kind p q a is = record {
  no_open = next_other_kind kind OpenBrace a p is;
  no_close = next_other_kind kind CloseBrace a q is;
}

joint_no_brace : (a : List Lexeme) → is_joint_next a ≡ true → IsNoBrace a
joint_no_brace a is =
    either_true (first_is (of_kind Dot) a) _ is (of_no_brace Dot refl refl a)
    (λ e. either_true (first_is (of_kind Slash) a) _ e (of_no_brace Slash refl refl a)
    (λ e. either_true (first_is (of_kind Minus) a) _ e (of_no_brace Minus refl refl a)
    (λ e. either_true (first_is (of_kind Plus) a) (first_is (of_kind Equals) a) e (of_no_brace Plus refl refl a)
    (of_no_brace Equals refl refl a))))

-- what belongs to a sign closes no brace
opening_no_close : (a : List Lexeme) → is_opening_next a ≡ true → first_is (of_kind CloseBrace) a ≡ false
opening_no_close a is =
    either_true (first_is (of_kind OpenBrace) a) _ is (λ o. next_other_kind OpenBrace CloseBrace a refl o)
    (λ e. either_true (first_is (of_kind OpenBracket) a) (first_is (of_kind Less) a) e
    (λ o. next_other_kind OpenBracket CloseBrace a refl o) (λ l. next_other_kind Less CloseBrace a refl l))

word_no_close : (a : List Lexeme) → first_is (of_kind Identifier) a ≡ true → first_is (of_kind CloseBrace) a ≡ false
word_no_close a is = next_other_kind Identifier CloseBrace a refl is

-- a sign, and what belongs to it
record IsSigned (a : List Lexeme) : Type 0 where
  sign : IsNoBrace a
  no_close : first_is (of_kind CloseBrace) (others a) ≡ false

signed : (a : List Lexeme) → has_sign a ≡ true → IsSigned a
signed a is =
    either_true (is_joint_next a && (first_is (of_kind Identifier) (others a) || is_opening_next (others a)))
    (first_is (of_kind Colon) a && (is_whole_word (others a) || is_opening_next (others a))) is
    (λ e.
    let parts = and_parts (is_joint_next a)
    (first_is (of_kind Identifier) (others a) || is_opening_next (others a)) e in
    record {
      sign = joint_no_brace a parts.0;
      no_close = either_true (first_is (of_kind Identifier) (others a)) (is_opening_next (others a)) parts.1
          (word_no_close (others a)) (opening_no_close (others a));
    })
    (λ e.
    let parts = and_parts (first_is (of_kind Colon) a) (is_whole_word (others a) || is_opening_next (others a)) e in
    record {
      sign = of_no_brace Colon refl refl a parts.0;
      no_close = either_true (is_whole_word (others a)) (is_opening_next (others a)) parts.1
          (λ whole. word_no_close (others a) (whole_is_word (others a) whole)) (opening_no_close (others a));
    })

odd_closed : {depth : ℕ} (t : Lexeme) (rest : List Lexeme) {c : List Lexeme} → of_kind CloseBrace t ≡ false
    → IsClosed (suc depth) (t ∷ rest) c → IsClosed (suc depth) (past_odd (t ∷ rest)) c
odd_closed {depth} t rest {c} no_close p =
    chosen (has_sign (t ∷ rest)) {z = past_odd (t ∷ rest)} refl
    (λ is same.
    let its = signed (t ∷ rest) is in
    subst (λ (left : List Lexeme). IsClosed (suc depth) left c) same
    (past_one_closed rest its.no_close (behind_other p its.sign.no_open its.sign.no_close)))
    (λ _ same. subst (λ (left : List Lexeme). IsClosed (suc depth) left c) same (one_closed t rest no_close p))

-- ---- names of what is there

abbrev Adding : Type 1
Adding = Names → List Lexeme → Names → List Lexeme → Type 0

-- what stands here, with the names behind it, where the braces are still open
abbrev pub Given : Adding → Names → List Lexeme → (depth : ℕ) → (c : List Lexeme) → Type 0
Given Is names a depth c = (after : Names) × ((b : List Lexeme) × (Is names a after b × IsClosed (suc depth) b c))

module _ (ends : List Lexeme → Bool) (Step : Adding)
    (falls : (names after : Names) (a b : List Lexeme) → Step names a after b → length b < length a)
    (step : (names : Names) (a : List Lexeme) (depth : ℕ) (c : List Lexeme) → ends a ≡ false
    → IsClosed (suc depth) a c → Given Step names a depth c) where
  -- steps up to where they end
  abbrev All : Names → List Lexeme → (depth : ℕ) → (c : List Lexeme) → Type 0
  All names a depth c =
      (after : Names) × ((b : List Lexeme)
      × (Until ends Step names a after b × (IsClosed (suc depth) b c × (ends b ≡ true))))

  all_by : (room : ℕ) (names : Names) (a : List Lexeme) (depth : ℕ) (c : List Lexeme) → length a ≤ room
      → IsClosed (suc depth) a c → All names a depth c
  all_by room names [] depth c h p = absurd (never_closed p)
  all_by zero names (t ∷ rest) depth c h p = absurd (omega arith)
  all_by (suc room) names (t ∷ rest) depth c h p =
      by_test (ends (t ∷ rest)) (λ over. (names, (t ∷ rest, (done over, (p, over)))))
      (λ further.
      let first = step names (t ∷ rest) depth c further p in
      let shorter : length first.1.0 < length (t ∷ rest) = falls names first.0 (t ∷ rest) first.1.0 first.1.1.0 in
      let behind = all_by room first.0 first.1.0 depth c (omega (arith, shorter, h)) first.1.1.1 in
      (behind.0, (behind.1.0, (more further first.1.1.0 behind.1.1.0, behind.1.1.1))))

  all_given : (names : Names) (a : List Lexeme) (depth : ℕ) (c : List Lexeme) → IsClosed (suc depth) a c
      → All names a depth c
  all_given names a depth c p = all_by (length a) names a depth c (omega arith) p

odd_given : (names : Names) (a : List Lexeme) (depth : ℕ) (c : List Lexeme) → first_is (of_kind CloseBrace) a ≡ false
    → IsClosed (suc depth) a c → Given IsOdd names a depth c
odd_given names [] depth c no_close p = absurd (never_closed p)
odd_given names (t ∷ rest) depth c no_close p = (names, (past_odd (t ∷ rest), (odd, odd_closed t rest no_close p)))

word_given : (around : Option ℕ) (names : Names) (a : List Lexeme) (depth : ℕ) (c : List Lexeme)
    → is_whole_word a ≡ true → IsClosed (suc depth) a c → Given (IsWord around) names a depth c
word_given around names a depth c whole p =
    let w = next_found a (whole_is_word a whole) in (
      names ++ named Value around (one_word w.0) ∷ [],
      (others a, (a_word whole w.1, behind_kind Identifier refl refl w.1 p)),
    )

optional_given : (sign : TokenKind) → is_kind OpenBrace sign ≡ false → is_kind CloseBrace sign ≡ false
    → (a : List Lexeme) (depth : ℕ) (c : List Lexeme) → IsClosed (suc depth) a c
    → (b : List Lexeme) × (IsOptional sign a b × IsClosed (suc depth) b c)
optional_given sign no_open no_close a depth c p =
    by_test (first_is (of_kind sign) a)
    (λ is. let o = next_found a is in (others a, (there o.1, behind_kind sign no_open no_close o.1 p)))
    (λ isnt. (a, (missing isnt, p)))

abbrev pub MessageGiven : Message → Type 0
MessageGiven Is = (around : Option ℕ) (names : Names) (a : List Lexeme) (depth : ℕ) (c : List Lexeme)
    → is_message_next a ≡ true → IsClosed (suc depth) a c → Given (Is around) names a depth c

module _ (Is : Message) (given : MessageGiven Is)
    (elements_fall : (around : Option ℕ) (names after : Names) (a b : List Lexeme)
    → IsElement Is around names a after b → length b < length a)
    (items_fall : (around : Option ℕ) (names after : Names) (a b : List Lexeme)
    → IsItem Is around names a after b → length b < length a) where
  element_given : (around : Option ℕ) (names : Names) (a : List Lexeme) (depth : ℕ) (c : List Lexeme)
      → list_is_over a ≡ false → IsClosed (suc depth) a c → Given (IsElement Is around) names a depth c
  element_given around names a depth c further p =
      let no_close : first_is (of_kind CloseBrace) a ≡ false =
      (both_false (first_is (of_kind CloseBrace) a) (first_is (of_kind Greater) a)
      (both_false (first_is (of_kind CloseBracket) a) _ further).1).0 in
      by_test (is_message_next a)
      (λ is.
      let m = given around names a depth c is p in (m.0, (m.1.0, (message is m.1.1.0, m.1.1.1))))
      (λ no_message. by_test (is_whole_word a)
      (λ whole.
      let w = word_given around names a depth c whole p in (w.0, (w.1.0, (word w.1.1.0, w.1.1.1))))
      (λ no_word.
      let o = odd_given names a depth c no_close p in
      (o.0, (o.1.0, (other no_message no_word o.1.1.0, o.1.1.1)))))

  list_given : (around : Option ℕ) (names : Names) (a : List Lexeme) (depth : ℕ) (c : List Lexeme)
      → first_is (of_kind OpenBracket) a ≡ true → IsClosed (suc depth) a c
      → Given (IsListOf Is around) names a depth c
  list_given around names a depth c is p =
      let o = next_found a is in
      let all = all_given list_is_over (IsElement Is around) (elements_fall around) (element_given around) names
      (others a) depth c (behind_kind OpenBracket refl refl o.1 p) in
      let k = optional_given CloseBracket refl refl all.1.0 depth c all.1.1.1.0 in
      (all.0, (k.0, (list o.1 all.1.1.0 k.1.0, k.1.1)))

  value_given : (around : Option ℕ) (names : Names) (a : List Lexeme) (depth : ℕ) (c : List Lexeme)
      → IsClosed (suc depth) a c → Given (IsValue Is around) names a depth c
  value_given around names a depth c p =
      by_test (is_message_next a)
      (λ is.
      let m = given around names a depth c is p in (m.0, (m.1.0, (values-message is m.1.1.0, m.1.1.1))))
      (λ no_message. by_test (first_is (of_kind OpenBracket) a)
      (λ is.
      let l = list_given around names a depth c is p in (l.0, (l.1.0, (values-list l.1.1.0, l.1.1.1))))
      (λ no_list. by_test (is_whole_word a)
      (λ whole.
      let w = word_given around names a depth c whole p in (w.0, (w.1.0, (values-word w.1.1.0, w.1.1.1))))
      (λ no_word. (names, (a, (values-other no_message no_list no_word, p))))))

  item_given_by : (around : Option ℕ) (names : Names) (a : List Lexeme) (depth : ℕ) (c : List Lexeme)
      → first_is (of_kind CloseBrace) a ≡ false → IsClosed (suc depth) a c → Either (place_of 0 a)
      → Given (IsItem Is around) names a depth c
  item_given_by around names a depth c no_close p (inl none) =
      let o = odd_given names a depth c no_close p in
      (o.0, (o.1.0, (items-other (none_begins 0 a (place_of 0 a) none) o.1.1.0, o.1.1.1)))
  item_given_by around names a depth c no_close p (inr begun) =
      let behind = behind_field_name begun.begins.is p in
      let k = optional_given Colon refl refl begun.rest.left depth c behind in
      let v = value_given (Some (length names))
      (names ++ named begun.name.role around (plain begun.name.components) ∷ []) k.0 depth c k.1.1 in
      (v.0, (v.1.0, (field begun.begins k.1.0 v.1.1.0, v.1.1.1)))

  item_given : (closing : TokenKind) (around : Option ℕ) (names : Names) (a : List Lexeme) (depth : ℕ)
      (c : List Lexeme) → is_over closing a ≡ false → IsClosed (suc depth) a c
      → Given (IsItem Is around) names a depth c
  item_given closing around names a depth c further p =
      item_given_by around names a depth c
      (both_false (first_is (of_kind closing) a) (first_is (of_kind CloseBrace) a) further).1 p
      (begin_cases (place_of 0 a))

  -- what is behind a `{` closes it, and what is behind a `<` closes no brace
  braces_given : (around : Option ℕ) (names : Names) (a : List Lexeme) (depth : ℕ) (c : List Lexeme)
      → IsClosed (suc depth) a c
      → (after : Names) × ((b : List Lexeme) × (IsBody Is CloseBrace around names a after b × IsClosed depth b c))
  braces_given around names a depth c p =
      let all = all_given (is_over CloseBrace) (IsItem Is around) (items_fall around) (item_given CloseBrace around)
      names a depth c p in
      let over : first_is (of_kind CloseBrace) all.1.0 ≡ true =
      either_true (first_is (of_kind CloseBrace) all.1.0) (first_is (of_kind CloseBrace) all.1.0) all.1.1.1.1
      (λ is. is) (λ is. is) in
      let k = next_found all.1.0 over in
      (all.0, (others all.1.0, (body all.1.1.0 (there k.1), closes_one k.1 all.1.1.1.0)))
    where
      closes_one : {d : ℕ} {a b c : List Lexeme} {span : Span} → One (of_kind CloseBrace) a span b
          → IsClosed (suc d) a c → IsClosed d b c
      closes_one (one is) q = behind_close_brace q is

  angles_given : (around : Option ℕ) (names : Names) (a : List Lexeme) (depth : ℕ) (c : List Lexeme)
      → IsClosed (suc depth) a c → Given (IsBody Is Greater around) names a depth c
  angles_given around names a depth c p =
      let all = all_given (is_over Greater) (IsItem Is around) (items_fall around) (item_given Greater around)
      names a depth c p in
      let k = optional_given Greater refl refl all.1.0 depth c all.1.1.1.0 in
      (all.0, (k.0, (body all.1.1.0 k.1.0, k.1.1)))

-- ---- at any level

elements_shorter : (levels : ℕ) (around : Option ℕ) (names after : Names) (a b : List Lexeme)
    → IsElement (IsMessageWithin levels) around names a after b → length b < length a
elements_shorter levels around names after a b e =
    element_falls (message_at levels) (message_takes levels) around names (place_of 0 a) (after, place_of 0 b)
    (element_exact 0 (message_at levels) (message_takes levels) (IsMessageWithin levels) (message_exact 0 levels) around
    names after a b e)

items_shorter : (levels : ℕ) (around : Option ℕ) (names after : Names) (a b : List Lexeme)
    → IsItem (IsMessageWithin levels) around names a after b → length b < length a
items_shorter levels around names after a b i =
    item_falls (message_at levels) (message_takes levels) around names (place_of 0 a) (after, place_of 0 b)
    (item_exact 0 (message_at levels) (message_takes levels) (IsMessageWithin levels) (message_exact 0 levels) around
    names after a b i)

message_given : (levels : ℕ) → MessageGiven (IsMessageWithin levels)
unfolding IsMessageWithin
message_given zero around names a depth c is p =
    let no_close : first_is (of_kind CloseBrace) a ≡ false =
    either_true (first_is (of_kind OpenBrace) a) (first_is (of_kind Less) a) is
    (λ o. next_other_kind OpenBrace CloseBrace a refl o) (λ l. next_other_kind Less CloseBrace a refl l) in
    (names, (past_one a, ((refl, refl), past_one_closed a no_close p)))
message_given (suc levels) around names a depth c is p =
    by_test (first_is (of_kind OpenBrace) a)
    (λ opens.
    let o = next_found a opens in
    let b = braces_given (IsMessageWithin levels) (message_given levels) (elements_shorter levels)
    (items_shorter levels) around names (others a) (suc depth) c (opens_one o.1 p) in
    (b.0, (b.1.0, (braces o.1 b.1.1.0, b.1.1.1))))
    (λ no_open.
    let l = next_found a (less a no_open is) in
    let b = angles_given (IsMessageWithin levels) (message_given levels) (elements_shorter levels)
    (items_shorter levels) around names (others a) depth c (behind_kind Less refl refl l.1 p) in
    (b.0, (b.1.0, (angles l.1 b.1.1.0, b.1.1.1))))
  where
    opens_one : {d : ℕ} {a b c : List Lexeme} {span : Span} → One (of_kind OpenBrace) a span b
        → IsClosed (suc d) a c → IsClosed (suc (suc d)) b c
    opens_one (one is) q = behind_open_brace q is

    less : (tokens : List Lexeme) → first_is (of_kind OpenBrace) tokens ≡ false → is_message_next tokens ≡ true
        → first_is (of_kind Less) tokens ≡ true
    less tokens no_open is = rw no_open at is

-- no brace is open any more
all_closed : {b c : List Lexeme} → IsClosed zero b c → b ≡ c
all_closed closed = refl

-- Braces that are balanced are a message.
pub aggregate_given : (levels : ℕ) (around : Option ℕ) (names : Names) {a b c : List Lexeme} {span : Span}
    → One (of_kind OpenBrace) a span b → IsClosed 1 b c
    → (after : Names) × IsMessageWithin (suc levels) around names a after c
unfolding IsMessageWithin
aggregate_given levels around names {a} {b} {c} o p =
    let its = braces_given (IsMessageWithin levels) (message_given levels) (elements_shorter levels)
    (items_shorter levels) around names b zero c p in (
      its.0,
      subst (λ (d : List Lexeme). IsMessageWithin (suc levels) around names a its.0 d) (all_closed its.1.1.1)
          (braces o its.1.1.0),
    )
