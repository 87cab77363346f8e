-- What is read is in the grammar: fields, what is before a group's body, reserved statements and extension ranges.
use Rattle.std.proofs.Common.{◌≡◌, Bool, true, false, cond, Option, None, List, [], ◌∷◌, refl, subst, codes}
use Rattle.proto_lex.specs.declared.span.Span.{Span}
use Rattle.proto_lex.specs.declared.token.TokenKind.TheVariants.{Identifier, Integer, StringLiteral, Semicolon, Equals}
use Rattle.proto_lex.specs.declared.token.TokenKind.TheVariants.{OpenBrace, Less, Greater, Comma, Minus}
use Rattle.proto_grammar.specs.declared.dialect.CustomOptions.{CustomOptions}
use Rattle.proto_grammar.specs.declared.dialect.Syntax.{Syntax}
use Rattle.proto_grammar.specs.declared.dialect.Syntax.TheVariants.{Proto3, Extended, Proto2}
use Rattle.proto_grammar.specs.declared.tree.Heading.{Heading}
use Rattle.proto_grammar.specs.declared.tree.Label.{Label}
use Rattle.proto_grammar.specs.declared.tree.Field.{Field}
use Rattle.proto_grammar.specs.declared.tree.Group.{Group}
use Rattle.proto_grammar.specs.declared.tree.MapField.{MapField}
use Rattle.proto_grammar.specs.Lexeme.{Lexeme}
use Rattle.proto_grammar.specs.Terminal.{first_is, of_kind, is_word, is_group_name, is_key}
use Rattle.proto_grammar.specs.Terminal.{not_next}
use Rattle.proto_grammar.specs.Syntax.{is_proto2}
use Rattle.proto_grammar.specs.Grammar.Repetition.{One, Passes}
use Rattle.proto_grammar.specs.Grammar.Fields.{IsNumbered, IsTyped, IsLabel, IsField, IsGroupHead, IsMapField}
use Rattle.proto_grammar.specs.Grammar.Fields.IsNumbered.{numbered}
use Rattle.proto_grammar.specs.Grammar.Fields.IsTyped.{typed}
use Rattle.proto_grammar.specs.Grammar.Fields.IsLabel.{repeated, optional, required, no_label}
use Rattle.proto_grammar.specs.Grammar.Fields.IsField.{field}
use Rattle.proto_grammar.specs.Grammar.Fields.IsGroupHead.{group_head}
use Rattle.proto_grammar.specs.Grammar.Fields.IsMapField.{map_field}
use Rattle.proto_grammar.specs.Grammar.Reserved.{IsInteger, IsRangeEnd, IsRange, IsReservedItem, IsCommaItem}
use Rattle.proto_grammar.specs.Grammar.Reserved.{IsReserved, IsExtensions}
use Rattle.proto_grammar.specs.Grammar.Reserved.IsInteger.{plain, minus}
use Rattle.proto_grammar.specs.Grammar.Reserved.IsRangeEnd.{number, max}
use Rattle.proto_grammar.specs.Grammar.Reserved.IsRange.{single, range}
use Rattle.proto_grammar.specs.Grammar.Reserved.IsReservedItem.{name as a_name, number as a_number}
use Rattle.proto_grammar.specs.Grammar.Reserved.IsCommaItem.{comma_item}
use Rattle.proto_grammar.specs.Grammar.Reserved.IsReserved.{reserved}
use Rattle.proto_grammar.specs.Grammar.Reserved.IsExtensions.{extensions}
use Rattle.proto_grammar.specs.Reading.Repetition.{token_that, span_at, passing, until_at}
use Rattle.proto_grammar.specs.Reading.Names.{type_at, pass_type_at}
use Rattle.proto_grammar.specs.Reading.Options.{options_at}
use Rattle.proto_grammar.specs.Reading.Fields.{numbered_at, typed_at, required_at, label_at, pass_field_at}
use Rattle.proto_grammar.specs.Reading.Fields.{group_head_at, map_field_at}
use Rattle.proto_grammar.specs.Reading.Reserved.{plain_integer_at, integer_at, range_end_at, range_at, reserved_item_at}
use Rattle.proto_grammar.specs.Reading.Reserved.{comma_item_at, comma_items_at, reserved_at, extensions_at}
use Rattle.proto_grammar.proofs.RepetitionStepLemmas.{same_ok, bind_ok}
use Rattle.proto_lex.proofs.ReadingTestLemmas.{chosen}
use Rattle.proto_grammar.proofs.TerminalTokenLemmas.{token_found, next_found}
use Rattle.proto_grammar.proofs.RepetitionUntilLemmas.{until_at-found, passing-found}
use Rattle.proto_grammar.proofs.Found.Names.{type_found, pass_type_found}
use Rattle.proto_grammar.proofs.Found.Options.{left_of, options_found, strings_found}
use Rattle.std.proofs.Common.{Ok, ℕ}
use Rattle.proto_grammar.specs.Lexeme.{Place, place_of}

pub numbered_found : (custom : CustomOptions) (first : Span) (tokens : Place) (x : Heading × Place)
    → numbered_at custom first tokens ≡ Ok x → IsNumbered custom first tokens.left x.0 x.1.left
unfolding numbered_at
numbered_found custom first tokens x e =
    let n = bind_ok (token_that (of_kind Identifier) tokens) _ x e in
    let q = bind_ok (token_that (of_kind Equals) n.0.1) _ x n.2 in
    let i = bind_ok (token_that (of_kind Integer) q.0.1) _ x q.2 in
    let o = bind_ok (options_at custom i.0.1) _ x i.2 in
    let s = bind_ok (token_that (of_kind Semicolon) o.0.1) _ x o.2 in
    subst (λ (y : Heading × Place). IsNumbered custom first tokens.left y.0 y.1.left) (same_ok _ x s.2)
    (numbered (token_found _ _ n.1) (token_found _ _ q.1) (token_found _ _ i.1) (options_found custom _ _ o.1)
    (token_found _ _ s.1))

pub typed_found : (custom : CustomOptions) (first : Span) (label : Option Label) (tokens : Place)
    (x : Field × Place)
    → typed_at custom first label tokens ≡ Ok x → IsTyped custom first label tokens.left x.0 x.1.left
unfolding typed_at
typed_found custom first label tokens x e =
    let t = bind_ok (type_at tokens) _ x e in
    let n = bind_ok (numbered_at custom first t.0.1) _ x t.2 in
    subst (λ (y : Field × Place). IsTyped custom first label tokens.left y.0 y.1.left) (same_ok _ x n.2)
    (typed (type_found _ _ t.1) (numbered_found custom first _ _ n.1))

required_found : (tokens : Place) (x : Option Label × Place) → required_at tokens ≡ Ok x
    → IsLabel Proto2 tokens.left x.0 x.1.left
unfolding required_at
required_found tokens x e =
    let w = bind_ok (token_that (is_word (codes "required")) tokens) _ x e in
    subst (λ (y : Option Label × Place). IsLabel Proto2 tokens.left y.0 y.1.left) (same_ok _ x w.2)
    (required (token_found _ _ w.1))

pub label_found : (syntax : Syntax) (tokens : Place) (x : Option Label × Place)
    → label_at syntax tokens ≡ Ok x → IsLabel syntax tokens.left x.0 x.1.left
unfolding label_at
label_found syntax tokens x e =
    chosen (first_is (is_word (codes "repeated")) tokens.left) {z = Ok x} e
    (λ is read. subst (λ (y : Option Label × Place). IsLabel syntax tokens.left y.0 y.1.left) (same_ok _ x read)
    (repeated (next_found tokens.left is).1))
    (λ no_repeated read. chosen (first_is (is_word (codes "optional")) tokens.left) {z = Ok x} read
    (λ is read. subst (λ (y : Option Label × Place). IsLabel syntax tokens.left y.0 y.1.left) (same_ok _ x read)
    (optional (next_found tokens.left is).1))
    (λ no_optional read. by_syntax syntax no_repeated no_optional read))
  where
    by_syntax : (syntax : Syntax) → first_is (is_word (codes "repeated")) tokens.left ≡ false
        → first_is (is_word (codes "optional")) tokens.left ≡ false
        → cond (is_proto2 syntax) (required_at tokens) (Ok (None, tokens)) ≡ Ok x
        → IsLabel syntax tokens.left x.0 x.1.left
    by_syntax Proto2 no_repeated no_optional read = required_found tokens x read
    by_syntax (Proto3 custom) no_repeated no_optional read =
        subst (λ (y : Option Label × Place). IsLabel (Proto3 custom) tokens.left y.0 y.1.left) (same_ok _ x read)
        (no_label refl no_repeated no_optional)
    by_syntax Extended no_repeated no_optional read =
        subst (λ (y : Option Label × Place). IsLabel Extended tokens.left y.0 y.1.left) (same_ok _ x read)
        (no_label refl no_repeated no_optional)

pub group_head_found : (custom : CustomOptions) (first : Span) (label : Option Label) (tokens : Place)
    (x : Group × Place)
    → group_head_at custom first label tokens ≡ Ok x → IsGroupHead custom first label tokens.left x.0 x.1.left
unfolding group_head_at
group_head_found custom first label tokens x e =
    let w = bind_ok (token_that (is_word (codes "group")) tokens) _ x e in
    let n = bind_ok (token_that is_group_name w.0.1) _ x w.2 in
    let q = bind_ok (token_that (of_kind Equals) n.0.1) _ x n.2 in
    let i = bind_ok (token_that (of_kind Integer) q.0.1) _ x q.2 in
    let o = bind_ok (options_at custom i.0.1) _ x i.2 in
    let c = bind_ok (token_that (of_kind OpenBrace) o.0.1) _ x o.2 in
    subst (λ (y : Group × Place). IsGroupHead custom first label tokens.left y.0 y.1.left) (same_ok _ x c.2)
    (group_head (token_found _ _ w.1) (token_found _ _ n.1) (token_found _ _ q.1) (token_found _ _ i.1)
    (options_found custom _ _ o.1) (token_found _ _ c.1))

pass_field_by_found : (custom : CustomOptions) (left : List Lexeme) (end : ℕ) (x : Unit {0} × Place)
    → pass_field_at custom (place_of end left) ≡ Ok x → (f : Field) × IsField custom left f x.1.left
unfolding pass_field_at span_at
pass_field_by_found custom [] end x e = cc
pass_field_by_found custom (t ∷ rest) end x e =
    let l = bind_ok (label_at (Proto3 custom) (place_of end (t ∷ rest))) _ x e in
    let n = bind_ok (pass_type_at l.0.1) _ x l.2 in
    let h = bind_ok (numbered_at custom t.span n.0.1) _ x n.2 in
    let type = pass_type_found _ _ n.1 in (
      record { heading = h.0.0; label = l.0.0; field_type = type.0 },
      subst (λ (y : Place). IsField custom (t ∷ rest)
          (record { heading = h.0.0; label = l.0.0; field_type = type.0 }) y.left) (left_of x h.2)
          (field (label_found (Proto3 custom) _ _ l.1) (typed type.1 (numbered_found custom t.span _ _ h.1))),
    )

pub pass_field_found : (custom : CustomOptions) (tokens : Place) (x : Unit {0} × Place)
    → pass_field_at custom tokens ≡ Ok x → (f : Field) × IsField custom tokens.left f x.1.left
pass_field_found custom tokens x e = pass_field_by_found custom tokens.left tokens.end x e

pub map_field_found : (custom : CustomOptions) (tokens : Place) (x : MapField × Place)
    → map_field_at custom tokens ≡ Ok x → IsMapField custom tokens.left x.0 x.1.left
unfolding map_field_at
map_field_found custom tokens x e =
    let f = bind_ok (token_that (is_word (codes "map")) tokens) _ x e in
    let l = bind_ok (token_that (of_kind Less) f.0.1) _ x f.2 in
    let k = bind_ok (token_that is_key l.0.1) _ x l.2 in
    let c = bind_ok (token_that (of_kind Comma) k.0.1) _ x k.2 in
    let v = bind_ok (type_at c.0.1) _ x c.2 in
    let g = bind_ok (token_that (of_kind Greater) v.0.1) _ x v.2 in
    let h = bind_ok (numbered_at custom f.0.0 g.0.1) _ x g.2 in
    subst (λ (y : MapField × Place). IsMapField custom tokens.left y.0 y.1.left) (same_ok _ x h.2)
    (map_field (token_found _ _ f.1) (token_found _ _ l.1) (token_found _ _ k.1) (token_found _ _ c.1)
    (type_found _ _ v.1) (token_found _ _ g.1) (numbered_found custom f.0.0 _ _ h.1))

plain_integer_found : (tokens : Place) (x : Unit {0} × Place) → plain_integer_at tokens ≡ Ok x
    → (span : Span) × One (of_kind Integer) tokens.left span x.1.left
unfolding plain_integer_at
plain_integer_found tokens x e =
    let i = bind_ok (token_that (of_kind Integer) tokens) _ x e in
    (i.0.0, subst (λ (y : Place). One (of_kind Integer) tokens.left i.0.0 y.left) (left_of x i.2) (token_found _ _ i.1))

pub integer_found : (negative : Bool) (tokens : Place) (x : Unit {0} × Place)
    → integer_at negative tokens ≡ Ok x → IsInteger negative tokens.left x.1.left
unfolding integer_at
integer_found false tokens x e = plain (plain_integer_found _ _ e).1
integer_found true tokens x e =
    chosen (first_is (of_kind Minus) tokens.left) {z = Ok x} e
    (λ is read. minus (next_found tokens.left is).1 (plain_integer_found _ _ read).1)
    (λ _ read. plain (plain_integer_found _ _ read).1)

range_end_found : (negative : Bool) (tokens : Place) (x : Unit {0} × Place)
    → range_end_at negative tokens ≡ Ok x → IsRangeEnd negative tokens.left x.1.left
unfolding range_end_at
range_end_found negative tokens x e =
    chosen (first_is (is_word (codes "max")) tokens.left) {z = Ok x} e
    (λ is read. subst (λ (y : Place). IsRangeEnd negative tokens.left y.left) (left_of x read)
    (max (next_found tokens.left is).1))
    (λ _ read. number (integer_found negative _ _ read))

range_found : (negative : Bool) (tokens : Place) (x : Unit {0} × Place) → range_at negative tokens ≡ Ok x
    → IsRange negative tokens.left x.1.left
unfolding range_at
range_found negative tokens x e =
    let i = bind_ok (integer_at negative tokens) _ x e in
    chosen (first_is (is_word (codes "to")) i.0.1.left) {z = Ok x} i.2
    (λ is read. range (integer_found negative _ _ i.1) (next_found i.0.1.left is).1 (range_end_found negative _ _ read))
    (λ not read.
    subst (λ (y : Place). IsRange negative tokens.left y.left) (left_of x read)
    (single (integer_found negative _ _ i.1) not))

reserved_item_found : (negative names : Bool) (tokens : Place) (x : Unit {0} × Place)
    → reserved_item_at negative names tokens ≡ Ok x → IsReservedItem negative names tokens.left x.1.left
unfolding reserved_item_at
reserved_item_found negative true tokens x e = a_name (strings_found _ _ e)
reserved_item_found negative false tokens x e = a_number (range_found negative _ _ e)

pub comma_item_found : (negative names : Bool) (tokens : Place) (x : Unit {0} × Place)
    → comma_item_at negative names tokens ≡ Ok x → IsCommaItem negative names tokens.left x.1.left
unfolding comma_item_at
comma_item_found negative names tokens x e =
    let c = bind_ok (token_that (of_kind Comma) tokens) _ x e in
    comma_item (token_found _ _ c.1) (reserved_item_found negative names _ _ c.2)

pub reserved_found : (negative : Bool) (tokens : Place) (x : Unit {0} × Place)
    → reserved_at negative tokens ≡ Ok x → IsReserved negative tokens.left x.1.left
unfolding reserved_at comma_items_at
reserved_found negative tokens x e =
    let k = bind_ok (token_that (is_word (codes "reserved")) tokens) _ x e in
    let i = bind_ok (reserved_item_at negative (first_is (of_kind StringLiteral) k.0.1.left) k.0.1) _ x k.2 in
    let m = bind_ok (until_at (not_next Comma)
    (passing (comma_item_at negative (first_is (of_kind StringLiteral) k.0.1.left))) tt i.0.1) _ x i.2 in
    let s = bind_ok (token_that (of_kind Semicolon) m.0.1) _ x m.2 in
    subst (λ (y : Place). IsReserved negative tokens.left y.left) (left_of x s.2)
    (reserved (token_found _ _ k.1) refl (reserved_item_found negative (first_is (of_kind StringLiteral) k.0.1.left) _
    _ i.1)
    (until_at-found (not_next Comma) (passing (comma_item_at negative (first_is (of_kind StringLiteral) k.0.1.left)))
    (Passes (IsCommaItem negative (first_is (of_kind StringLiteral) k.0.1.left)))
    (passing-found (comma_item_at negative (first_is (of_kind StringLiteral) k.0.1.left))
    (IsCommaItem negative (first_is (of_kind StringLiteral) k.0.1.left))
    (comma_item_found negative (first_is (of_kind StringLiteral) k.0.1.left))) tt i.0.1 m.0 m.1)
    (token_found _ _ s.1))

pub extensions_found : (custom : CustomOptions) (tokens : Place) (x : Unit {0} × Place)
    → extensions_at custom tokens ≡ Ok x → IsExtensions custom tokens.left x.1.left
unfolding extensions_at comma_items_at
extensions_found custom tokens x e =
    let k = bind_ok (token_that (is_word (codes "extensions")) tokens) _ x e in
    let r = bind_ok (range_at false k.0.1) _ x k.2 in
    let m = bind_ok (until_at (not_next Comma) (passing (comma_item_at false false)) tt r.0.1) _ x r.2 in
    let o = bind_ok (options_at custom m.0.1) _ x m.2 in
    let s = bind_ok (token_that (of_kind Semicolon) o.0.1) _ x o.2 in
    subst (λ (y : Place). IsExtensions custom tokens.left y.left) (left_of x s.2)
    (extensions (token_found _ _ k.1) (range_found false _ _ r.1)
    (until_at-found (not_next Comma) (passing (comma_item_at false false)) (Passes (IsCommaItem false false))
    (passing-found (comma_item_at false false) (IsCommaItem false false) (comma_item_found false false)) tt r.0.1 m.0
    m.1)
    (options_found custom _ _ o.1) (token_found _ _ s.1))
