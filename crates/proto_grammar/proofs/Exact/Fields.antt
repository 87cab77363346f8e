-- What is in the grammar is read: fields, what is before a group's body, reserved statements and extension ranges.
use Rattle.std.proofs.Common.{◌≡◌, ℕ, Bool, true, false, Option, List, refl, codes}
use Rattle.proto_lex.specs.declared.span.Span.{Span}
use Rattle.proto_lex.specs.declared.token.TokenKind.TheVariants.{Integer, Comma, Minus}
use Rattle.proto_grammar.specs.declared.dialect.CustomOptions.{CustomOptions}
use Rattle.proto_grammar.specs.declared.dialect.Syntax.{Syntax}
use Rattle.proto_grammar.specs.declared.tree.Heading.{Heading}
use Rattle.proto_grammar.specs.declared.tree.Label.{Label}
use Rattle.proto_grammar.specs.declared.tree.Field.{Field}
use Rattle.proto_grammar.specs.declared.tree.Group.{Group}
use Rattle.proto_grammar.specs.declared.tree.MapField.{MapField}
use Rattle.proto_grammar.specs.Lexeme.{Lexeme}
use Rattle.proto_grammar.specs.Terminal.{first_is, is_word, not_next}
use Rattle.proto_grammar.specs.Grammar.Repetition.{Passes}
use Rattle.proto_grammar.specs.Grammar.Fields.{IsNumbered, IsTyped, IsLabel, IsField, IsGroupHead, IsMapField}
use Rattle.proto_grammar.specs.Grammar.Fields.IsNumbered.{numbered}
use Rattle.proto_grammar.specs.Grammar.Fields.IsTyped.{typed}
use Rattle.proto_grammar.specs.Grammar.Fields.IsLabel.{repeated, optional, required, no_label}
use Rattle.proto_grammar.specs.Grammar.Fields.IsField.{field}
use Rattle.proto_grammar.specs.Grammar.Fields.IsGroupHead.{group_head}
use Rattle.proto_grammar.specs.Grammar.Fields.IsMapField.{map_field}
use Rattle.proto_grammar.specs.Grammar.Reserved.{IsInteger, IsRangeEnd, IsRange, IsReservedItem, IsCommaItem}
use Rattle.proto_grammar.specs.Grammar.Reserved.{IsReserved, IsExtensions}
use Rattle.proto_grammar.specs.Grammar.Reserved.IsInteger.{plain, minus}
use Rattle.proto_grammar.specs.Grammar.Reserved.IsRangeEnd.{number, max}
use Rattle.proto_grammar.specs.Grammar.Reserved.IsRange.{single, range}
use Rattle.proto_grammar.specs.Grammar.Reserved.IsReservedItem.{name as a_name, number as a_number}
use Rattle.proto_grammar.specs.Grammar.Reserved.IsCommaItem.{comma_item}
use Rattle.proto_grammar.specs.Grammar.Reserved.IsReserved.{reserved}
use Rattle.proto_grammar.specs.Grammar.Reserved.IsExtensions.{extensions}
use Rattle.proto_grammar.specs.Reading.Repetition.{span_at, passing}
use Rattle.proto_grammar.specs.Reading.Fields.{numbered_at, typed_at, required_at, label_at, pass_field_at}
use Rattle.proto_grammar.specs.Reading.Fields.{group_head_at, map_field_at}
use Rattle.proto_grammar.specs.Reading.Reserved.{plain_integer_at, integer_at, range_end_at, range_at, reserved_item_at}
use Rattle.proto_grammar.specs.Reading.Reserved.{comma_item_at, comma_items_at, reserved_at, extensions_at}
use Rattle.proto_grammar.proofs.TerminalTokenLemmas.{token_exact, one_next, one_others, next_other_kind, next_no_word}
use Rattle.proto_grammar.proofs.TerminalTokenLemmas.{next_other_word}
use Rattle.proto_grammar.proofs.RepetitionUntilLemmas.{until_at-exact, passing-exact}
use Rattle.proto_grammar.proofs.RepetitionFallLemmas.{comma_items_fall}
use Rattle.proto_grammar.proofs.Exact.Names.{type_exact, pass_type_exact}
use Rattle.proto_grammar.proofs.Exact.Options.{options_exact, strings_exact}
use Rattle.std.proofs.Common.{Ok}
use Rattle.proto_grammar.specs.Lexeme.{place_of}

module _ (end : ℕ) where
  numbered_exact : {custom : CustomOptions} {first : Span} {a b : List Lexeme} {x : Heading}
      → IsNumbered custom first a x b → numbered_at custom first (place_of end a) ≡ Ok (x, place_of end b)
  unfolding numbered_at
  numbered_exact (numbered n q i o s) =
      rw (token_exact end n, token_exact end q, token_exact end i, options_exact end o, token_exact end s) refl

  pub typed_exact : {custom : CustomOptions} {first : Span} {label : Option Label} {a b : List Lexeme} {x : Field}
      → IsTyped custom first label a x b → typed_at custom first label (place_of end a) ≡ Ok (x, place_of end b)
  unfolding typed_at
  typed_exact (typed t n) = rw (type_exact end t, numbered_exact n) refl

  pub label_exact : {syntax : Syntax} {a b : List Lexeme} {x : Option Label} → IsLabel syntax a x b
      → label_at syntax (place_of end a) ≡ Ok (x, place_of end b)
  unfolding label_at required_at
  label_exact (repeated w) = rw (one_next w, one_others w) refl
  label_exact (optional {a = a} w) =
      rw (next_other_word (codes "optional") (codes "repeated") a refl (one_next w), one_next w, one_others w) refl
  label_exact (required {a = a} w) =
      rw (
        next_other_word (codes "required") (codes "repeated") a refl (one_next w),
        next_other_word (codes "required") (codes "optional") a refl (one_next w),
        token_exact end w,
      ) refl
  label_exact (no_label is p q) = rw (p, q, is) refl

  pub group_head_exact : {custom : CustomOptions} {first : Span} {label : Option Label} {a b : List Lexeme} {x : Group}
      → IsGroupHead custom first label a x b
      → group_head_at custom first label (place_of end a) ≡ Ok (x, place_of end b)
  unfolding group_head_at
  group_head_exact (group_head w n q i o c) =
      rw (
        token_exact end w,
        token_exact end n,
        token_exact end q,
        token_exact end i,
        options_exact end o,
        token_exact
            end c,
      ) refl

  pub pass_field_exact : {custom : CustomOptions} {a b : List Lexeme} {x : Field} → IsField custom a x b
      → pass_field_at custom (place_of end a) ≡ Ok (tt, place_of end b)
  unfolding pass_field_at span_at
  pass_field_exact (field l (typed t n)) = rw (label_exact l, pass_type_exact end t, numbered_exact n) refl

  pub map_field_exact : {custom : CustomOptions} {a b : List Lexeme} {x : MapField} → IsMapField custom a x b
      → map_field_at custom (place_of end a) ≡ Ok (x, place_of end b)
  unfolding map_field_at
  map_field_exact (map_field f l k c v g h) =
      rw (
        token_exact end f,
        token_exact end l,
        token_exact end k,
        token_exact end c,
        type_exact end v,
        token_exact end
            g,
        numbered_exact h,
      ) refl

  pub integer_exact : {negative : Bool} {a b : List Lexeme} → IsInteger negative a b
      → integer_at negative (place_of end a) ≡ Ok (tt, place_of end b)
  unfolding integer_at plain_integer_at
  integer_exact (plain {negative = true} {a = a} n) =
      rw (next_other_kind Integer Minus a refl (one_next n), token_exact end n) refl
  integer_exact (plain {negative = false} n) = rw (token_exact end n) refl
  integer_exact (minus m n) = rw (one_next m, one_others m, token_exact end n) refl

  integer_no_word : (word : List ℕ) {negative : Bool} {a b : List Lexeme} → IsInteger negative a b
      → first_is (is_word word) a ≡ false
  integer_no_word word (plain {a = a} n) = next_no_word Integer word a refl (one_next n)
  integer_no_word word (minus {a = a} m n) = next_no_word Minus word a refl (one_next m)

  range_end_exact : {negative : Bool} {a b : List Lexeme} → IsRangeEnd negative a b
      → range_end_at negative (place_of end a) ≡ Ok (tt, place_of end b)
  unfolding range_end_at
  range_end_exact (number i) = rw (integer_no_word (codes "max") i) (integer_exact i)
  range_end_exact (max w) = rw (one_next w, one_others w) refl

  range_exact : {negative : Bool} {a b : List Lexeme} → IsRange negative a b
      → range_at negative (place_of end a) ≡ Ok (tt, place_of end b)
  unfolding range_at
  range_exact (single i none_next) = rw (integer_exact i, none_next) refl
  range_exact (range i w e) = rw (integer_exact i, one_next w, one_others w) (range_end_exact e)

  reserved_item_exact : {negative names : Bool} {a b : List Lexeme} → IsReservedItem negative names a b
      → reserved_item_at negative names (place_of end a) ≡ Ok (tt, place_of end b)
  unfolding reserved_item_at
  reserved_item_exact (a_name t) = strings_exact end t
  reserved_item_exact (a_number r) = range_exact r

  comma_item_exact : (negative names : Bool) (a b : List Lexeme) → IsCommaItem negative names a b
      → comma_item_at negative names (place_of end a) ≡ Ok (tt, place_of end b)
  unfolding comma_item_at
  comma_item_exact negative names a b (comma_item c i) = rw (token_exact end c) (reserved_item_exact i)

  pub reserved_exact : {negative : Bool} {a b : List Lexeme} → IsReserved negative a b
      → reserved_at negative (place_of end a) ≡ Ok (tt, place_of end b)
  unfolding reserved_at comma_items_at
  reserved_exact {negative} (reserved {names} k is i u s) =
      rw (
        token_exact end k,
        is,
        reserved_item_exact i,
        until_at-exact end (not_next Comma) (passing (comma_item_at negative names))
            (Passes (IsCommaItem negative names))
            (comma_items_fall negative names)
            (passing-exact end (comma_item_at negative names) (IsCommaItem negative names)
            (comma_item_exact negative names))
            u,
        token_exact end s,
      ) refl

  pub extensions_exact : {custom : CustomOptions} {a b : List Lexeme} → IsExtensions custom a b
      → extensions_at custom (place_of end a) ≡ Ok (tt, place_of end b)
  unfolding extensions_at comma_items_at
  extensions_exact (extensions k r u o s) =
      rw (
        token_exact end k,
        range_exact r,
        until_at-exact end (not_next Comma) (passing (comma_item_at false false)) (Passes (IsCommaItem false false))
            (comma_items_fall false false)
            (passing-exact end (comma_item_at false false) (IsCommaItem false false) (comma_item_exact false false)) u,
        options_exact end o,
        token_exact end s,
      ) refl
