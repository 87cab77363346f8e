-- What is in the grammar leaves fewer tokens.
use Rattle.std.proofs.Common.{ℕ, ◌<◌, ◌≤◌, Bool, Option, List, length, arith}
use Rattle.proto_lex.specs.declared.span.Span.{Span}
use Rattle.proto_grammar.specs.declared.dialect.CustomOptions.{CustomOptions}
use Rattle.proto_grammar.specs.declared.tree.TypeName.{TypeName}
use Rattle.proto_grammar.specs.Lexeme.{Lexeme}
use Rattle.proto_grammar.specs.Grammar.Names.{IsDotName, IsName, IsTypeName}
use Rattle.proto_grammar.specs.Grammar.Names.IsDotName.{dot_name}
use Rattle.proto_grammar.specs.Grammar.Names.IsName.{name}
use Rattle.proto_grammar.specs.Grammar.Names.IsTypeName.{rooted, plain as plain_name}
use Rattle.proto_grammar.specs.Grammar.Options.{IsOptionPart, IsDotPart, IsOptionName, IsLiteral, IsStrings, IsClosed}
use Rattle.proto_grammar.specs.Grammar.Options.{IsConstant, IsSetting, IsCommaSetting}
use Rattle.proto_grammar.specs.Grammar.Options.IsOptionPart.{plain as plain_part, extension}
use Rattle.proto_grammar.specs.Grammar.Options.IsDotPart.{dot_part}
use Rattle.proto_grammar.specs.Grammar.Options.IsOptionName.{option_name}
use Rattle.proto_grammar.specs.Grammar.Options.IsLiteral.{literal}
use Rattle.proto_grammar.specs.Grammar.Options.IsStrings.{strings}
use Rattle.proto_grammar.specs.Grammar.Options.IsClosed.{closed, open_brace, close_brace, other}
use Rattle.proto_grammar.specs.Grammar.Options.IsConstant.{name as a_name, signed, unsigned, strings as some_strings}
use Rattle.proto_grammar.specs.Grammar.Options.IsConstant.{aggregate}
use Rattle.proto_grammar.specs.Grammar.Options.IsSetting.{setting}
use Rattle.proto_grammar.specs.Grammar.Options.IsCommaSetting.{comma_setting}
use Rattle.proto_grammar.specs.Grammar.Reserved.{IsInteger, IsRangeEnd, IsRange, IsReservedItem, IsCommaItem}
use Rattle.proto_grammar.specs.Grammar.Reserved.IsInteger.{plain, minus}
use Rattle.proto_grammar.specs.Grammar.Reserved.IsRangeEnd.{number, max}
use Rattle.proto_grammar.specs.Grammar.Reserved.IsRange.{single, range}
use Rattle.proto_grammar.specs.Grammar.Reserved.IsReservedItem.{name as reserved_name, number as reserved_number}
use Rattle.proto_grammar.specs.Grammar.Reserved.IsCommaItem.{comma_item}
use Rattle.proto_grammar.proofs.TerminalTokenLemmas.{one_shorter}
use Rattle.proto_grammar.proofs.RepetitionUntilLemmas.{Until-shorter, Adds-shorter, Passes-shorter}

pub dot_name_shorter : (a b : List Lexeme) (x : Option Span) → IsDotName a x b → length b < length a
dot_name_shorter a b x (dot_name d n) = omega (arith, one_shorter d, one_shorter n)

pub name_shorter : {a b : List Lexeme} {x : List Span} → IsName a x b → length b < length a
name_shorter (name t u) =
    omega (arith, one_shorter t, Until-shorter (Adds-shorter IsDotName dot_name_shorter) _ _ _ _ u)

pub type_name_shorter : {a b : List Lexeme} {x : TypeName} → IsTypeName a x b → length b < length a
type_name_shorter (rooted d n) = omega (arith, one_shorter d, name_shorter n)
type_name_shorter (plain_name n) = name_shorter n

part_shorter : {custom : CustomOptions} {a b : List Lexeme} → IsOptionPart custom a b → length b < length a
part_shorter (plain_part n) = one_shorter n
part_shorter (extension o n c) = omega (arith, one_shorter o, type_name_shorter n, one_shorter c)

pub dot_part_shorter : (custom : CustomOptions) (a b : List Lexeme) → IsDotPart custom a b → length b < length a
dot_part_shorter custom a b (dot_part d p) = omega (arith, one_shorter d, part_shorter p)

option_name_shorter : {custom : CustomOptions} {a b : List Lexeme} → IsOptionName custom a b → length b < length a
option_name_shorter {custom} (option_name p u) =
    omega (arith, part_shorter p, Until-shorter (Passes-shorter (IsDotPart custom) (dot_part_shorter custom)) _ _ _ _ u)

pub literal_shorter : (a b : List Lexeme) → IsLiteral a b → length b < length a
literal_shorter a b (literal t) = one_shorter t

strings_shorter : {a b : List Lexeme} → IsStrings a b → length b < length a
strings_shorter (strings l u) =
    omega (arith, literal_shorter _ _ l, Until-shorter (Passes-shorter IsLiteral literal_shorter) _ _ _ _ u)

closed_shorter : {depth : ℕ} {a b : List Lexeme} → IsClosed depth a b → length b ≤ length a
closed_shorter closed = omega arith
closed_shorter (open_brace o behind) = omega (arith, one_shorter o, closed_shorter behind)
closed_shorter (close_brace c behind) = omega (arith, one_shorter c, closed_shorter behind)
closed_shorter (other p q t behind) = omega (arith, one_shorter t, closed_shorter behind)

constant_shorter : {custom : CustomOptions} {a b : List Lexeme} → IsConstant custom a b → length b < length a
constant_shorter (a_name n) = name_shorter n
constant_shorter (signed s n) = omega (arith, one_shorter s, one_shorter n)
constant_shorter (unsigned n) = one_shorter n
constant_shorter (some_strings t) = strings_shorter t
constant_shorter (aggregate o behind) = omega (arith, one_shorter o, closed_shorter behind)

setting_shorter : {custom : CustomOptions} {a b : List Lexeme} → IsSetting custom a b → length b < length a
setting_shorter (setting n q c) = omega (arith, option_name_shorter n, one_shorter q, constant_shorter c)

pub comma_setting_shorter : (custom : CustomOptions) (a b : List Lexeme) → IsCommaSetting custom a b
    → length b < length a
comma_setting_shorter custom a b (comma_setting c s) = omega (arith, one_shorter c, setting_shorter s)

pub integer_shorter : {negative : Bool} {a b : List Lexeme} → IsInteger negative a b → length b < length a
integer_shorter (plain n) = one_shorter n
integer_shorter (minus m n) = omega (arith, one_shorter m, one_shorter n)

range_end_shorter : {negative : Bool} {a b : List Lexeme} → IsRangeEnd negative a b → length b < length a
range_end_shorter (number i) = integer_shorter i
range_end_shorter (max w) = one_shorter w

range_shorter : {negative : Bool} {a b : List Lexeme} → IsRange negative a b → length b < length a
range_shorter (single i none_next) = integer_shorter i
range_shorter (range i w e) = omega (arith, integer_shorter i, one_shorter w, range_end_shorter e)

reserved_item_shorter : {negative names : Bool} {a b : List Lexeme} → IsReservedItem negative names a b
    → length b < length a
reserved_item_shorter (reserved_name t) = strings_shorter t
reserved_item_shorter (reserved_number r) = range_shorter r

pub comma_item_shorter : (negative names : Bool) (a b : List Lexeme) → IsCommaItem negative names a b
    → length b < length a
comma_item_shorter negative names a b (comma_item c i) = omega (arith, one_shorter c, reserved_item_shorter i)
