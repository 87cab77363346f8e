-- The statements of the grammar end with a token of their own, which is no word.
use Rattle.std.proofs.Common.{◌≡◌, ℕ, zero, suc, Bool, true, false, Option, List, inl, inr, refl}
use Rattle.std.specs.Prelude.{is_some}
use Rattle.proto_lex.specs.declared.span.Span.{Span}
use Rattle.proto_lex.specs.declared.token.TokenKind.{TokenKind}
use Rattle.proto_lex.specs.declared.token.TokenKind.TheVariants.{Identifier, Semicolon, OpenBrace, CloseBrace}
use Rattle.proto_grammar.specs.declared.dialect.CustomOptions.{CustomOptions}
use Rattle.proto_grammar.specs.declared.dialect.CustomOptions.TheVariants.{Refuse, Skip}
use Rattle.proto_grammar.specs.declared.dialect.Dialect.{Dialect}
use Rattle.proto_grammar.specs.declared.dialect.Syntax.{Syntax}
use Rattle.proto_grammar.specs.declared.dialect.Syntax.TheVariants.{Proto3, Extended, Proto2}
use Rattle.proto_grammar.specs.declared.tree.Label.{Label}
use Rattle.proto_grammar.specs.declared.tree.Item.{Item}
use Rattle.proto_grammar.specs.declared.tree.File.{File}
use Rattle.proto_grammar.specs.Syntax.{custom_of}
use Rattle.proto_grammar.specs.Terminal.{is_kind}
use Rattle.proto_grammar.proofs.TerminalTokenLemmas.{other_kind}
use Rattle.proto_steps.specs.Step.{Step, when}
use Rattle.proto_steps.specs.Terminals.{sign}
use Rattle.proto_steps.specs.Grammar.Parts.{option_statement, numbered, typed, group_head, map_field, reserved}
use Rattle.proto_steps.specs.Grammar.Parts.{extensions}
use Rattle.proto_steps.specs.Grammar.Definitions.{heading, enumeration, Inside, braced, group, labelled, member}
use Rattle.proto_steps.specs.Grammar.Definitions.{oneof_member, oneof_item, oneof, extend_item, extend, passed_extend}
use Rattle.proto_steps.specs.Grammar.Definitions.{extend_statement, message, ranges, field_of_map, declared_map}
use Rattle.proto_steps.specs.Grammar.Definitions.{map_item, message_item, inside, service, syntax_statement, import}
use Rattle.proto_steps.specs.Grammar.Definitions.{package_statement, only_package, file_statement}
use Rattle.proto_steps.specs.Grammar.Definitions.Inside.{NoLevel, Level}
use Rattle.proto_steps.proofs.EndLemmas.{Ends}

sign_ends : (kind : TokenKind) → is_kind Identifier kind ≡ false → Ends (sign kind)
sign_ends kind differs = λ t is. other_kind kind Identifier t differs is

semicolon_ends : Ends (sign Semicolon)
semicolon_ends = sign_ends Semicolon refl

pub open_ends : Ends (sign OpenBrace)
open_ends = sign_ends OpenBrace refl

close_ends : Ends (sign CloseBrace)
close_ends = sign_ends CloseBrace refl

-- ---- parts

option_ends : (custom : CustomOptions) → Ends (option_statement custom)
unfolding option_statement
option_ends custom = inl (λ keyword. inl (λ given. inr (semicolon_ends, λ x. tt)))

numbered_ends : (custom : CustomOptions) (first : Span) → Ends (numbered custom first)
unfolding numbered
numbered_ends custom first =
    inl (λ named. inl (λ equals. inl (λ value. inl (λ given. inr (semicolon_ends, λ x. tt)))))

typed_ends : (custom : CustomOptions) (first : Span) (kind : Option Label) → Ends (typed custom first kind)
unfolding typed
typed_ends custom first kind = inl (λ type. inr (numbered_ends custom first, λ x. tt))

map_field_ends : (custom : CustomOptions) (first : Span) → Ends (map_field custom first)
unfolding map_field
map_field_ends custom first =
    inl (λ less. inl (λ from. inl (λ comma. inl (λ value. inl (λ greater. inr (numbered_ends custom first, λ x. tt))))))

reserved_ends : (negative : Bool) → Ends (reserved negative)
unfolding reserved
reserved_ends negative = inl (λ keyword. inl (λ items. inr (semicolon_ends, λ x. tt)))

extensions_ends : (custom : CustomOptions) → Ends (extensions custom)
unfolding extensions
extensions_ends custom =
    inl (λ keyword. inl (λ first. inl (λ others. inl (λ given. inr (semicolon_ends, λ x. tt)))))

pub heading_ends : (spelling : List ℕ) → Ends (heading spelling)
unfolding heading
heading_ends spelling = inl (λ first. inl (λ named. inr (open_ends, λ x. tt)))

enum_ends : (custom : CustomOptions) → Ends (enumeration custom)
unfolding enumeration
enum_ends custom = inl (λ declared. inl (λ values. inr (close_ends, λ x. tt)))

service_ends : (custom : CustomOptions) → Ends (service custom)
unfolding service
service_ends custom = inl (λ declared. inl (λ methods. inr (close_ends, λ x. tt)))

-- ---- messages

pub group_head_ends : (custom : CustomOptions) (first : Span) (kind : Option Label)
    → Ends (group_head custom first kind)
unfolding group_head
group_head_ends custom first kind =
    inl (λ keyword. inl (λ named. inl (λ equals. inl (λ value. inl (λ given. inr (open_ends, λ x. tt))))))

braced_ends : (item : Step (Option Item)) → Ends (braced item)
unfolding braced
braced_ends item = inl (λ items. inr (close_ends, λ x. tt))

-- what is inside of a message or a group ends
abbrev pub EndsInside : Inside → Type 0
EndsInside NoLevel = Unit {0}
EndsInside (Level inner) = Ends inner

group_ends : (custom : CustomOptions) (inside : Inside) (first : Span) (kind : Option Label) → EndsInside inside
    → Ends (group custom inside first kind)
unfolding group
group_ends custom NoLevel first kind e = tt
group_ends custom (Level inner) first kind e = inl (λ before. inr (e, λ x. tt))

labelled_ends : (syntax : Syntax) (inside : Inside) (first : Span) (kind : Option Label) → EndsInside inside
    → Ends (labelled syntax inside first kind)
unfolding labelled
labelled_ends syntax inside first kind e = (
  inr (group_ends (custom_of syntax) inside first kind e, λ x. tt),
  inr (typed_ends (custom_of syntax) first kind, λ x. tt),
)

member_ends : (syntax : Syntax) (inside : Inside) → EndsInside inside → Ends (member syntax inside)
unfolding member
member_ends syntax inside e = λ first. inl (λ kind. labelled_ends syntax inside first.span kind e)

pub oneof_item_ends : (syntax : Syntax) (inside : Inside) → EndsInside inside → Ends (oneof_item syntax inside)
unfolding oneof_item oneof_member
oneof_item_ends syntax inside e = (
  inr (semicolon_ends, λ x. tt),
  (
    inr (option_ends (custom_of syntax), λ x. tt),
    inr (λ first. labelled_ends syntax inside first.span _ e, λ x. tt),
  ),
)

oneof_ends : (syntax : Syntax) (inside : Inside) → Ends (oneof syntax inside)
unfolding oneof
oneof_ends syntax inside = inl (λ declared. inr (braced_ends (oneof_item syntax inside), λ x. tt))

pub extend_item_ends : (syntax : Syntax) (inside : Inside) → EndsInside inside → Ends (extend_item syntax inside)
unfolding extend_item
extend_item_ends syntax inside e = (inr (semicolon_ends, λ x. tt), inr (member_ends syntax inside e, λ x. tt))

extend_ends : (syntax : Syntax) (inside : Inside) → Ends (extend syntax inside)
unfolding extend
extend_ends syntax inside =
    inl (λ keyword. inl (λ extended. inl (λ brace. inr (braced_ends (extend_item syntax inside), λ x. tt))))

passed_extend_ends : (custom : CustomOptions) → Ends (passed_extend custom)
unfolding passed_extend
passed_extend_ends Refuse = tt
passed_extend_ends Skip = inl (λ keyword. inl (λ extended. inl (λ brace. inl (λ items. inr (close_ends, λ x. tt)))))

extend_statement_ends : (syntax : Syntax) (inside : Inside) → Ends (extend_statement syntax inside)
unfolding extend_statement
extend_statement_ends (Proto3 custom) inside = inr (passed_extend_ends custom, λ x. tt)
extend_statement_ends Extended inside = inr (extend_ends Extended inside, λ x. tt)
extend_statement_ends Proto2 inside = inr (extend_ends Proto2 inside, λ x. tt)

ranges_end : (syntax : Syntax) → Ends (ranges syntax)
unfolding ranges
ranges_end (Proto3 custom) = tt
ranges_end Extended = tt
ranges_end Proto2 = inr (extensions_ends Skip, λ x. tt)

map_item_ends : (syntax : Syntax) → Ends (map_item syntax)
unfolding map_item declared_map field_of_map
map_item_ends (Proto3 custom) =
    inl (λ first. (
      inr (map_field_ends custom first, λ x. tt),
      inr (inl (λ components. inr (numbered_ends custom first, λ x. tt)), λ x. tt),
    ))
map_item_ends Extended =
    inl (λ first. (
      inr (map_field_ends Skip first, λ x. tt),
      inr (inl (λ components. inr (numbered_ends Skip first, λ x. tt)), λ x. tt),
    ))
map_item_ends Proto2 = inl (λ first. inr (map_field_ends Skip first, λ x. tt))

message_ends : (inside : Inside) → EndsInside inside → Ends (message inside)
unfolding message
message_ends NoLevel e = tt
message_ends (Level inner) e = inl (λ declared. inr (e, λ x. tt))

pub message_item_ends : (syntax : Syntax) (inside : Inside) → EndsInside inside → Ends (message_item syntax inside)
unfolding message_item
message_item_ends syntax inside e = (
  inr (semicolon_ends, λ x. tt),
  (
    inr (message_ends inside e, λ x. tt),
    (
      inr (enum_ends (custom_of syntax), λ x. tt),
      (
        inr (option_ends (custom_of syntax), λ x. tt),
        (
          inr (oneof_ends syntax inside, λ x. tt),
          (
            inr (map_item_ends syntax, λ x. tt),
            (
              inr (reserved_ends false, λ x. tt),
              (
                inr (extend_statement_ends syntax inside, λ x. tt),
                (ranges_end syntax, inr (member_ends syntax inside e, λ x. tt)),
              ),
            ),
          ),
        ),
      ),
    ),
  ),
)

pub inside_ends : (syntax : Syntax) (levels : ℕ) → EndsInside (inside syntax levels)
unfolding inside
inside_ends syntax zero = tt
inside_ends syntax (suc levels) = braced_ends (message_item syntax (inside syntax levels))

-- ---- files

pub syntax_statement_ends : (dialect : Dialect) → Ends (syntax_statement dialect)
unfolding syntax_statement
syntax_statement_ends dialect = inl (λ keyword. inl (λ equals. inl (λ named. inr (semicolon_ends, λ x. tt))))

import_ends : Ends import
unfolding import
import_ends = inl (λ keyword. inl (λ kind. inl (λ first. inl (λ literals. inr (semicolon_ends, λ x. tt)))))

package_ends : Ends package_statement
unfolding package_statement
package_ends = inl (λ keyword. inl (λ components. inr (semicolon_ends, λ x. tt)))

when_ends : {A : Type 0} (b : Bool) (p q : Step A) → Ends p → Ends q → Ends (when b p q)
when_ends true p q h g = h
when_ends false p q h g = g

only_package_ends : (file : File) → Ends (only_package file)
unfolding only_package
only_package_ends file = when_ends (is_some file.package_name) _ _ tt (inr (package_ends, λ x. tt))

pub file_statement_ends : (levels : ℕ) (syntax : Syntax) (file : File) → Ends (file_statement levels syntax file)
unfolding file_statement
file_statement_ends levels syntax file = (
  inr (semicolon_ends, λ x. tt),
  (
    inr (import_ends, λ x. tt),
    (
      only_package_ends file,
      (
        inr (option_ends (custom_of syntax), λ x. tt),
        (
          inr (message_ends (inside syntax levels) (inside_ends syntax levels), λ x. tt),
          (
            inr (enum_ends (custom_of syntax), λ x. tt),
            (
              inr (service_ends (custom_of syntax), λ x. tt),
              (inr (extend_statement_ends syntax (inside syntax levels), λ x. tt), tt),
            ),
          ),
        ),
      ),
    ),
  ),
)
