-- What is in a message, a group, a oneof or an extend takes a token; what isn't read where no level is left, and what
-- is inside is read a level down.
use Rattle.std.proofs.Common.{◌≡◌, ◌<◌, ◌-◌, ℕ, zero, suc, Ok, Err, Option, None, length, inl, inr, refl, sym, ap}
use Rattle.std.proofs.Common.{arith, codes}
use Rattle.proto_lex.specs.declared.span.Span.{Span}
use Rattle.proto_grammar.specs.declared.dialect.CustomOptions.{CustomOptions}
use Rattle.proto_grammar.specs.declared.dialect.CustomOptions.TheVariants.{Refuse, Skip}
use Rattle.proto_grammar.specs.declared.dialect.Syntax.{Syntax}
use Rattle.proto_grammar.specs.declared.dialect.Syntax.TheVariants.{Proto3, Extended, Proto2}
use Rattle.proto_grammar.specs.declared.fault.SyntaxFault.TheVariants.{TooDeep}
use Rattle.proto_grammar.specs.declared.tree.Label.{Label}
use Rattle.proto_grammar.specs.declared.tree.Item.{Item}
use Rattle.proto_grammar.specs.declared.tree.Head.TheVariants as head
use Rattle.proto_grammar.specs.Lexeme.{Place}
use Rattle.proto_grammar.specs.Terminal.{offset_at}
use Rattle.proto_grammar.specs.Syntax.{custom_of}
use Rattle.proto_grammar.specs.Items.{body_of}
use Rattle.proto_grammar.specs.Reading.Repetition.{◌>>=◌}
use Rattle.proto_steps.specs.declared.statement.Within.{Within}
use Rattle.proto_steps.specs.declared.statement.Within.TheVariants.{Message, Oneof, Extend}
use Rattle.proto_steps.specs.Step.{run}
use Rattle.proto_steps.specs.Choice.{item_of}
use Rattle.proto_steps.specs.Grammar.Parts.{name, type_name, field_type, typed, field, option_statement, group_head}
use Rattle.proto_steps.specs.Grammar.Parts.{reserved, extensions}
use Rattle.proto_steps.specs.Grammar.Definitions.{heading, enumeration, Inside, braced, group, labelled, member}
use Rattle.proto_steps.specs.Grammar.Definitions.{oneof_member, oneof_item, oneof, extend_item, extend, passed_item}
use Rattle.proto_steps.specs.Grammar.Definitions.{passed_extend, extend_statement, message, ranges, map_item}
use Rattle.proto_steps.specs.Grammar.Definitions.{message_item, inside}
use Rattle.proto_steps.specs.Grammar.Definitions.Inside.{NoLevel, Level}
use Rattle.proto_steps.proofs.MoveLemmas.{Moves, shorter}

-- ---- what takes a token

typed_moves : (custom : CustomOptions) (first : Span) (kind : Option Label) → Moves (typed custom first kind)
unfolding typed field_type type_name name
typed_moves custom first kind = inl (inl tt, inl (inr (λ dot. inl (inl tt))))

group_moves : (custom : CustomOptions) (inside : Inside) (first : Span) (kind : Option Label)
    → Moves (group custom inside first kind)
unfolding group group_head
group_moves custom NoLevel first kind = tt
group_moves custom (Level inner) first kind = inl (inl tt)

labelled_moves : (syntax : Syntax) (inside : Inside) (first : Span) (kind : Option Label)
    → Moves (labelled syntax inside first kind)
unfolding labelled
labelled_moves syntax inside first kind =
    (inl (group_moves (custom_of syntax) inside first kind), inl (typed_moves (custom_of syntax) first kind))

member_moves : (syntax : Syntax) (inside : Inside) → Moves (member syntax inside)
unfolding member
member_moves syntax inside = λ t. inr (λ kind. labelled_moves syntax inside t.span kind)

oneof_item_moves : (syntax : Syntax) (inside : Inside) → Moves (oneof_item syntax inside)
unfolding oneof_item option_statement oneof_member
oneof_item_moves syntax inside =
    (inl tt, (inl (inl tt), inl (λ t. labelled_moves syntax inside t.span None)))

extend_item_moves : (syntax : Syntax) (inside : Inside) → Moves (extend_item syntax inside)
unfolding extend_item
extend_item_moves syntax inside = (inl tt, inl (member_moves syntax inside))

pub passed_item_moves : Moves passed_item
unfolding passed_item field
passed_item_moves = (inl tt, inl (λ t. inr (λ kind. typed_moves Skip t.span kind)))

passed_extend_moves : (custom : CustomOptions) → Moves (passed_extend custom)
unfolding passed_extend
passed_extend_moves Refuse = tt
passed_extend_moves Skip = inl tt

pub extend_statement_moves : (syntax : Syntax) (inside : Inside) → Moves (extend_statement syntax inside)
unfolding extend_statement extend
extend_statement_moves (Proto3 custom) inside = inl (passed_extend_moves custom)
extend_statement_moves Extended inside = inl (inl tt)
extend_statement_moves Proto2 inside = inl (inl tt)

pub message_moves : (inside : Inside) → Moves (message inside)
unfolding message heading
message_moves NoLevel = tt
message_moves (Level inner) = inl (inl tt)

ranges_moves : (syntax : Syntax) → Moves (ranges syntax)
unfolding ranges extensions
ranges_moves (Proto3 custom) = tt
ranges_moves Extended = tt
ranges_moves Proto2 = inl (inl tt)

message_item_moves : (syntax : Syntax) (inside : Inside) → Moves (message_item syntax inside)
unfolding message_item enumeration heading option_statement oneof map_item reserved
message_item_moves syntax inside = (
  inl tt,
  (
    inl (message_moves inside),
    (
      inl (inl (inl tt)),
      (
        inl (inl tt),
        (
          inl (inl (inl tt)),
          (
            inl (inl tt),
            (
              inl (inl tt),
              (
                inl (extend_statement_moves syntax inside),
                (ranges_moves syntax, inl (member_moves syntax inside)),
              ),
            ),
          ),
        ),
      ),
    ),
  ),
)

pub item_moves : (within : Within) (syntax : Syntax) (inside : Inside) → Moves (item_of within syntax inside)
item_moves Message syntax inside = message_item_moves syntax inside
item_moves Oneof syntax inside = oneof_item_moves syntax inside
item_moves Extend syntax inside = extend_item_moves syntax inside

pub item_shorter : (within : Within) (syntax : Syntax) (levels : ℕ) (place after : Place) (x : Option Item)
    → run (item_of within syntax (inside syntax levels)) place ≡ Ok (x, after) → length after.left < length place.left
item_shorter within syntax levels place after x e =
    shorter (item_of within syntax (inside syntax levels)) (item_moves within syntax (inside syntax levels)) place after
    x e

pub passed_item_shorter : (place after : Place) (x : Unit {0})
    → run passed_item place ≡ Ok (x, after) → length after.left < length place.left
passed_item_shorter place after x e = shorter passed_item passed_item_moves place after x e

-- ---- levels

-- no message where no level is left
pub no_message : (syntax : Syntax) (levels : ℕ) (place : Place) → levels ≡ 0
    → run (message (inside syntax levels)) place ≡ Err (TooDeep (offset_at place))
unfolding run message inside
no_message syntax levels place e = rw e refl

-- no group either
pub no_group : (syntax : Syntax) (custom : CustomOptions) (levels : ℕ) (first : Span) (kind : Option Label)
    (place : Place) → levels ≡ 0
    → run (group custom (inside syntax levels) first kind) place ≡ Err (TooDeep first.start)
unfolding run group inside
no_group syntax custom levels first kind place e = rw e refl

-- behind the "{" of a message or a group
pub inside_further : (syntax : Syntax) (levels : ℕ) → 0 < levels
    → inside syntax levels ≡ Level (braced (item_of Message syntax (inside syntax (levels - 1))))
unfolding inside
inside_further syntax zero some = absurd (omega arith)
inside_further syntax (suc levels) some =
    let one : suc levels - 1 ≡ levels = omega arith in
    ap (λ n. Level (braced (item_of Message syntax (inside syntax n)))) (sym one)

-- a message where a level is left
pub some_message : (syntax : Syntax) (levels : ℕ) (place : Place) → 0 < levels
    → run (message (inside syntax levels)) place
    ≡ (run (heading (codes "message")) place >>= λ declared.
    run (braced (item_of Message syntax (inside syntax (levels - 1)))) declared.1 >>= λ items.
    Ok (record { head = head.Message declared.0; body = body_of items.0 }, items.1))
unfolding run message
some_message syntax levels place some = rw (inside_further syntax levels some) refl

pub some_group : (syntax : Syntax) (custom : CustomOptions) (levels : ℕ) (first : Span) (kind : Option Label)
    (place : Place) → 0 < levels
    → run (group custom (inside syntax levels) first kind) place
    ≡ (run (group_head custom first kind) place >>= λ before.
    run (braced (item_of Message syntax (inside syntax (levels - 1)))) before.1 >>= λ items.
    Ok (record { head = head.Group before.0; body = body_of items.0 }, items.1))
unfolding run group
some_group syntax custom levels first kind place some = rw (inside_further syntax levels some) refl
