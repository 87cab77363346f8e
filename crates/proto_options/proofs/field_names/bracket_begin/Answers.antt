use Rattle.std.proofs.Common.{◌≡◌, ◌∙◌, refl, sym, true, false}
use Rattle.proto_options.specs.Grammar.Aggregates.{begins_value}
use Rattle.proto_options.specs.Reading.Aggregates.{is_memory}
use Rattle.proto_options.proofs.BeginLemmas.{bracket_valued, bracket_bare, bracket_stops}
use Rattle.proto_options.proofs.field_names.bracket_begin.Goals as goal

pub returns-then-begins_value : goal.returns-then-begins_value
returns-then-begins_value c =
    let valued : begins_value c.bracketed.new.cursor.left ≡ true =
    sym c.begins_value.ensures ∙ c.if-begins_value.true in
    bracket_valued c.args.cursor.now (c.in-Ok.name, c.bracketed.new.cursor) c.in-Ok.ensures valued

pub returns-else-begins_value : goal.returns-else-begins_value
returns-else-begins_value c =
    let bare : begins_value c.bracketed.new.cursor.left ≡ false =
    sym c.begins_value.ensures ∙ c.if-begins_value.false in
    rw (
      bracket_bare c.args.cursor.now (c.in-Ok.name, c.bracketed.new.cursor) c.in-Ok.ensures bare,
      c.place-start.ensures,
    ) refl

pub returns-else-is_memory : goal.returns-else-is_memory
returns-else-is_memory c =
    let told : is_memory c.in-Err.fault ≡ false = sym c.is_memory.ensures ∙ c.if-is_memory.false in
    rw (bracket_stops c.args.cursor.now c.in-Err.fault told c.in-Err.ensures, c.place-start.ensures) refl
