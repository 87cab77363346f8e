use Rattle.std.proofs.Common.{◌-◌, ◌<◌, refl, arith}
use Rattle.std.proofs.lemmas.Result.{err_from_is_err_and}
use Rattle.proto_steps.specs.declared.statement.Within.TheVariants.{Message}
use Rattle.proto_grammar.proofs.RepetitionUntilLemmas.{Fails-of}
use Rattle.proto_steps.specs.Step.{run}
use Rattle.proto_steps.specs.Choice.{item_of}
use Rattle.proto_steps.specs.Grammar.Definitions.{braced, group, message, inside}
use Rattle.proto_steps.proofs.ChoiceLemmas.{item_chosen}
use Rattle.proto_steps.proofs.MessageLemmas.{inside_further}
use Rattle.proto_steps.proofs.messages.+parser.Goals as goal

pub message_item-returns : goal.message_item-returns
message_item-returns t c =
    rw (
      item_chosen c.args.syntax (inside c.args.syntax c.args.levels) c.args.parser.now,
      ← c.message_statement-statement.ensures,
    )
    c.chosen_item.ensures

pub message-returns : goal.message-returns
unfolding run message
message-returns t c =
    let some : 0 < c.args.levels = omega arith in
    rw (inside_further c.args.syntax c.args.levels some, c.in_ok-heading.ensures, c.in_ok-items.ensures) refl

pub message-returns-in_err-items : goal.message-returns-in_err-items
unfolding run message
message-returns-in_err-items t c =
    let some : 0 < c.args.levels = omega arith in
    let inner = item_of Message c.args.syntax (inside c.args.syntax (c.args.levels - 1)) in
    let p = err_from_is_err_and c.from_residual-in_err-items.result c.from_residual-in_err-items.ensures.1 in
    rw (p.1, p.2)
    (Fails-of _ _ (run (braced inner) c.heading.new.parser) _
    (λ fault none. rw (inside_further c.args.syntax c.args.levels some, c.in_ok-heading.ensures, none) refl)
    c.in_err-items.ensures)

pub group-returns : goal.group-returns
unfolding run group
group-returns t c =
    let some : 0 < c.args.levels = omega arith in
    rw (
      ← c.custom_options.ensures,
      inside_further c.args.syntax c.args.levels some,
      c.in_ok-group.ensures,
      c.in_ok-items.ensures,
    ) refl

pub group-returns-in_err-items : goal.group-returns-in_err-items
unfolding run group
group-returns-in_err-items t c =
    let some : 0 < c.args.levels = omega arith in
    let inner = item_of Message c.args.syntax (inside c.args.syntax (c.args.levels - 1)) in
    let p = err_from_is_err_and c.from_residual-in_err-items.result c.from_residual-in_err-items.ensures.1 in
    rw (p.1, p.2)
    (Fails-of _ _ (run (braced inner) c.group_head.new.parser) _
    (λ fault none. rw (
      ← c.custom_options.ensures,
      inside_further c.args.syntax c.args.levels some,
      c.in_ok-group.ensures,
      none,
    ) refl) c.in_err-items.ensures)
