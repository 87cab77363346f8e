use Rattle.std.proofs.Common.{◌≡◌, refl, sym, ◌∙◌}
use Rattle.std.specs.Option.{option_map}
use Rattle.std.specs.String.{string_bytes}
use Rattle.streams.specs.Writers.{writing}
use Rattle.programs.specs.Messages.{TellsOfSuccess}
use Rattle.programs.specs.TreeRuns.{IsWholeText}
use Rattle.programs.proofs.TreeRunOmissionLemmas.{nothing, something}
use Rattle.programs.proofs.MessageLemmas.{told_one}
use Rattle.programs.proofs.ending.tell.Goals as goal

pub returns-then-omits_nothing : goal.returns-then-omits_nothing
returns-then-omits_nothing g c =
    let run = c.args.run.now in
    let line = option_map string_bytes run.none_found in
    nothing TellsOfSuccess (λ l. l ≡ line) c.args.closing.explain c.args.closing.is_real run.tree
    (writing g.M.Sink c.args.messages.now c.say_line.new.messages) c.say_line.result
    run.unread.items c.args.told.now
    (rw c.as_slice-unread.ensures.value at (sym c.omits_nothing.ensures ∙ c.if-omits_nothing.true)) line refl
    c.say_line.ensures

pub returns : goal.returns
returns g c =
    let run = c.args.run.now in
    let text = rw c.as_slice-unread.ensures.value at c.whole_text-text.ensures in
    let messages = writing g.M.Sink c.args.messages.now c.report.new.messages in
    something TellsOfSuccess (λ l. l ≡ option_map string_bytes run.none_found) c.args.closing.explain
    c.args.closing.is_real run.tree messages
    c.report.result run.unread.items c.args.told.now
    (rw c.as_slice-unread.ensures.value at (sym c.omits_nothing.ensures ∙ c.if-omits_nothing.false)) (
      text.0,
      text.1,
      told_one messages c.report.result _ _ string_bytes c.whole_text-text.result
          (IsWholeText c.args.closing.explain c.args.closing.is_real run.tree text.0
          run.unread.items c.args.told.now) refl
          text.2 c.report.ensures,
    )
