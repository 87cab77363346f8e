use Rattle.std.specs.Option.{option_map}
use Rattle.std.specs.String.{string_bytes}
use Rattle.streams.specs.Writers.{writing}
use Rattle.programs.proofs.TreeRunOmissionLemmas.{text_is_said}
use Rattle.programs.proofs.indexing.end.Goals as goal

pub returns-in-Ok : goal.returns-in-Ok
returns-in-Ok g c =
    let kept = c.in-Ok.kept in
    rw c.in-Ok.is
    (text_is_said string_bytes c.args.closing.explain c.args.closing.is_real c.args.run.now.tree
    (writing g.M.Sink c.args.messages.now c.say_end.new.messages) c.say_end.result
    (option_map string_bytes c.args.run.now.none_found) c.args.run.now.unread.items kept.built.told
    kept.text (rw c.in-Ok.is at c.requires.said) c.say_end.ensures.text c.say_end.ensures.line)

pub returns-in-Err : goal.returns-in-Err
returns-in-Err g c = rw c.in-Err.is c.stop.ensures
