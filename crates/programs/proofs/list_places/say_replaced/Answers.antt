use Rattle.std.proofs.Common.{codes, refl}
use Rattle.std.specs.String.{string_bytes}
use Rattle.streams.specs.Writers.{writing}
use Rattle.programs.specs.SourceLists.{line_told}
use Rattle.programs.proofs.MessageLemmas.{told}
use Rattle.programs.proofs.list_places.say_replaced.Goals as goal

pub returns : goal.returns
returns g c =
    told (writing g.M.Sink c.args.messages.now c.report.new.messages) c.report.result _ _
    string_bytes c.list_text-text.result
    (line_told c.args.replaced.explain c.args.replaced.path.now (codes "IsList") c.args.replaced.sentence.now) refl
    c.list_text-text.ensures c.report.ensures
