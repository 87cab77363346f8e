use Rattle.std.specs.String.{string_bytes}
use Rattle.std.proofs.Common.{refl}
use Rattle.streams.specs.Writers.{writing}
use Rattle.programs.specs.Limits.{told as told_of}
use Rattle.programs.proofs.MessageLemmas.{told}
use Rattle.programs.proofs.limits.report_limit.Goals as goal

pub returns : goal.returns
returns g c =
    told (writing g.M.Sink c.args.messages.now c.report.new.messages) c.report.result _ _
    string_bytes c.text.result (told_of c.args.explain c.args.fault) refl c.text.ensures c.report.ensures
