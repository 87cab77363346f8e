use Rattle.std.proofs.Common.{ℕ, List, Option, arith, codes, subst, sym}
use Rattle.streams.specs.Writers.{AreSaid}
use Rattle.scip_site.proofs.SnapshotShowLemmas.{said_more}
use Rattle.source_files.specs.declared.cause.Cause.{Cause}
use Rattle.programs.specs.Causes.{cause_lines, explained, report_name}
use Rattle.programs.proofs.causes.explain_failure.Goals as goal

pub returns : goal.returns
returns g c =
    let sink = g.M.Sink in
    let asked = c.args.asked.now in
    let output = g.W.Caused.cause c.args.out.now in
    let one = c.say_cause.new.messages in
    let two = c.say_cause-2.new.messages in
    let three = c.say_cause-3.new.messages in
    let Made : List ℕ → Type 0 = λ name.
    AreSaid sink (cause_lines name c.reason.result) c.args.messages.now one in
    let Reported : List ℕ → Type 0 = λ name. AreSaid sink (cause_lines name c.reason-2.result) one two in
    let Written : Option Cause → Type 0 = λ cause.
    AreSaid sink (cause_lines (codes "standard output") cause) two three in
    let last = cause_lines (codes "standard output") output in
    explained c.reason.result c.reason-2.result (omega (arith, c.if-status-eq0.false))
    (sym c.if-not-is_explained.ensures) c.reason.ensures c.reason-2.ensures
    (said_more sink last three
    (said_more sink (cause_lines (report_name asked) c.reason-2.result) two
    (subst Made c.made_path.ensures c.say_cause.ensures)
    (subst Reported c.path_of_report.ensures c.say_cause-2.ensures))
    (subst Written c.cause.ensures c.say_cause-3.ensures))
