use Rattle.protoscip.proofs.FindingReportLemmas.{come_once}
use Rattle.protoscip.proofs.findings.findings_come_once.Goals as goal

pub returns : goal.returns
returns g c = come_once (g.C.Chooses.allows c.args.chooser.now)
