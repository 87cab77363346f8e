use Rattle.std.proofs.Common.{◌++◌, ℕ, List}
use Rattle.std.specs.List.{flat_map}
use Rattle.fault_reports.specs.Findings.{Found}
use Rattle.fault_reports.specs.JsonLines.{line_of, value_of}
use Rattle.basics.proofs.LoopLemmas.{flat_more, flat_done}
use Rattle.fault_reports.proofs.json_lines.push_findings.Goals as goal

pub loop-finding-preserved : goal.loop-finding-preserved
loop-finding-preserved c =
    let f : Found → List ℕ = λ found. line_of (value_of found) in
    flat_more f c.args.findings.now (c.args.out.now.items ++ flat_map f c.args.findings.now)
    c.loop-finding.out.items c.push_finding.new.out.items c.loop-finding.finding-index c.finding-item.result
    c.loop-finding-test.true c.finding-item.is c.loop-finding.invariant c.in_ok-push_finding.ensures

pub returns : goal.returns
returns c =
    let f : Found → List ℕ = λ found. line_of (value_of found) in
    flat_done f c.args.findings.now (c.args.out.now.items ++ flat_map f c.args.findings.now)
    c.loop-finding.out.items c.loop-finding.finding-index c.loop-finding-test.false c.loop-finding.invariant
