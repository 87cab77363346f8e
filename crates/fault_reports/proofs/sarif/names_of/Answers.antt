use Rattle.std.proofs.Common.{◌∙◌, ℕ, List, ap, map}
use Rattle.std.specs.Borrow.{Bor}
use Rattle.fault_reports.specs.Sarif.{with_name}
use Rattle.fault_reports.proofs.SarifNameLemmas.{name_more, name_done}
use Rattle.fault_reports.proofs.sarif.names_of.Goals as goal

pub loop-finding-preserved : goal.loop-finding-preserved
loop-finding-preserved c =
    let so_far : List (List ℕ) = map (λ (other : Bor (List ℕ)). other.now) c.loop-finding.names.items in
    name_more c.args.findings.now so_far (map (λ (other : Bor (List ℕ)). other.now) c.push_name.new.names.items)
    c.loop-finding.finding-index c.finding-item.result c.loop-finding-test.true c.finding-item.is
    c.loop-finding.invariant
    (c.in_ok-push_name.ensures ∙ ap (λ (name : List ℕ). with_name so_far name) c.name.ensures)

pub returns : goal.returns
returns c =
    name_done c.args.findings.now (map (λ (other : Bor (List ℕ)). other.now) c.loop-finding.names.items)
    c.loop-finding.finding-index c.loop-finding-test.false c.loop-finding.invariant
