use Rattle.std.proofs.Common.{◌∙◌, ap, map, ℕ, List}
use Rattle.std.specs.Borrow.{Bor}
use Rattle.serde_json.specs.Data.{array}
use Rattle.serde_json.specs.View.{items_of}
use Rattle.fault_reports.specs.Sarif.{rule_value}
use Rattle.basics.proofs.LoopLemmas.{fused}
use Rattle.fault_reports.proofs.sarif.rules_value.Goals as goal

pub returns : goal.returns
returns c =
    c.from.ensures
    ∙ ap (λ l. array (items_of l)) (c.in_ok-rules_of.ensures
    ∙ (ap (map (λ (name : Bor (List ℕ)). rule_value c.args.findings.now name.now)) c.as_slice.ensures.value
    ∙ (fused (rule_value c.args.findings.now) (λ (name : Bor (List ℕ)). name.now) c.in_ok-names.names.items
    ∙ ap (map (rule_value c.args.findings.now)) c.in_ok-names.ensures)))
