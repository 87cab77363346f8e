use Rattle.std.proofs.Common.{◌∙◌, sym}
use Rattle.std.proofs.lemmas.Bool.{false≢true}
use Rattle.std.proofs.lemmas.Result.{IfOk-weaker}
use Rattle.source_files.specs.WellKnown.FindsKnown.{is_known, is_another}
use Rattle.source_files.proofs.with_well_known.find_known.Goals as goal

pub returns-then-is_well_known : goal.returns-then-is_well_known
returns-then-is_well_known g c =
    IfOk-weaker c.is_below.result _ _
    (λ there finds. is_known (c.is_well_known.ensures.0 c.if-is_well_known.true) finds) c.is_below.ensures

pub returns-else-is_well_known : goal.returns-else-is_well_known
returns-else-is_well_known g c =
    is_another (λ known. false≢true (sym c.if-is_well_known.false ∙ c.is_well_known.ensures.1 known))
