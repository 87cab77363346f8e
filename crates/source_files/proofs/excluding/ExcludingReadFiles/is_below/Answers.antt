use Rattle.std.proofs.Common.{◌∙◌, sym}
use Rattle.std.proofs.lemmas.Bool.{false≢true}
use Rattle.std.proofs.lemmas.Result.{IfOk-weaker}
use Rattle.source_files.specs.Exclusions.FindsWithout.{is_excluded, is_left}
use Rattle.source_files.proofs.excluding.ExcludingReadFiles.is_below.Goals as goal

pub returns-then-branch : goal.returns-then-branch
returns-then-branch g c = is_excluded (c.in_ok-is_path_excluded.ensures.0 c.if-branch.true)

pub returns-else-branch : goal.returns-else-branch
returns-else-branch g c =
    IfOk-weaker c.is_below.result _ _
    (λ there finds. is_left
    (λ excluded. false≢true (sym c.if-branch.false ∙ c.in_ok-is_path_excluded.ensures.1 excluded)) finds)
    c.is_below.ensures
