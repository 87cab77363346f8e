use Rattle.std.proofs.Common.{◌∙◌, sym}
use Rattle.std.proofs.lemmas.Bool.{false≢true}
use Rattle.std.proofs.lemmas.Slice.Eq.{bytes_eq-Decides}
use Rattle.programs.proofs.listed_folders.line_if.Goals as goal

pub returns : goal.returns
returns c = λ same. false≢true (sym c.if-eq.false ∙ (c.eq.ensures
    ∙ (bytes_eq-Decides c.path_in.result.now c.args.path.now).1 (c.path_in.ensures ∙ same)))
