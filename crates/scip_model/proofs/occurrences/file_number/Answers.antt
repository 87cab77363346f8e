use Rattle.std.proofs.Common.{◌∙◌, ap, subst, List, ℕ}
use Rattle.scip_symbol.specs.Package.{Package}
use Rattle.scip_symbol.specs.Entities.{OfFile}
use Rattle.scip_model.specs.Named.{text_of}
use Rattle.scip_model.specs.Tables.Plans.{IsNumberOf}
use Rattle.scip_model.proofs.occurrences.file_number.Goals as goal

pub returns-clause-number : goal.returns-clause-number
returns-clause-number c =
    let path = c.args.path.now in
    subst (λ (text : List ℕ). IsNumberOf c.number_of.new.self text c.in_ok-number.number)
    (c.in_ok-text.ensures ∙ ap (λ (id : Package). text_of id (OfFile path)) c.of_path.ensures)
    c.in_ok-number.ensures.number
