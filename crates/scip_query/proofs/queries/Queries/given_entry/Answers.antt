use Rattle.std.proofs.Common.{◌∙◌, ap}
use Rattle.std.specs.Prelude.{Option, Result}
use Rattle.std.specs.Result.{result_map_both}
use Rattle.std.proofs.lemmas.Result.{IfOk-weaker}
use Rattle.scip_records.specs.declared.records.SymbolInformation.{SymbolInformation}
use Rattle.scip_query.specs.Answers.{Answer, Entries, given}
use Rattle.scip_query.specs.Entries.{entry_of}
use Rattle.scip_query.specs.OccurrenceAt.{Subject}
use Rattle.scip_query.specs.Tables.Searches.{some_of}
use Rattle.scip_query.specs.declared.miss.Miss.{Miss}
use Rattle.scip_query.proofs.queries.Queries.given_entry.Goals as goal

pub returns-in-Ok : goal.returns-in-Ok
returns-in-Ok c =
    let due : Result Subject Miss → Answer = λ subject. given Entries
    (result_map_both (λ (s : Subject). some_of (entry_of c.args.self.now s)) (λ miss. miss) subject) in
    IfOk-weaker c.some_entry.result _ _
    (λ answer e. e ∙ ap (λ (entry : Option SymbolInformation). Entries (some_of entry)) c.entry_of.ensures
    ∙ ap due c.in-Ok.ensures.is)
    c.some_entry.ensures

pub returns-in-Err : goal.returns-in-Err
returns-in-Err c =
    let due : Result Subject Miss → Answer = λ subject. given Entries
    (result_map_both (λ (s : Subject). some_of (entry_of c.args.self.now s)) (λ miss. miss) subject) in
    ap due c.in-Err.ensures.is
