use Rattle.std.proofs.Common.{◌∙◌, ap, List, length}
use Rattle.std.specs.List.{find}
use Rattle.std.specs.Option.{option_and_then}
use Rattle.std.specs.Ordering.{nat_cmp, is_eq}
use Rattle.std.specs.Cmp.Lexicographic.{slice_cmp}
use Rattle.scip_records.specs.declared.records.Document.{Document}
use Rattle.scip_query.specs.Tables.{numbers, path_listed}
use Rattle.scip_query.specs.Tables.Searches.{numbered_listed}
use Rattle.scip_query.proofs.SiteLemmas.{named_by_number}
use Rattle.scip_query.proofs.queries.Queries.number_named.Goals as goal

pub returns : goal.returns
returns c =
    let path = c.args.path.now in
    ap (option_and_then (numbered_listed c.args.self.now.documents))
    (c.number_named.ensures ∙ ap
    (λ (l : List Document). find (λ n. is_eq (slice_cmp nat_cmp (path_listed l n) path)) (numbers (length l)))
    c.documents.ensures)
    ∙ named_by_number c.args.self.now path
