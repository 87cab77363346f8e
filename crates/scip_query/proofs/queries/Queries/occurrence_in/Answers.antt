use Rattle.std.proofs.Common.{◌∙◌, sym, subst, ap, ℕ, List, []}
use Rattle.std.specs.List.{slice_get, AllZip}
use Rattle.std.specs.Option.{unwrap_or}
use Rattle.scip_records.specs.declared.records.Index.{Index}
use Rattle.scip_query.specs.Tables.Searches.{IsInnermostFirst}
use Rattle.scip_query.proofs.TableLemmas.{table_at}
use Rattle.scip_query.proofs.queries.Queries.occurrence_in.Goals as goal

pub occurrence_in-requires : goal.occurrence_in-requires
occurrence_in-requires c =
    let tables = c.self.inside.tables.inner in
    let zipped : AllZip IsInnermostFirst c.args.self.now.documents tables =
    subst (λ (index : Index). AllZip IsInnermostFirst index.documents tables) c.self.view_is c.self.invariant.inner in
    subst (IsInnermostFirst c.args.document.now)
    (sym (c.inner_listed-table.ensures
    ∙ ap (λ (l : List (List ℕ)). unwrap_or (slice_get l c.args.number) []) c.as_slice.ensures))
    (table_at c.args.self.now.documents tables c.args.number c.args.document.now zipped c.requires)
