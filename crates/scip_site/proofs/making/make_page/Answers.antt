use Rattle.std.proofs.Common.{◌∙◌, subst, ap, List, ℕ, map, Option}
use Rattle.std.specs.Option.{option_map}
use Rattle.std.proofs.lemmas.Result.{err_from_is_err_and}
use Rattle.source_files.specs.Makers.{making}
use Rattle.scip_records.specs.declared.records.Document.{Document}
use Rattle.scip_query.specs.Tables.{path_listed}
use Rattle.scip_site.specs.Making.{MakesFiles, in_folder, page_at, page_file}
use Rattle.scip_site.proofs.MakingLemmas.{page_left}
use Rattle.scip_site.proofs.making.make_page.Goals as goal

pub returns-clause-files : goal.returns-clause-files
returns-clause-files g c =
    let files = making g.O.MakeFiles c.args.made.now c.make_if_some.new.made in
    let index = c.args.site.now.queries.now in
    subst (λ (page : Option (List ℕ)). MakesFiles files (map (in_folder c.args.folder.now)
    (page_file (path_listed index.documents c.args.number) page)) c.make_if_some.result)
    c.in_ok-page.ensures.page
    (subst (λ (p : List ℕ). MakesFiles files (map (in_folder c.args.folder.now) (page_file p
    (option_map (λ q. q.items) c.in_ok-page.page))) c.make_if_some.result)
    (c.path_listed-path.ensures ∙ ap (λ (ds : List Document). path_listed ds c.args.number) c.documents.ensures)
    c.make_if_some.ensures)

pub returns-in_err-page-clause-files : goal.returns-in_err-page-clause-files
returns-in_err-page-clause-files g c =
    let p = err_from_is_err_and c.from_residual.result c.from_residual.ensures.1 in
    let site = c.args.site.now in
    rw (p.1, p.2) (page_left g.O.MakeFiles c.args.folder.now
    (path_listed site.queries.now.documents c.args.number) (page_at site.queries.now site.sources.now c.args.number)
    c.args.made.now c.in_err-page.ensures.due)
