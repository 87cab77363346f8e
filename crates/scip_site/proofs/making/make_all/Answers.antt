use Rattle.std.proofs.Common.{◌≡◌, ◌∙◌, ap, List, ℕ, ◌++◌, length}
use Rattle.std.proofs.lemmas.Result.{err_from_is_err_and}
use Rattle.scip_query.specs.Tables.{numbers}
use Rattle.scip_site.specs.Making.{listings, script_end, script_text}
use Rattle.scip_site.proofs.MakingLemmas.{nothing_yet, pages_stop, nothing_shared, all_shared}
use Rattle.scip_site.proofs.making.make_all.Goals as goal

pub returns-in_err-first : goal.returns-in_err-first
returns-in_err-first g c =
    let p = err_from_is_err_and c.from_residual.result c.from_residual.ensures.1 in
    let site = c.args.site.now in
    rw (p.1, p.2) (nothing_yet g.O.MakeFiles c.args.folder.now site.queries.now site.sources.now c.args.order.now
    c.args.made.now)

pub returns-in_err-listed : goal.returns-in_err-listed
returns-in_err-listed g c =
    let p = err_from_is_err_and c.from_residual-in_err-listed.result
    c.from_residual-in_err-listed.ensures.1 in
    let site = c.args.site.now in
    rw (p.1, p.2) (nothing_yet g.O.MakeFiles c.args.folder.now site.queries.now site.sources.now c.args.order.now
    c.args.made.now)

pub returns-in_err-make_each : goal.returns-in_err-make_each
returns-in_err-make_each g c =
    let p = err_from_is_err_and c.from_residual-in_err-make_each.result
    c.from_residual-in_err-make_each.ensures.1 in
    let site = c.args.site.now in
    rw (p.1, p.2) (pages_stop g.O.MakeFiles c.args.folder.now site.queries.now site.sources.now c.args.order.now
    c.args.made.now c.make_each.new.made c.in_err-make_each.field-0.0 c.in_err-make_each.ensures.files)

pub returns-in_err-push_end : goal.returns-in_err-push_end
returns-in_err-push_end g c =
    let p = err_from_is_err_and c.from_residual-in_err-push_end.result
    c.from_residual-in_err-push_end.ensures.1 in
    let site = c.args.site.now in
    rw (p.1, p.2) (nothing_shared g.O.MakeFiles c.args.folder.now site.queries.now site.sources.now
    c.args.order.now c.args.made.now c.make_each.new.made c.in_ok-make_each.ensures.files)

pub returns : goal.returns
returns g c =
    let site = c.args.site.now in
    let index = site.queries.now in
    let sources = site.sources.now in
    let listed : List ℕ = listings index sources (numbers (length index.documents)) in
    let script : c.deref.result.now ≡ script_text index sources =
    c.deref.ensures.value ∙ c.in_ok-push_end.ensures
    ∙ ap (λ (l : List ℕ). l ++ script_end)
    (c.in_ok-make_each.ensures.listed ∙ ap (λ (l : List ℕ). l ++ listed) c.in_ok-listed.ensures.script) in
    all_shared g.O.MakeFiles c.args.folder.now index sources c.args.order.now c.args.made.now
    c.make_each.new.made c.in_ok-make_each.ensures.files c.make_shared.new.made c.deref.result.now
    c.deref-2.result.now script
    (c.deref-2.ensures.value ∙ c.in_ok-first.ensures) c.make_shared.result c.make_shared.ensures
