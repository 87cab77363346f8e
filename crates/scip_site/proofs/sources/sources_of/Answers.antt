use Rattle.std.proofs.Common.{◌∙◌, ℕ, List, [], ◌∷◌, ap, map, subst, sym, take}
use Rattle.std.proofs.lemmas.List.{map-append, take_more}
use Rattle.scip_query.specs.CommandViews.{text_of}
use Rattle.scip_site.specs.Sources.{AreSourcesOf}
use Rattle.scip_site.proofs.SourceLemmas.{one_more}
use Rattle.scip_site.proofs.sources.sources_of.Goals as goal

pub loop-path-preserved : goal.loop-path-preserved
loop-path-preserved g c =
    let gives = g.F.ReadFiles.gives c.args.files.now in
    let paths = c.args.paths.now in
    let at = c.loop-path.path-index in
    let more = ap (map text_of) (take_more paths at _ c.loop-path-test.true)
    ∙ map-append text_of (take at paths) (_ ∷ []) in
    subst (λ (all : List (List ℕ)). AreSourcesOf gives c.args.root.now c.args.queries.now all
    c.add_source.new.sources.items) (sym more)
    (one_more gives c.args.root.now c.args.queries.now (map text_of (take at paths)) _
    c.loop-path.sources.items c.add_source.new.sources.items c.loop-path.invariant c.in_ok-add_source.ensures)
