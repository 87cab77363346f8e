use Rattle.std.proofs.Common.{ℕ, List, ap, map, string_bytes, subst}
use Rattle.streams.specs.Writers.{writing}
use Rattle.source_files.specs.Exclusions.{FindsWithout, ListsWithout}
use Rattle.programs.specs.Indexing.{Indexed, WritesNavigable}
use Rattle.programs.specs.NoSources.{NoneFoundBy}
use Rattle.programs.specs.Placing.{Place, place}
use Rattle.programs.specs.Searches.{blamed_by}
use Rattle.programs.proofs.indexing.index_searched.Goals as goal

pub returns-clause-indexed : goal.returns-clause-indexed
returns-clause-indexed g c =
    let files = c.args.host.now.files.now in
    let asked = c.args.request.now in
    let at : Place _ _ = place g.P.OutPlace g.P.Part.Sink c.args.places.now.file c.index.new.places.file in
    let report : Place _ _ = place g.Q.OutPlace g.Q.Part.Sink c.args.places.now.report c.index.new.places.report in
    subst (λ (patterns : List (List ℕ)). Indexed (ListsWithout (g.F.ReadFiles.lists files) patterns)
    (g.F.ReadFiles.gives files) (FindsWithout (g.F.ReadFiles.finds files) patterns)
    (blamed_by asked.options (g.F.LookAgain.blames files))
    (NoneFoundBy (g.F.LookAgain.passes files) c.args.host.now.is_watched asked.options)
    (g.Q.OutPlace.suspects c.args.places.now.report) asked at report
    (writing g.M.Sink c.args.messages.now c.index.new.messages) c.index.result)
    (ap (map string_bytes) c.deref.ensures.value) c.index.ensures.indexed

pub returns-clause-navigable : goal.returns-clause-navigable
returns-clause-navigable g c =
    let files = c.args.host.now.files.now in
    let at : Place _ _ = place g.P.OutPlace g.P.Part.Sink c.args.places.now.file c.index.new.places.file in
    subst (λ (patterns : List (List ℕ)). WritesNavigable (ListsWithout (g.F.ReadFiles.lists files) patterns)
    (g.F.ReadFiles.gives files) (FindsWithout (g.F.ReadFiles.finds files) patterns) c.args.request.now.options at
    c.index.result)
    (ap (map string_bytes) c.deref.ensures.value) c.index.ensures.navigable
