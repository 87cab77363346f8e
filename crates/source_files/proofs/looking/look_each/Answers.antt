use Rattle.std.proofs.Common.{map, string_bytes}
use Rattle.std.proofs.lemmas.Result.{err_from_is_err_and}
use Rattle.source_files.specs.Looks.{GivesLooked}
use Rattle.source_files.proofs.ReadingLemmas.{texts_of_parts}
use Rattle.source_files.proofs.LookLemmas.{none_looked, part_looked, part_stops}
use Rattle.source_files.proofs.looking.look_each.Goals as goal

pub loop-rest-init : goal.loop-rest-init
loop-rest-init g c =
    rw (c.new-all.ensures.items) (none_looked
    (GivesLooked (g.F.ReadFiles.finds c.args.looking.now.files.now) (g.F.ReadFiles.gives c.args.looking.now.files.now)
    (g.I.FindImports.tells c.args.looking.now.finder.now) c.args.looking.now.leaves_out c.args.looking.now.is_wanted
    (map string_bytes c.args.looking.now.roots.now))
    (map string_bytes c.args.paths.now))

pub returns-in_err-more : goal.returns-in_err-more
returns-in_err-more g c =
    let p = err_from_is_err_and c.from_residual.result c.from_residual.ensures.1 in
    let part = c.part_of.result.0.now in
    let behind = c.part_of.result.1.now in
    let rest = c.loop-rest.rest.now in
    rw (p.1, p.2) (part_stops (GivesLooked (g.F.ReadFiles.finds c.args.looking.now.files.now)
    (g.F.ReadFiles.gives c.args.looking.now.files.now)
    (g.I.FindImports.tells c.args.looking.now.finder.now) c.args.looking.now.leaves_out c.args.looking.now.is_wanted
    (map string_bytes c.args.looking.now.roots.now))
    (map string_bytes c.args.paths.now) (map string_bytes rest) (map string_bytes part) (map string_bytes behind)
    c.loop-rest.all.items c.in_err-more.field-0.0 (texts_of_parts string_bytes part behind rest c.part_of.ensures.parts)
    c.loop-rest.invariant c.in_err-more.ensures)

pub loop-rest-preserved : goal.loop-rest-preserved
loop-rest-preserved g c =
    let part = c.part_of.result.0.now in
    let behind = c.part_of.result.1.now in
    let rest = c.loop-rest.rest.now in
    part_looked (GivesLooked (g.F.ReadFiles.finds c.args.looking.now.files.now)
    (g.F.ReadFiles.gives c.args.looking.now.files.now)
    (g.I.FindImports.tells c.args.looking.now.finder.now) c.args.looking.now.leaves_out c.args.looking.now.is_wanted
    (map string_bytes c.args.looking.now.roots.now))
    (map string_bytes c.args.paths.now) (map string_bytes rest) (map string_bytes part) (map string_bytes behind)
    c.loop-rest.all.items c.in_ok-more.more.items c.append.new.self.items
    (texts_of_parts string_bytes part behind rest c.part_of.ensures.parts)
    c.in_ok-append.ensures.items c.loop-rest.invariant c.in_ok-more.ensures
