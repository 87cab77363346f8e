use Rattle.std.proofs.Common.{map, string_bytes}
use Rattle.std.proofs.lemmas.Result.{err_from_is_err_and}
use Rattle.source_files.proofs.ReadingLemmas.{none_read, texts_of_parts, part_more, part_stops}
use Rattle.source_files.proofs.reading.read_each.Goals as goal

pub loop-rest-init : goal.loop-rest-init
loop-rest-init g c =
    rw (c.new.ensures.items, c.new-2.ensures.items) (none_read (g.F.ReadFiles.lists c.args.readers.now.files.now)
    (g.F.ReadFiles.gives c.args.readers.now.files.now) c.args.readers.now.leaves_out c.args.root.now
    (map string_bytes c.args.paths.now))

pub returns-in_err-all : goal.returns-in_err-all
returns-in_err-all g c =
    let p = err_from_is_err_and c.from_residual.result c.from_residual.ensures.1 in
    let part = c.part_of.result.0.now in
    let behind = c.part_of.result.1.now in
    let rest = c.loop-rest.rest.now in
    rw (p.1, p.2) (part_stops (g.F.ReadFiles.lists c.args.readers.now.files.now)
    (g.F.ReadFiles.gives c.args.readers.now.files.now) c.args.readers.now.leaves_out c.args.root.now
    (map string_bytes c.args.paths.now) (map string_bytes rest) (map string_bytes part) (map string_bytes behind)
    c.loop-rest.below c.in_err-all.field-0.0 (texts_of_parts string_bytes part behind rest c.part_of.ensures.parts)
    c.loop-rest.invariant c.in_err-all.ensures)

pub loop-rest-preserved : goal.loop-rest-preserved
loop-rest-preserved g c =
    let part = c.part_of.result.0.now in
    let behind = c.part_of.result.1.now in
    let rest = c.loop-rest.rest.now in
    part_more (g.F.ReadFiles.lists c.args.readers.now.files.now) (g.F.ReadFiles.gives c.args.readers.now.files.now)
    c.args.readers.now.leaves_out c.args.root.now (map string_bytes c.args.paths.now) (map string_bytes rest)
    (map string_bytes part) (map string_bytes behind) c.in_ok-all.all.items c.loop-rest.below c.add_each.new.below
    (texts_of_parts string_bytes part behind rest c.part_of.ensures.parts) c.loop-rest.invariant c.in_ok-all.ensures
    c.in_ok-add_each.ensures
