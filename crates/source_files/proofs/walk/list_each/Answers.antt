use Rattle.std.proofs.Common.{map, string_bytes}
use Rattle.source_files.proofs.ReadingLemmas.{texts_of_parts}
use Rattle.source_files.proofs.WalkStepPartLemmas.{none_had, part_had}
use Rattle.source_files.proofs.walk.list_each.Goals as goal

pub loop-rest-init : goal.loop-rest-init
loop-rest-init g c =
    rw (c.new-all.ensures.items)
    (none_had (g.F.ReadFiles.lists c.args.readers.now.files.now c.args.root.now) (map string_bytes c.args.folders.now))

pub loop-rest-preserved : goal.loop-rest-preserved
loop-rest-preserved g c =
    let part = c.part_of.result.0.now in
    let behind = c.part_of.result.1.now in
    let rest = c.loop-rest.rest.now in
    part_had (g.F.ReadFiles.lists c.args.readers.now.files.now c.args.root.now) (map string_bytes c.args.folders.now)
    (map string_bytes rest) (map string_bytes part) (map string_bytes behind) c.loop-rest.all.items
    c.in_ok-more.more.items c.append.new.self.items
    (texts_of_parts string_bytes part behind rest c.part_of.ensures.parts)
    c.in_ok-append.ensures.items c.loop-rest.invariant c.in_ok-more.ensures
