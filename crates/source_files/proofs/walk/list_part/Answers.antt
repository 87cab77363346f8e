use Rattle.std.proofs.Common.{string_bytes}
use Rattle.std.specs.declared.alloc.AllocError.{AllocError}
use Rattle.source_files.proofs.WalkStepPartLemmas.{have_each}
use Rattle.source_files.proofs.walk.list_part.Goals as goal

pub returns-in-Ok : goal.returns-in-Ok
returns-in-Ok g c =
    have_each (g.F.ReadFiles.lists c.args.readers.now.files.now c.args.root.now) AllocError string_bytes
    c.args.folders.now c.in-Ok.all.items c.in-Ok.ensures.answers
