use Rattle.std.proofs.Common.{length, refl}
use Rattle.std.proofs.lemmas.Option.{slice_get_read}
use Rattle.proto_visibility.proofs.FileOriginLemmas.{origins_more, origins_all}
use Rattle.proto_visibility.proofs.files.have_origins.Goals as goal

pub loop-file-preserved : goal.loop-file-preserved
loop-file-preserved c =
    let files = c.args.files.now in
    let index = c.loop-file.file-index in
    let file = c.file-item.result in
    origins_more files index file
    (slice_get_read files (length files) index file refl c.loop-file-test.true c.file-item.is) c.has_origin.ensures
    c.loop-file.invariant

pub returns : goal.returns
returns c = origins_all c.args.files.now c.loop-file.file-index c.loop-file-test.false c.loop-file.invariant
