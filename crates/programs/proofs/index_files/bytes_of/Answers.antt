use Rattle.std.proofs.Common.{◌∙◌, ap}
use Rattle.streams.specs.StdStreams.{inner_of}
use Rattle.programs.proofs.IndexFileLemmas.{all_written}
use Rattle.programs.proofs.index_files.bytes_of.Goals as goal

pub returns-in-Ok-clause-bytes : goal.returns-in-Ok-clause-bytes
returns-in-Ok-clause-bytes c index pieces =
    ap (λ v. v.items) c.into_inner.ensures
    ∙ all_written (inner_of c.new-out.result).items (inner_of c.write.new.sink).items _
    (ap (λ v. v.items) c.new-out.ensures.inner ∙ c.new.ensures.items)
    (c.in-Ok.ensures.ok index pieces).written
