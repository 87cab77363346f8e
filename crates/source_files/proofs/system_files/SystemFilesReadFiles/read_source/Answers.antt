use Rattle.source_files.proofs.SystemFileKeptLemmas.{kept_whole}
use Rattle.source_files.proofs.system_files.SystemFilesReadFiles.read_source.Goals as goal

pub returns-in-Some : goal.returns-in-Some
returns-in-Some g c = kept_whole (λ bytes. bytes.items) c.read_source.result c.read_source.ensures.few
