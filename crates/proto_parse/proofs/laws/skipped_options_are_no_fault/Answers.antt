use Rattle.proto_parse.proofs.RefusedLemmas.{no_option_fault}
use Rattle.proto_parse.proofs.laws.skipped_options_are_no_fault.Goals as goal

pub returns : goal.returns
returns c = λ dialect text tokens fault skips d. no_option_fault skips d
