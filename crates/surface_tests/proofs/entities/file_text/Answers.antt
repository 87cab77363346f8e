use Rattle.surface_tests.proofs.EntityConditions.{spaced_file}
use Rattle.surface_tests.proofs.entities.file_text.Goals as goal

pub file_symbol-requires : goal.file_symbol-requires
file_symbol-requires c = spaced_file
