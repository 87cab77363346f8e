use Rattle.std.proofs.Common.{refl}
use Rattle.programs.specs.Surveying.{lacks_memory}
use Rattle.programs.proofs.surveying.survey.Goals as goal

pub returns-in-Err : goal.returns-in-Err
returns-in-Err g c = lacks_memory refl c.report.ensures
