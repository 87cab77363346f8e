use Rattle.std.proofs.Common.{Err}
use Rattle.programs.proofs.running.answer.Goals as goal

pub returns-in-Err : goal.returns-in-Err
returns-in-Err g c = (Err c.in-Err.fault, c.in-Err.ensures, c.report_query.ensures)
