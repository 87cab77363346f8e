use Rattle.surface_tests.proofs.RisingLemmas.{two_rise}
use Rattle.surface_tests.proofs.merging.two_paths.Goals as goal

pub returns : goal.returns
returns c = rw (c.in_ok-first.ensures.ok, c.in_ok-second.ensures.ok) two_rise
