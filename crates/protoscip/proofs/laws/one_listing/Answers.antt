use Rattle.protoscip.proofs.DumpLawLemmas.{one_listing}
use Rattle.protoscip.proofs.laws.one_listing.Goals as goal

pub returns : goal.returns
returns c = one_listing c.one_reading.ensures.one c.one_indexing.ensures.one
