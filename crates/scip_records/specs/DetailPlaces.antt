-- The details of a symbol, wherever they are.
use Rattle.scip_records.specs.Details.{no_details}
use Rattle.scip_records.specs.declared.details.Details.{Details}
use Rattle.scip_records.specs.declared.details.DetailPlace.{DetailPlace}
use Rattle.scip_records.specs.declared.details.DetailPlace.TheVariants.{Nowhere, Boxed}

abbrev pub details_at : DetailPlace → Details
details_at Nowhere = no_details
details_at (Boxed details) = details.value
