use Rattle.std.proofs.Common.{◌∙◌, ap}
use Rattle.std.proofs.lemmas.Result.{err_from_is_err_and}
use Rattle.protoscip.specs.DumpText.{dump_text}
use Rattle.protoscip.specs.Writing.IsNotReadBack.{reading_lacks_memory}
use Rattle.protoscip.proofs.dumping.listing_of_index.Goals as goal

pub returns-in_err-listing : goal.returns-in_err-listing
returns-in_err-listing c =
    let p = err_from_is_err_and c.from_residual-in_err-listing.result c.from_residual-in_err-listing.ensures.1 in
    rw (p.1, p.2) (reading_lacks_memory c.in_ok-read.ensures.0.small)

pub returns : goal.returns
returns c = (c.in_ok-read.ensures.0, c.in_ok-listing.ensures ∙ ap dump_text c.in_ok-read.ensures.1)
