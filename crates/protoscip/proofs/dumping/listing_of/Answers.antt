use Rattle.protoscip.proofs.dumping.listing_of.Goals as goal

pub returns : goal.returns
returns g c bytes is = c.listing_by.ensures c.args.dialect bytes c.in_ok-settings.ensures is
