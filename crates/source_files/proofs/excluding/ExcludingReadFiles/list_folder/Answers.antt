use Rattle.std.proofs.Common.{None, subst}
use Rattle.std.specs.Option.{option_map}
use Rattle.source_files.specs.Exclusions.{nothing}
use Rattle.source_files.specs.Listings.{listing_of}
use Rattle.source_files.proofs.excluding.ExcludingReadFiles.list_folder.Goals as goal

pub returns-in-None : goal.returns-in-None
returns-in-None g c =
    let lists = g.F.ReadFiles.lists c.args.self.now.files.now c.args.root.now c.args.folder.now in
    record {
      gave = None;
      listed = subst (λ o. lists (option_map listing_of o)) c.in-None.is c.in_ok-listing.ensures;
      is_left = nothing;
    }
