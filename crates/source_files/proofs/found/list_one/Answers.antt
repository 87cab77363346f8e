use Rattle.std.proofs.Common.{Some, None, subst}
use Rattle.std.specs.Option.{option_map}
use Rattle.std.proofs.lemmas.Result.{IfOk-weaker}
use Rattle.source_files.specs.Listings.{listing_of}
use Rattle.source_files.proofs.found.list_one.Goals as goal

pub returns-in-Some : goal.returns-in-Some
returns-in-Some g c =
    let lists = g.F.ReadFiles.lists c.args.files.now c.args.root.now c.args.folder.now in
    IfOk-weaker c.found_by.result _ _ (λ found holds. record {
      gave = Some (listing_of c.in-Some.listing);
      listed = subst (λ o. lists (option_map listing_of o)) c.in-Some.is c.in_ok-listing.ensures;
      holds = holds;
    }) c.found_by.ensures

pub returns-in-None : goal.returns-in-None
returns-in-None g c =
    let lists = g.F.ReadFiles.lists c.args.files.now c.args.root.now c.args.folder.now in
    IfOk-weaker c.found_unlisted.result _ _ (λ found holds. record {
      gave = None;
      listed = subst (λ o. lists (option_map listing_of o)) c.in-None.is c.in_ok-listing.ensures;
      holds = holds;
    }) c.found_unlisted.ensures
