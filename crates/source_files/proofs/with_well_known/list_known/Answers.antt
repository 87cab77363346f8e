use Rattle.std.proofs.Common.{Some, subst, sym}
use Rattle.source_files.specs.Listings.{Listing, listing_of}
use Rattle.source_files.specs.WellKnown.{ListsKnown}
use Rattle.source_files.specs.WellKnown.ListsKnown.{of_root, of_google, of_others}
use Rattle.source_files.proofs.WellKnownLemmas.{at_folder, below_protobuf}
use Rattle.source_files.proofs.with_well_known.list_known.Goals as goal

pub returns-in_ok-folder_alone-in-empty : goal.returns-in_ok-folder_alone-in-empty
returns-in_ok-folder_alone-in-empty g c =
    at_folder (g.F.ReadFiles.lists c.args.files.now c.args.root.now) c.in-empty.is c.in_ok-folder_alone-in-empty.ensures
    of_root

pub returns-in_ok-folder_alone-in-text : goal.returns-in_ok-folder_alone-in-text
returns-in_ok-folder_alone-in-text g c =
    at_folder (g.F.ReadFiles.lists c.args.files.now c.args.root.now) c.in-text.is c.in_ok-folder_alone-in-text.ensures
    of_google

pub returns-in-text-2 : goal.returns-in-text-2
returns-in-text-2 g c =
    below_protobuf (g.F.ReadFiles.lists c.args.files.now c.args.root.now) listing_of c.list_folder.result c.in-text-2.is
    c.list_folder.ensures

pub returns-in_default : goal.returns-in_default
returns-in_default g c =
    subst (λ (listing : Listing). ListsKnown (g.F.ReadFiles.lists c.args.files.now c.args.root.now) c.args.folder.now
    (Some listing)) (sym c.no_entries.ensures) (of_others c.in_default.not-empty c.in_default.not-text
    c.in_default.not-text-2)
