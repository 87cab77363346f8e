-- What listing a folder gives.
use Rattle.std.specs.Prelude.{List, Option, map}
use Rattle.source_files.specs.declared.listing.FolderIdentity.{FolderIdentity}
use Rattle.source_files.specs.declared.listing.FolderListing.{FolderListing}
use Rattle.source_files.specs.Entries.{Entry}
use Rattle.source_files.specs.Unread.{Unread, unread_of}

-- its entries, which folder it is, if that is known, and those whose names aren't UTF-8
pub record Listing : Type 0 where
  pub entries : List Entry
  pub identity : Option FolderIdentity
  pub unnamed : List Unread

abbrev pub listing_of : FolderListing → Listing
listing_of listing = record {
  entries = listing.entries.items;
  identity = listing.identity;
  unnamed = map unread_of listing.unnamed.items;
}
