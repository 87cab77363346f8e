-- How folders are searched, by the options.
use Rattle.std.specs.Prelude.{ℕ, ◌||◌, Bool, true, false, List, Option, Result, Ok, Err, map, string_bytes}
use Rattle.std.specs.Option.{is_some}
use Rattle.std.specs.declared.alloc.AllocError.{AllocError}
use Rattle.command_line.specs.declared.options.IndexOptions.{IndexOptions}
use Rattle.command_line.specs.declared.options.links.Links.{Links}
use Rattle.command_line.specs.declared.options.links.Links.TheVariants.{Ignore, Follow}
use Rattle.command_line.specs.declared.request.Request.{Request}
use Rattle.command_line.specs.declared.request.Request.TheVariants as request
use Rattle.source_files.specs.Exclusions.{FindsWithout, ListsWithout}
use Rattle.source_files.specs.Listings.{Listing}
use Rattle.programs.specs.Folders.{roots_in}

-- whether links are followed: those of a list lead where they lead
abbrev pub follows_links : Links → Bool
follows_links Ignore = false
follows_links Follow = true

abbrev pub follows : IndexOptions → Bool
follows options = is_some options.sources || follows_links options.links

-- by what is asked for: an index may follow them
abbrev pub links_followed : Result Request AllocError → Bool
links_followed (Ok (request.Index given)) = follows given.options
links_followed (Ok (request.Shell given)) = follows given.options
links_followed (Ok other) = false
links_followed (Err refused) = false

-- what listing folders may give, without what `--exclude` leaves out
abbrev pub searched_by : IndexOptions → (List ℕ → List ℕ → Option Listing → Type 0)
    → (List ℕ → List ℕ → Option Listing → Type 0)
searched_by options lists = ListsWithout lists (map string_bytes options.exclude.items)

-- what asking whether a file is below a folder may answer, without what `--exclude` leaves out
abbrev pub found_by : IndexOptions → (List ℕ → List ℕ → Bool → Type 0) → (List ℕ → List ℕ → Bool → Type 0)
found_by options finds = FindsWithout finds (map string_bytes options.exclude.items)

-- what may be said of why a path can't be read, below the folders that are read, without what `--exclude` leaves out
abbrev pub blamed_by : IndexOptions → (List (List ℕ) → List (List ℕ) → List ℕ → Option (List ℕ) → Type 0)
    → (List ℕ → Option (List ℕ) → Type 0)
blamed_by options blames = blames (roots_in options) (map string_bytes options.exclude.items)
