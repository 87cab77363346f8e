-- What is said of a tree without sources. (The texts are this project's own.)
-- `passes` is what counting that which a walk below a root passes over may give.
use Rattle.std.specs.Prelude.{◌<◌, ◌==◌, ◌&&◌, ◌||◌, ℕ, Bool, true, false, List, [], ◌++◌, Option, Some, None}
use Rattle.std.specs.Prelude.{codes, string_bytes, if◌then◌else◌}
use Rattle.std.specs.Fmt.{decimal}
use Rattle.std.specs.Option.{is_some}
use Rattle.source_files.specs.declared.look_again.PassedOver.{PassedOver}
use Rattle.source_tree.specs.Files.{TreeFile}
use Rattle.source_tree.specs.Trees.{IsSourceCount}
use Rattle.command_line.specs.declared.options.IndexOptions.{IndexOptions}
use Rattle.command_line.specs.declared.options.sources.SourceList.{SourceList}

-- ` (N symbolic links, N files with other names)`
abbrev pub counted_text : (links others : ℕ) → List ℕ
counted_text links others =
    codes " (" ++ decimal links ++ codes " symbolic links, " ++ decimal others ++ codes " files with other names)"

-- the same; nothing if nothing was passed over
abbrev pub passed_text : (links others : ℕ) → List ℕ
passed_text links others = if links == 0 && others == 0 then [] else counted_text links others

-- `protoscip: no sources below ROOT`, and what was passed over there
abbrev pub no_sources_line : (root : List ℕ) → PassedOver → List ℕ
no_sources_line root passed =
    codes "protoscip: no sources below " ++ root ++ passed_text passed.links passed.others

-- The line that is said of a tree, if one is: that it has no source, if that is asked for and it has none.
pub data NoneFound (passes : PassedOver → Type 0) (root : List ℕ) (tree : List TreeFile)
    : (asked : Bool) → (line : Option (List ℕ)) → Type 0 where
  unasked : NoneFound passes root tree false None
  some_found : {asked : Bool} {count : ℕ} → IsSourceCount tree count → 0 < count → NoneFound passes root tree asked None
  none_found : (passed : PassedOver) → IsSourceCount tree 0 → passes passed
      → NoneFound passes root tree true (Some (no_sources_line root passed))

-- who is told: a terminal, whoever wants faults explained, and whoever wants a report
abbrev pub is_told : (watched : Bool) → IndexOptions → Bool
is_told watched options = (watched || options.explain) || is_some options.report.path

-- a list names no sources
abbrev pub no_list_line : (file : List ℕ) → List ℕ
no_list_line file = codes "protoscip: no sources in " ++ file

-- the same of the sources that a list names
pub data NoneListed (file : List ℕ) (tree : List TreeFile) : (asked : Bool) → (line : Option (List ℕ)) → Type 0 where
  list_unasked : NoneListed file tree false None
  some_listed : {asked : Bool} {count : ℕ} → IsSourceCount tree count → 0 < count → NoneListed file tree asked None
  none_listed : IsSourceCount tree 0
      → NoneListed file tree true (Some (no_list_line file))

-- the same of those of options: below the root, or of a list
abbrev pub NoneFoundIn : (passes : PassedOver → Type 0) → (root : List ℕ) → Option SourceList → List TreeFile
    → (asked : Bool) → (line : Option (List ℕ)) → Type 0
NoneFoundIn passes root None tree asked line = NoneFound passes root tree asked line
NoneFoundIn passes root (Some list) tree asked line = NoneListed (string_bytes list.file) tree asked line

abbrev pub NoneFoundBy : (passes : List ℕ → PassedOver → Type 0) → (watched : Bool) → IndexOptions → List TreeFile
    → (line : Option (List ℕ)) → Type 0
NoneFoundBy passes watched options tree line =
    NoneFoundIn (passes (string_bytes options.root)) (string_bytes options.root) options.sources tree
    (is_told watched options) line
