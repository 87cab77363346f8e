-- `--include` and `--include-package`: the folders with included files, and the packages that those of some belong to.
use Rattle.std.specs.Prelude.{List, [], ◌∷◌, codes, string_bytes}
use Rattle.clap.specs.Words.{Row, Rule, Text}
use Rattle.command_line.specs.Arguments.{option_rule, repeated}
use Rattle.command_line.specs.Values.{texts_of}
use Rattle.command_line.specs.declared.options.include.PackageFolder.{PackageFolder}

abbrev pub include_rule : Rule
include_rule = repeated (option_rule (codes "include"))

abbrev pub include_of : List Row → List Text
include_of rows = texts_of (codes "include") rows

-- one of four values
abbrev pub include_package_rule : Rule
include_package_rule = repeated (record (option_rule (codes "include-package")) { value_names = 4 })

-- a folder, and the package that its files belong to
pub record Folder : Type 0 where
  pub manager : Text
  pub name : Text
  pub release : Text
  pub folder : Text

abbrev pub folder_of : PackageFolder → Folder
folder_of given = record {
  manager = string_bytes given.manager;
  name = string_bytes given.name;
  release = string_bytes given.release;
  folder = string_bytes given.folder;
}

-- four texts are a folder; `clap` takes no other number of them
abbrev pub folders_in : List Text → List Folder
folders_in (manager ∷ (name ∷ (release ∷ (folder ∷ others)))) =
    record { manager = manager; name = name; release = release; folder = folder } ∷ folders_in others
folders_in others = []

abbrev pub package_folders_of : List Row → List Folder
package_folders_of rows = folders_in (texts_of (codes "include-package") rows)
