-- What the options of `index` and `shell` say about the run.
use Rattle.std.specs.Prelude.{Bool, true, false, string_bytes}
use Rattle.std.specs.Option.{option_map}
use Rattle.proto_decl.specs.Values.{Seen}
use Rattle.index_hooks.specs.declared.choice.Choice.{Choice}
use Rattle.scip_symbol.specs.Package.{Package}
use Rattle.scip_build.specs.declared.faulty.Faulty.{Faulty}
use Rattle.scip_build.specs.declared.faulty.Faulty.TheVariants.{Refuse, Skip}
use Rattle.scip_model.specs.Packages.{Packages}
use Rattle.scip_build.specs.declared.settings.Settings.{Settings}
use Rattle.command_line.specs.declared.options.IndexOptions.{IndexOptions}
use Rattle.programs.specs.Choices.{IsChosenBy}

-- if what has faults is skipped, what can't be read below the folders is left out
abbrev pub leaves_out : Faulty → Bool
leaves_out Refuse = false
leaves_out Skip = true

-- the package that symbols name
abbrev pub package_in : IndexOptions → Package
package_in options = record {
  manager = string_bytes options.manager;
  name = string_bytes options.«package»;
  version = string_bytes options.release;
}

-- what the options say about an index whose symbols belong to these packages
abbrev pub settings_in : IndexOptions → Packages → Settings
settings_in options ids = record {
  project_root = string_bytes options.project_root;
  at = string_bytes options.at;
  «package» = ids;
  encoding = options.encoding;
  dialect = options.dialect;
  comments = options.comments;
  details = options.details;
  options = options.links_options;
  faulty = options.faulty;
  duplicates = options.duplicates;
}

-- the choices that they allow
abbrev pub allowed_by : IndexOptions → Seen → Choice → Type 0
allowed_by options = IsChosenBy (option_map string_bytes options.only) options.doc
