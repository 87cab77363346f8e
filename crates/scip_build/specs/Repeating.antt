-- The settings with the packages by which the symbols of files were made, in which what is repeated among the files
-- may have its file.
use Rattle.scip_model.specs.Packages.{Packages, RepeatedNames, naming}
use Rattle.scip_build.specs.declared.settings.Settings.{Settings}

abbrev pub with_packages : Settings → Packages → Settings
with_packages settings ids = record settings { «package» = ids }

-- with what is repeated among the files
abbrev pub repeating : Settings → RepeatedNames → Settings
repeating settings repeated = with_packages settings (naming settings.«package» repeated)
