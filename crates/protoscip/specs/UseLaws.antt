-- Laws of uses, and of names in options.
use Rattle.std.specs.Prelude.{ℕ, List}
use Rattle.proto_decl.specs.declared.uses.Use.{Use}
use Rattle.proto_link.specs.declared.target.Target.{Target}
use Rattle.proto_visibility.specs.Files.{File, HaveOrigins}
use Rattle.proto_link.specs.Targets.{Names, IsTarget}
use Rattle.proto_options.specs.declared.names.OptionName.{OptionName}
use Rattle.proto_options.specs.declared.options.FileOption.{FileOption}
use Rattle.proto_visibility.specs.declared.lookup.Entity.{Entity}
use Rattle.option_link.specs.declared.facts.OptionFacts.{OptionFacts}
use Rattle.option_link.specs.declared.place.DeclaredPlace.{DeclaredPlace}
use Rattle.option_link.specs.Contexts.{behind_spelled}
use Rattle.option_link.specs.OptionNames.{NamesParts, NamesPlace}

-- A use that names a type has a target: each of its components names an entity.
abbrev pub EachUseHasATarget : Type 0
EachUseHasATarget = (files : List File) → HaveOrigins files → (file : ℕ) (type_use : Use) (name : List ℕ) (owner : ℕ)
    → Names files file type_use name owner
    → (target : Target) × IsTarget files file type_use target

-- So does each component of a name in an option that names something.
abbrev pub EachOptionNameHasParts : Type 0
EachOptionNameHasParts = (files : List File) → HaveOrigins files → (known : List OptionFacts) (file : ℕ)
    (text : List ℕ) (option : FileOption) (number : ℕ) (name : OptionName) (at : DeclaredPlace)
    → (names : NamesPlace files known file text option number name at)
    → (parts : List Entity) × NamesParts files name at (behind_spelled names.names) parts
