-- What files import, as they are read in a dialect (proto3 specification, "Import statement").
use Rattle.std.specs.Prelude.{◌≡◌, ℕ, false, List, [], ◌∷◌, map}
use Rattle.proto_parse.specs.dialect.Dialect.{Dialect}
use Rattle.proto_parse.specs.dialect.Dialect.TheVariants.{Proto3, All}
use Rattle.proto_parse.specs.tree.File.{File}
use Rattle.proto_parse.specs.Derives.{Derives}
use Rattle.proto_lex.specs.Lexed.{Lexed}
use Rattle.proto_decl.specs.Imports.{imports_of}
use Rattle.proto_decl.specs.declared.imports.Imported.{Imported}
use Rattle.proto_visibility.specs.Files.{is_public}
use Rattle.scip_build.specs.Parsed.{HasLexing, IsUnreadable}
use Rattle.scip_build.specs.declared.fault.FileFault.{FileFault}
use Rattle.source_tree.specs.Files.{TreeFile}
use Rattle.source_tree.specs.Mending.{IsMended}
use Rattle.source_files.specs.Reached.{Import}

abbrev pub import_of : Imported → Import
import_of imported = record { path = imported.path; is_public = is_public imported.kind }

-- what a text imports: nothing if it can't be read
pub data TellsText (dialect : Dialect) (text : List ℕ) : List Import → Type 0 where
  of_tree : {lexed : Lexed} (tree : File) → HasLexing dialect text lexed → Derives dialect lexed.text lexed.tokens tree
      → TellsText dialect text (map import_of (imports_of lexed.text tree.imports))
  of_fault : (fault : FileFault) → IsUnreadable dialect false text fault → TellsText dialect text []

-- what is read of bytes in a dialect
abbrev pub IsReadIn : Dialect → (bytes text : List ℕ) → Type 0
IsReadIn (Proto3 custom) bytes text = text ≡ bytes
IsReadIn All bytes text = IsMended bytes text

-- the first file of a tree has these bytes, as they are read in a dialect
pub record IsTreeOfOne (dialect : Dialect) (bytes : List ℕ) (files : List TreeFile) : Type 0 where
  pub first : TreeFile
  pub behind : List TreeFile
  pub files_are : files ≡ first ∷ behind
  pub is_read : IsReadIn dialect bytes first.text

-- what a file with these bytes imports
pub record TellsIn (dialect : Dialect) (bytes : List ℕ) (imports : List Import) : Type 0 where
  pub text : List ℕ
  pub is_read : IsReadIn dialect bytes text
  pub told : TellsText dialect text imports
