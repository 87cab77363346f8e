-- The options of a file, with the names in them.
use Rattle.std.specs.Prelude.{◌≡◌, List}
use Rattle.std.specs.List.{AllZip}
use Rattle.proto_lex.specs.Lexed.{Lexed}
use Rattle.proto_grammar.specs.declared.dialect.Dialect.{Dialect}
use Rattle.proto_grammar.specs.declared.tree.File.{File}
use Rattle.proto_grammar.specs.Lexeme.{Lexeme, lexemes_of}
use Rattle.proto_parse.specs.Grammar.Files.{IsFile}
use Rattle.proto_decl.specs.Declares.{package_scope}
use Rattle.proto_options.specs.declared.options.FileOption.{FileOption}
use Rattle.proto_options.specs.Grammar.Settings.{NamesSetting}
use Rattle.proto_options.specs.Elements.{Placed, settings_of}

-- An option of the file, with the names that its tokens name.
pub record IsOptionAt (at : Placed) (option : FileOption) : Type 0 where
  pub scope : option.scope ≡ at.scope
  pub element : option.element ≡ at.element
  pub behind : List Lexeme
  pub named : NamesSetting at.tokens option.setting behind

-- The options of a file that derives from these tokens, in order of place.
pub record AreOptionsOf (dialect : Dialect) (lexed : Lexed) (file : File) (options : List FileOption) : Type 0 where
  pub derives : IsFile dialect (lexemes_of lexed.text lexed.tokens) file
  pub each : AllZip IsOptionAt (settings_of (package_scope lexed.text file) derives) options
