-- Laws about options.
use Rattle.std.specs.Prelude.{◌≡◌, List, map}
use Rattle.std.specs.List.Sorted.{IsStrictlyIncreasing}
use Rattle.proto_lex.specs.Lexed.{Lexed, IsLexed}
use Rattle.proto_grammar.specs.declared.dialect.Dialect.{Dialect}
use Rattle.proto_grammar.specs.declared.dialect.Dialect.TheVariants.{All}
use Rattle.proto_grammar.specs.declared.tree.File.{File}
use Rattle.proto_parse.specs.Derives.{Derives, DerivesBySome}
use Rattle.proto_options.specs.declared.options.FileOption.{FileOption}
use Rattle.proto_options.specs.Fields.{fields_in}
use Rattle.proto_options.specs.Options.{AreOptionsOf}

-- A file that derives has a list of options, whatever is in braces as their values.
abbrev pub EachFileHasOptions : Type 0
EachFileHasOptions = (dialect : Dialect) (lexed : Lexed) (file : File) → Derives dialect lexed.text lexed.tokens file
    → (options : List FileOption) × AreOptionsOf dialect lexed file options

-- A file has one list of options at most, however its tokens derive it.
abbrev pub OneListOfOptions : Type 0
OneListOfOptions = (lexed : Lexed) (file : File) (a b : List FileOption) → AreOptionsOf All lexed file a
    → AreOptionsOf All lexed file b → a ≡ b

-- The fields of a file start one behind the other.
abbrev pub FieldsStandInOrder : Type 0
FieldsStandInOrder = (lexed : Lexed) (file : File) → IsLexed lexed.text lexed.tokens lexed.comments
    → DerivesBySome lexed.text lexed.tokens file → IsStrictlyIncreasing (map (λ fact. fact.name.start) (fields_in file))
