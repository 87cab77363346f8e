-- The files of a tree as they are read in a dialect: in that of all sources, bytes in comments needn't be UTF-8.
use Rattle.std.specs.Prelude.{◌≡◌, List}
use Rattle.proto_parse.specs.dialect.Dialect.{Dialect}
use Rattle.proto_parse.specs.dialect.Dialect.TheVariants.{Proto3, All}
use Rattle.source_tree.specs.Files.{TreeFile}
use Rattle.source_tree.specs.Mending.{AreMended}

abbrev pub AreReadIn : Dialect → (files read : List TreeFile) → Type 0
AreReadIn (Proto3 custom) files read = read ≡ files
AreReadIn All files read = AreMended files read
