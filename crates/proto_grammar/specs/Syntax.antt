-- Dialects, and the grammar of one file.
use Rattle.std.specs.Prelude.{Bool, true, false}
use Rattle.proto_lex.specs.declared.hashes.Hashes.{Hashes}
use Rattle.proto_lex.specs.declared.hashes.Hashes.TheVariants.{Nowhere, InValues}
use Rattle.proto_grammar.specs.declared.dialect.CustomOptions.{CustomOptions}
use Rattle.proto_grammar.specs.declared.dialect.CustomOptions.TheVariants.{Refuse, Skip}
use Rattle.proto_grammar.specs.declared.dialect.Dialect.{Dialect}
use Rattle.proto_grammar.specs.declared.dialect.Dialect.TheVariants as dialect
use Rattle.proto_grammar.specs.declared.dialect.Syntax.{Syntax}
use Rattle.proto_grammar.specs.declared.dialect.Syntax.TheVariants.{Proto3, Extended, Proto2}

-- What is done with custom options, by a file's grammar.
abbrev pub custom_of : Syntax → CustomOptions
custom_of (Proto3 custom) = custom
custom_of Extended = Skip
custom_of Proto2 = Skip

-- The same, by the dialect.
abbrev pub custom_in : Dialect → CustomOptions
custom_in (dialect.Proto3 custom) = custom
custom_in dialect.All = Skip

-- Where a `#` begins a comment: in values in braces, where these are read past.
abbrev pub hashes_in : Dialect → Hashes
hashes_in (dialect.Proto3 Refuse) = Nowhere
hashes_in (dialect.Proto3 Skip) = InValues
hashes_in dialect.All = InValues

-- The grammar of a proto3 file.
abbrev pub proto3_in : Dialect → Syntax
proto3_in (dialect.Proto3 custom) = Proto3 custom
proto3_in dialect.All = Extended

abbrev pub is_all : Dialect → Bool
is_all (dialect.Proto3 custom) = false
is_all dialect.All = true

abbrev pub is_proto2 : Syntax → Bool
is_proto2 (Proto3 custom) = false
is_proto2 Extended = false
is_proto2 Proto2 = true

-- Whether extends declare fields. They do unless only proto3 is accepted.
abbrev pub extends : Syntax → Bool
extends (Proto3 custom) = false
extends Extended = true
extends Proto2 = true
