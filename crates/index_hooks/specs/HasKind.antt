-- Which kinds a set has.
use Rattle.std.specs.Prelude.{Bool, IsTrue}
use Rattle.proto_decl.specs.declared.declaration.DeclarationKind.{DeclarationKind}
use Rattle.proto_decl.specs.declared.declaration.DeclarationKind.TheVariants.{Message, Enum, Service, Field, Oneof}
use Rattle.proto_decl.specs.declared.declaration.DeclarationKind.TheVariants.{Value, Method}
use Rattle.index_hooks.specs.declared.kinds.Kinds.{Kinds}

-- whether it has a kind
abbrev pub has : Kinds → DeclarationKind → Bool
has kinds Message = kinds.messages
has kinds Enum = kinds.enums
has kinds Service = kinds.services
has kinds Field = kinds.fields
has kinds Oneof = kinds.oneofs
has kinds Value = kinds.values
has kinds Method = kinds.methods

abbrev pub HasKind : Kinds → DeclarationKind → Type 0
HasKind kinds kind = IsTrue (has kinds kind)
