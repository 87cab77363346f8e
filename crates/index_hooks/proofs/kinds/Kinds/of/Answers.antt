-- A set has a kind if it is among the kinds.
use Rattle.proto_decl.specs.declared.declaration.DeclarationKind.TheVariants.{Message, Enum, Service, Field, Oneof}
use Rattle.proto_decl.specs.declared.declaration.DeclarationKind.TheVariants.{Value, Method}
use Rattle.index_hooks.proofs.kinds.Kinds.of.Goals as goal

pub returns : goal.returns
returns c Message = c.is_among.ensures
returns c Enum = c.is_among-2.ensures
returns c Service = c.is_among-3.ensures
returns c Field = c.is_among-4.ensures
returns c Oneof = c.is_among-5.ensures
returns c Value = c.is_among-6.ensures
returns c Method = c.is_among-7.ensures
