use Rattle.std.proofs.Common.{◌≡◌, take}
use Rattle.std.specs.List.{AllZip}
use Rattle.proto_decl.specs.Declares.{outlines_in, IsDeclaration}
use Rattle.proto_decl.specs.Uses.{uses_in}
use Rattle.proto_decl.proofs.declaring.declared_at.Given as goal

-- what the items so far declare and use
abbrev pub invariant-loop-item : goal.invariant-loop-item
invariant-loop-item l = record {
  declarations : AllZip (IsDeclaration l.form l.lexed) (outlines_in l.text l.surrounding (take l.item-index l.items))
      l.declared.declarations.items;
  uses : l.uses.items ≡ uses_in l.text l.surrounding (take l.item-index l.items);
}
