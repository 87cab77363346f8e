use Rattle.std.proofs.Common.{List, ◌++◌}
use Rattle.std.specs.List.{AllZip}
use Rattle.proto_decl.specs.Declares.{IsDeclaration}
use Rattle.proto_decl.specs.declared.declaration.Outline.{Outline}
use Rattle.proto_decl.proofs.declaring.push_documented.Given as goal

-- behind the declarations that were there are those of the outlines so far
abbrev pub invariant-loop-outline : goal.invariant-loop-outline
invariant-loop-outline l = (before : List Outline)
    → AllZip (IsDeclaration l.form l.lexed) before l.fn.declared.declarations.items
    → AllZip (IsDeclaration l.form l.lexed) (before ++ l.yielded) l.declared.declarations.items
