use Rattle.std.proofs.Common.{◌≡◌, take}
use Rattle.proto_decl.specs.Imports.{imports_of}
use Rattle.proto_decl.proofs.imports.imports_of.Given as goal

-- what the imports so far import
abbrev pub invariant-loop-import : goal.invariant-loop-import
invariant-loop-import l = l.imported.items ≡ imports_of l.text (take l.import-index l.imports)
