-- What the definitions say about where documents are, whatever the code does.
use Rattle.std.specs.Prelude.{List}
use Rattle.std.specs.List.Sorted.{IsStrictlySortedBy}
use Rattle.proto_decl.specs.Values.{Seen}
use Rattle.index_hooks.specs.declared.choice.Choice.{Choice}
use Rattle.source_tree.specs.Files.{TreeFile}
use Rattle.scip_model.specs.Indexes.{document_cmp}
use Rattle.scip_build.specs.declared.settings.Settings.{Settings}
use Rattle.scip_build.specs.declared.built.Built.{Built}
use Rattle.scip_build.specs.Builds.{IsBuilt}

-- the documents of what is built are in order of path, wherever they are placed, and no two have one path
abbrev pub BuiltIsInOrder : (allows : Seen → Choice → Type 0) → Type 0
BuiltIsInOrder allows =
    (settings : Settings) (tree : List TreeFile) (built : Built) → IsBuilt allows settings tree built
    → IsStrictlySortedBy document_cmp built.index.documents
