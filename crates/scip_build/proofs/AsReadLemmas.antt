-- The files of a tree as they are read in a dialect are a tree.
use Rattle.std.proofs.Common.{List, sym, subst}
use Rattle.proto_parse.specs.dialect.Dialect.{Dialect}
use Rattle.proto_parse.specs.dialect.Dialect.TheVariants.{Proto3, All}
use Rattle.source_tree.specs.Files.{TreeFile}
use Rattle.source_tree.specs.Trees.{IsTree}
use Rattle.source_tree.proofs.MendedTreeLemmas.{mended_tree}
use Rattle.scip_build.specs.AsRead.{AreReadIn}

pub tree_as_read : (dialect : Dialect) (files read : List TreeFile) → AreReadIn dialect files read → IsTree files
    → IsTree read
tree_as_read (Proto3 custom) files read same tree = subst IsTree (sym same) tree
tree_as_read All files read mended tree = mended_tree files read mended tree
