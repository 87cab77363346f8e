-- The laws of trees.
use Rattle.std.specs.Prelude.{◌≡◌, ◌⊎◌, List}
use Rattle.source_tree.specs.declared.fault.TreeFault.{TreeFault}
use Rattle.source_tree.specs.declared.fault.TreeFault.TheVariants.{Memory}
use Rattle.source_tree.specs.Files.{SourceFile, TreeFile, IsByPath}
use Rattle.source_tree.specs.Trees.{IsTreeOf}
use Rattle.source_tree.specs.Refusals.{MayRefuse}

-- lists of sources and included files have one tree at most
abbrev pub OneTree : Type 0
OneTree = (sources included : List SourceFile) (files others : List TreeFile)
    → IsTreeOf sources included files → IsTreeOf sources included others → files ≡ others

-- files are sorted by path in one way
abbrev pub OneSortingByPath : Type 0
OneSortingByPath = (files sorted other : List SourceFile) → IsByPath files sorted → IsByPath files other
    → sorted ≡ other

-- two faults of the same files are one, apart from lack of memory
abbrev pub RefusalsExcludeEachOther : Type 0
RefusalsExcludeEachOther = (sources included : List SourceFile) (fault other : TreeFault)
    → MayRefuse sources included fault → MayRefuse sources included other
    → (fault ≡ other) ⊎ ((fault ≡ Memory) ⊎ (other ≡ Memory))

-- if there is a tree, no fault holds but lack of memory
abbrev pub TreesAreNotRefused : Type 0
TreesAreNotRefused = (sources included : List SourceFile) (files : List TreeFile) (fault : TreeFault)
    → IsTreeOf sources included files → MayRefuse sources included fault → fault ≡ Memory
