use Rattle.std.proofs.Common.{◌++◌, List, take}
use Rattle.source_tree.specs.Files.{SourceFile}
use Rattle.source_tree.specs.Marks.{AreTexts}
use Rattle.source_tree.proofs.tree.push_texts.Given as goal

-- behind the texts that were there are those of the files so far
abbrev pub invariant-loop-file : goal.invariant-loop-file
invariant-loop-file l = (before : List SourceFile) → AreTexts before l.fn.texts.items
    → AreTexts (before ++ take l.file-index l.files) l.texts.items
