-- What files are made by, around a call.
use Rattle.std.specs.Borrow.{MutBor}
use denote.Triple.Both.{Both}
use Rattle.source_files.specs.declared.make_files.MakeFiles.{Ghosts}

-- what the trait says of a type
abbrev pub MakeFilesOf : Type 0 → Type 1
MakeFilesOf O = Ghosts O

-- what makes files, before and after a call, and what its trait says of it: the files that it has made, and how many it
-- was refused
pub record Maker (O : Type 0) : Type 1 where
  pub files : MakeFilesOf O
  pub before : O
  pub after : O

-- between two moments, and around the call to which a clause belongs: `maker O.MakeFiles made` of its parameter `made`
abbrev pub making : {O : Type 0} → MakeFilesOf O → (before after : O) → Maker O
making files before after = record { files = files; before = before; after = after }

abbrev pub maker : {O : Type 0} → MakeFilesOf O → Both (MutBor O) (MutBor O) → Maker O
maker files made = making files made.entry.now made.exit.now
