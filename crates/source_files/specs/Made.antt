-- Files that are made, and files that are refused.
use Rattle.std.specs.Prelude.{◌≡◌, ⊤, ℕ, Bool, true, false, List, [], ◌∷◌, ◌++◌, Option, None, Some, Result, Ok, Err}
use Rattle.streams.specs.Streams.{one_more}

-- a file: its path, and what is written to it
pub record MadeFile : Type 0 where
  pub path : List ℕ
  pub bytes : List ℕ

-- the files that were made, in order, if they are known, and how many were refused; this count stops at the last u64
pub record Made : Type 0 where
  pub files : Option (List MadeFile)
  pub refusals : ℕ

-- files come after those that were made before, if these are known
abbrev pub Adds : Option (List MadeFile) → Option (List MadeFile) → List MadeFile → Type 0
Adds None after files = ⊤
Adds (Some made) None files = ⊥
Adds (Some made) (Some all) files = all ≡ made ++ files

-- files are made, and none is refused
pub record MakesAll (before after : Made) (files : List MadeFile) : Type 0 where
  pub added : Adds before.files after.files files
  pub unrefused : after.refusals ≡ before.refusals

-- files are made, and then one is refused
pub record StopsBehind (before after : Made) (files : List MadeFile) : Type 0 where
  pub added : Adds before.files after.files files
  pub refused : after.refusals ≡ one_more before.refusals

-- one is made, or it is refused; or memory ran out: none of the known files is made, and none is refused
abbrev pub Makes : {E : Type 0} → (before after : Made) → (path bytes : List ℕ) → Result Bool E → Type 0
Makes before after path bytes (Ok true) = MakesAll before after (record { path = path; bytes = bytes } ∷ [])
Makes before after path bytes (Ok false) = StopsBehind before after []
Makes before after path bytes (Err lacking) = MakesAll before after []
