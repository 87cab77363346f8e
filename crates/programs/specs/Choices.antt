-- What the options of `index` and `shell` choose for each declaration.
use Rattle.std.specs.Prelude.{◌≡◌, ◌↔◌, ℕ, Bool, true, IsTrue, List, Option, Some, None}
use Rattle.proto_decl.specs.Values.{Seen}
use Rattle.index_hooks.specs.IsUnder.{IsUnder}
use Rattle.index_hooks.specs.declared.choice.Choice.{Choice}
use Rattle.index_hooks.specs.declared.choice.DocChoice.{DocChoice}
use Rattle.index_hooks.specs.declared.choice.DocChoice.TheVariants.{Pass, Nothing, Leading, Trailing, Both}

-- which texts document a declaration by what `--doc` says; if it isn't given, the text before it
abbrev pub documented_by : Option DocChoice → DocChoice
documented_by None = Leading
documented_by (Some Pass) = Leading
documented_by (Some Nothing) = Nothing
documented_by (Some Leading) = Leading
documented_by (Some Trailing) = Trailing
documented_by (Some Both) = Both

-- whether a declaration is kept by a full name of `--only`: if and only if it is its own or one above it; if there is
-- none, it is kept
abbrev pub IsKeptBy : Option (List ℕ) → Seen → Bool → Type 0
IsKeptBy None seen keep = keep ≡ true
IsKeptBy (Some scope) seen keep = IsTrue keep ↔ IsUnder scope seen.full_name

pub record IsChosenBy (only : Option (List ℕ)) (doc : Option DocChoice) (seen : Seen) (choice : Choice) : Type 0 where
  pub keep : IsKeptBy only seen choice.keep
  pub doc_is : choice.doc ≡ documented_by doc
