-- Which answers the ready promises allow for a declaration.
use Rattle.std.specs.Prelude.{⊤, ◌≡◌, ◌≢◌, ◌⊎◌, ◌↔◌, ℕ, Bool, IsTrue, List, [], Contains}
use Rattle.proto_decl.specs.Values.{Seen}
use Rattle.index_hooks.specs.HasKind.{HasKind}
use Rattle.index_hooks.specs.IsUnder.{IsUnder}
use Rattle.index_hooks.specs.declared.choice.DocChoice.{DocChoice}
use Rattle.index_hooks.specs.declared.kinds.Kinds.{Kinds}

-- `AnyAnswer`: any
abbrev pub AllowsAny : {A : Type 0} → Seen → A → Type 0
AllowsAny seen answer = ⊤

-- `KindIn`: true if and only if its kind is in the set
abbrev pub KeepsKinds : Kinds → Seen → Bool → Type 0
KeepsKinds kinds seen keep = IsTrue keep ↔ HasKind kinds seen.kind

-- `NamePrefix`: true if and only if its full name is that of the scope, or begins with it and a dot
abbrev pub KeepsUnder : (scope : List ℕ) → Seen → Bool → Type 0
KeepsUnder scope seen keep = IsTrue keep ↔ IsUnder scope seen.full_name

-- there is a comment text before it, or after it on its line
abbrev pub HasComment : Seen → Type 0
HasComment seen = (seen.leading ≢ []) ⊎ (seen.trailing ≢ [])

-- `WithComment`: true if and only if it has one
abbrev pub KeepsCommented : Seen → Bool → Type 0
KeepsCommented seen keep = IsTrue keep ↔ HasComment seen

-- `DocAlways`: one answer alone
abbrev pub AnswersOnly : DocChoice → Seen → DocChoice → Type 0
AnswersOnly only seen answer = answer ≡ only

-- `DocOneOf`: those listed
abbrev pub AnswersOneOf : List DocChoice → Seen → DocChoice → Type 0
AnswersOneOf listed seen answer = Contains listed answer
