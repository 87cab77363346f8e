-- What was made of the sources, apart.
use Rattle.std.specs.Prelude.{ℕ, ◌+◌, List, [], ◌∷◌, ◌++◌, map}
use Rattle.proto_lex.specs.declared.span.Span.{Span}
use Rattle.proto_visibility.specs.declared.files.FilePlace.{FilePlace}
use Rattle.proto_link.specs.declared.uncertain_use.UncertainUse.{UncertainUse}
use Rattle.scip_model.specs.declared.option_told.UncertainPlace.{UncertainPlace}
use Rattle.scip_build.specs.declared.made.MadeDocument.{MadeDocument}

abbrev pub place_in : (file : ℕ) → Span → FilePlace
place_in file span = record { file = file; span = span }

abbrev pub name_in : (file : ℕ) → UncertainPlace → UncertainUse
name_in file at = record { place = place_in file at.span; behind = at.behind }

-- what is told of sources, where the first source has this number
abbrev pub told_from : {Out X Y : Type 0} → (told_in : ℕ → X → Y) → (told_of : MadeDocument Out → List X) → (file : ℕ)
    → List (MadeDocument Out) → List Y
told_from told_in told_of file [] = []
told_from told_in told_of file (made ∷ others) =
    map (told_in file) (told_of made) ++ told_from told_in told_of (file + 1) others

-- the places of the uses of sources that name no type
abbrev pub unresolved_from : {Out : Type 0} → (file : ℕ) → List (MadeDocument Out) → List FilePlace
unresolved_from {Out} = told_from place_in (λ (made : MadeDocument Out). made.unresolved)

-- those of the gaps of their options
abbrev pub gaps_from : {Out : Type 0} → (file : ℕ) → List (MadeDocument Out) → List FilePlace
gaps_from {Out} = told_from place_in (λ (made : MadeDocument Out). made.option_gaps)

-- the uncertain names of their options
abbrev pub names_from : {Out : Type 0} → (file : ℕ) → List (MadeDocument Out) → List UncertainUse
names_from {Out} = told_from name_in (λ (made : MadeDocument Out). made.uncertain_names)
