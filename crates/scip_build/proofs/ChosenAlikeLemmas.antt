-- Where one choice alone may come for what is seen, the choices for one list of declarations are one.
use Rattle.std.proofs.Common.{◌≡◌, List, [], ◌∷◌, refl}
use Rattle.proto_decl.specs.Values.{Seen}
use Rattle.proto_decl.specs.declared.declaration.Declaration.{Declaration}
use Rattle.index_hooks.specs.declared.choice.Choice.{Choice}
use Rattle.scip_build.specs.ParsedFiles.{seen_of, AreChosen}
use Rattle.scip_build.specs.BuildLaws.{AllowOne}

pub same_choices : (allows others : Seen → Choice → Type 0) → AllowOne allows others
    → (declarations : List Declaration) (xs ys : List Choice)
    → AreChosen allows declarations xs → AreChosen others declarations ys → xs ≡ ys
same_choices allows others agree [] [] [] chosen also = refl
same_choices allows others agree [] [] (y ∷ ys) chosen also = absurd also
same_choices allows others agree [] (x ∷ xs) ys chosen also = absurd chosen
same_choices allows others agree (d ∷ ds) [] ys chosen also = absurd chosen
same_choices allows others agree (d ∷ ds) (x ∷ xs) [] chosen also = absurd also
same_choices allows others agree (d ∷ ds) (x ∷ xs) (y ∷ ys) chosen also =
    let here = agree (seen_of d) x y chosen.0 also.0 in
    let more = same_choices allows others agree ds xs ys chosen.1 also.1 in
    λ i. here i ∷ more i
