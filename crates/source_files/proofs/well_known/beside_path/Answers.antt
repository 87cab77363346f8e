use Rattle.std.proofs.Common.{◌≡◌, ◌∙◌, ℕ, List, Option, IfOk, map, ap, sym, subst, string_bytes}
use Rattle.std.specs.Borrow.{Bor}
use Rattle.std.specs.Option.{option_map}
use Rattle.source_files.specs.WellKnown.{AreBeside, folder_named, folders_on}
use Rattle.source_files.specs.WellKnown.AreBeside.{no_folder}
use Rattle.source_files.proofs.WellKnownLemmas.{names_of}
use Rattle.source_files.proofs.well_known.beside_path.Goals as goal

pub returns-in_ok-names-in-Some : goal.returns-in_ok-names-in-Some
returns-in_ok-names-in-Some g c =
    let finds = g.F.FindFiles.finds c.args.files.now in
    let now : Bor (List ℕ) → List ℕ = λ name. name.now in
    let f : Bor (List ℕ) → List ℕ = λ name. folder_named name.now in
    let on : Option (Bor (List ℕ)) → List (List ℕ) = λ path. folders_on (option_map now path) in
    let same : map f c.as_slice.result.now ≡ on c.args.path =
    ap (map f) c.as_slice.ensures.value ∙ names_of folder_named now c.in_ok-names-in-Some.names.items
    ∙ ap (map folder_named) c.in_ok-names-in-Some.ensures ∙ ap on (sym c.in-Some.is) in
    subst (λ (folders : List (List ℕ)). IfOk c.beside_each.result (λ beside.
    AreBeside finds folders (map string_bytes beside.items))) same c.beside_each.ensures

pub returns-in-None : goal.returns-in-None
returns-in-None g c =
    let finds = g.F.FindFiles.finds c.args.files.now in
    let now : Bor (List ℕ) → List ℕ = λ name. name.now in
    subst (λ (path : Option (Bor (List ℕ))). AreBeside finds (folders_on (option_map now path))
    (map string_bytes c.new.result.items)) (sym c.in-None.is)
    (rw (c.new.ensures.items) (no_folder))
