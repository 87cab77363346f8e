use Rattle.std.proofs.Common.{◌∙◌, ◌++◌, ◌∷◌, [], List, ℕ, ap, append-nil, map, string_bytes, sym}
use Rattle.source_files.specs.Reached.{path_of}
use Rattle.source_files.specs.declared.looking.FoundFile.TheInside.{Inside}
use Rattle.source_files.proofs.ListedLemmas.{path_elsewhere, path_here}
use Rattle.source_files.proofs.listed.add_path_at.Goals as goal

pub returns-in_ok-push_copy : goal.returns-in_ok-push_copy
returns-in_ok-push_copy c =
    let old = map string_bytes c.args.paths.now.items in
    c.in_ok-push_copy.ensures
    ∙ (ap (λ (path : List ℕ). old ++ path ∷ [])
    (c.as_str.ensures.value
    ∙ (ap (λ (inside : Inside). inside.file.path) c.found-inside.view_is ∙ ap path_of c.found.view_is))
    ∙ ap (λ (l : List (List ℕ)). old ++ l)
    (sym (path_here c.args.root c.args.found.now (sym c.is_at.ensures ∙ c.if-is_at.true))))

pub returns-else-is_at : goal.returns-else-is_at
returns-else-is_at c =
    let old = map string_bytes c.args.paths.now.items in
    sym (append-nil old)
    ∙ ap (λ (l : List (List ℕ)). old ++ l)
    (sym (path_elsewhere c.args.root c.args.found.now (sym c.is_at.ensures ∙ c.if-is_at.false)))
