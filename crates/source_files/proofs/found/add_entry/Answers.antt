use Rattle.std.proofs.Common.{◌∙◌, ◌++◌, ◌∷◌, [], ℕ, List, map, string_bytes, ap, refl}
use Rattle.std.proofs.lemmas.Bool.{false≢true}
use Rattle.std.proofs.lemmas.List.{map-append}
use Rattle.source_files.proofs.EntryLemmas.{adds_source, adds_folder, adds_none}
use Rattle.source_files.proofs.found.add_entry.Goals as goal

pub returns-in_ok-push : goal.returns-in_ok-push
returns-in_ok-push c =
    let folder = c.args.folder.now in
    let paths = c.args.paths.now.items in
    adds_source folder c.args.entry.now (map string_bytes c.args.folders.now.items) _ (map string_bytes paths) _
    (c.if-is_source.ensures.0 refl) refl
    (ap (map string_bytes) c.in_ok-push.ensures.items
    ∙ (map-append string_bytes paths (c.in_ok-path_in.field-0 ∷ [])
    ∙ ap (λ (l : List ℕ). map string_bytes paths ++ l ∷ [])
    (c.in_ok-path_in.ensures ∙ ap (λ (l : List ℕ). folder ++ l) c.name.ensures)))

pub returns-in_ok-push-2 : goal.returns-in_ok-push-2
returns-in_ok-push-2 c =
    let folder = c.args.folder.now in
    let folders = c.args.folders.now.items in
    adds_folder folder c.args.entry.now (map string_bytes folders) _ (map string_bytes c.args.paths.now.items) _
    (c.if-is_folder.ensures.0 refl)
    (ap (map string_bytes) c.in_ok-push-2.ensures.items
    ∙ (map-append string_bytes folders (c.in_ok-folder_in.field-0 ∷ [])
    ∙ ap (λ (l : List ℕ). map string_bytes folders ++ l ∷ [])
    (c.in_ok-folder_in.ensures ∙ ap (λ (l : List ℕ). folder ++ (l ++ 47 ∷ [])) c.name-then-is_folder.ensures))) refl

pub returns-else-is_folder : goal.returns-else-is_folder
returns-else-is_folder c =
    adds_none c.args.folder.now c.args.entry.now (map string_bytes c.args.folders.now.items) _
    (map string_bytes c.args.paths.now.items) _ (λ is. false≢true (c.if-is_source.ensures.1 is))
    (λ is. false≢true (c.if-is_folder.ensures.1 is)) refl refl
