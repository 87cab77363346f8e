-- What is found in a folder, by what listing it gave.
use Rattle.std.proofs.Common.{◌≡◌, ◌∙◌, ℕ, List, [], ◌∷◌, map, Option, None, Some, sym, subst}
use Rattle.basics.proofs.ListLemmas.{map_twice as map_after}
use Rattle.source_files.specs.declared.listing.FolderIdentity.{FolderIdentity}
use Rattle.source_files.specs.Entries.{Entry, Give}
use Rattle.source_files.specs.Unread.{Unread, at_path, in_folder}
use Rattle.source_files.specs.Walks.{Had, Holds, unlisted, listed}

module _ {S E : Type 0} (text : S → List ℕ) (entry : E → Unread) (folder : List ℕ) where
  abbrev had_by : (folders sources : List (List ℕ)) → (unread : List Unread) → Option FolderIdentity → Had
  had_by folders sources unread identity =
      record { folders = folders; sources = sources; unread = unread; identity = identity }

  -- one that can't be listed
  pub holds_unlisted : (folders paths : List S) (unread : List E) → folders ≡ [] → paths ≡ []
      → map entry unread ≡ at_path folder ∷ []
      → Holds folder None (had_by (map text folders) (map text paths) (map entry unread) None)
  holds_unlisted folders paths unread no_folder no_path one =
      subst (λ (l : List S). Holds folder None (had_by (map text l) (map text paths) (map entry unread) None))
      (sym no_folder)
      (subst (λ (l : List S). Holds folder None (had_by [] (map text l) (map entry unread) None)) (sym no_path)
      (subst (λ (l : List Unread). Holds folder None (had_by [] [] l None)) (sym one) unlisted))

  -- and one that can
  pub holds_listed : (entries : List Entry) (names : List E) (identity : Option FolderIdentity)
      (folders paths : List S) (unread : List E) → Give folder entries (map text folders) (map text paths)
      → map entry unread ≡ map (λ named. in_folder folder (entry named)) names
      → Holds folder (Some (record { entries = entries; identity = identity; unnamed = map entry names }))
      (had_by (map text folders) (map text paths) (map entry unread) identity)
  holds_listed entries names identity folders paths unread give are =
      subst
      (λ (l : List Unread). Holds folder
      (Some (record { entries = entries; identity = identity; unnamed = map entry names }))
      (had_by (map text folders) (map text paths) l identity))
      (map_after (in_folder folder) entry names ∙ sym are) (listed give)
