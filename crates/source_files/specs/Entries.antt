-- The entries of folders, and what they give.
use Rattle.std.specs.Prelude.{◌≡◌, ◌≢◌, ℕ, Bool, true, false, List, [], ◌∷◌, ◌++◌, All, codes}

-- an entry of a folder: its name, and whether it is a regular file; what is none may be a folder
pub record Entry : Type 0 where
  pub name : List ℕ
  pub is_file : Bool

-- What a path may have between its `/`: it isn't empty, has no `/`, and names neither the folder that it is in nor the
-- one above.
pub record IsName (name : List ℕ) : Type 0 where
  pub some : name ≢ []
  pub no_dot : name ≢ codes "."
  pub no_dots : name ≢ codes ".."
  pub whole : All (λ byte. byte ≢ 47) name

-- a regular file whose name ends in `.proto`
pub record IsSource (entry : Entry) : Type 0 where
  pub regular : entry.is_file ≡ true
  pub named : IsName entry.name
  pub front : List ℕ
  pub ending : entry.name ≡ front ++ codes ".proto"

-- what may be a folder
pub record IsFolder (entry : Entry) : Type 0 where
  pub irregular : entry.is_file ≡ false
  pub named : IsName entry.name

-- What the entries of a folder give: the paths of folders, and those of sources. All paths are those below the root.
-- The root's own is empty, and that of each other folder ends in `/`.
pub data Give (folder : List ℕ) : (entries : List Entry) → (folders sources : List (List ℕ)) → Type 0 where
  nothing : Give folder [] [] []
  a_source : {entry : Entry} {entries : List Entry} {folders sources : List (List ℕ)}
      → IsSource entry → Give folder entries folders sources
      → Give folder (entry ∷ entries) folders ((folder ++ entry.name) ∷ sources)
  a_folder : {entry : Entry} {entries : List Entry} {folders sources : List (List ℕ)}
      → IsFolder entry → Give folder entries folders sources
      → Give folder (entry ∷ entries) ((folder ++ (entry.name ++ 47 ∷ [])) ∷ folders) sources
  neither : {entry : Entry} {entries : List Entry} {folders sources : List (List ℕ)}
      → ¬ (IsSource entry) → ¬ (IsFolder entry) → Give folder entries folders sources
      → Give folder (entry ∷ entries) folders sources
