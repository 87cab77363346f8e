-- Which files sources reach, by what files import (proto3 language guide, "Importing Definitions"), and where they are.
use Rattle.std.specs.Prelude.{◌≡◌, ◌⊎◌, ◌+◌, ◌<◌, ℕ, ⊤, Bool, true, false, List, [], ◌∷◌, Option, Some, None}
use Rattle.std.specs.Prelude.{All, Contains, codes, length, map, string_bytes}
use Rattle.source_tree.specs.Files.{SourceFile}
use Rattle.source_tree.specs.Path.{IsGoodPath}
use Rattle.source_tree.specs.Trees.{max_files}
use Rattle.source_files.specs.declared.load_fault.LoadFault.{LoadFault}
use Rattle.source_files.specs.declared.load_fault.LoadFault.TheVariants.{Unreadable, TooMany, Memory}
use Rattle.source_files.specs.Roots.{path_below}
use Rattle.source_files.specs.Source.{MayKeep}
use Rattle.source_files.specs.Walks.{AreOnce}

-- an import: the path that it names, and whether those who import the file see what it names, too
pub record Import : Type 0 where
  pub path : List ℕ
  pub is_public : Bool

-- a file, the number of the root that it is below, and what it imports
pub record Told : Type 0 where
  pub file : SourceFile
  pub root : ℕ
  pub imports : List Import

abbrev pub path_of : Told → List ℕ
path_of told = told.file.path

-- where a source has the messages of its options, if no file that it imports has them (proto3 language guide, "Custom
-- Options")
abbrev pub descriptor_path : List ℕ
descriptor_path = codes "google/protobuf/descriptor.proto"

-- A path that a source reaches. If names in options aren't linked, it is one that a source sees: a source imports it, or
-- an included file whose path a source sees imports it publicly. If they are, it doesn't matter whether an import is
-- public, and each source reaches the file with the messages of options.
pub data IsReached (links_options : Bool) (sources included : List Told) : (path : List ℕ) → Type 0 where
  imported : {source : Told} {import : Import} → Contains sources source → Contains source.imports import
      → IsReached links_options sources included import.path
  passed_on : {file : Told} {import : Import} → IsReached links_options sources included (path_of file)
      → Contains included file → Contains file.imports import → (links_options ≡ true) ⊎ (import.is_public ≡ true)
      → IsReached links_options sources included import.path
  built_in : {source : Told} → links_options ≡ true → Contains sources source
      → IsReached links_options sources included descriptor_path

-- no path comes twice
pub data AreApart : (paths : List (List ℕ)) → Type 0 where
  no_path : AreApart []
  one_more : {path : List ℕ} {paths : List (List ℕ)} → ¬ (Contains paths path) → AreApart paths
      → AreApart (path ∷ paths)

-- ---- where files are (the directories of `--proto_path` "will be searched in order": `protoc --help`)

-- `finds` is what asking whether a file with a path is below a root may answer, `gives` what reading it may give, and
-- `tells` what a file with these bytes may be said to import
module _ (finds : List ℕ → List ℕ → Bool → Type 0) where
  -- the first of these roots below which there is a file with a path, and its number
  pub data IsFirstBelow (path : List ℕ) : (roots : List (List ℕ)) → (number : ℕ) → (root : List ℕ) → Type 0 where
    is_here : {root : List ℕ} {behind : List (List ℕ)} → finds root path true → IsFirstBelow path (root ∷ behind) 0 root
    is_behind : {other root : List ℕ} {behind : List (List ℕ)} {number : ℕ} → finds other path false
        → IsFirstBelow path behind number root → IsFirstBelow path (other ∷ behind) (number + 1) root

  -- there is none below any of them
  abbrev pub HasNone : (roots : List (List ℕ)) → (path : List ℕ) → Type 0
  HasNone roots path = All (λ root. finds root path false) roots

module _ (finds : List ℕ → List ℕ → Bool → Type 0) (gives : List ℕ → Option (List ℕ) → Type 0) where
  -- it is there, below the first root that has it, but can't be read; no other root is asked
  pub record CantBeRead (roots : List (List ℕ)) (path : List ℕ) : Type 0 where
    pub number : ℕ
    pub root : List ℕ
    pub first : IsFirstBelow finds path roots number root
    pub unread : gives (path_below root path) None

  module _ (tells : List ℕ → List Import → Type 0) where
    -- a file as the first root gives it, and what it imports
    pub record IsTold (roots : List (List ℕ)) (told : Told) : Type 0 where
      pub root : List ℕ
      pub first : IsFirstBelow finds (path_of told) roots told.root root
      pub held : MayKeep (gives (path_below root (path_of told))) (Some told.file.bytes)
      pub could_be_read : told.file.is_unread ≡ false
      pub imports : tells told.file.bytes told.imports

    -- The sources with these paths, in their order. Those that can't be read, or aren't there, are left out, if such
    -- are.
    pub data AreSources (leaves_out : Bool) (roots : List (List ℕ))
        : (paths : List (List ℕ)) → List Told → (lost : List (List ℕ)) → Type 0 where
      no_source : AreSources leaves_out roots [] [] []
      is_source : {told : Told} {paths lost : List (List ℕ)} {sources : List Told} → IsTold roots told
          → AreSources leaves_out roots paths sources lost
          → AreSources leaves_out roots (path_of told ∷ paths) (told ∷ sources) lost
      is_lost : {path : List ℕ} {paths lost : List (List ℕ)} {sources : List Told} → leaves_out ≡ true
          → CantBeRead roots path ⊎ HasNone finds roots path
          → AreSources leaves_out roots paths sources lost
          → AreSources leaves_out roots (path ∷ paths) sources (path ∷ lost)

    -- Included files, each as the first root gives it: sources reach its path, it isn't listed, and no other of them has
    -- it.
    pub record AreSomeReached (links_options : Bool) (roots listed : List (List ℕ)) (sources included : List Told) : Type 0 where
      pub told : All (IsTold roots) included
      pub reached : All (λ told. IsReached links_options sources included (path_of told)) included
      pub good : All (λ told. IsGoodPath (path_of told)) included
      pub unlisted : All (λ told. ¬ (Contains listed (path_of told))) included
      pub apart : AreApart (map path_of included)

    -- All of them: each good path that sources reach is listed, or that of an included file, or of a file that can't be
    -- read and is left out, if such are, or nowhere.
    pub record AreIncluded (leaves_out links_options : Bool) (roots listed : List (List ℕ))
        (sources included : List Told) (unread : List (List ℕ)) : Type 0 where
      pub some : AreSomeReached links_options roots listed sources included
      pub unread_are : All (λ path. IsReached links_options sources included path × CantBeRead roots path
          × (leaves_out ≡ true)) unread
      pub whole : (path : List ℕ) → IsReached links_options sources included path → IsGoodPath path
          → Contains listed path ⊎ (Contains (map path_of included) path
          ⊎ (Contains unread path ⊎ HasNone finds roots path))

    -- this is the path of the first file, by path, that sources reach and that can't be read
    pub record IsFirstUnread (links_options : Bool) (roots listed : List (List ℕ)) (sources : List Told)
        (name : List ℕ) : Type 0 where
      pub included : List Told
      pub unread : List (List ℕ)
      pub behind : List (List ℕ)
      pub included_are : AreIncluded true links_options roots listed sources included unread
      pub first : AreOnce unread (name ∷ behind)

    -- Why there are none: something that sources reach can't be read, the first by path, and isn't to be left out; or they
    -- are too many, with the sources. Nothing is said about memory.
    abbrev pub MayNotInclude : (leaves_out links_options : Bool) → (roots listed : List (List ℕ))
        → (sources : List Told) → LoadFault → Type 0
    MayNotInclude leaves_out links_options roots listed sources (Unreadable name) =
        (leaves_out ≡ false) × IsFirstUnread links_options roots listed sources (string_bytes name)
    MayNotInclude leaves_out links_options roots listed sources TooMany =
        (included : List Told) × AreSomeReached links_options roots listed sources included
        × (max_files < length sources + length included)
    MayNotInclude leaves_out links_options roots listed sources Memory = ⊤
    MayNotInclude leaves_out links_options roots listed sources other = ⊥
