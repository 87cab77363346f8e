-- How it is found where sources have the messages of their options: by searches along steps that are turned, from the
-- files that have these messages.
use Rattle.std.specs.Prelude.{ℕ, ◌≡◌, ◌<◌, ◌↔◌, ◌⊎◌, ◌&&◌, Bool, true, Option, Some, None, List, length, Contains}
use Rattle.std.specs.Prelude.{MatchOption, bytes_eq, codes, if◌then◌else◌, ◌==◌}
use Rattle.std.specs.List.{list_any, slice_get}
use Rattle.proto_decl.specs.declared.declaration.Declaration.{Declaration}
use Rattle.proto_visibility.specs.declared.import_table.Steps.{Steps}
use Rattle.proto_visibility.specs.declared.options.OptionsIn.{OptionsIn}
use Rattle.proto_visibility.specs.declared.options.OptionsIn.TheVariants.{Nowhere, At, Several}
use Rattle.proto_visibility.specs.Files.{File, IsSource}
use Rattle.proto_visibility.specs.Knows.{is_message}
use Rattle.proto_visibility.specs.Knows.NameKind.{OfDeclaration}
use Rattle.proto_visibility.specs.Sees.{LeadsTo}
use Rattle.proto_visibility.specs.Reaches.{IsOptionsIn, LinksOptions}
use Rattle.proto_visibility.specs.Tables.ClashTables.{declarations_of}
use Rattle.proto_visibility.specs.Tables.ImportTables.{HasStep, AreWithin}

-- ---- files with the messages of options

-- it is the message of the options of files
abbrev pub is_file_options : Declaration → Bool
is_file_options declaration =
    is_message (OfDeclaration declaration.kind) && bytes_eq declaration.full_name (codes "google.protobuf.FileOptions")

abbrev pub has_file_options : File → Bool
has_file_options file = list_any is_file_options (declarations_of file)

-- ---- searches backwards

-- imports of every kind, each taken for a public one
abbrev pub ByEach : (Imports : ℕ → Bool → ℕ → Type 0) → ℕ → Bool → ℕ → Type 0
ByEach Imports importing taken imported = (publicly : Bool) × Imports importing publicly imported

-- a table with the same steps backwards, as public ones
pub record AreTurned (table back : List Steps) : Type 0 where
  pub one_each : length back ≡ length table
  pub within : AreWithin back
  pub steps : (from to : ℕ) → HasStep back from true to ↔ ByEach (HasStep table) to true from

-- the first of these files from which the steps lead to the file with this number
pub record IsFirstEnd (back : List Steps) (ends : List ℕ) (number end : ℕ) : Type 0 where
  pub index : ℕ
  pub stands : slice_get ends index ≡ Some end
  pub leads : LeadsTo (HasStep back) end number
  pub first : (k other : ℕ) → k < index → slice_get ends k ≡ Some other → LeadsTo (HasStep back) other number → ⊥

abbrev pub IsNoEnd : (back : List Steps) → (ends : List ℕ) → (number : ℕ) → Type 0
IsNoEnd back ends number = (end : ℕ) → Contains ends end → LeadsTo (HasStep back) end number → ⊥

-- for each file that one, if there is one
pub record AreFirstEnds (back : List Steps) (ends : List ℕ) (firsts : List (Option ℕ)) : Type 0 where
  pub one_each : length firsts ≡ length back
  pub each : (number : ℕ) (first : Option ℕ) → slice_get firsts number ≡ Some first
      → MatchOption first (IsNoEnd back ends number) (IsFirstEnd back ends number)

-- ---- answers

-- by the first and the last file with these messages to which imports lead, and by the one that protoc comes with
abbrev pub one_or_several : (first : ℕ) → (last : Option ℕ) → OptionsIn
one_or_several first None = Several
one_or_several first (Some last) = if first == last then At first else Several

abbrev pub answer_of : (first last built_in : Option ℕ) → OptionsIn
answer_of (Some first) last built_in = one_or_several first last
answer_of None last (Some number) = At number
answer_of None last None = Nowhere

pub record IsAnswer (firsts lasts : List (Option ℕ)) (built_in : Option ℕ) (number : ℕ) (answer : OptionsIn)
    : Type 0 where
  pub first : Option ℕ
  pub last : Option ℕ
  pub has_first : slice_get firsts number ≡ Some first
  pub has_last : slice_get lasts number ≡ Some last
  pub is : answer ≡ answer_of first last built_in

-- for each file the answer
pub record AreAnswers (firsts lasts : List (Option ℕ)) (built_in : Option ℕ) (known : List OptionsIn)
    : Type 0 where
  pub one_each : length known ≡ length firsts
  pub each : (number : ℕ) (answer : OptionsIn) → slice_get known number ≡ Some answer
      → IsAnswer firsts lasts built_in number answer

-- In which file each has the messages of its options, for files with numbers up to one. Those whose options are linked
-- are among them.
pub record AreOptionsIn (files : List File) (known : List OptionsIn) : Type 0 where
  pub each : (source : ℕ) (answer : OptionsIn) → slice_get known source ≡ Some answer → IsOptionsIn files source answer
  pub all : (source : ℕ) → LinksOptions files source → source < length known

-- a source with names in options that are linked
abbrev pub IsLinkingSource : List File → (number : ℕ) → Type 0
IsLinkingSource files number = IsSource files number × LinksOptions files number

-- one of these sources, or the file in which one has the messages of its options
abbrev pub IsBegunIn : (options : List OptionsIn) → (sources : List ℕ) → (number : ℕ) → Type 0
IsBegunIn options sources number =
    (source : ℕ) × Contains sources source
    × ((number ≡ source) ⊎ (slice_get options source ≡ Some (At number)))
