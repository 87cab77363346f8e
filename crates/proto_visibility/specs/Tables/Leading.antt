-- What public imports lead to from files, as places in an order of all files.
use Rattle.std.specs.Prelude.{ℕ, ◌≡◌, ◌<◌, ◌↔◌, Option, Some, List, length, Contains}
use Rattle.std.specs.List.{slice_get}
use Rattle.proto_visibility.specs.declared.import_table.Steps.{Steps}
use Rattle.proto_visibility.specs.Sees.{LeadsTo, SeesBy}
use Rattle.proto_visibility.specs.Tables.ImportTables.{HasStep}
use Rattle.proto_visibility.specs.Tables.Rows.{files_at}

-- the files at these places are those that public imports lead to from a file
abbrev pub IsLed : (table : List Steps) → (order places : List ℕ) → (file : ℕ) → Type 0
IsLed table order places file =
    (other : ℕ) → Contains (files_at order places) other ↔ LeadsTo (HasStep table) file other

-- the files at these places are those that a file sees
abbrev pub IsSeen : (table : List Steps) → (order places : List ℕ) → (file : ℕ) → Type 0
IsSeen table order places file =
    (other : ℕ) → Contains (files_at order places) other ↔ SeesBy (HasStep table) file other

-- the rows have what public imports lead to from those files that have the index of one
pub record AreLed (table : List Steps) (order : List ℕ) (indexes : List (Option ℕ))
    (rows : List (List ℕ)) : Type 0 where
  pub one_each : length indexes ≡ length table
  pub listed : (file index : ℕ) → slice_get indexes file ≡ Some (Some index) → index < length rows
  pub led : (file index : ℕ) (row : List ℕ) → slice_get indexes file ≡ Some (Some index)
      → slice_get rows index ≡ Some row → IsLed table order row file
