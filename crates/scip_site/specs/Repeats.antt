-- Documents whose path another one has.
use Rattle.std.specs.Prelude.{ℕ, Bool, List}
use Rattle.std.specs.Borrow.{Bor}
use Rattle.std.specs.HashMap.{HashMap, get_by}
use Rattle.std.specs.List.{list_any}
use Rattle.std.specs.Option.{is_some}
use Rattle.std.specs.Str.{bytes_eq}
use Rattle.scip_records.specs.declared.records.Document.{Document}
use Rattle.scip_query.specs.Tables.{numbers, path_listed}

-- whether one of so many documents has a path
abbrev pub has_path : List Document → List ℕ → ℕ → Bool
has_path documents path number = bytes_eq (path_listed documents number) path

abbrev pub is_before : List Document → List ℕ → ℕ → Bool
is_before documents path number = list_any (has_path documents path) (numbers number)

-- Of several documents with one path the first alone has a page: whether one before the document with a number has it.
abbrev pub is_repeated : List Document → ℕ → Bool
is_repeated documents number = is_before documents (path_listed documents number) number

-- whether a path is among those that are seen
abbrev pub is_seen : {S : Type 0} → HashMap (Bor (List ℕ)) ℕ S → List ℕ → Bool
is_seen seen path = is_some (get_by (λ key. bytes_eq path key.now) seen)
