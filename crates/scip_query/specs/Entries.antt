-- What the entry of a symbol says besides its documentation (`scip.proto`, SymbolInformation).
use Rattle.std.specs.Prelude.{ℕ, ℤ, pos, List, [], Option, None, Some, Result}
use Rattle.std.specs.List.{find}
use Rattle.std.specs.Result.{result_map_both}
use Rattle.std.specs.Str.{bytes_eq}
use Rattle.scip_records.specs.declared.records.Index.{Index}
use Rattle.scip_records.specs.declared.records.SymbolInformation.{SymbolInformation}
use Rattle.scip_query.specs.declared.position.Position.{Position}
use Rattle.scip_query.specs.OccurrenceAt.{Subject, subject_at}
use Rattle.scip_query.specs.Documentation.{entries_for}
use Rattle.scip_query.specs.declared.miss.Miss.{Miss}

-- the first entry with a subject's symbol
abbrev pub entry_of : Index → Subject → Option SymbolInformation
entry_of index subject = find (λ (entry : SymbolInformation). bytes_eq entry.symbol subject.symbol)
    (entries_for index subject)

-- its parts; where there is no entry, they are empty, or 0
abbrev pub shown_name : Option SymbolInformation → List ℕ
shown_name None = []
shown_name (Some entry) = entry.display_name

abbrev pub kind_in : Option SymbolInformation → ℤ
kind_in None = pos 0
kind_in (Some entry) = entry.details.kind

abbrev pub signature_in : Option SymbolInformation → List ℕ
signature_in None = []
signature_in (Some entry) = entry.details.signature.text

-- how the symbol at a position of the document that a path names is declared
abbrev pub signature_at : Index → List ℕ → Position → Result (List ℕ) Miss
signature_at index path p =
    result_map_both (λ (subject : Subject). signature_in (entry_of index subject)) (λ miss. miss)
    (subject_at index path p)
