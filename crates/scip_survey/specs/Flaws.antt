-- What is wrong with an index: what it lacks, or says against itself. (`scip.proto`, Index. The names are this project's
-- own.)
use Rattle.std.specs.Prelude.{ℕ, ◌==◌, Bool, true, false, not, ◌&&◌, ◌||◌, nat_eq, cond, List, [], ◌∷◌, ◌++◌}
use Rattle.std.specs.Prelude.{length, codes, Option, None, Some}
use Rattle.std.specs.List.{ends_with, enumerate_from, find, flat_map}
use Rattle.std.specs.Option.{is_none}
use Rattle.std.specs.Ordering.{is_lt}
use Rattle.scip_records.specs.Range.{RangeNumbers}
use Rattle.scip_records.specs.declared.records.Index.{Index}
use Rattle.scip_records.specs.declared.records.Occurrence.{Occurrence}
use Rattle.scip_query.specs.BySymbol.{entry_in, references_in}
use Rattle.scip_query.specs.Positions.{end_of, position_cmp, start_of}
use Rattle.scip_query.specs.References.{is_definition}
use Rattle.scip_query.specs.Sites.{Numbered, document_named, numbered_documents}
use Rattle.scip_query.specs.Tables.{defines_listed}
use Rattle.scip_query.specs.declared.place.Place.{Place}
use Rattle.scip_pages.specs.Columns.{unit_of}
use Rattle.scip_survey.specs.declared.flaws.Flaw.{Flaw}
use Rattle.scip_survey.specs.declared.flaws.Flaw.TheVariants.{RepeatedPath, NoLanguage, NoUnit, RangeBackwards}
use Rattle.scip_survey.specs.declared.flaws.Flaw.TheVariants.{RangeOutside, NoEntry, TwoDefinitions}

-- what is wrong, in which document, and with which occurrence, if it is one's
pub record Flawed : Type 0 where
  pub flaw : Flaw
  pub path : List ℕ
  pub occurrence : Option Occurrence

-- ---- a document

-- another, earlier document has its path
abbrev pub is_other : Numbered → Option Numbered → Bool
is_other d None = false
is_other d (Some first) = not (first.number == d.number)

abbrev pub is_repeated : Index → Numbered → Bool
is_repeated index d = is_other d (document_named index d.document.relative_path)

-- ---- an occurrence

-- a range ends before it begins
abbrev pub is_backwards : RangeNumbers → Bool
is_backwards r = is_lt (position_cmp (end_of r) (start_of r))

-- an occurrence is not in the range that is said to enclose it: it begins before that, or ends after it
abbrev pub is_outside_of : RangeNumbers → Option RangeNumbers → Bool
is_outside_of r None = false
is_outside_of r (Some whole) =
    is_lt (position_cmp (start_of r) (start_of whole)) || is_lt (position_cmp (end_of whole) (end_of r))

-- a symbol that an index has to say something of: not the empty one, and not that of a namespace, whose last descriptor
-- ends with `/` (`scip.proto`, Symbol)
abbrev pub wants_entry : List ℕ → Bool
wants_entry symbol = not (length symbol == 0) && not (ends_with nat_eq symbol (codes "/"))

-- no entry has the symbol of an occurrence
abbrev pub lacks_entry : Index → Numbered → Occurrence → Bool
lacks_entry index d o = wants_entry o.symbol && is_none (entry_in index d.number o.symbol)

-- where a symbol is first defined
abbrev pub first_definition : Index → Numbered → List ℕ → Option Place
first_definition index d symbol = find (defines_listed index.documents) (references_in index d.number symbol)

abbrev pub is_elsewhere : (document occurrence : ℕ) → Option Place → Bool
is_elsewhere document occurrence None = false
is_elsewhere document occurrence (Some place) =
    not ((place.document == document) && (place.occurrence == occurrence))

-- an occurrence defines a symbol that an earlier one defines
abbrev pub is_defined_again : Index → Numbered → ℕ × Occurrence → Bool
is_defined_again index d o =
    is_definition o.1 && (wants_entry o.1.symbol && is_elsewhere d.number o.0 (first_definition index d o.1.symbol))

-- ---- all of them, in the index's order

abbrev pub flawed_if : Bool → Flaw → Numbered → Option Occurrence → List Flawed
flawed_if test flaw d o =
    cond test (record { flaw = flaw; path = d.document.relative_path; occurrence = o } ∷ []) []

abbrev pub occurrence_flaws : Index → Numbered → ℕ × Occurrence → List Flawed
occurrence_flaws index d o =
    flawed_if (is_backwards o.1.range) RangeBackwards d (Some o.1)
    ++ flawed_if (is_outside_of o.1.range o.1.enclosing_range) RangeOutside d (Some o.1)
    ++ flawed_if (lacks_entry index d o.1) NoEntry d (Some o.1)
    ++ flawed_if (is_defined_again index d o) TwoDefinitions d (Some o.1)

abbrev pub document_flaws : Index → Numbered → List Flawed
document_flaws index d =
    flawed_if (is_repeated index d) RepeatedPath d None
    ++ flawed_if (length d.document.language == 0) NoLanguage d None
    ++ flawed_if (is_none (unit_of d.document.position_encoding)) NoUnit d None
    ++ flat_map (occurrence_flaws index d) (enumerate_from 0 d.document.occurrences)

abbrev pub flaws_of : Index → List Flawed
flaws_of index = flat_map (document_flaws index) (numbered_documents index)
