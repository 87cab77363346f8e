-- Pages have the places to which their links lead.
use Rattle.std.proofs.Common.{◌≡◌, ◌∙◌, sym, refl, ap, subst, ℕ, ◌+◌, ◌-◌, ◌<◌, Bool, true, false, not, cond}
use Rattle.std.proofs.Common.{List, [], ◌∷◌, ◌++◌, length, arith}
use Rattle.std.specs.Prelude.{⊤, Option, None, Some, IsSome, codes}
use Rattle.std.specs.List.{flat_map, slice_get, range_with_len}
use Rattle.std.specs.Option.{is_some, option_map, option_map_or, unwrap_or}
use Rattle.std.specs.Fmt.{decimal}
use Rattle.std.proofs.lemmas.Iterator.Adapters.{position_from-zero}
use Rattle.std.proofs.lemmas.Bool.{not-false}
use Rattle.std.proofs.lemmas.Option.{slice_get_within}
use Rattle.scip_records.specs.Range.{RangeNumbers}
use Rattle.scip_records.specs.declared.records.Index.{Index}
use Rattle.scip_records.specs.declared.records.Document.{Document}
use Rattle.scip_records.specs.declared.records.Occurrence.{Occurrence}
use Rattle.scip_query.specs.Tables.{occurrence_listed, symbol_listed, places_in}
use Rattle.scip_query.specs.Tables.{definition_or_not}
use Rattle.scip_query.specs.declared.place.Place.{Place}
use Rattle.scip_pages.specs.declared.columns.ColumnUnit.{ColumnUnit}
use Rattle.scip_pages.specs.declared.code.Link.{Link}
use Rattle.scip_pages.specs.Code.{line_mark, piece_code}
use Rattle.scip_pages.specs.Columns.{offset_of}
use Rattle.scip_pages.specs.Escapes.{escape}
use Rattle.scip_pages.specs.Snapshot.{lines_of, misfit, fits, is_ordered, offset_at}
use Rattle.scip_pages.specs.Site.{Sources, line_or_first, line_listed, same_place}
use Rattle.scip_pages.specs.Targets.{definition_of, target_of, place_url, uses_id, uses_url, is_at, is_first}
use Rattle.scip_pages.specs.CodeText.{beginning, pieces_with, line_at, lead, line_text, line_by, code_text}
use Rattle.scip_pages.specs.Targets.{label_at}
use Rattle.scip_pages.specs.Uses.{places_text, defined_head, defined_name, defined_text, uses_text}
use Rattle.scip_pages.specs.Uses.{all_defined}
use Rattle.scip_pages.specs.Page.{links_of, firsts_of, start_text, main_text, page_of}
use Rattle.scip_pages.specs.Ids.{HasId, IsPage, AllFit, IsShown, Leads, within, across, unit_in}
use Rattle.scip_pages.specs.PageLaws.{LeadsToDefinition, LinksLead, UsesLead, DefinitionsLead}
use Rattle.basics.proofs.ElementLemmas.{In, in_map, in_filter, in_range, none_passes, some_first}
use Rattle.scip_pages.specs.Tags.{bare, tag_with}
use Rattle.scip_pages.proofs.LawLemmas.{leads_to_a_page}
use Rattle.scip_pages.proofs.TagLemmas.{EndsInText, Fine, end_a, ends_both, escaped_reads, fine_each, has_among}
use Rattle.scip_pages.proofs.TagLemmas.{has_before, has_behind, has_in, tag_a}
use Rattle.scip_pages.proofs.CodePartLemmas.{fine_all_defined, fine_code, fine_defined, fine_front, fine_head_of}
use Rattle.scip_pages.proofs.CodePartLemmas.{fine_lead, fine_line, fine_start, line_mark_reads, places_reads}

-- ---- lines

-- of URLs nothing is asked
abbrev Any : List ℕ → Type 0
Any url = ⊤

abbrev line_id : ℕ → List ℕ
line_id number = codes "L" ++ decimal number

module _ (unit : ColumnUnit) (occurrences : List Occurrence) (links : List Link) (lines : List (List ℕ)) where
  line_ends : (marking : List ℕ) (k : ℕ) → EndsInText (line_text unit occurrences links lines marking k)
  line_ends marking k = (fine_line Any links (λ l url is e. tt) unit occurrences lines marking k).reads.ends

  code_fine : Fine Any (code_text unit occurrences links lines)
  code_fine = fine_code Any links (λ l url is e. tt) unit occurrences lines

  mark_has : (k : ℕ) → HasId (line_id k) (line_mark k)
  mark_has k =
      has_in (line_id k) (line_mark k) (tag_a (codes "id") (line_id k) ∷ (end_a ∷ [])) (line_mark_reads k)
      (0, omega arith, refl)

  line_has : (marking : List ℕ) (k : ℕ) → HasId (line_id k) (line_text unit occurrences links lines marking k)
  line_has marking k =
      let id : List ℕ = line_id k in
      let code : List ℕ = flat_map piece_code (pieces_with unit occurrences links (line_at lines (k - 1)) marking) in
      has_behind id (lead k) (line_mark k ++ code) (fine_lead Any k).reads.ends
      (has_before id (line_mark k) code (line_mark_reads k).ends (mark_has k))

  code_has : (start : ℕ) → start < length lines → HasId (line_id (start + 1)) (code_text unit occurrences links lines)
  code_has start inside =
      let same : 1 + start ≡ start + 1 = omega arith in
      let is : In (start + 1) (range_with_len 1 (length lines)) =
      subst (λ (k : ℕ). In k (range_with_len 1 (length lines))) same (in_range 1 (length lines) start inside) in
      has_among (line_id (start + 1)) (line_by unit occurrences links lines (beginning occurrences))
      (λ k. line_ends (beginning occurrences (k - 1)) k) (start + 1) (range_with_len 1 (length lines)) is
      (line_has (beginning occurrences (start + 1 - 1)) (start + 1))

-- ---- what is defined

place_has : (occurrence line : ℕ) → HasId (uses_id occurrence) (places_text occurrence line)
place_has occurrence line =
    has_in (uses_id occurrence) (places_text occurrence line)
    (tag_with (bare (codes "dt")) (codes "id") (uses_id occurrence)
    ∷ (tag_a (codes "href") (codes "#L" ++ decimal line) ∷ (bare (codes "b") ∷ [])))
    (places_reads occurrence line) (0, omega arith, refl)

module _ (index : Index) (sources : Sources) (unit : ColumnUnit) (lines : List (List ℕ)) where
  defined_fine : (place : Place) → Fine Any (defined_text index sources unit lines place)
  defined_fine place = fine_defined Any index sources unit lines place tt (λ other is has. tt)

  all_fine : (firsts : List Place) → Fine Any (all_defined index sources unit lines firsts)
  all_fine firsts = fine_all_defined Any index sources unit lines firsts (λ place is. defined_fine place)

  defined_has : (place : Place) → HasId (uses_id place.occurrence) (defined_text index sources unit lines place)
  defined_has place =
      let id : List ℕ = uses_id place.occurrence in
      let line : ℕ = line_listed index.documents place in
      let start : List ℕ = places_text place.occurrence line in
      let text : List ℕ = defined_name index unit lines place in
      let name : List ℕ = escape text in
      let middle : List ℕ = codes "</b> <span>" in
      let label : List ℕ = escape (label_at index place) in
      let one : EndsInText (start ++ name) =
      ends_both start name (places_reads place.occurrence line).ends (escaped_reads text).ends in
      let two : EndsInText (start ++ name ++ middle) = ends_both (start ++ name) middle one refl in
      let three : EndsInText (start ++ name ++ middle ++ label) =
      ends_both (start ++ name ++ middle) label two (escaped_reads (label_at index place)).ends in
      has_before id (defined_head index unit lines place) (uses_text index sources place)
      (fine_head_of Any index sources unit lines place tt).reads.ends
      (has_before id (start ++ name ++ middle ++ label) (codes "</span></a></dt>\n") three
      (has_before id (start ++ name ++ middle) label two
      (has_before id (start ++ name) middle one
      (has_before id start name (places_reads place.occurrence line).ends (place_has place.occurrence line)))))

  all_have : (place : Place) (firsts : List Place) → In place firsts
      → HasId (uses_id place.occurrence) (all_defined index sources unit lines firsts)
  all_have place firsts is =
      let id : List ℕ = uses_id place.occurrence in
      let title : List ℕ = codes "<aside><h2>Definitions and their uses</h2>\n<dl>\n" in
      let each : List ℕ = flat_map (defined_text index sources unit lines) firsts in
      let fine : Fine Any each =
      fine_each Any (defined_text index sources unit lines) firsts (λ other there. defined_fine other) in
      has_before id (title ++ each) (codes "</dl>\n</aside>\n") (ends_both title each refl fine.reads.ends)
      (has_behind id title each refl
      (has_among id (defined_text index sources unit lines)
      (λ other. (defined_fine other).reads.ends) place firsts
      is (defined_has place)))

-- ---- pages

module _ (index : Index) (sources : Sources) (number : ℕ) (d : Document) (unit : ColumnUnit)
    (lines : List (List ℕ)) where
  abbrev its_links : List Link
  its_links = links_of index sources number d

  abbrev firsts : List Place
  firsts = firsts_of index sources number d

  abbrev code_part : List ℕ
  code_part = code_text unit d.occurrences its_links lines

  abbrev code_front : List ℕ
  code_front = codes "<main>\n<pre>" ++ code_part ++ codes "</pre>\n"

  abbrev defined_part : List ℕ
  defined_part = all_defined index sources unit lines firsts

  abbrev main_part : List ℕ
  main_part = main_text index sources unit d.occurrences its_links lines firsts

  start_ends : EndsInText (start_text d.relative_path)
  start_ends = (fine_start Any d.relative_path tt tt (λ folder is. tt)).reads.ends

  code_ends : EndsInText code_part
  code_ends = (code_fine unit d.occurrences its_links lines).reads.ends

  front_ends : EndsInText code_front
  front_ends =
      (fine_front Any index sources unit d.occurrences its_links lines
      (code_fine unit d.occurrences its_links lines)).reads.ends

  parts_end : EndsInText (code_front ++ defined_part)
  parts_end =
      ends_both code_front defined_part front_ends (all_fine index sources unit lines firsts).reads.ends

  -- each of their lines has its place,
  page_has_line : (start : ℕ) → start < length lines
      → HasId (line_id (start + 1)) (page_of index sources number d unit lines)
  page_has_line start inside =
      let id : List ℕ = line_id (start + 1) in
      has_behind id (start_text d.relative_path) main_part start_ends
      (has_before id (code_front ++ defined_part) (codes "</main>\n</body>\n</html>\n") parts_end
      (has_before id code_front defined_part front_ends
      (has_before id (codes "<main>\n<pre>" ++ code_part) (codes "</pre>\n")
      (ends_both (codes "<main>\n<pre>") code_part refl code_ends)
      (has_behind id (codes "<main>\n<pre>") code_part refl
      (code_has unit d.occurrences its_links lines start inside)))))

  -- and what is defined first on them
  page_has_uses : (occurrence : ℕ) → occurrence < length d.occurrences
      → is_first index sources (record { document = number; occurrence = occurrence }) ≡ true
      → HasId (uses_id occurrence) (page_of index sources number d unit lines)
  page_has_uses occurrence inside is_one =
      let id : List ℕ = uses_id occurrence in
      let place : Place = record { document = number; occurrence = occurrence } in
      let same : 0 + occurrence ≡ occurrence = omega arith in
      let listed : In occurrence (range_with_len 0 (length d.occurrences)) =
      subst (λ (k : ℕ). In k (range_with_len 0 (length d.occurrences))) same
      (in_range 0 (length d.occurrences) occurrence inside) in
      let is : In place firsts =
      in_filter (is_first index sources) place is_one (places_in number d)
      (in_map (λ (k : ℕ). record { document = number; occurrence = k }) occurrence
      (range_with_len 0 (length d.occurrences)) listed) in
      has_behind id (start_text d.relative_path) main_part start_ends
      (has_before id (code_front ++ defined_part) (codes "</main>\n</body>\n</html>\n") parts_end
      (has_behind id code_front defined_part front_ends
      (all_have index sources unit lines place firsts is)))

-- ---- ranges that fit

fit_at : (unit : ColumnUnit) (lines : List (List ℕ)) (occurrences : List Occurrence) (i : ℕ) (o : Occurrence)
    → misfit unit lines occurrences ≡ None → slice_get occurrences i ≡ Some o → fits unit lines o ≡ true
fit_at unit lines occurrences i o none is =
    let test : Occurrence → Bool = λ x. not (fits unit lines x) in
    not-false (fits unit lines o)
    (none_passes test 0 occurrences i o (sym (position_from-zero test occurrences) ∙ none) is)

started : (range : RangeNumbers) (from to : Option ℕ) → is_ordered range from to ≡ true → (at : ℕ) × (from ≡ Some at)
started range None to e = absurd cc
started range (Some at) to e = (at, refl)

line_inside : (unit : ColumnUnit) (lines : List (List ℕ)) (o : Occurrence) → fits unit lines o ≡ true
    → o.range.start_line < length lines
line_inside unit lines o e =
    let from = started o.range (offset_at unit lines o.range.start_line o.range.start_column)
    (offset_at unit lines o.range.end_line o.range.end_column) e in
    let line = some_first (λ (l : List ℕ). offset_of unit l o.range.start_column) (slice_get lines o.range.start_line)
    from.0 from.1 in
    slice_get_within lines o.range.start_line line.0 line.1

-- ---- places that are shown

some_is : {X : Type 0} (o : Option X) → IsSome o → (x : X) × (o ≡ Some x)
some_is None e = absurd cc
some_is (Some x) e = (x, refl)

pub sourced : (source : Option (Option (List ℕ)))
    → option_map_or (λ (s : Option (List ℕ)). is_some s) source false ≡ true
    → (bytes : List ℕ) × (source ≡ Some (Some bytes))
sourced None e = absurd cc
sourced (Some None) e = absurd cc
sourced (Some (Some bytes)) e = (bytes, refl)

defines_one : (o : Option Occurrence) → definition_or_not o ≡ true → IsSome o
defines_one None e = e
defines_one (Some o) e = refl

-- the page of a place, which has the place of its line
pub record HasLine (index : Index) (sources : Sources) (place : Place) : Type 0 where
  pub page : List ℕ
  pub is_page : IsPage index sources place.document page
  pub has : HasId (line_id (line_listed index.documents place)) page

pub there : (index : Index) (sources : Sources) → AllFit index sources → (place : Place) → IsShown index sources place
    → HasLine index sources place
there index sources fit place shown =
    let o = some_is (occurrence_listed index.documents place) shown.listed in
    let d = some_first (λ (x : Document). slice_get x.occurrences place.occurrence)
    (slice_get index.documents place.document) o.0 o.1 in
    let s = sourced (slice_get sources place.document) shown.has in
    let lines : List (List ℕ) = lines_of s.0 in
    let unit : ColumnUnit = unit_in d.0 in
    let fine : fits unit lines o.0 ≡ true =
    fit_at unit lines d.0.occurrences place.occurrence o.0 (fit place.document d.0 s.0 d.1 s.1) d.2 in
    let page : List ℕ = page_of index sources place.document d.0 unit lines in
    record {
      page = page;
      is_page = record { document = d.0; source = s.0; listed = d.1; has_source = s.1; is = refl };
      has = subst (λ (n : ℕ). HasId (line_id n) page) (sym (ap line_or_first o.1))
          (page_has_line index sources place.document d.0 unit lines o.0.range.start_line
          (line_inside unit lines o.0 fine));
    }

-- the place of the uses of what is defined first there
uses_there : (index : Index) (sources : Sources) (place : Place) → IsShown index sources place
    → is_first index sources place ≡ true → Leads index sources place.document (uses_url place.occurrence)
uses_there index sources place shown is_one =
    let o = some_is (occurrence_listed index.documents place) shown.listed in
    let d = some_first (λ (x : Document). slice_get x.occurrences place.occurrence)
    (slice_get index.documents place.document) o.0 o.1 in
    let s = sourced (slice_get sources place.document) shown.has in
    let lines : List (List ℕ) = lines_of s.0 in
    let unit : ColumnUnit = unit_in d.0 in
    let page : List ℕ = page_of index sources place.document d.0 unit lines in
    let is_page : IsPage index sources place.document page =
    record { document = d.0; source = s.0; listed = d.1; has_source = s.1; is = refl } in
    within is_page (page_has_uses index sources place.document d.0 unit lines place.occurrence
    (slice_get_within d.0.occurrences place.occurrence o.0 d.2) is_one)

-- ---- the laws

pub uses_lead : UsesLead
uses_lead index sources fit from place shown =
    let page = there index sources fit place shown in
    across page.is_page page.has

pub definitions_lead : DefinitionsLead
definitions_lead index sources fit place shown =
    let page = there index sources fit place shown in
    within page.is_page page.has

pub links_lead : LinksLead
links_lead index sources fit place url shown e = by (definition_of index sources place.document symbol) refl e
  where
    symbol : List ℕ
    symbol = symbol_listed index.documents place

    leads_by : (definition : Place) → definition_of index sources place.document symbol ≡ Some definition → (b : Bool)
        → same_place definition place ≡ b
        → Leads index sources place.document
        (cond b (uses_url place.occurrence) (place_url index place.document definition))
    leads_by definition f true same = uses_there index sources place shown (ap (is_at place) f ∙ same)
    leads_by definition f false other =
        let found = leads_to_a_page index sources place.document symbol definition f in
        uses_lead index sources fit place.document definition
        (record { listed = defines_one (occurrence_listed index.documents definition) found.1; has = found.0 })

    by : (found : Option Place) → definition_of index sources place.document symbol ≡ found
        → option_map (target_of index place) found ≡ Some url → LeadsToDefinition index sources place url
    by None f e = absurd cc
    by (Some definition) f e =
        let same : target_of index place definition ≡ url = ap (λ (o : Option (List ℕ)). unwrap_or o url) e in
        record {
          definition = definition;
          is = f;
          url_is = sym same;
          leads = subst (Leads index sources place.document) same
              (leads_by definition f (same_place definition place) refl);
        }
