-- Places of a symbol's occurrences are in the index.
use Rattle.std.proofs.Common.{◌≡◌, ◌∙◌, sym, refl, ap, ℕ, ◌==◌, Bool, true, false, not, ◌||◌, List, [], map}
use Rattle.std.proofs.Common.{arith}
use Rattle.std.specs.Prelude.{Option, None, Some, IsSome}
use Rattle.std.specs.List.{enumerate_from, slice_get}
use Rattle.std.specs.Option.{is_some, option_and_then, option_map, unwrap_or}
use Rattle.std.specs.Str.{bytes_eq}
use Rattle.std.proofs.lemmas.Slice.Eq.{bytes_eq-Decides}
use Rattle.std.proofs.lemmas.Bool.{and_parts, eqb-true}
use Rattle.scip_records.specs.declared.records.Index.{Index}
use Rattle.scip_records.specs.declared.records.Document.{Document}
use Rattle.scip_records.specs.declared.records.Occurrence.{Occurrence}
use Rattle.scip_query.specs.declared.place.Place.{Place}
use Rattle.scip_query.specs.Sites.{Site, Numbered, numbered_documents, sites_in, sites_of}
use Rattle.scip_query.specs.OccurrenceAt.{Subject}
use Rattle.scip_query.specs.References.{is_local, is_of, references_of}
use Rattle.scip_query.specs.BySymbol.{references_in}
use Rattle.scip_query.specs.Tables.{occurrence_listed, symbol_listed, symbol_or_none}
use Rattle.basics.proofs.ElementLemmas.{In, from_map, from_flat_map, from_filter, from_numbered}

-- a site is the occurrence at its place
listed_site : (index : Index) (site : Site) → In site (sites_of index)
    → occurrence_listed index.documents site.place ≡ Some site.occurrence
listed_site index site is =
    let within = from_flat_map sites_in site (numbered_documents index) is in
    let d : Numbered = within.0 in
    let document = from_map (λ (p : ℕ × Document). record { number = p.0; document = p.1 }) d
    (enumerate_from 0 index.documents) within.1 in
    let at = from_numbered 0 document.0 index.documents document.1 in
    let occurrence = from_map (λ (o : ℕ × Occurrence). record {
      place = record { document = d.number; occurrence = o.0 };
      document = d.document;
      occurrence = o.1;
    }) site (enumerate_from 0 d.document.occurrences) within.2 in
    let number = from_numbered 0 occurrence.0 d.document.occurrences occurrence.1 in
    let first : document.0.0 ≡ at.0 = omega (arith, at.1) in
    let second : occurrence.0.0 ≡ number.0 = omega (arith, number.1) in
    let its_number : site.place.document ≡ at.0 =
    ap (λ (s : Site). s.place.document) occurrence.2 ∙ ap (λ (n : Numbered). n.number) document.2 ∙ first in
    let its_occurrence : site.place.occurrence ≡ number.0 =
    ap (λ (s : Site). s.place.occurrence) occurrence.2 ∙ second in
    let stands : slice_get index.documents site.place.document ≡ Some d.document =
    ap (slice_get index.documents) its_number ∙ at.2 ∙ ap (λ (n : Numbered). Some n.document) (sym document.2) in
    ap (option_and_then (λ (x : Document). slice_get x.occurrences site.place.occurrence)) stands
    ∙ ap (slice_get d.document.occurrences) its_occurrence ∙ number.2
    ∙ ap (λ (s : Site). Some s.occurrence) (sym occurrence.2)

-- what is known of a place where a symbol occurs that is asked for in a document
pub record IsOf (index : Index) (document : ℕ) (symbol : List ℕ) (place : Place) : Type 0 where
  pub listed : IsSome (occurrence_listed index.documents place)
  pub symbol_is : symbol_listed index.documents place ≡ symbol
  pub within : is_local symbol ≡ true → place.document ≡ document

own_if_local : (local same : Bool) → (not local || same) ≡ true → local ≡ true → same ≡ true
own_if_local true true e is = refl
own_if_local true false e is = absurd cc
own_if_local false same e is = absurd cc

pub references_are_listed : (index : Index) (document : ℕ) (symbol : List ℕ) (place : Place)
    → In place (references_in index document symbol) → IsOf index document symbol place
references_are_listed index document symbol place is = by (slice_get index.documents document) is
  where
    by : (o : Option Document)
        → In place (unwrap_or (option_map (λ (s : Subject). map (λ (site : Site). site.place) (references_of index s))
        (option_map (λ (d : Document). record { asked = record { number = document; document = d }; symbol = symbol })
        o))
        [])
        → IsOf index document symbol place
    by None none = absurd none
    by (Some d) there =
        let subject : Subject = record { asked = record { number = document; document = d }; symbol = symbol } in
        let site = from_map (λ (s : Site). s.place) place (references_of index subject) there in
        let one = from_filter (is_of subject) site.0 (sites_of index) site.1 in
        let passed = and_parts (bytes_eq site.0.occurrence.symbol symbol)
        (not (is_local symbol) || (site.0.place.document == document)) one.1 in
        let occurrence : occurrence_listed index.documents place ≡ Some site.0.occurrence =
        ap (occurrence_listed index.documents) site.2 ∙ listed_site index site.0 one.0 in
        record {
          listed = ap is_some occurrence;
          symbol_is = ap symbol_or_none occurrence ∙ (bytes_eq-Decides site.0.occurrence.symbol symbol).0 passed.0;
          within = λ local. ap (λ (p : Place). p.document) site.2
              ∙ eqb-true site.0.place.document document
              (own_if_local (is_local symbol) (site.0.place.document == document) passed.1 local);
        }
