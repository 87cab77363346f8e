use Rattle.std.proofs.Common.{◌∙◌, ap, sym, List}
use Rattle.std.specs.List.{filter, slice_get}
use Rattle.std.specs.Option.{option_and_then}
use Rattle.scip_query.specs.declared.place.EntryPlace.{EntryPlace}
use Rattle.scip_query.specs.Tables.Searches.{entry_listed}
use Rattle.scip_query.specs.Views.{subject_view}
use Rattle.scip_query.proofs.SearchEntryLemmas.{has_symbol, is_in, found_globally, found_locally, passing_rise}
use Rattle.scip_query.proofs.queries.Queries.entry_among.Goals as goal

pub entry_places_in-requires : goal.entry_places_in-requires
entry_places_in-requires c =
    rw c.requires.places
    (passing_rise c.args.self.now (has_symbol c.args.self.now c.args.subject.now.symbol.now))

pub returns-then-is_local : goal.returns-then-is_local
returns-then-is_local c =
    let index = c.args.self.now in
    let subject = subject_view c.args.subject.now in
    c.first_entry.ensures
    ∙ ap (λ (l : List EntryPlace). option_and_then (entry_listed index) (slice_get l 0))
    (c.entry_places_in.ensures ∙ ap (filter (is_in subject.asked.number)) c.requires.places)
    ∙ found_locally index subject (sym c.is_local.ensures ∙ c.if-is_local.true) c.requires.listed

pub returns-else-is_local : goal.returns-else-is_local
returns-else-is_local c =
    let index = c.args.self.now in
    let subject = subject_view c.args.subject.now in
    c.first_entry-else-is_local.ensures
    ∙ ap (λ (l : List EntryPlace). option_and_then (entry_listed index) (slice_get l 0))
    c.requires.places
    ∙ found_globally index subject (sym c.is_local.ensures ∙ c.if-is_local.false)
