use Rattle.std.proofs.Common.{◌∙◌, sym, ap}
use Rattle.std.specs.List.{filter}
use Rattle.std.specs.Ordering.{nat_cmp, is_eq}
use Rattle.std.specs.Cmp.Lexicographic.{slice_cmp}
use Rattle.scip_query.specs.declared.place.Place.{Place}
use Rattle.scip_query.specs.References.{references_of}
use Rattle.scip_query.specs.Tables.{symbol_listed, places_from}
use Rattle.scip_query.specs.Views.{subject_view}
use Rattle.scip_query.proofs.SiteLemmas.{places_are, global_places, local_places, passing_rise}
use Rattle.scip_query.proofs.queries.Queries.among.Goals as goal

pub places_in-requires : goal.places_in-requires
places_in-requires c =
    rw c.requires
    (passing_rise c.args.self.now.documents
    (λ (place : Place). is_eq
    (slice_cmp nat_cmp (symbol_listed c.args.self.now.documents place) c.args.subject.now.symbol.now)))

pub returns-then-is_local : goal.returns-then-is_local
returns-then-is_local c =
    let index = c.args.self.now in
    let subject = subject_view c.args.subject.now in
    let with_symbol = filter
    (λ (place : Place). is_eq (slice_cmp nat_cmp (symbol_listed index.documents place) subject.symbol))
    (places_from 0 index.documents) in
    let in_document = λ (place : Place). is_eq (nat_cmp place.document subject.asked.number) in
    c.places_in.ensures ∙ ap (filter in_document) c.requires
    ∙ places_are index.documents (filter in_document with_symbol) (references_of index subject)
    (local_places index subject (sym c.is_local.ensures ∙ c.if-is_local.true))

pub returns-else-is_local : goal.returns-else-is_local
returns-else-is_local c =
    let index = c.args.self.now in
    let subject = subject_view c.args.subject.now in
    let with_symbol = filter
    (λ (place : Place). is_eq (slice_cmp nat_cmp (symbol_listed index.documents place) subject.symbol))
    (places_from 0 index.documents) in
    c.requires
    ∙ places_are index.documents with_symbol (references_of index subject)
    (global_places index subject (sym c.is_local.ensures ∙ c.if-is_local.false))
