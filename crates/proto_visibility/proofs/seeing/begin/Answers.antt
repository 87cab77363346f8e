use Rattle.std.proofs.Common.{◌≡◌, false, Some, length, refl, ap, sym, ◌∙◌}
use Rattle.std.specs.List.{slice_get}
use Rattle.std.proofs.lemmas.Option.{slice_get_read}
use Rattle.proto_visibility.specs.Tables.Visits.{Found, visit, visit_all}
use Rattle.proto_visibility.proofs.SeeingLemmas.{numbers_within, begun_iff}
use Rattle.proto_visibility.proofs.seeing.begin.Goals as goal

pub visit_all-requires : goal.visit_all-requires
visit_all-requires c =
    let table = c.args.table.now in
    let steps = c.index-table-file.result in
    let stands : slice_get table c.args.file ≡ Some steps =
    slice_get_read table (length table) c.args.file steps refl c.requires.file c.index-table-file.is in
    let files = ap (λ (f : Found). f.files) c.in_ok-visit.ensures ∙ c.requires.files in
    numbers_within table c.args.file steps false c.visit.new.self.files c.as_slice.result.now c.requires.within stands
    files
    (c.as_slice.ensures.value ∙ ap (λ s. s.plain.items) (sym c.index-table-file.is))

pub returns-clause-begun : goal.returns-clause-begun
returns-clause-begun c =
    let table = c.args.table.now in
    let steps = c.index-table-file.result in
    let stands : slice_get table c.args.file ≡ Some steps =
    slice_get_read table (length table) c.args.file steps refl c.requires.file c.index-table-file.is in
    let plain = c.as_slice.ensures.value ∙ ap (λ s. s.plain.items) (sym c.index-table-file.is) in
    let first = ap (λ (f : Found). f.numbers) c.in_ok-visit.ensures in
    let found = ap (λ (f : Found). f.numbers) c.in_ok-visit_all.ensures
    ∙ (ap (λ xs. visit_all xs c.as_slice.result.now) first
    ∙ ap (visit_all (visit c.args.search.now.numbers c.args.file)) plain) in
    begun_iff table c.args.file steps c.args.search.now.numbers c.visit_all.new.self.numbers stands found
