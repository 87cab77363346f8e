use Rattle.std.proofs.Common.{◌≡◌, List, get_or, sym, subst, rules}
use Rattle.std.specs.Ordering.{is_lt}
use Rattle.std.specs.List.{All, AllZip}
use Rattle.std.proofs.lemmas.List.Elements.{Contains-get_or}
use Rattle.std.proofs.lemmas.List.Sorted.{answers_always}
use Rattle.scip_model.specs.Tables.ExternalLists.{Pair, IsEntryOf, IsKeptThere}
use Rattle.scip_model.specs.Indexes.{info_cmp}
use Rattle.scip_model.proofs.EntrySourceLemmas.{infos_rank}
use Rattle.scip_model.proofs.ExternalSymbolEntryLemmas.{entry-list}
use Rattle.scip_model.proofs.external_symbols.entries_by_symbol.Goals as goal

pub external_entries-requires-clause-there : goal.external_entries-requires-clause-there
external_entries-requires-clause-there c =
    let once = c.in_ok-once.once.items in
    subst (λ (pairs : List Pair). All (IsKeptThere c.args.named.now.files c.args.choices.now) pairs)
    (sym c.as_slice.ensures.value)
    (λ k d within. c.requires.there (get_or once k d)
    ((c.in_ok-once.ensures.same (get_or once k d)).0 (Contains-get_or once k d within)))

pub returns : goal.returns
returns c =
    let files = c.args.named.now.files in
    let chosen = c.args.choices.now in
    let ids = c.args.named.now.ids in
    let once = c.in_ok-once.once.items in
    rw c.from_vec.ensures
    (entry-list files ids c.symbols_stand_apart.ensures.known c.symbols_stand_apart.ensures.packages chosen
    c.args.pairs.items once c.in_ok-once.ensures.same c.requires.there c.in_ok-once.ensures.rising
    c.in_ok-entries.entries.items c.sort_by.new.self.items
    (subst (λ (pairs : List Pair). AllZip (IsEntryOf files chosen ids) pairs c.in_ok-entries.entries.items)
    c.as_slice.ensures.value c.in_ok-entries.ensures)
    c.in_ok-sort_by.ensures.permutation
    (c.in_ok-sort_by.ensures.sorted (λ x y. is_lt (info_cmp x y)) infos_rank
    (answers_always _ (λ a r. is_lt r ≡ is_lt (info_cmp a.0.now a.1.0.now)) _ (λ f a r g called. search rules))))
