-- Indexes have one join at most.
use Rattle.std.proofs.Common.{◌≡◌, sym, ◌∙◌, subst}
use Rattle.std.proofs.lemmas.Cmp.{on_total, nat_list_cmp_total}
use Rattle.basics.proofs.StrictOrderLemmas.{rising_one}
use Rattle.scip_records.specs.declared.records.Document.{Document}
use Rattle.scip_records.specs.declared.records.SymbolInformation.{SymbolInformation}
use Rattle.scip_join.specs.Joined.{IsExternal}
use Rattle.scip_join.specs.Laws.{OneJoin}

pub one_join : OneJoin
one_join root indexes joined other is its =
    let metadata : joined.metadata ≡ other.metadata = is.metadata ∙ sym its.metadata in
    let documents : joined.documents ≡ other.documents =
    rising_one (on_total (λ (d : Document). d.relative_path) nat_list_cmp_total) joined.documents other.documents
    is.by_path its.by_path (λ d there. (its.documents d).1 ((is.documents d).0 there))
    (λ d there. (is.documents d).1 ((its.documents d).0 there)) in
    let external_symbols : joined.external_symbols ≡ other.external_symbols =
    rising_one (on_total (λ (e : SymbolInformation). e.symbol) nat_list_cmp_total) joined.external_symbols
    other.external_symbols is.by_symbol its.by_symbol
    (λ e there. (its.externals e).1
    (subst (λ l. IsExternal indexes l e) documents ((is.externals e).0 there)))
    (λ e there. (is.externals e).1
    (subst (λ l. IsExternal indexes l e) (sym documents) ((its.externals e).0 there))) in
    λ i. record { metadata = metadata i; documents = documents i; external_symbols = external_symbols i }
