use Rattle.std.proofs.Common.{◌≡◌, List, [], length, subst, sym, arith}
use Rattle.std.proofs.lemmas.Result.{IfOk-weaker}
use Rattle.proto_visibility.specs.Files.{File}
use Rattle.scip_model.specs.Chosen.{HaveChoices}
use Rattle.scip_model.specs.Indexes.{AreExternals, IsAscendingListOf, info_cmp}
use Rattle.scip_model.specs.Tables.ExternalLists.{Adds, HasEntryAmong, IsExternal, NoneIncluded}
use Rattle.scip_model.proofs.ExternalSymbolEntryLemmas.{externals-there, none-external, of-externals}
use Rattle.scip_model.proofs.external_symbols.externals_in_packages.Goals as goal

pub named_externals-requires : goal.named_externals-requires
named_externals-requires c =
    record {
      first = c.first_included-first.ensures;
      choices = subst (λ (files : List File). HaveChoices files c.args.choices.now) (sym c.linker-linker.ensures.files)
          c.requires.choices;
    }

pub entries_by_symbol-requires-clause-there : goal.entries_by_symbol-requires-clause-there
entries_by_symbol-requires-clause-there c =
    externals-there c.args.named.now.files c.args.choices.now c.in_ok-pairs.pairs.items
    (subst (λ (list : List File). Adds (IsExternal list c.args.choices.now (length list)) [] c.in_ok-pairs.pairs.items)
    c.linker-linker.ensures.files c.in_ok-pairs.ensures)

pub returns-then-first-count : goal.returns-then-first-count
returns-then-first-count c =
    let linked = c.linker-linker.result.now in
    let same : c.first_included-first.result ≡ length linked = omega (arith, c.if-first-count.true, c.count.ensures) in
    rw c.new.ensures
    (none-external c.args.named.now.files c.args.choices.now c.args.named.now.ids
    (subst (λ (files : List File). NoneIncluded files (length files)) c.linker-linker.ensures.files
    (subst (NoneIncluded linked) same c.first_included-first.ensures)))

pub returns : goal.returns
returns c =
    let files = c.args.named.now.files in
    let chosen = c.args.choices.now in
    let ids = c.args.named.now.ids in
    let pairs = c.in_ok-pairs.pairs.items in
    IfOk-weaker c.entries_by_symbol.result (IsAscendingListOf info_cmp (HasEntryAmong files chosen ids pairs))
    (AreExternals files chosen ids)
    (λ entries is. of-externals files ids chosen pairs entries
    (subst (λ (list : List File). Adds (IsExternal list chosen (length list)) [] pairs) c.linker-linker.ensures.files
    c.in_ok-pairs.ensures) is)
    c.entries_by_symbol.ensures
