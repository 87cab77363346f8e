use Rattle.std.proofs.Common.{◌≡◌, ◌∙◌, List, ℕ, Some, [], length, map, ap, subst, sym, arith}
use Rattle.std.proofs.lemmas.List.{length-map}
use Rattle.std.proofs.lemmas.Result.{IfOk-weaker}
use denote.Ref.{Bor}
use Rattle.proto_visibility.specs.Files.{File}
use Rattle.option_link.specs.declared.facts.OptionFacts.{OptionFacts}
use Rattle.scip_model.specs.Chosen.{Chosen, HaveChoices}
use Rattle.scip_model.specs.Indexes.{AreExternalsWith, IsAscendingListOf, info_cmp}
use Rattle.scip_model.specs.Tables.ExternalLists.{Pair, Adds, HasEntryAmong, IsExternal, NoneIncluded}
use Rattle.scip_model.specs.Options.{AllLinkOptions}
use Rattle.scip_model.specs.Tables.OptionListing.{IsOptionExternal}
use Rattle.scip_model.proofs.OptionExternalLemmas.{all-there, all-with, none-with}
use Rattle.scip_model.proofs.external_options.externals_with_options.Goals as goal

pub named_externals-requires : goal.named_externals-requires
named_externals-requires c =
    record {
      first = c.first_included-first.ensures;
      choices = subst (λ (files : List File). HaveChoices files c.args.choices.now) (sym c.linker-linker.ensures.files)
          c.requires.choices;
    }

pub push_files-requires : goal.push_files-requires
push_files-requires c =
    record {
      files = c.requires.options ∙ sym c.linker-linker.ensures.files;
      choices = subst (λ (files : List File). HaveChoices files c.args.choices.now) (sym c.linker-linker.ensures.files)
          c.requires.choices;
      texts = c.requires.texts ∙ ap (λ (files : List File). length files) (sym c.linker-linker.ensures.files);
      linked = subst AllLinkOptions (sym c.linker-linker.ensures.files) c.requires.linked;
    }

-- what is added, of the files of the packages
of-uses : (linked files : List File) (chosen : Chosen) (pairs : List Pair) → linked ≡ files
    → Adds (IsExternal linked chosen (length linked)) [] pairs → Adds (IsExternal files chosen (length files)) [] pairs
of-uses linked files chosen pairs same adds =
    subst (λ (list : List File). Adds (IsExternal list chosen (length list)) [] pairs) same adds

of-options : (linked files : List File) (known : List OptionFacts) (chosen : Chosen) (texts : List (Bor (List ℕ)))
    (old new : List Pair) → linked ≡ files
    → Adds (IsOptionExternal linked known chosen (map (λ (text : Bor (List ℕ)). text.now) texts) (length texts)) old new
    → Adds (IsOptionExternal files known chosen (map (λ (text : Bor (List ℕ)). text.now) texts)
    (length (map (λ (text : Bor (List ℕ)). text.now) texts))) old new
of-options linked files known chosen texts old new same adds =
    let read = map (λ (text : Bor (List ℕ)). text.now) texts in
    subst (λ (count : ℕ). Adds (IsOptionExternal files known chosen read count) old new)
    (sym (length-map texts (λ (text : Bor (List ℕ)). text.now)))
    (subst (λ (list : List File). Adds (IsOptionExternal list known chosen read (length texts)) old new) same adds)

pub entries_by_symbol-requires-clause-there : goal.entries_by_symbol-requires-clause-there
entries_by_symbol-requires-clause-there c =
    let files = c.args.named.now.files in
    let linked = c.linker-linker.result.now in
    let chosen = c.args.choices.now in
    let known = c.args.options.now.known in
    let read = map (λ (text : Bor (List ℕ)). text.now) c.args.texts.now in
    all-there files known chosen c.args.named.now.ids read c.in_ok-pairs.pairs.items c.push_files.new.named.items
    (of-uses linked files chosen c.in_ok-pairs.pairs.items c.linker-linker.ensures.files c.in_ok-pairs.ensures)
    (of-options linked files known chosen c.args.texts.now c.in_ok-pairs.pairs.items c.push_files.new.named.items
    c.linker-linker.ensures.files c.in_ok-push_files.ensures) c.targets_are_reachable.ensures c.requires.linked

pub returns-then-first-count : goal.returns-then-first-count
returns-then-first-count c =
    let linked = c.linker-linker.result.now in
    let same : c.first_included-first.result ≡ length linked = omega (arith, c.if-first-count.true, c.count.ensures) in
    rw c.new.ensures
    (none-with c.args.named.now.files c.args.options.now.known c.args.choices.now c.args.named.now.ids
    (map (λ (text : Bor (List ℕ)). text.now) c.args.texts.now)
    (subst (λ (files : List File). NoneIncluded files (length files)) c.linker-linker.ensures.files
    (subst (NoneIncluded linked) same c.first_included-first.ensures)))

pub returns : goal.returns
returns c =
    let files = c.args.named.now.files in
    let linked = c.linker-linker.result.now in
    let chosen = c.args.choices.now in
    let ids = c.args.named.now.ids in
    let known = c.args.options.now.known in
    let read = map (λ (text : Bor (List ℕ)). text.now) c.args.texts.now in
    let pairs = c.push_files.new.named.items in
    IfOk-weaker c.entries_by_symbol.result (IsAscendingListOf info_cmp (HasEntryAmong files chosen ids pairs))
    (AreExternalsWith (Some known) files read chosen ids)
    (all-with files known chosen ids read c.in_ok-pairs.pairs.items pairs
    (of-uses linked files chosen c.in_ok-pairs.pairs.items c.linker-linker.ensures.files c.in_ok-pairs.ensures)
    (of-options linked files known chosen c.args.texts.now c.in_ok-pairs.pairs.items pairs
    c.linker-linker.ensures.files c.in_ok-push_files.ensures))
    c.entries_by_symbol.ensures
