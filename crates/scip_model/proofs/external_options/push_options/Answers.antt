use Rattle.std.proofs.Common.{sym, subst, refl, List, get_or, length}
use Rattle.std.specs.List.{All}
use Rattle.std.proofs.lemmas.Option.{slice_get_read}
use Rattle.std.proofs.lemmas.List.Elements.{Contains-get_or}
use Rattle.option_link.specs.declared.target.OptionTarget.{OptionTarget}
use Rattle.proto_visibility.specs.Files.{File, IsSource}
use Rattle.proto_visibility.specs.Reaches.{LinksOptions}
use Rattle.scip_model.specs.Tables.Additions.{Adds, FromFront}
use Rattle.scip_model.specs.Tables.OptionListing.{AreKnownParts, IsOfOption, IsOfTarget}
use Rattle.scip_model.proofs.ExternalSymbolLemmas.{adds-all, adds-more}
use Rattle.scip_model.proofs.OptionExternalLemmas.{of-option, of-options}
use Rattle.scip_model.proofs.OptionOccurLemmas.{front-none}
use Rattle.scip_model.proofs.OptionTargetLemmas.{all-known, its-targets}
use Rattle.scip_model.proofs.external_options.push_options.Goals as goal

pub targets-requires : goal.targets-requires
targets-requires c = record {
  source = subst (λ (files : List File). IsSource files c.args.source) (sym c.requires.files) c.requires.source;
  links = subst (λ (files : List File). LinksOptions files c.args.source) (sym c.requires.files) c.requires.links;
}

pub loop-option-init : goal.loop-option-init
loop-option-init c = front-none
    (IsOfOption c.args.linker.now c.args.options.now.known c.args.choices.now c.args.source c.args.text.now)
    c.options_of-option-items.result.now c.args.named.now.items

pub push_targets-requires : goal.push_targets-requires
push_targets-requires c =
    let files = c.args.linker.now in
    let found = c.in_ok-found.found.targets in
    subst (λ (targets : List OptionTarget). All (AreKnownParts files c.args.choices.now) targets)
    (sym c.as_slice.ensures)
    (λ k d within.
    let is = (its-targets c.args.options.now.files files c.requires.files c.args.options.now.known c.args.source
    c.args.text.now c.args.text.now refl c.option-item.result found c.in_ok-found.ensures.targets (get_or found k d)).0
    (Contains-get_or found k d within) in
    all-known files is.parts c.args.choices.now c.requires.choices)

pub loop-option-preserved : goal.loop-option-preserved
loop-option-preserved c =
    let files = c.args.linker.now in
    let known = c.args.options.now.known in
    let chosen = c.args.choices.now in
    let options = c.options_of-option-items.result.now in
    let index = c.loop-option.option-index in
    let option = c.option-item.result in
    let old = c.loop-option.named.items in
    let new = c.push_targets.new.named.items in
    let found = c.in_ok-found.found.targets in
    adds-more (IsOfOption files known chosen c.args.source c.args.text.now) options index option c.args.named.now.items
    old new
    (slice_get_read options (length options) index option refl c.loop-option-test.true c.option-item.is)
    c.loop-option.invariant
    (of-option files known chosen c.args.source c.args.text.now option found
    (its-targets c.args.options.now.files files c.requires.files known c.args.source c.args.text.now c.args.text.now refl
    option found c.in_ok-found.ensures.targets) old new
    (subst (λ (targets : List OptionTarget). Adds (FromFront (IsOfTarget files chosen) targets (length targets)) old new)
    c.as_slice.ensures c.in_ok-push_targets.ensures))

pub returns : goal.returns
returns c =
    let options = c.options_of-option-items.result.now in
    of-options c.args.linker.now c.args.options.now.known c.args.choices.now c.args.source c.args.text.now options
    c.requires.source c.options_of-option-items.ensures c.args.named.now.items c.loop-option.named.items
    (adds-all
    (IsOfOption c.args.linker.now c.args.options.now.known c.args.choices.now c.args.source c.args.text.now) options
    c.loop-option.option-index c.args.named.now.items c.loop-option.named.items c.loop-option-test.false
    c.loop-option.invariant)
