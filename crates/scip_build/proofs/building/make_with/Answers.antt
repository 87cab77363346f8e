use Rattle.std.proofs.Common.{◌∙◌, length, ap, sym, subst}
use Rattle.option_link.specs.Fields.{AreInOrder}
use Rattle.scip_model.specs.Options.{AllLinkOptions}
use Rattle.scip_build.specs.Documents.{asked_in}
use Rattle.scip_build.proofs.LinkedOptionLemmas.{known_each, options_asked, options_lent}
use Rattle.scip_build.proofs.ReadyLemmas.{in_order_of, link_options}
use Rattle.scip_build.proofs.building.make_with.Goals as goal

pub options_if_asked-requires-clause-each : goal.options_if_asked-requires-clause-each
options_if_asked-requires-clause-each g c = λ asked.
    ap length (c.requires.beside (sym c.asks_options-asked.ensures ∙ asked))
    ∙ (known_each c.args.parsed.now ∙ ap length (sym c.requires.files))

pub options_if_asked-requires-clause-in_order : goal.options_if_asked-requires-clause-in_order
options_if_asked-requires-clause-in_order g c = λ asked.
    subst AreInOrder (sym (c.requires.beside (sym c.asks_options-asked.ensures ∙ asked)))
    (in_order_of c.args.parsed.now c.requires.tree)

pub make_from-requires-clause-options : goal.make_from-requires-clause-options
make_from-requires-clause-options g c = λ _ _.
    let settings = c.args.settings.now in
    let parsed = c.args.parsed.now in
    options_lent (asked_in settings parsed) c.args.linker.now c.in_ok-options.options c.as_ref.result
    c.as_ref.ensures.value
    (options_asked settings parsed c.asks_options-asked.result c.asks_options-asked.ensures c.args.beside.now
    (λ asked. c.requires.beside (sym c.asks_options-asked.ensures ∙ asked)) c.args.linker.now
    (λ asks. subst AllLinkOptions (sym c.requires.files) (link_options parsed c.requires.tree asks))
    c.in_ok-options.options c.in_ok-options.ensures)
