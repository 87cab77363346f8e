use Rattle.std.proofs.Common.{◌∙◌, subst, [], ◌∷◌}
use Rattle.std.proofs.lemmas.Bool.{not-true, not-false}
use Rattle.scip_model.specs.Named.{text_of, declaration_in}
use Rattle.scip_model.specs.Makers.{source_home}
use Rattle.scip_model.specs.Detailed.{detail_at}
use Rattle.scip_model.specs.Occurs.{definition_role, enclosing_with}
use Rattle.scip_model.specs.Tables.Listing.{keeps}
use Rattle.proto_lex.specs.declared.span.Span.{Span}
use Rattle.scip_model.specs.Tables.OwnTexts.{occurrence_with}
use Rattle.scip_model.specs.Tables.Plans.{own_texts, around_in, AreAdded}
use Rattle.scip_model.proofs.AroundLemmas.{declared_around}
use Rattle.scip_model.proofs.PlanLemmas.{none_if, some_if, planned_added, declared_number, kept_by}
use Rattle.scip_model.proofs.occurrences.add_declaration.Goals as goal

pub returns-then-not-choice : goal.returns-then-not-choice
returns-then-not-choice c = λ run.
    let maker = c.args.maker.now in
    none_if (around_in maker.encoding maker.text.now c.args.facts.now)
    (keeps maker.choices.now maker.source c.args.index) (own_texts (source_home maker) run c.args.facts.now)
    c.args.list.now.items _
    (kept_by maker.choices.now maker.source c.args.index c.of-choice.result c.of-choice.ensures
    ∙ not-true c.of-choice.result.keep c.if-not-choice.true)

pub returns : goal.returns
returns c = λ run.
    let maker = c.args.maker.now in
    let home = source_home maker in
    let facts = c.args.facts.now in
    let declared = c.args.declaration.now in
    let index = c.args.index in
    let texts = own_texts home run facts in
    let old = c.args.list.now.items in
    let new = c.push.new.self.items in
    let text = text_of home.id (declaration_in home facts declared) in
    let around = around_in maker.encoding maker.text.now facts in
    let range = enclosing_with maker.encoding maker.text.now (detail_at facts index) in
    some_if around (keeps maker.choices.now maker.source index) texts old new _
    (kept_by maker.choices.now maker.source index c.of-choice.result c.of-choice.ensures
    ∙ not-false c.of-choice.result.keep c.if-not-choice.false)
    (subst (λ (span : Span).
    AreAdded around texts old new (occurrence_with maker.encoding maker.text.now span text definition_role range ∷ []))
    c.name.ensures
    (planned_added around maker.encoding maker.text.now c.name.result definition_role texts old new
    c.planned_over.result text c.in_ok-number.number range c.in_ok-push.ensures.items c.planned_over.ensures
    (declared_number home run facts index c.in_ok-number.number declared c.requires.there c.in_ok-number.ensures)
    (declared_around maker.encoding maker.text.now facts index c.in_ok-number.number c.in_ok-number.ensures)))
