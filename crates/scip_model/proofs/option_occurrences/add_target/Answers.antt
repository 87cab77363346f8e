use Rattle.std.proofs.Common.{◌≡◌, ◌∙◌, sym, subst, List, ℕ, Option, Some, None}
use Rattle.std.specs.Prelude.{MatchOption}
use Rattle.std.specs.List.{All, slice_get}
use Rattle.std.proofs.lemmas.Option.{same_Some}
use Rattle.std.proofs.lemmas.Result.{on_ok_weaker}
use denote.Ref.{Bor}
use Rattle.proto_lex.specs.Lexed.{IsPart}
use Rattle.proto_options.specs.declared.names.OptionName.{OptionName}
use Rattle.option_link.specs.declared.place.DeclaredPlace.{DeclaredPlace}
use Rattle.proto_visibility.specs.Files.{HaveOrigins}
use Rattle.proto_visibility.specs.declared.lookup.Entity.{Entity}
use Rattle.scip_model.specs.Makers.{at_its_name}
use Rattle.scip_model.specs.Tables.Listing.{each_from}
use Rattle.scip_model.specs.Tables.OptionListing.{IsLastPart, IsLastPlace, OccursByTarget}
use Rattle.scip_model.specs.Tables.Plans.{AreAdded}
use Rattle.scip_model.proofs.OptionOccurLemmas.{added-planned, name-listed, name-occurs, none-by-target, planned-nothing}
use Rattle.scip_model.proofs.OptionTargetLemmas.{declared-at, nameable-at, stand-as}
use Rattle.scip_model.proofs.option_occurrences.add_target.Goals as goal

-- the name that is found
found-name : (names : List OptionName) (number : ℕ) (found : Option (Bor OptionName)) (name : Bor OptionName)
    → MatchOption found (slice_get names number ≡ None) (λ n. slice_get names number ≡ Some n.now) → found ≡ Some name
    → slice_get names number ≡ Some name.now
found-name names number found name says is =
    subst (λ (o : Option (Bor OptionName)). MatchOption o (slice_get names number ≡ None)
    (λ n. slice_get names number ≡ Some n.now)) is says

-- the place that is found is that of the last part, where there is one
last-at : (parts its : List Entity) (found : Option DeclaredPlace) (place : DeclaredPlace) → parts ≡ its
    → IsLastPlace parts found → found ≡ Some place → IsLastPart its place
last-at parts its found place same says is =
    subst (λ (ps : List Entity). IsLastPart ps place) same
    (subst (λ (o : Option DeclaredPlace). IsLastPlace parts o) is says)

pub add_name-requires-clause-stand : goal.add_name-requires-clause-stand
add_name-requires-clause-stand c =
    let maker = c.args.maker.now in
    let option = c.args.option.now in
    let is = c.requires.is_target in
    let name = c.in-Some-name_at.name in
    let same : name.now ≡ is.name =
    same_Some name.now is.name (sym (found-name option.setting.names c.args.target.now.name_number c.name_at.result name
    c.name_at.ensures c.in-Some-name_at.is) ∙ is.names.numbered) in
    subst (λ (n : OptionName). All (IsPart maker.text.now) n.name.components) (sym same)
    (stand-as maker.package.now.files c.args.options.now.known maker.source maker.text.now option is.names.names)

pub add_name-requires-clause-nameable : goal.add_name-requires-clause-nameable
add_name-requires-clause-nameable c = λ facts declared has index part there.
    let files = c.args.maker.now.package.now.files in
    nameable-at files c.requires.is_target.parts c.facts_occur_in_order.ensures.spelled
    (subst HaveOrigins c.linker.ensures.files c.facts_occur_in_order.ensures.origins) c.in-Some.place
    (last-at c.as_slice-parts.result.now c.args.target.now.parts c.last_place.result c.in-Some.place
    c.as_slice-parts.ensures c.last_place.ensures c.in-Some.is) facts declared has index part
    (subst (λ (its : List Entity). slice_get its index ≡ Some part) c.as_slice-parts.ensures there)

pub returns-in-Some-name_at-clause-added : goal.returns-in-Some-name_at-clause-added
returns-in-Some-name_at-clause-added c =
    let maker = c.args.maker.now in
    let files = maker.package.now.files in
    let known = c.args.options.now.known in
    let option = c.args.option.now in
    let target = c.args.target.now in
    let is = c.requires.is_target in
    let name = c.in-Some-name_at.name in
    let place = c.in-Some.place in
    let parts = c.as_slice-parts.result.now in
    let old = c.args.plan.now.list.items in
    let new = c.add_name.new.plan.list.items in
    let texts = c.add_name.new.texts in
    let same : name.now ≡ is.name =
    same_Some name.now is.name (sym (found-name option.setting.names target.name_number c.name_at.result name
    c.name_at.ensures c.in-Some-name_at.is) ∙ is.names.numbered) in
    let last = last-at parts target.parts c.last_place.result place c.as_slice-parts.ensures c.last_place.ensures
    c.in-Some.is in
    let full_name = is.parts.declaration.full_name in
    on_ok_weaker c.add_name.result
    (λ added around.
    added-planned around texts
    (OccursByTarget files known maker.choices.now maker.package.now.ids maker.encoding maker.source maker.text.now option
    target) old new
    (each_from (at_its_name maker full_name target.parts) 0 is.name.name.components)
    (name-occurs files known maker.choices.now maker.package.now.ids maker.encoding maker.source maker.text.now option
    target is)
    (name-listed files known maker.choices.now maker.package.now.ids maker.encoding maker.source maker.text.now option
    target is)
    (subst (λ (its : OptionName). AreAdded around texts old new
    (each_from (at_its_name maker full_name target.parts) 0 its.name.components)) same
    (subst (λ (its : List Entity). AreAdded around texts old new
    (each_from (at_its_name maker full_name its) 0 name.now.name.components)) c.as_slice-parts.ensures
    (added is.parts.stands.facts is.parts.declaration (declared-at files is.parts place last) around))))
    c.add_name.ensures.added

pub returns-in-None-clause-added : goal.returns-in-None-clause-added
returns-in-None-clause-added c = λ around.
    let maker = c.args.maker.now in
    let files = maker.package.now.files in
    let target = c.args.target.now in
    planned-nothing around c.args.texts.now
    (OccursByTarget files c.args.options.now.known maker.choices.now maker.package.now.ids maker.encoding maker.source
    maker.text.now c.args.option.now target) c.args.plan.now.list.items
    (none-by-target files c.args.options.now.known maker.choices.now maker.package.now.ids maker.encoding maker.source
    maker.text.now c.args.option.now target
    (λ at last. (subst (λ (o : Option DeclaredPlace). IsLastPlace c.as_slice-parts.result.now o) c.in-None.is
    c.last_place.ensures) at
    (subst (λ (its : List Entity). IsLastPart its at) (sym c.as_slice-parts.ensures) last)))
