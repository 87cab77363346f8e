use Rattle.std.proofs.Common.{◌∙◌, sym, subst, List, [], ℕ, Option}
use Rattle.std.proofs.lemmas.Result.{IfOk-weaker}
use Rattle.scip_symbol.specs.Entities as symbols
use Rattle.scip_model.specs.Makers.{CanName, entity_named, part_package}
use Rattle.scip_model.specs.Tables.KnownParts.{NumbersPart}
use Rattle.scip_model.specs.Tables.Plans.{IsNumberIn}
use Rattle.scip_model.proofs.KnownPartLemmas.{nameable_as, named_as}
use Rattle.scip_model.proofs.option_parts.new_number.Goals as goal

pub entity_number-requires-clause-nameable : goal.entity_number-requires-clause-nameable
entity_number-requires-clause-nameable c =
    let has = c.requires.declared in
    nameable_as c.args.maker.now.package.now.files has.1.full_name [] c.args.part _ _ c.in-Declared.is
    (c.requires.nameable has.0 has.1 has.2)

pub returns-in-Declared-clause-number : goal.returns-in-Declared-clause-number
returns-in-Declared-clause-number c =
    let maker = c.args.maker.now in
    let part = c.args.part in
    let id = part_package maker part in
    let texts = c.entity_number.new.texts in
    IfOk-weaker c.entity_number.result (IsNumberIn texts id (entity_named maker [] part))
    (NumbersPart maker texts c.args.place part)
    (λ number is facts declared has.
    subst (λ (entity : Option symbols.Entity). IsNumberIn texts id entity number)
    (named_as maker.package.now.files maker.package.now.ids [] declared.full_name part _ _ c.in-Declared.is) is)
    c.entity_number.ensures.number

pub entity_number-requires-2-clause-nameable : goal.entity_number-requires-2-clause-nameable
entity_number-requires-2-clause-nameable c =
    let has = c.requires.declared in
    subst (λ (name : List ℕ). CanName c.args.maker.now name c.args.part)
    (sym (c.as_str.ensures ∙ c.in_ok-full_name.ensures has.0 has.1 has.2)) (c.requires.nameable has.0 has.1 has.2)

pub returns-clause-number : goal.returns-clause-number
returns-clause-number c = λ facts declared has.
    let maker = c.args.maker.now in
    let part = c.args.part in
    subst (λ (name : List ℕ). IsNumberIn c.entity_number-2.new.texts (part_package maker part)
    (entity_named maker name part) c.in_ok-number.number)
    (c.as_str.ensures ∙ c.in_ok-full_name.ensures facts declared has) c.in_ok-number.ensures.number
