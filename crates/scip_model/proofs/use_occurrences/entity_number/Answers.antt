use Rattle.std.proofs.Common.{◌≡◌, sym, subst, IfSome, Option, ℕ}
use Rattle.proto_visibility.specs.declared.lookup.Entity.{Entity}
use Rattle.proto_visibility.specs.declared.lookup.Entity.TheVariants.{Declared}
use Rattle.scip_model.specs.Packages.{package_of_part}
use Rattle.scip_model.specs.Tables.Listing.{IsNameable, entity_of}
use Rattle.scip_model.specs.Tables.Plans.{IsNumberIn}
use Rattle.scip_model.proofs.PlanLemmas.{grown_same, own_is}
use Rattle.scip_model.proofs.use_occurrences.entity_number.Goals as goal

pub own_number-requires : goal.own_number-requires
own_number-requires c =
    let is : c.args.part ≡ Declared c.args.maker.now.source c.in-Some.index =
    subst (λ (o : Option ℕ). IfSome o (λ index. c.args.part ≡ Declared c.args.maker.now.source index)) c.in-Some.is
    c.own_index.ensures in
    subst (λ (part : Entity). IsNameable c.args.maker.now.package.now.files c.args.name.now part) is c.requires.nameable

pub returns-in-Some-clause-grown : goal.returns-in-Some-clause-grown
returns-in-Some-clause-grown c = grown_same c.args.texts.now

pub returns-in-Some-clause-number : goal.returns-in-Some-clause-number
returns-in-Some-clause-number c =
    let files = c.args.maker.now.package.now.files in
    let ids = c.args.maker.now.package.now.ids in
    let source = c.args.maker.now.source in
    let name = c.args.name.now in
    let is : c.args.part ≡ Declared source c.in-Some.index =
    subst (λ (o : Option ℕ). IfSome o (λ index. c.args.part ≡ Declared source index)) c.in-Some.is
    c.own_index.ensures in
    let has = subst (λ (part : Entity). IsNameable files name part) is c.requires.nameable in
    subst (λ (part : Entity). IsNumberIn c.args.texts.now (package_of_part files ids part) (entity_of files ids name part)
    c.in_ok-number.number) (sym is)
    (own_is files ids source c.in-Some.index c.in_ok-number.number c.args.texts.now has.0 has.1 c.requires.own has.2
    c.in_ok-number.ensures)

pub returns-clause-number : goal.returns-clause-number
returns-clause-number c = (
  c.in_ok-text.text,
  c.in_ok-text.ensures,
  c.in_ok-number-2.ensures.number,
)
