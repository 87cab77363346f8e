use Rattle.std.proofs.Common.{◌↔◌, IsTrue, ap, sym, ◌∙◌, subst}
use Rattle.std.proofs.lemmas.Bool.{false≢true}
use Rattle.proto_visibility.specs.Knows.{KnowsAs}
use Rattle.proto_visibility.specs.Knows.NameKind.{OfPackage}
use Rattle.option_link.specs.declared.sought.Sought.{Sought}
use Rattle.option_link.specs.Lookups.{admits}
use Rattle.option_link.proofs.SoughtLemmas.{known_by_place}
use Rattle.option_link.proofs.table.DeclarationTable.knows.Goals as goal

pub returns-in-Anything : goal.returns-in-Anything
returns-in-Anything c =
    subst (λ (s : Sought). IsTrue c.knows_anything.result
    ↔ KnowsAs c.args.self.now c.args.file (admits s) c.args.name.now) (sym c.in-Anything.is) c.knows_anything.ensures

pub returns-in-AField : goal.returns-in-AField
returns-in-AField c =
    known_by_place c.args.self.now c.args.file (admits c.args.sought) c.args.name.now c.is_seen.result
    (λ packaged known. false≢true (sym (ap (λ (s : Sought). admits s OfPackage) c.in-AField.is) ∙ packaged))
    c.is_seen.ensures

pub returns-in-AMessage : goal.returns-in-AMessage
returns-in-AMessage c =
    known_by_place c.args.self.now c.args.file (admits c.args.sought) c.args.name.now c.is_seen-in-AMessage.result
    (λ packaged known. false≢true (sym (ap (λ (s : Sought). admits s OfPackage) c.in-AMessage.is) ∙ packaged))
    c.is_seen-in-AMessage.ensures

pub returns-in-AType : goal.returns-in-AType
returns-in-AType c =
    known_by_place c.args.self.now c.args.file (admits c.args.sought) c.args.name.now c.is_seen-in-AType.result
    (λ packaged known. false≢true (sym (ap (λ (s : Sought). admits s OfPackage) c.in-AType.is) ∙ packaged))
    c.is_seen-in-AType.ensures

pub returns-in-AnAggregate : goal.returns-in-AnAggregate
returns-in-AnAggregate c =
    subst (λ (s : Sought). IsTrue c.knows_aggregate.result
    ↔ KnowsAs c.args.self.now c.args.file (admits s) c.args.name.now) (sym c.in-AnAggregate.is)
    c.knows_aggregate.ensures
