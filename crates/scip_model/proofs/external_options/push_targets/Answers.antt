use Rattle.proto_visibility.specs.declared.lookup.Entity.{Entity}
use Rattle.scip_model.specs.Tables.Additions.{Adds, FromFront}
use Rattle.scip_model.specs.Tables.ExternalLists.{IsOfPart}
use Rattle.scip_model.specs.Tables.OptionListing.{IsOfTarget}
use Rattle.scip_model.proofs.ExternalSymbolLemmas.{adds-more, adds-all}
use Rattle.std.proofs.Common.{List, length, refl, subst}
use Rattle.std.proofs.lemmas.Option.{slice_get_read}
use Rattle.scip_model.proofs.external_options.push_targets.Goals as goal

pub loop-target-preserved : goal.loop-target-preserved
loop-target-preserved c =
    let targets = c.args.targets.now in
    adds-more (IsOfTarget c.args.linker.now c.args.choices.now) targets c.loop-target.target-index
    c.target-item.result c.args.named.now.items c.loop-target.named.items c.push_parts.new.named.items
    (slice_get_read targets (length targets) c.loop-target.target-index c.target-item.result refl
    c.loop-target-test.true c.target-item.is) c.loop-target.invariant
    (subst (λ (parts : List Entity).
    Adds (FromFront (IsOfPart c.args.linker.now c.args.choices.now) parts (length parts))
    c.loop-target.named.items c.push_parts.new.named.items) c.as_slice.ensures c.in_ok-push_parts.ensures)

pub returns : goal.returns
returns c =
    adds-all (IsOfTarget c.args.linker.now c.args.choices.now) c.args.targets.now c.loop-target.target-index
    c.args.named.now.items c.loop-target.named.items c.loop-target-test.false c.loop-target.invariant
