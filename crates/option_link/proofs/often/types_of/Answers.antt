use Rattle.std.proofs.Common.{ap}
use Rattle.option_link.specs.Linked.{LinkedOptions}
use Rattle.option_link.proofs.KnownFieldLemmas.{no_known}
use Rattle.option_link.proofs.TypeListLemmas.{no_types}
use Rattle.option_link.proofs.often.types_of.Goals as goal

pub new-often-requires : goal.new-often-requires
new-often-requires c = no_known c.args.names.now c.args.known.now c.none-none.result.fields.items c.none-none.ensures

pub invariant_of-files : goal.invariant_of-files
invariant_of-files c = record {
  in_order = c.requires;
  same_files = ap (λ (o : LinkedOptions). o.files) c.new-often.ensures;
  same_known = ap (λ (o : LinkedOptions). o.known) c.new-often.ensures;
}

pub loop-number-init : goal.loop-number-init
loop-number-init c = no_types c.args.names.now c.new-types.result.items c.new-types.ensures.items
