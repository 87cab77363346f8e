use Rattle.std.proofs.Common.{ap}
use Rattle.option_link.specs.Linked.{LinkedOptions}
use Rattle.option_link.proofs.KnownFieldLemmas.{no_known}
use Rattle.option_link.proofs.often.fields_of.Goals as goal

pub new-requires : goal.new-requires
new-requires c = no_known c.args.names.now c.args.known.now c.none-none.result.fields.items c.none-none.ensures

pub invariant_of-files : goal.invariant_of-files
invariant_of-files c = record {
  in_order = c.requires;
  same_files = ap (λ (o : LinkedOptions). o.files) c.new.ensures;
  same_known = ap (λ (o : LinkedOptions). o.known) c.new.ensures;
}

pub loop-number-init : goal.loop-number-init
loop-number-init c = no_known c.args.names.now c.args.known.now c.in_ok-often.often.fields.items c.in_ok-often.ensures
