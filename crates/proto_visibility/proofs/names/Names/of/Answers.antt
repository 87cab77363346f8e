use Rattle.proto_visibility.specs.Tables.GivenNames.{owned_at}
use Rattle.proto_visibility.proofs.NameLemmas.{packaged_by_prefixes}
use Rattle.proto_visibility.proofs.names.Names.of.Goals as goal

pub returns : goal.returns
returns c = record {
  declared = c.in_ok-declared.ensures;
  packaged = packaged_by_prefixes c.args.files.now c.args.prefixes.now
      (owned_at c.in_ok-packages.packages) c.requires c.in_ok-packages.ensures.files;
  in_order = c.in_ok-packages.ensures.order;
}
