use Rattle.std.proofs.Common.{◌↔◌, ◌<◌, IsTrue, List, length, sym, subst}
use Rattle.proto_visibility.specs.Files.{File}
use Rattle.proto_visibility.specs.Knows.{KnowsAs, is_aggregate}
use Rattle.option_link.proofs.table.DeclarationTable.knows_aggregate.Goals as goal

pub knows-requires : goal.knows-requires
knows-requires c = subst (λ (files : List File). c.args.file < length files) (sym c.linker.ensures) c.requires

pub returns : goal.returns
returns c =
    subst (λ (files : List File). IsTrue c.knows.result ↔ KnowsAs files c.args.file is_aggregate c.args.name.now)
    c.linker.ensures c.knows.ensures
