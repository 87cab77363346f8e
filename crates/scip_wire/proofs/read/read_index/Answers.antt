use Rattle.scip_wire.proofs.DecodesLemmas.{found_of, only_of}
use Rattle.scip_wire.proofs.RefusedIndexLemmas.{fault_of}
use Rattle.scip_wire.proofs.read.read_index.Goals as goal

pub returns-clause-found : goal.returns-clause-found
returns-clause-found c = found_of c.read_whole.result c.args.bytes.now c.read_whole.ensures.reads

pub returns-clause-only : goal.returns-clause-only
returns-clause-only c =
    λ index decodes. only_of c.read_whole.result c.args.bytes.now c.read_whole.ensures.reads index decodes

pub returns-clause-fault : goal.returns-clause-fault
returns-clause-fault c =
    fault_of c.read_whole.result c.args.bytes.now c.read_whole.ensures.reads c.read_whole.ensures.fault
