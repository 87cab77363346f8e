use Rattle.std.proofs.Common.{◌∙◌, sym}
use Rattle.source_tree.proofs.MendingLemmas.{reads_all, none_left}
use Rattle.source_tree.proofs.mending.read.Goals as goal

pub returns : goal.returns
returns c =
    let rest = c.loop-rest.rest.now in
    reads_all c.args.bytes.now c.loop-rest.text.items rest (none_left rest (sym c.is_empty.ensures ∙ c.loop-rest-test.false))
    c.loop-rest.invariant
