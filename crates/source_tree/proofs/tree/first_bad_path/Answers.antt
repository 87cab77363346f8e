use Rattle.source_tree.proofs.RefusalLemmas.{bad_in_front, bad_behind}
use Rattle.source_tree.proofs.tree.first_bad_path.Goals as goal

pub returns-in-Some : goal.returns-in-Some
returns-in-Some c = bad_in_front c.args.sources.now c.args.included.now c.in-Some.number c.in-Some.ensures

pub returns-in-Some-first_bad : goal.returns-in-Some-first_bad
returns-in-Some-first_bad c =
    bad_behind c.args.sources.now c.args.included.now c.in-Some-first_bad.number c.in-None.ensures
    c.in-Some-first_bad.ensures
