use Rattle.option_link.specs.Lookups.{admits}
use Rattle.option_link.proofs.LoopLemmas.{never_so}
use Rattle.option_link.proofs.table.DeclarationTable.is_known_in.Goals as goal

pub returns-then-not-may_be_known : goal.returns-then-not-may_be_known
returns-then-not-may_be_known c =
    never_so _ (c.may_be_known.ensures c.if-not-may_be_known.true _ c.hash64_under.ensures c.args.file
    (admits c.args.sought))
