use Rattle.std.proofs.lemmas.Str.Pattern.{strip_prefix_char}
use Rattle.test_kit.proofs.TreeLemmas.{marked}
use Rattle.test_kit.proofs.trees.behind.Goals as goal

pub returns : goal.returns
returns c =
    marked c.args.mark c.args.line.now c.strip_prefix.result
    (strip_prefix_char c.args.mark c.args.line.now c.strip_prefix.result c.strip_prefix.ensures.cases c.requires)
