use Rattle.std.proofs.Common.{rules, arith}
use Rattle.std.proofs.lemmas.Iterator.Search.{all_from_yields_List}
use Rattle.std.proofs.lemmas.Iterator.Splits.{YieldsList-from_str_split}
use borrow.Author.Tests.{tests}
use Rattle.source_tree.specs.Path.{is_component}
use Rattle.source_tree.proofs.path.has_good_components.Goals as goal

pub returns : goal.returns
returns c = all_from_yields_List is_component _ _ c.all.result c.all.ensures.ran
    (YieldsList-from_str_split 47 c.args.path.now (omega arith) c.split.ensures.text c.split.ensures.has_more
    c.split.ensures.pattern)
    (λ x b q k. search (rules, tests))
