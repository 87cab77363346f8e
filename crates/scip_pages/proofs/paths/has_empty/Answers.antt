use Rattle.std.proofs.Common.{List, ℕ, rules, lit<}
use Rattle.std.specs.Prelude.{codes}
use Rattle.std.specs.Str.{bytes_eq}
use Rattle.std.proofs.lemmas.Iterator.Search.{any_from_yields_List}
use Rattle.std.proofs.lemmas.Iterator.Splits.{YieldsList-from_str_split}
use borrow.Author.Tests.{tests}
use Rattle.scip_pages.proofs.paths.has_empty.Goals as goal

pub returns : goal.returns
returns c =
    any_from_yields_List (λ (name : List ℕ). bytes_eq name (codes "")) _ _ _ c.any.ensures.ran
    (YieldsList-from_str_split 47 c.args.path.now
    (lit< tt) c.split.ensures.text c.split.ensures.has_more c.split.ensures.pattern)
    (λ x b q k. search (rules, tests))
