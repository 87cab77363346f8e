use Rattle.std.proofs.Common.{rules, ◌∙◌, ℕ, length}
use Rattle.std.specs.Ordering.{nat_cmp}
use Rattle.std.specs.Cmp.Lexicographic.{slice_cmp}
use Rattle.std.proofs.lemmas.Cmp.{nat_list_cmp_total}
use Rattle.std.proofs.lemmas.Fn.{always_returns_same}
use Rattle.scip_query.specs.Tables.{path_listed, numbers}
use Rattle.scip_query.proofs.RunLemmas.{sorted_rises, kept_order}
use Rattle.scip_query.proofs.search.numbers_named.Goals as goal

pub returns : goal.returns
returns c =
    let key = path_listed c.args.documents.now in
    let asked = c.args.path.now in
    let table = c.args.by_path.now in
    c.run_of.ensures (λ (n : ℕ). slice_cmp nat_cmp (key n) asked) (always_returns_same _ _ _ (λ a r f' k. search rules))
    (sorted_rises nat_list_cmp_total key table c.requires.sorted asked)
    ∙ kept_order nat_list_cmp_total key
    (numbers (length c.args.documents.now)) table c.requires.permutation c.requires.stable asked
