use Rattle.std.proofs.Common.{◌↔◌, ℕ, List, IfOk, sym, subst}
use Rattle.std.specs.List.{Contains}
use Rattle.std.specs.List.Sorted.{IsNonDecreasingBy}
use Rattle.proto_visibility.specs.declared.rows.Run.{Run}
use Rattle.proto_visibility.specs.Tables.Rows.{AreWhole, numbers_in}
use Rattle.proto_visibility.proofs.RowRunLemmas.{head_tail}
use Rattle.proto_visibility.proofs.rows.joined.Goals as goal

abbrev none : Run
none = record { first = 0; last = 0 }

pub joined_from-requires-clause-order : goal.joined_from-requires-clause-order
joined_from-requires-clause-order c =
    subst (λ (xs : List Run). IsNonDecreasingBy (λ (r : Run). r.first) xs)
    (sym (head_tail c.args.runs.now none c.in-len1-up.len_at_least)) c.requires.order

pub joined_from-requires-clause-whole : goal.joined_from-requires-clause-whole
joined_from-requires-clause-whole c =
    subst AreWhole (sym (head_tail c.args.runs.now none c.in-len1-up.len_at_least)) c.requires.whole

pub returns-in-len1-up-clause-numbers : goal.returns-in-len1-up-clause-numbers
returns-in-len1-up-clause-numbers c =
    subst (λ (xs : List Run). IfOk c.joined_from.result (λ joined. (number : ℕ)
    → Contains (numbers_in joined.items) number ↔ Contains (numbers_in xs) number))
    (head_tail c.args.runs.now none c.in-len1-up.len_at_least) c.joined_from.ensures.numbers
