use Rattle.std.proofs.Common.{◌≡◌, ◌∙◌, List, ℕ, Some, cond, sym, ap, subst}
use Rattle.std.specs.Str.{bytes_eq}
use Rattle.proto_visibility.specs.Tables.ClashTables.{index_in}
use Rattle.proto_visibility.proofs.ClashLemmas.{kept_first}
use Rattle.proto_visibility.proofs.clash.first_named.Goals as goal

pub returns-in_ok-insert-in-Some-clause-kept : goal.returns-in_ok-insert-in-Some-clause-kept
returns-in_ok-insert-in-Some-clause-kept c =
    let old = c.args.names.now in
    let put = c.insert.new.self in
    let index = c.args.index in
    let name = c.copy.ensures in
    let was : Some c.in-Some.first ≡ index_in old c.args.name =
    sym c.in-Some.is ∙ (c.in_ok-first.ensures.old ∙ ap (index_in old) name) in
    let after = λ (other : List ℕ). subst
    (λ n. index_in put other ≡ cond (bytes_eq n other) (Some index) (index_in old other)) name
    (c.in_ok-first.ensures.updates.0 other) in
    kept_first old put c.insert-in-Some.new.self c.args.name index c.in-Some.first was after
    c.in_ok-insert-in-Some.ensures.updates.0
