use Rattle.std.proofs.Common.{◌≡◌, ◌∙◌, ◌≤◌, ◌-◌, List, ℕ, ap, subst, sym, leb, rules}
use Rattle.std.proofs.lemmas.List.Sorted.{IsPartitionPoint-from_clause, IsPartitionedBy-leb}
use Rattle.std.specs.List.Sorted.{IsNonDecreasingBy}
use Rattle.proto_lex.specs.Position.{line_starts}
use Rattle.proto_lex.proofs.PositionLineStartLemmas.{IsLineAt, line_starts_rise, line_at_point}
use Rattle.proto_lex.proofs.text.Text.line_at.Goals as goal

found : (c : goal.After-partition_point)
    → (1 ≤ c.partition_point.result) × IsLineAt c.args.self.now c.args.offset (c.partition_point.result - 1)
found c =
    let same : c.deref.result.now ≡ line_starts c.args.self.now =
    c.deref.ensures.value ∙ (c.self.invariant.1 ∙ ap line_starts c.self.view_is) in
    let rise = subst (λ (xs : List ℕ). IsNonDecreasingBy (λ (start : ℕ). start) xs) (sym same)
    (line_starts_rise c.args.self.now) in
    let parted = IsPartitionedBy-leb (λ (start : ℕ). start) _ c.args.offset rise in
    let point = IsPartitionPoint-from_clause
    (λ (start : ℕ). leb start c.args.offset) _ _ c.partition_point.ensures.partitioned parted
    (λ a r q k. search rules) in
    line_at_point c.args.self.now _ c.args.offset c.partition_point.result same c.partition_point.ensures.bound point

pub overflow_sub-result : goal.overflow_sub-result
overflow_sub-result c = (found c).0

pub returns-clause-within : goal.returns-clause-within
returns-clause-within c = (found c).1.within

pub returns-clause-parted : goal.returns-clause-parted
returns-clause-parted c = (found c).1.parted
