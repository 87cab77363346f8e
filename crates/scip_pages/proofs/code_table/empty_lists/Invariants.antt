use Rattle.std.proofs.Common.{◌≡◌, All, length, []}
use Rattle.scip_pages.proofs.code_table.empty_lists.Given as goal

-- empty lists so far
abbrev pub invariant-loop : goal.invariant-loop
invariant-loop l = record
    { count : length l.table.items ≡ l.counter; empty : All (λ listed. listed.items ≡ []) l.table.items }
