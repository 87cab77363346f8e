use Rattle.std.proofs.Common.{ℕ, List, map, arith}
use Rattle.std.specs.Borrow.{Bor}
use Rattle.std.proofs.lemmas.List.{length-map}
use Rattle.scip_query.specs.BySymbol.{entry_in}
use Rattle.scip_pages.specs.Listed.{listed_on}
use Rattle.scip_pages.specs.Snapshot.{beginning}
use Rattle.scip_pages.proofs.SnapshotLemmas.{same_text}
use Rattle.scip_pages.proofs.snapshots.text_of.Goals as goal

pub returns : goal.returns
returns c =
    let lines : List (List ℕ) = map (λ (l : Bor (List ℕ)). l.now) c.args.lines.now in
    rw (c.in_ok-push_lines.ensures, c.new-text.ensures.items, c.as_slice.ensures.value)
    (same_text c.args.shown.now.unit (entry_in c.args.shown.now.queries.now c.args.shown.now.number)
    (listed_on c.in_ok-table.table.items) (beginning c.args.occurrences.now) lines
    (λ number inside. c.in_ok-table.ensures.listed number
    (omega (arith, inside, length-map c.args.lines.now (λ (l : Bor (List ℕ)). l.now)))))
