use Rattle.std.proofs.Common.{◌≡◌, refl, subst, ℕ, List}
use Rattle.streams.specs.Writers.{writing}
use Rattle.streams.proofs.WholeWriteLemmas.{IsWritten-nil}
use Rattle.scip_site.specs.Snapshots.{IsOutcome, outcome_view}
use Rattle.scip_site.specs.Showing.{ArePrinted, AreCutOff, Goes}
use Rattle.scip_site.proofs.SnapshotShowLemmas.{shown_so, left_out_so}
use Rattle.scip_site.proofs.printing.print_one.Goals as goal

pub returns-in-Ok : goal.returns-in-Ok
returns-in-Ok g c =
    let asked = c.args.asked.now in
    let gives = g.F.ReadFiles.gives c.args.files.now in
    let out = writing g.W.Sink c.args.out.now c.print_text.new.out in
    shown_so g.M.Sink gives asked.root.now asked.queries.now asked.number asked.path.now
    (ArePrinted out) (AreCutOff out) (c.print_text.new.out ≡ c.args.out.now) c.args.messages.now c.in-Ok.text.items
    (subst (λ o. IsOutcome gives asked.root.now asked.queries.now asked.number asked.path.now (outcome_view o))
    c.in-Ok.is c.in_ok-text.ensures)
    c.print_text.result
    (subst (λ (t : List ℕ). Goes (ArePrinted out) (AreCutOff out)
    (c.print_text.new.out ≡ c.args.out.now) asked.path.now t c.print_text.result)
    c.as_slice.ensures.value c.print_text.ensures)

pub returns-in-Err : goal.returns-in-Err
returns-in-Err g c =
    let asked = c.args.asked.now in
    let gives = g.F.ReadFiles.gives c.args.files.now in
    let out = writing g.W.Sink c.args.out.now c.args.out.now in
    left_out_so g.M.Sink gives asked.root.now asked.queries.now asked.number asked.path.now
    (ArePrinted out) (AreCutOff out) (c.args.out.now ≡ c.args.out.now) c.args.messages.now c.in-Err.left
    (subst (λ o. IsOutcome gives asked.root.now asked.queries.now asked.number asked.path.now (outcome_view o))
    c.in-Err.is c.in_ok-text.ensures)
    (IsWritten-nil g.W.Sink c.args.out.now) refl c.tell.new.messages c.tell.result
    c.tell.ensures
