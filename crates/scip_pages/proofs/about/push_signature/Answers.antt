use Rattle.std.proofs.Common.{◌++◌, ◌∙◌, sym, ap, ℕ, List}
use Rattle.std.proofs.lemmas.Result.{on_ok_weaker}
use Rattle.scip_pages.specs.Snapshot.{signature_note}
use Rattle.scip_pages.proofs.SnapshotLemmas.{once}
use Rattle.scip_pages.proofs.about.push_signature.Goals as goal

pub returns-else-is_empty : goal.returns-else-is_empty
returns-else-is_empty c =
    on_ok_weaker c.push_signature_text.result
    (λ e. e
    ∙ ap (λ (l : List ℕ). c.args.text.now.items ++ l)
    (once (signature_note c.args.before.now) c.args.signature.now (sym c.is_empty.ensures ∙ c.if-is_empty.false)))
    c.push_signature_text.ensures
