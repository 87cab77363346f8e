use Rattle.std.proofs.Common.{refl, subst, ℕ, List}
use Rattle.std.proofs.lemmas.Result.{err_from_is_err_and}
use Rattle.streams.specs.Writers.{writing}
use Rattle.scip_site.specs.Reading.{Keeps}
use Rattle.scip_site.proofs.ReadingLemmas.{read_so}
use Rattle.scip_site.proofs.reading.read_one.Goals as goal

pub returns : goal.returns
returns g c =
    let wanted = c.args.wanted.now in
    let messages = writing g.M.Sink c.args.messages.now c.keep.new.messages in
    read_so g.M.Sink (g.F.ReadFiles.gives c.args.files.now) wanted.root.now wanted.repeated
    wanted.document.now c.args.sources.now.items c.keep.new.sources.items c.args.messages.now c.keep.new.messages
    c.in_ok-outcome.outcome c.in_ok-outcome.ensures c.keep.result
    (subst (λ (p : List ℕ). Keeps p c.in_ok-outcome.outcome c.args.sources.now.items c.keep.new.sources.items messages
    c.keep.result) c.as_str.ensures c.keep.ensures)

pub returns-in_err-outcome : goal.returns-in_err-outcome
returns-in_err-outcome g c =
    let p = err_from_is_err_and c.from_residual.result c.from_residual.ensures.1 in rw (p.1, p.2) refl
