use Rattle.std.proofs.Common.{refl, subst, ℕ, List, ◌⊎◌}
use Rattle.streams.specs.Writers.{IsCutOff, IsWritten, writing}
use Rattle.programs.proofs.MessageLemmas.{written_or_cut}
use Rattle.programs.proofs.running.refuse.Goals as goal

pub returns : goal.returns
returns g c =
    let sink = g.M.Sink in
    let before = c.args.messages.now in
    let after = c.write_all.new.sink in
    let Left : List ℕ → Type 0 = λ text.
    IsWritten (writing sink before after) text
    ⊎ ((count : ℕ) × IsCutOff (writing sink before after) text count) in (
      refl,
      subst Left c.as_bytes.ensures.value
          (written_or_cut sink c.as_bytes.result.now before after c.write_all.result c.write_all.ensures.ok
          c.write_all.ensures.err),
    )
