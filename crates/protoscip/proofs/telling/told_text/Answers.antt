use Rattle.std.proofs.lemmas.Result.{IfOk-weaker}
use Rattle.std.specs.String.{string_bytes}
use Rattle.protoscip.proofs.ToldLineOmissionLemmas.{all_read}
use Rattle.protoscip.proofs.telling.told_text.Goals as goal

pub returns : goal.returns
returns c =
    let with = c.told_text_with.ensures in (
      with.0,
      with.1,
      IfOk-weaker c.told_text_with.result _ _
          (λ text is. all_read c.args.explain c.args.tree.now with.0 c.args.told.now (string_bytes text) is) with.2,
    )
