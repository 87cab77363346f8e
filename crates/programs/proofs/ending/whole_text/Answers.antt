use Rattle.std.specs.String.{string_bytes}
use Rattle.std.proofs.lemmas.Result.{IfOk-weaker}
use Rattle.programs.proofs.ending.whole_text.Goals as goal

pub returns-in-Ok : goal.returns-in-Ok
returns-in-Ok c =
    let told = c.told_text_with.ensures in
    let front = rw c.in-Ok.is at told.2 in (
      told.0,
      told.1,
      IfOk-weaker c.with_missing.result _ _ (λ text is. (string_bytes c.in-Ok.text, front, is)) c.with_missing.ensures,
    )

pub returns-in-Err : goal.returns-in-Err
returns-in-Err c =
    let told = c.told_text_with.ensures in (told.0, told.1, tt)
