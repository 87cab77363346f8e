use Rattle.std.proofs.Common.{◌∙◌, ◌++◌, ℕ, List, ap, refl, subst}
use Rattle.std.specs.Prelude.{codes}
use Rattle.std.specs.String.{string_bytes}
use Rattle.std.proofs.lemmas.Result.{on_ok_weaker}
use Rattle.protoscip.specs.ToldLines.{IsToldLine}
use Rattle.protoscip.specs.declared.fault.Fault.{Fault}
use Rattle.protoscip.proofs.ExplainingLemmas.{two_parts, where_ok}
use Rattle.protoscip.proofs.told_lines.push_told.Goals as goal

pub returns-clause-told : goal.returns-clause-told
returns-clause-told c =
    let out = string_bytes c.args.out.now in
    let line = string_bytes c.in_ok-line.line in
    let pushed = string_bytes c.push_str.new.self in
    let Told : Fault → Type 0 = λ fault. IsToldLine c.args.explain c.args.tree.now fault line in
    on_ok_weaker c.push_str-2.result (λ h. (
      line ++ codes "\n",
      (line, subst Told c.from.ensures c.in_ok-line.ensures.told, refl),
      two_parts out pushed (string_bytes c.push_str-2.new.self) line (codes "\n")
          (c.in_ok-push_str.ensures.bytes ∙ ap (λ (t : List ℕ). out ++ t) c.as_str.ensures.value) h,
    ))
    (where_ok c.push_str-2.result (string_bytes c.push_str-2.new.self) (pushed ++ codes "\n") pushed
    c.push_str-2.ensures.bytes)
