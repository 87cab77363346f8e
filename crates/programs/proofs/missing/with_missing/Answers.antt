use Rattle.std.proofs.Common.{◌∙◌, ◌++◌, ℕ, List, ap, codes, string_bytes, subst, sym}
use Rattle.std.proofs.lemmas.Result.{IfOk-weaker}
use Rattle.programs.specs.Missing.{IsWithMissing, unwanted, nothing, with_line}
use Rattle.programs.proofs.missing.with_missing.Goals as goal

pub returns-then-not-wanted : goal.returns-then-not-wanted
returns-then-not-wanted c = unwanted c.if-not-wanted.true

pub returns-in-Some : goal.returns-in-Some
returns-in-Some c =
    let wanted = c.args.wanted in
    let text = string_bytes c.args.text in
    let is = rw c.in-Some.is at c.in_ok-line.ensures in
    IfOk-weaker c.with_line.result _ _ (λ all same.
    subst (IsWithMissing wanted c.args.tree.now c.args.told.now text)
    (sym (same ∙ ap (λ (line : List ℕ). text ++ codes "\n" ++ line) c.as_str.ensures.value))
    (with_line c.if-not-wanted.false is)) c.with_line.ensures

pub returns-in-None : goal.returns-in-None
returns-in-None c = nothing c.if-not-wanted.false (rw c.in-None.is at c.in_ok-line.ensures)
