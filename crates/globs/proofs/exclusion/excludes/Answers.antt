use Rattle.std.proofs.Common.{◌∙◌, ◌↔◌, ◌++◌, IfOk, IsTrue, refl, ap, subst}
use Rattle.std.proofs.lemmas.Bool.{false≢true}
use Rattle.std.proofs.lemmas.Result.{IfOk-weaker}
use Rattle.globs.specs.Exclusions.{without_slash}
use Rattle.globs.specs.Pieces.{IsSpelled}
use Rattle.globs.proofs.ExclusionLemmas.{excludes_name, excludes_path}
use Rattle.globs.proofs.exclusion.excludes.Goals as goal

pub returns-then-has_no_slash : goal.returns-then-has_no_slash
returns-then-has_no_slash c =
    let spelled = subst (λ p. IfOk c.is_spelled.result (λ yes. IsTrue yes ↔ IsSpelled p c.args.name.now))
    c.as_bytes.ensures.value
    (subst (λ n. IfOk c.is_spelled.result (λ yes. IsTrue yes ↔ IsSpelled c.as_bytes.result.now n))
    c.as_bytes-then-has_no_slash.ensures.value c.is_spelled.ensures) in
    IfOk-weaker c.is_spelled.result _ _ (λ yes is. excludes_name yes (c.if-has_no_slash.ensures.0 refl) is) spelled

pub returns : goal.returns
returns c =
    let slash = c.without_slash.ensures ∙ ap without_slash c.as_bytes-2.ensures.value in
    let path = c.as_bytes-3.ensures.value ∙ (c.as_str.ensures.value ∙ c.in_ok-path.ensures) in
    let spelled = subst (λ p. IfOk c.is_spelled-2.result (λ yes. IsTrue yes
    ↔ IsSpelled p (c.args.folder.now ++ c.args.name.now))) slash
    (subst (λ n. IfOk c.is_spelled-2.result (λ yes. IsTrue yes ↔ IsSpelled c.without_slash.result.now n)) path
    c.is_spelled-2.ensures) in
    IfOk-weaker c.is_spelled-2.result _ _
    (λ yes is. excludes_path yes (λ none. false≢true (c.if-has_no_slash.ensures.1 none)) is) spelled
