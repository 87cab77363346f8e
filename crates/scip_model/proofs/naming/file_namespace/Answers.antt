use Rattle.std.proofs.Common.{◌∙◌, ◌++◌, List, ℕ, ap, sym, codes}
use Rattle.std.proofs.lemmas.Str.Pattern.{ends_text}
use Rattle.scip_model.proofs.RepeatedNamespaceLemmas.{namespace-ended, namespace-other}
use Rattle.scip_model.proofs.naming.file_namespace.Goals as goal

pub returns-then-ends_with : goal.returns-then-ends_with
returns-then-ends_with c =
    let path = c.args.path.now in
    let test = ends_text c.ends_with.result (codes ".proto") path c.ends_with.ensures.cases in
    c.in_ok-text.ensures.ok ∙ namespace-ended path (sym test ∙ c.if-ends_with.true)

pub returns : goal.returns
returns c =
    let path = c.args.path.now in
    let test = ends_text c.ends_with.result (codes ".proto") path c.ends_with.ensures.cases in
    c.in_ok-push_str.ensures.bytes
    ∙ (ap (λ (t : List ℕ). t ++ codes "./") c.in_ok-text.ensures.ok
    ∙ namespace-other path (sym test ∙ c.if-ends_with.false))
