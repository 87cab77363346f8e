use Rattle.std.proofs.Common.{◌∙◌, ◌++◌, ap, ℕ, List}
use Rattle.std.proofs.lemmas.Result.{on_ok_weaker}
use Rattle.scip_pages.specs.Site.{page_path}
use Rattle.scip_pages.specs.Crumbs.{head_text, crumbs_text}
use Rattle.basics.proofs.AppendedLemmas.{more_by}
use Rattle.scip_pages.proofs.document_page.push_start.Goals as goal

pub returns : goal.returns
returns c =
    let page : List ℕ = c.args.page.now.items in
    let path : List ℕ = c.args.path.now in
    on_ok_weaker c.push_crumbs.result
    (λ e. more_by page (head_text (page_path path) path) (crumbs_text (page_path path) path)
    (c.in_ok-push_head.ensures
    ∙ ap (λ (from : List ℕ). page ++ head_text from path) (c.as_str.ensures.value ∙ c.in_ok-from.ensures))
    e (ap (λ (from : List ℕ). crumbs_text from path) (c.as_str-2.ensures.value ∙ c.in_ok-from.ensures)))
    c.push_crumbs.ensures
