use Rattle.std.proofs.Common.{◌≡◌, ◌∙◌, ◌++◌, ap, ℕ, List}
use Rattle.std.specs.Prelude.{codes}
use Rattle.scip_pages.specs.Site.{folder_marks}
use Rattle.scip_pages.proofs.site.page_path.Goals as goal

pub returns : goal.returns
returns c =
    let path : List ℕ = c.args.path.now in
    let marks : c.as_str.result.now ≡ folder_marks path = c.as_str.ensures.value ∙ c.in_ok-marks.ensures in
    c.in_ok-push_str-4.ensures.bytes
    ∙ ap (λ (l : List ℕ). l ++ codes ".html")
    (c.in_ok-push_str-3.ensures.bytes
    ∙ ap (λ (l : List ℕ). l ++ path)
    (c.in_ok-push_str-2.ensures.bytes
    ∙ ap (λ (l : List ℕ). l ++ codes "/")
    (c.in_ok-push_str.ensures.bytes
    ∙ ap (λ (l : List ℕ). l ++ c.as_str.result.now) c.in_ok-page.ensures.ok
    ∙ ap (λ (l : List ℕ). codes "src" ++ l) marks)))
