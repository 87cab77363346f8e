use Rattle.std.proofs.Common.{◌≡◌, ◌∙◌, ◌++◌, ap, ℕ, List}
use Rattle.std.specs.Prelude.{codes}
use Rattle.scip_pages.specs.Urls.{encoded}
use Rattle.scip_pages.specs.Site.{folder_marks}
use Rattle.basics.proofs.AppendedLemmas.{more, more_by}
use Rattle.scip_pages.proofs.SiteLemmas.{encoded_page}
use Rattle.scip_pages.proofs.page_urls.push_page_path.Goals as goal

pub returns : goal.returns
returns c =
    let url : List ℕ = c.args.url.now.items in
    let path : List ℕ = encoded c.args.path.now in
    let marks : List ℕ = folder_marks c.args.path.now in
    let same : c.as_bytes.result.now ≡ marks = c.as_bytes.ensures.value ∙ c.in_ok-marks.ensures in
    more url (codes "src" ++ marks ++ codes "/" ++ path) (codes ".html")
    (more_by url (codes "src" ++ marks ++ codes "/") path
    (more url (codes "src" ++ marks) (codes "/")
    (more_by url (codes "src") marks c.in_ok-extend_from_slice.ensures.items c.in_ok-extend_from_slice-2.ensures.items
    same)
    c.in_ok-extend_from_slice-3.ensures.items)
    c.in_ok-push_encoded.ensures
    (ap encoded c.as_bytes-2.ensures.value))
    c.in_ok-extend_from_slice-4.ensures.items
    ∙ ap (λ (l : List ℕ). url ++ l) (encoded_page c.args.path.now)
