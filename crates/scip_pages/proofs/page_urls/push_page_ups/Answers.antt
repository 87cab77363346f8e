use Rattle.std.proofs.Common.{◌∙◌, ◌++◌, ap, ℕ, List}
use Rattle.std.specs.Prelude.{codes}
use Rattle.scip_pages.specs.Urls.{ups}
use Rattle.basics.proofs.AppendedLemmas.{more_by}
use Rattle.scip_pages.proofs.SiteLemmas.{ups_page}
use Rattle.scip_pages.proofs.page_urls.push_page_ups.Goals as goal

pub returns : goal.returns
returns c =
    let url : List ℕ = c.args.url.now.items in
    more_by url (codes "../") (ups c.args.path.now) c.in_ok-extend_from_slice.ensures.items c.in_ok-push_ups.ensures
    (ap ups c.as_bytes.ensures.value)
    ∙ ap (λ (l : List ℕ). url ++ l) (ups_page c.args.path.now)
