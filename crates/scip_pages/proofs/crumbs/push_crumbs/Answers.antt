use Rattle.std.proofs.Common.{◌∙◌, ◌++◌, [], ap, ℕ, List, map}
use Rattle.std.specs.Prelude.{codes}
use Rattle.std.specs.Borrow.{Bor}
use Rattle.scip_pages.specs.Paths.{components}
use Rattle.scip_pages.specs.Marks.{link}
use Rattle.scip_pages.specs.Crumbs.{file_url, names_text}
use Rattle.basics.proofs.AppendedLemmas.{more, more_by}
use Rattle.scip_pages.proofs.crumbs.push_crumbs.Goals as goal

pub returns : goal.returns
returns c =
    let page : List ℕ = c.args.page.now.items in
    let from : List ℕ = c.args.from.now in
    let start : List ℕ = codes "<header><nav>" in
    let first : List ℕ = link (file_url from (codes "index.html")) (codes "All sources") in
    let blank : List ℕ = codes " <span>" in
    let names : List ℕ = names_text from [] (components c.args.path.now) in
    more page (start ++ first ++ blank ++ names) (codes "</span></nav></header>\n")
    (more_by page (start ++ first ++ blank) names
    (more page (start ++ first) blank
    (more_by page start first c.in_ok-extend_from_slice.ensures.items c.in_ok-push_link.ensures
    (ap (λ (url : List ℕ). link url (codes "All sources")) (c.deref.ensures.value ∙ c.in_ok-first.ensures)))
    c.in_ok-extend_from_slice-2.ensures.items)
    c.in_ok-push_names.ensures
    (ap (names_text from []) (ap (map (λ (n : Bor (List ℕ)). n.now)) c.deref-2.ensures.value ∙ c.in_ok-names.ensures)))
    c.in_ok-extend_from_slice-3.ensures.items
