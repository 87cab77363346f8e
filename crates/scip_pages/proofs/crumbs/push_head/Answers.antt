use Rattle.std.proofs.Common.{◌++◌, ℕ, List}
use Rattle.std.specs.Prelude.{codes}
use Rattle.scip_pages.specs.Escapes.{escape}
use Rattle.scip_pages.specs.Crumbs.{style_text}
use Rattle.basics.proofs.AppendedLemmas.{more}
use Rattle.scip_pages.proofs.crumbs.push_head.Goals as goal

pub returns : goal.returns
returns c =
    let page : List ℕ = c.args.page.now.items in
    let a : List ℕ = codes "<!DOCTYPE html>\n<html lang=\"en\">\n<head>\n<meta charset=\"utf-8\">\n" in
    let b : List ℕ = codes "<meta name=\"viewport\" content=\"width=device-width, initial-scale=1\">\n<title>" in
    let t : List ℕ = escape c.args.title.now in
    let e : List ℕ = codes "</title>\n" in
    let s : List ℕ = style_text c.args.from.now in
    more page (a ++ b ++ t ++ e ++ s) (codes "</head>\n<body>\n")
    (more page (a ++ b ++ t ++ e) s
    (more page (a ++ b ++ t) e
    (more page (a ++ b) t
    (more page a b c.in_ok-extend_from_slice.ensures.items c.in_ok-extend_from_slice-2.ensures.items)
    c.in_ok-push_title.ensures)
    c.in_ok-extend_from_slice-3.ensures.items)
    c.in_ok-push_style.ensures)
    c.in_ok-extend_from_slice-4.ensures.items
