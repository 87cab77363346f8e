use Rattle.std.proofs.Common.{◌++◌, ℕ, List, map}
use Rattle.std.specs.Prelude.{codes}
use Rattle.std.specs.Borrow.{Bor}
use Rattle.scip_pages.specs.CodeText.{code_text}
use Rattle.scip_pages.specs.Uses.{all_defined}
use Rattle.basics.proofs.AppendedLemmas.{more}
use Rattle.scip_pages.proofs.document_page.push_main.Goals as goal

pub returns : goal.returns
returns c =
    let page : List ℕ = c.args.page.now.items in
    let made = c.args.code.now in
    let site = c.args.site.now in
    let lines : List (List ℕ) = map (λ (l : Bor (List ℕ)). l.now) made.lines.now.lines in
    let start : List ℕ = codes "<main>\n<pre>" in
    let code : List ℕ = code_text made.lines.now.unit made.occurrences.now made.links.now lines in
    let end : List ℕ = codes "</pre>\n" in
    let defined : List ℕ =
    all_defined site.queries.now site.sources.now made.lines.now.unit lines c.args.firsts.now in
    more page (start ++ code ++ end ++ defined) (codes "</main>\n</body>\n</html>\n")
    (more page (start ++ code ++ end) defined
    (more page (start ++ code) end
    (more page start code c.in_ok-extend_from_slice.ensures.items c.in_ok-push_code.ensures)
    c.in_ok-extend_from_slice-2.ensures.items)
    c.in_ok-push_all_defined.ensures)
    c.in_ok-extend_from_slice-3.ensures.items
