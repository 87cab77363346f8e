use Rattle.std.proofs.Common.{◌≡◌, ◌∙◌, ◌++◌, ap, ℕ, List}
use Rattle.std.specs.Prelude.{codes}
use Rattle.scip_pages.specs.Code.{attribute}
use Rattle.scip_pages.specs.Escapes.{escape}
use Rattle.scip_site.specs.Tree.{is_open}
use Rattle.scip_pages.specs.Crumbs.{folder_id}
use Rattle.basics.proofs.AppendedLemmas.{more, more_by}
use Rattle.scip_site.proofs.tree.push_open.Goals as goal

pub returns : goal.returns
returns c =
    let page : List ℕ = c.args.page.now.items in
    let above : List ℕ = c.args.above.now in
    let name : List ℕ = c.args.name.now in
    let start : List ℕ = codes "<li><details" in
    let id : List ℕ = attribute (codes "id") (folder_id (above ++ name)) in
    let middle : List ℕ = codes "><summary>" in
    let folder : c.deref.result.now ≡ above ++ name =
    c.deref.ensures.value ∙ c.in_ok-extend_from_slice.ensures.items
    ∙ ap (λ (l : List ℕ). l ++ name) c.in_ok-folder.ensures.items in
    let same : c.deref-2.result.now ≡ folder_id (above ++ name) =
    c.deref-2.ensures.value ∙ c.in_ok-push_folder_id.ensures
    ∙ ap (λ (l : List ℕ). l ++ folder_id c.deref.result.now) c.new-id.ensures.items ∙ ap folder_id folder in
    more page (start ++ id ++ is_open above ++ middle ++ escape name) (codes "/</summary><ul>\n")
    (more page (start ++ id ++ is_open above ++ middle) (escape name)
    (more page (start ++ id ++ is_open above) middle
    (more page (start ++ id) (is_open above)
    (more_by page start id c.in_ok-extend_from_slice-2.ensures.items c.in_ok-push_attribute.ensures
    (ap (attribute (codes "id")) same))
    c.in_ok-push_is_open.ensures)
    c.in_ok-extend_from_slice-3.ensures.items)
    c.in_ok-push_escaped.ensures)
    c.in_ok-extend_from_slice-4.ensures.items
