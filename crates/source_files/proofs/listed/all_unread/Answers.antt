use Rattle.std.proofs.Common.{◌++◌, ◌∙◌, List, ap, map, string_bytes, subst, sym}
use Rattle.std.proofs.lemmas.List.{map-append}
use Rattle.std.proofs.lemmas.Result.{IfOk-weaker}
use Rattle.source_files.specs.Unread.{Unread, at_path, unread_of}
use Rattle.source_files.specs.Walks.{AreEachOnce}
use Rattle.source_files.proofs.listed.all_unread.Goals as goal

pub returns : goal.returns
returns c =
    let lost = map string_bytes c.args.lost.now in
    let left = map string_bytes c.args.left.now in
    IfOk-weaker c.each_once.result _ _ (λ unread are. subst
    (λ (l : List Unread). AreEachOnce l (map unread_of unread.items))
    (c.in_ok-add_entries-2.ensures
    ∙ (ap (λ (l : List Unread). l ++ map at_path left)
    (c.in_ok-add_entries.ensures
    ∙ ap (λ l. map unread_of l ++ map at_path lost) c.new-entries.ensures.items)
    ∙ sym (map-append at_path lost left))) are) c.each_once.ensures
