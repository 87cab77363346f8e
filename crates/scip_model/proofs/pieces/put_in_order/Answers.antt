use Rattle.std.proofs.Common.{◌≡◌, ◌∙◌, List, not, length, position, sym, ap, subst, rules}
use Rattle.std.specs.Ordering.{is_lt}
use Rattle.std.proofs.lemmas.List.Sorted.{answers_always}
use Rattle.scip_records.specs.declared.records.Document.{Document}
use Rattle.scip_model.specs.Indexes.{document_cmp}
use Rattle.scip_model.specs.Tables.TakenPaths.{AreMarked}
use Rattle.scip_model.specs.Pieces.{texts}
use Rattle.scip_model.proofs.PieceLemmas.{documents_rank, first-missing, merged}
use Rattle.scip_model.proofs.pieces.put_in_order.Goals as goal

pub returns-in-Some-clause-refused : goal.returns-in-Some-clause-refused
returns-in-Some-clause-refused c =
    let paths = texts c.args.paths.now in
    let pieces = c.args.pieces.now.items in
    let marks = c.mark_all.new.marks.items in
    let are : AreMarked paths pieces (length pieces) marks =
    subst (λ (l : List Document). AreMarked paths l (length l) marks) c.as_slice.ensures.value
    c.in_ok-mark_all.ensures.marked in
    first-missing paths c.requires pieces marks are c.in-Some.number
    (sym (c.first_clear.ensures ∙ ap (position (λ mark. not mark)) c.as_slice-2.ensures.value) ∙ c.in-Some.is)

pub returns-clause-merged : goal.returns-clause-merged
returns-clause-merged c =
    let paths = texts c.args.paths.now in
    let pieces = c.args.pieces.now.items in
    let marks = c.mark_all.new.marks.items in
    let are : AreMarked paths pieces (length pieces) marks =
    subst (λ (l : List Document). AreMarked paths l (length l) marks) c.as_slice.ensures.value
    c.in_ok-mark_all.ensures.marked in
    merged paths c.requires pieces marks are
    (sym (c.first_clear.ensures ∙ ap (position (λ mark. not mark)) c.as_slice-2.ensures.value) ∙ c.in-None.is)
    c.sort_by.new.self.items c.in_ok-sort_by-in-None.ensures.permutation
    (c.in_ok-sort_by-in-None.ensures.sorted (λ x y. is_lt (document_cmp x y)) documents_rank
    (answers_always _ (λ a r. is_lt r ≡ is_lt (document_cmp a.0.now a.1.0.now)) _ (λ f a r g called. search rules)))
