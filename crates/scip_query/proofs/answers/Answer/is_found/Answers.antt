use Rattle.std.proofs.Common.{◌∙◌, ◌==◌, ap, length, not}
use Rattle.scip_query.specs.CommandViews.{text_of}
use Rattle.scip_query.specs.MoreViews.{entry_view, found_view, outlined_view, site_view}
use Rattle.scip_query.proofs.AnswerLemmas.{some_there}
use Rattle.scip_query.proofs.answers.Answer.is_found.Goals as goal

pub returns-in-Sites : goal.returns-in-Sites
returns-in-Sites c =
    rw c.in-Sites.is (ap not (c.is_empty.ensures ∙ ap (λ l. length l == 0) c.as_slice.ensures.value)
    ∙ some_there site_view c.in-Sites.sites.items)

pub returns-in-Texts : goal.returns-in-Texts
returns-in-Texts c =
    rw c.in-Texts.is (ap not (c.is_empty-in-Texts.ensures ∙ ap (λ l. length l == 0) c.as_slice-in-Texts.ensures.value)
    ∙ some_there text_of c.in-Texts.texts.items)

pub returns-in-Entries : goal.returns-in-Entries
returns-in-Entries c =
    rw c.in-Entries.is (ap not (c.is_empty-in-Entries.ensures ∙ ap (λ l. length l == 0) c.as_slice-in-Entries.ensures.value)
    ∙ some_there entry_view c.in-Entries.entries.items)

pub returns-in-Outline : goal.returns-in-Outline
returns-in-Outline c =
    rw c.in-Outline.is (ap not (c.is_empty-in-Outline.ensures ∙ ap (λ l. length l == 0) c.as_slice-in-Outline.ensures.value)
    ∙ some_there outlined_view c.in-Outline.outline.items)

pub returns-in-Found : goal.returns-in-Found
returns-in-Found c =
    rw c.in-Found.is (ap not (c.is_empty-in-Found.ensures ∙ ap (λ l. length l == 0) c.as_slice-in-Found.ensures.value)
    ∙ some_there found_view c.in-Found.found.items)
