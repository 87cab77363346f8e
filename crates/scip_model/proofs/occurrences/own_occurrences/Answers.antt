use Rattle.std.proofs.Common.{◌∙◌, ap, [], ◌∷◌, ◌++◌, List, Option, map}
use Rattle.scip_records.specs.Range.{RangeNumbers}
use Rattle.scip_symbol.specs.Entities.{OfFile}
use Rattle.scip_model.specs.Named.{text_of}
use Rattle.scip_model.specs.Occurs.{definition_role, start_of_text}
use Rattle.scip_model.specs.declared.document_plan.PlannedOccurrence.{PlannedOccurrence}
use Rattle.scip_model.specs.Tables.Listing.{own_occurrence}
use Rattle.scip_model.specs.Tables.Plans.{own_texts, occurrence_of, range_around}
use Rattle.scip_model.proofs.AroundLemmas.{none_before}
use Rattle.scip_model.proofs.PlanLemmas.{one_added, file_number}
use Rattle.scip_model.proofs.occurrences.own_occurrences.Goals as goal

pub returns : goal.returns
returns c = λ around home run facts some later more.
    one_added around (own_texts home run facts) c.in_ok-list.list.items c.push.new.self.items _ _
    (own_occurrence home.id home.path)
    c.in_ok-push.ensures.items (file_number home run facts)
    (ap (λ (range : RangeNumbers).
    record {
      range = range;
      symbol = text_of home.id (OfFile home.path);
      symbol_roles = definition_role;
      enclosing_range = range_around around definition_role 0;
    })
    c.start_of_text.ensures
    ∙ ap (λ (range : Option RangeNumbers).
    record {
      range = start_of_text;
      symbol = text_of home.id (OfFile home.path);
      symbol_roles = definition_role;
      enclosing_range = range;
    })
    (none_before around 0 some))
    later more
    ∙ ap (λ (list : List PlannedOccurrence). map (occurrence_of around later) list
    ++ own_occurrence home.id home.path ∷ [])
    c.in_ok-list.ensures.items
