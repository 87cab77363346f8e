-- What is kept of one thing by a test.
use Rattle.std.specs.Prelude.{ℕ, Bool, cond, List, [], ◌∷◌}
use Rattle.std.specs.List.{flat_map, enumerate_from}
use Rattle.scip_records.specs.declared.records.Occurrence.{Occurrence}
use Rattle.scip_query.specs.Sites.{Site, Numbered}

abbrev pub kept_if : {X : Type 0} → (X → Bool) → X → List X
kept_if test x = cond (test x) (x ∷ []) []

-- the occurrence with a number of a document
abbrev pub site_in : Numbered → ℕ × Occurrence → Site
site_in d o = record {
  place = record { document = d.number; occurrence = o.0 };
  document = d.document;
  occurrence = o.1;
}

-- what is kept of a document's occurrences
abbrev pub kept_in : (Site → Bool) → Numbered → List Site
kept_in test d = flat_map (λ o. kept_if test (site_in d o)) (enumerate_from 0 d.document.occurrences)
