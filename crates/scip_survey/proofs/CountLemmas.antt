-- Counts that stop at the greatest number, and their value.
use Rattle.std.proofs.Common.{◌≡◌, ℕ, ◌+◌, ◌<◌, false, List, length, take, get_or, refl, sym, ◌∙◌, ap, arith}
use Rattle.std.specs.List.{sum_by}
use Rattle.std.proofs.lemmas.List.Sums.{sum_by_more}
use Rattle.serde_json.specs.Written.{has_float}
use Rattle.scip_records.specs.declared.records.Document.{Document}
use Rattle.scip_survey.specs.Counts.{counted, counted_in, counts_value}
use Rattle.scip_survey.specs.declared.counts.Counts.{Counts}

again : (a b : ℕ) → counted (counted a + b) ≡ counted (a + b)
again a b = omega arith

-- one document more
pub counted_more : (f : Document → ℕ) (documents : List Document) (at : ℕ) (document : Document) (count after : ℕ)
    → at < length documents → document ≡ get_or documents at document → after ≡ counted (count + f document)
    → count ≡ counted_in f (take at documents) → after ≡ counted_in f (take (at + 1) documents)
counted_more f documents at document count after inside is put before =
    put ∙ ap (λ n. counted (n + f document)) before
    ∙ again (sum_by f (take at documents)) (f document)
    ∙ ap (λ n. counted (sum_by f (take at documents) + n)) (ap f is)
    ∙ ap counted (sym (sum_by_more f documents at document inside))

pub of_counts : (c : Counts) → has_float (counts_value c) ≡ false
of_counts c = refl
