-- Paths that are seen.
use Rattle.std.proofs.Common.{◌≡◌, ◌∙◌, sym, refl, ap, ℕ, ◌+◌, Bool, true, false, ◌||◌, cond, List, [], ◌∷◌, ◌++◌, map}
use Rattle.std.proofs.Common.{arith}
use Rattle.std.specs.Prelude.{Option, Some}
use Rattle.std.specs.List.{list_any}
use Rattle.std.specs.Option.{is_some}
use Rattle.std.specs.Str.{bytes_eq}
use Rattle.std.proofs.lemmas.List.Folds.{list_any-append}
use Rattle.std.proofs.lemmas.List.FromFn.{map-range_with_len_more}
use Rattle.scip_records.specs.declared.records.Document.{Document}
use Rattle.scip_query.specs.Tables.{numbers, path_listed}
use Rattle.scip_site.specs.Repeats.{has_path, is_before, is_repeated}
use Rattle.scip_pages.proofs.CodeTextLemmas.{range_more}

-- one is there if it was, or is put there
pub put_or_there : (b : Bool) (number : ℕ) (old : Option ℕ) → is_some (cond b (Some number) old) ≡ (b || is_some old)
put_or_there true number old = refl
put_or_there false number old = refl

or_last : (a b : Bool) → (a || b) ≡ (b || (a || false))
or_last true true = refl
or_last true false = refl
or_last false true = refl
or_last false false = refl

-- with the path of one document more
pub seen_more : (documents : List Document) (path here : List ℕ) (number : ℕ) (old new : Bool)
    → here ≡ path_listed documents number → new ≡ (bytes_eq here path || old) → old ≡ is_before documents path number
    → new ≡ is_before documents path (number + 1)
seen_more documents path here number old new same now so_far =
    now ∙ ap (λ (p : List ℕ). bytes_eq p path || old) same
    ∙ ap (λ (b : Bool). has_path documents path number || b) so_far
    ∙ or_last (has_path documents path number) (is_before documents path number)
    ∙ sym (ap (list_any (has_path documents path)) (range_more 0 number number (omega arith))
    ∙ list_any-append (has_path documents path) (numbers number) (number ∷ []))

pub repeated_more : (documents : List Document) (number : ℕ) (was : Bool) (old new : List Bool)
    → new ≡ old ++ was ∷ [] → was ≡ is_repeated documents number → old ≡ map (is_repeated documents) (numbers number)
    → new ≡ map (is_repeated documents) (numbers (number + 1))
repeated_more documents number was old new pushed same so_far =
    pushed ∙ ap (λ (l : List Bool). l ++ was ∷ []) so_far
    ∙ ap (λ (b : Bool). map (is_repeated documents) (numbers number) ++ b ∷ []) same
    ∙ sym (map-range_with_len_more (is_repeated documents) 0 number number (omega arith))
