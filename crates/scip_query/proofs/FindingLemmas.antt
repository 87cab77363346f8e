-- What a text finds: the order, and the documents one after another.
use Rattle.std.proofs.Common.{◌≡◌, ℕ, zero, suc, ◌+◌, ◌<◌, ◌≤◌, List, [], ◌∷◌, ◌++◌, length, take, get_or, map, cond}
use Rattle.std.proofs.Common.{refl, sym, ◌∙◌, ap, append_assoc, append-nil}
use Rattle.std.specs.Cmp.{IsTotalOrder}
use Rattle.std.specs.List.{flat_map, enumerate_from}
use Rattle.std.proofs.lemmas.Cmp.{on_total, then_total, nat_cmp_total, nat_list_cmp_total}
use Rattle.std.proofs.lemmas.List.{drop_all}
use Rattle.scip_records.specs.declared.records.Document.{Document}
use Rattle.scip_query.specs.Sites.{Numbered}
use Rattle.scip_query.specs.Finding.{Found, found_cmp}
use Rattle.scip_query.specs.Tables.Searches.{numbered_from}
use Rattle.scip_query.proofs.TableLemmas.{left_at}

pub found_total : IsTotalOrder found_cmp
found_total =
    then_total (on_total (λ (f : Found). cond f.exact 0 1) nat_cmp_total)
    (then_total (on_total (λ (f : Found). length f.occurrence.symbol) nat_cmp_total)
    (on_total (λ (f : Found). f.occurrence.symbol) nat_list_cmp_total))

abbrev as_numbered : ℕ × Document → Numbered
as_numbered d = record { number = d.0; document = d.1 }

numbered_on : (number : ℕ) (documents : List Document) (document : Document) → number < length documents
    → document ≡ get_or documents number document
    → numbered_from number documents
    ≡ record { number = number; document = document } ∷ numbered_from (number + 1) documents
numbered_on number documents document inside is =
    ap (λ l. map as_numbered (enumerate_from number l)) (left_at documents number document inside is)

-- of what is found in each document, one document more
pub found_on : {X : Type 0} (f : Numbered → List X) (number : ℕ) (documents : List Document) (document : Document)
    (before after : List X) → number < length documents → document ≡ get_or documents number document
    → after ≡ before ++ f (record { number = number; document = document })
    → after ++ flat_map f (numbered_from (number + 1) documents) ≡ before ++ flat_map f (numbered_from number documents)
found_on f number documents document before after inside is put =
    let rest = flat_map f (numbered_from (number + 1) documents) in
    ap (λ l. l ++ rest) put
    ∙ append_assoc before (f (record { number = number; document = document })) rest
    ∙ ap (λ l. before ++ flat_map f l) (sym (numbered_on number documents document inside is))

-- all documents
pub found_all : {X : Type 0} (f : Numbered → List X) (documents : List Document) (found all : List X) (number : ℕ)
    → length documents ≤ number → found ++ flat_map f (numbered_from number documents) ≡ all → found ≡ all
found_all f documents found all number past e =
    sym (append-nil found)
    ∙ ap (λ l. found ++ flat_map f (map as_numbered (enumerate_from number l))) (sym (drop_all number documents past))
    ∙ e

-- the first few, as a view shows them
pub take_viewed : {A B : Type 0} (view : A → B) (n : ℕ) (xs : List A) → map view (take n xs) ≡ take n (map view xs)
take_viewed view zero xs = refl
take_viewed view (suc n) [] = refl
take_viewed view (suc n) (x ∷ xs) = ap (λ l. view x ∷ l) (take_viewed view n xs)
