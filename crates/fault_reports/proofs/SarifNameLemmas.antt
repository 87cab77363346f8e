-- One name more: those so far, and the new ones of the others.
use Rattle.std.proofs.Common.{◌≡◌, ℕ, ◌<◌, ◌≤◌, ◌+◌, List, [], ◌∷◌, ◌++◌, inl, inr, ap, sym, ◌∙◌, append_assoc}
use Rattle.std.proofs.Common.{length, drop, get_or, map}
use Rattle.std.proofs.lemmas.Bool.{cases_Bool, cond-true, cond-false}
use Rattle.std.proofs.lemmas.List.{append-nil, drop_all, drop_more}
use Rattle.fault_reports.specs.Findings.{Found}
use Rattle.fault_reports.specs.Sarif.{is_among, new_names, with_name}

one_more : (names : List (List ℕ)) (name : List ℕ) (others : List (List ℕ))
    → with_name names name ++ new_names (with_name names name) others ≡ names ++ new_names names (name ∷ others)
one_more names name others = elim (cases_Bool (is_among names name)) [
  | inl is ↦
      ap (λ so_far. so_far ++ new_names so_far others) (cond-true (is_among names name) names (names ++ name ∷ []) is)
      ∙ ap (λ rest. names ++ rest) (sym (cond-true (is_among names name) (new_names names others)
      (name ∷ new_names (names ++ name ∷ []) others) is))
  | inr not ↦
      ap (λ so_far. so_far ++ new_names so_far others) (cond-false (is_among names name) names (names ++ name ∷ []) not)
      ∙ (append_assoc names (name ∷ []) (new_names (names ++ name ∷ []) others)
      ∙ ap (λ rest. names ++ rest) (sym (cond-false (is_among names name) (new_names names others)
      (name ∷ new_names (names ++ name ∷ []) others) not)))
]

pub name_more : (findings : List Found) (names next : List (List ℕ)) (at : ℕ) (found : Found) → at < length findings
    → found ≡ get_or findings at found
    → names ++ new_names names (map (λ (found : Found). found.name) (drop at findings))
    ≡ new_names [] (map (λ (found : Found). found.name) findings)
    → next ≡ with_name names found.name
    → next ++ new_names next (map (λ (found : Found). found.name) (drop (at + 1) findings))
    ≡ new_names [] (map (λ (found : Found). found.name) findings)
name_more findings names next at found within here so is =
    let others = map (λ (found : Found). found.name) (drop (at + 1) findings) in
    ap (λ l. l ++ new_names l others) (is ∙ ap (λ (f : Found). with_name names f.name) here)
    ∙ (one_more names (get_or findings at found).name others
    ∙ (ap (λ l. names ++ new_names names (map (λ (found : Found). found.name) l))
    (sym (drop_more findings at found within)) ∙ so))

pub name_done : (findings : List Found) (names : List (List ℕ)) (at : ℕ) → length findings ≤ at
    → names ++ new_names names (map (λ (found : Found). found.name) (drop at findings))
    ≡ new_names [] (map (λ (found : Found). found.name) findings)
    → names ≡ new_names [] (map (λ (found : Found). found.name) findings)
name_done findings names at end so =
    sym (append-nil names)
    ∙ (ap (λ l. names ++ new_names names (map (λ (found : Found). found.name) l)) (sym (drop_all at findings end)) ∙ so)
