-- What the entries of a folder give, entry by entry.
use Rattle.std.proofs.Common.{◌≡◌, ◌∙◌, ℕ, ◌+◌, ◌<◌, List, [], ◌∷◌, ◌++◌, length, take, get_or, ap, sym, subst}
use Rattle.std.proofs.lemmas.List.{append-nil, take_more}
use Rattle.source_files.specs.Entries.{Entry, IsSource, IsFolder, Give, nothing, a_source, a_folder, neither}
use Rattle.source_files.specs.WalkSteps.{AddsEntries}

-- entries, and those behind them
give_append : {folder : List ℕ} {entries more : List Entry} {folders sources others longer : List (List ℕ)}
    → Give folder entries folders sources → Give folder more others longer
    → Give folder (entries ++ more) (folders ++ others) (sources ++ longer)
give_append nothing behind = behind
give_append (a_source is front) behind = a_source is (give_append front behind)
give_append (a_folder is front) behind = a_folder is (give_append front behind)
give_append (neither source_not folder_not front) behind = neither source_not folder_not (give_append front behind)

-- one entry more
pub entry_more : (folder : List ℕ) (entries : List Entry) (number : ℕ) (entry : Entry)
    (folders more paths longer : List (List ℕ)) → number < length entries → entry ≡ get_or entries number entry
    → Give folder (take number entries) folders paths
    → AddsEntries folder (entry ∷ []) folders more paths longer
    → Give folder (take (number + 1) entries) more longer
entry_more folder entries number entry folders more paths longer within is front adds =
    let next = take_more entries number entry within
    ∙ ap (λ (last : Entry). take number entries ++ last ∷ []) (sym is) in
    subst (λ (l : List Entry). Give folder l more longer) (sym next)
    (subst (λ (l : List (List ℕ)). Give folder (take number entries ++ entry ∷ []) l longer) (sym adds.more_are)
    (subst (λ (l : List (List ℕ)). Give folder (take number entries ++ entry ∷ []) (folders ++ adds.given_folders) l)
    (sym adds.longer_are) (give_append front adds.give)))

-- an entry that is a source
pub adds_source : (folder : List ℕ) (entry : Entry) (folders more paths longer : List (List ℕ)) → IsSource entry
    → more ≡ folders → longer ≡ paths ++ (folder ++ entry.name) ∷ []
    → AddsEntries folder (entry ∷ []) folders more paths longer
adds_source folder entry folders more paths longer is same one = record {
  given_folders = [];
  given_sources = (folder ++ entry.name) ∷ [];
  give = a_source is nothing;
  more_are = same ∙ sym (append-nil folders);
  longer_are = one;
}

-- one that may be a folder
pub adds_folder : (folder : List ℕ) (entry : Entry) (folders more paths longer : List (List ℕ)) → IsFolder entry
    → more ≡ folders ++ (folder ++ (entry.name ++ 47 ∷ [])) ∷ [] → longer ≡ paths
    → AddsEntries folder (entry ∷ []) folders more paths longer
adds_folder folder entry folders more paths longer is one same = record {
  given_folders = (folder ++ (entry.name ++ 47 ∷ [])) ∷ [];
  given_sources = [];
  give = a_folder is nothing;
  more_are = one;
  longer_are = same ∙ sym (append-nil paths);
}

-- and one that is neither
pub adds_none : (folder : List ℕ) (entry : Entry) (folders more paths longer : List (List ℕ)) → ¬ (IsSource entry)
    → ¬ (IsFolder entry) → more ≡ folders → longer ≡ paths
    → AddsEntries folder (entry ∷ []) folders more paths longer
adds_none folder entry folders more paths longer source_not folder_not same alike = record {
  given_folders = [];
  given_sources = [];
  give = neither source_not folder_not nothing;
  more_are = same ∙ sym (append-nil folders);
  longer_are = alike ∙ sym (append-nil paths);
}
