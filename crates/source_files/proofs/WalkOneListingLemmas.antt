-- What is listed below a root is one list, if each folder has one listing.
use Rattle.std.proofs.Common.{◌≡◌, ◌∙◌, ℕ, suc, ◌+◌, ◌<◌, Bool, false, cond, List, [], ◌∷◌, ◌++◌}
use Rattle.std.proofs.Common.{get_or, length, map, Option, inl, inr, refl, sym, ap, ap₂, subst, sum_by}
use Rattle.std.proofs.Common.{bytes_eq, arith}
use Rattle.std.specs.Cmp.Lexicographic.{slice_cmp}
use Rattle.std.specs.List.{AllZip, Contains}
use Rattle.std.specs.List.Sorted.{IsPermutation, IsSorted}
use Rattle.std.specs.Ordering.{is_lt, nat_cmp}
use Rattle.std.proofs.lemmas.Bool.{cases_Bool, true≢false}
use Rattle.std.proofs.lemmas.Cmp.{nat_list_cmp_total}
use Rattle.std.proofs.lemmas.List.Elements.{Contains-append_left, Contains-append_right, Contains-push}
use Rattle.std.proofs.lemmas.List.{nil_from_length}
use Rattle.std.proofs.lemmas.List.Sorted.{length_permutation, ranks_by, sorted_far, sum_by-IsPermutation}
use Rattle.std.proofs.lemmas.List.Sums.{sum_by-cons}
use Rattle.std.proofs.lemmas.Map.Lookups.{exact_bytes}
use Rattle.std.proofs.lemmas.Slice.Eq.{bytes_eq-Decides}
use Rattle.source_files.specs.declared.listing.FolderIdentity.{FolderIdentity}
use Rattle.source_files.specs.Entries.{Entry, Give, nothing, a_source, a_folder, neither}
use Rattle.source_files.specs.Listings.{Listing}
use Rattle.source_files.specs.Unread.{Unread, in_folder}
use Rattle.source_files.specs.Walks.{Had, Holds, unlisted, listed, Has, Keep, none_left, keeps, passes}
use Rattle.source_files.specs.Walks.{AreByBytes, AreFound, nowhere, next_level}
use Rattle.source_files.specs.WalkLaws.{OneListing}
use Rattle.basics.proofs.StrictOrderLemmas.{neither_less}

-- ---- sorted texts

-- one for the text itself
abbrev count : List ℕ → List ℕ → ℕ
count text other = cond (bytes_eq text other) 1 0

-- a text that is counted is there
counted : (text : List ℕ) (texts : List (List ℕ)) → 0 < sum_by (count text) texts → Contains texts text
counted text [] some = absurd (omega (arith, some))
counted text (first ∷ texts) some = elim (cases_Bool (bytes_eq text first)) [
  | inl same ↦ subst (λ (t : List ℕ). Contains (first ∷ texts) t) (sym ((bytes_eq-Decides text first).0 same))
      (Contains-append_left (first ∷ []) texts first (Contains-push [] first))
  | inr other ↦ Contains-append_right (first ∷ []) texts text (counted text texts
      (let none : count text first ≡ 0 = ap (λ (b : Bool). cond b 1 0) other in
      omega (arith, some, none, sum_by-cons (count text) first texts)))
]

-- all counts of two lists are the same
abbrev Alike : (texts others : List (List ℕ)) → Type 0
Alike texts others = (f : List ℕ → ℕ) → sum_by f texts ≡ sum_by f others

-- so the first of one is in the other
first_there : (text : List ℕ) (texts others : List (List ℕ)) → Alike (text ∷ texts) others → Contains others text
first_there text texts others alike =
    let itself : count text text ≡ 1 = ap (λ (b : Bool). cond b 1 0) ((bytes_eq-Decides text text).1 refl) in
    counted text others (omega (arith, itself, alike (count text), sum_by-cons (count text) text texts))

abbrev before : List ℕ → List ℕ → Bool
before text other = is_lt (slice_cmp nat_cmp text other)

-- nothing in a sorted list comes before its first
none_before : (text first : List ℕ) (texts : List (List ℕ)) → IsSorted (slice_cmp nat_cmp) (first ∷ texts)
    → Contains (first ∷ texts) text → before text first ≡ false
none_before text first texts up there =
    subst (λ (t : List ℕ). before t first ≡ false) there.2
    (sorted_far before (ranks_by nat_list_cmp_total (λ (t : List ℕ). t)) (first ∷ texts) up 0 there.0 text (omega arith)
    there.1)

sorted_behind : (first : List ℕ) (texts : List (List ℕ)) → IsSorted (slice_cmp nat_cmp) (first ∷ texts)
    → IsSorted (slice_cmp nat_cmp) texts
sorted_behind first texts up =
    λ k d low high.
    let next : suc k + 1 ≡ suc (k + 1) = omega arith in
    subst (λ (n : ℕ). before (get_or (first ∷ texts) n d) (get_or texts k d) ≡ false) next
    (up (suc k) d (omega arith) (omega (arith, high)))

-- texts are sorted in one way
sorted_one : (texts others : List (List ℕ)) → Alike texts others → IsSorted (slice_cmp nat_cmp) texts
    → IsSorted (slice_cmp nat_cmp) others → texts ≡ others
sorted_one [] [] alike up rising = refl
sorted_one [] (other ∷ others) alike up rising =
    let there = first_there other others [] (λ f. sym (alike f)) in absurd (omega (arith, there.1))
sorted_one (text ∷ texts) [] alike up rising =
    let there = first_there text texts [] alike in absurd (omega (arith, there.1))
sorted_one (text ∷ texts) (other ∷ others) alike up rising =
    let low = none_before text other others rising (first_there text texts (other ∷ others) alike) in
    let high = none_before other text texts up (first_there other others (text ∷ texts) (λ f. sym (alike f))) in
    let same : text ≡ other = exact_bytes text other
    (neither_less (slice_cmp nat_cmp text other) (slice_cmp nat_cmp other text) (nat_list_cmp_total.antisymm text other)
    low high) in
    let rest : Alike texts others =
    λ f. omega (arith, alike f, ap f same, sum_by-cons f text texts, sum_by-cons f other others) in
    ap₂ (λ (t : List ℕ) (l : List (List ℕ)). t ∷ l) same
    (sorted_one texts others rest (sorted_behind text texts up) (sorted_behind other others rising))

permuted : (texts others : List (List ℕ)) → IsPermutation texts others → Alike texts others
permuted texts others same = λ f. sym (sum_by-IsPermutation f texts others same)

-- ---- what folders give

give_one : {folder : List ℕ} {entries : List Entry} {folders sources others longer : List (List ℕ)}
    → Give folder entries folders sources → Give folder entries others longer
    → (folders ≡ others) × (sources ≡ longer)
give_one nothing nothing = (refl, refl)
give_one {folder = folder} (a_source {entry = entry} is front) (a_source other behind) =
    let rest = give_one front behind in (rest.0, ap (λ (l : List (List ℕ)). (folder ++ entry.name) ∷ l) rest.1)
give_one (a_source is front) (a_folder other behind) = absurd (true≢false (sym is.regular ∙ other.irregular))
give_one (a_source is front) (neither source_not folder_not behind) = absurd (source_not is)
give_one (a_folder is front) (a_source other behind) = absurd (true≢false (sym other.regular ∙ is.irregular))
give_one {folder = folder} (a_folder {entry = entry} is front) (a_folder other behind) =
    let rest = give_one front behind in
    (ap (λ (l : List (List ℕ)). (folder ++ (entry.name ++ 47 ∷ [])) ∷ l) rest.0, rest.1)
give_one (a_folder is front) (neither source_not folder_not behind) = absurd (folder_not is)
give_one (neither source_not folder_not front) (a_source is behind) = absurd (source_not is)
give_one (neither source_not folder_not front) (a_folder is behind) = absurd (folder_not is)
give_one (neither source_not folder_not front) (neither nor_source nor_folder behind) = give_one front behind

-- ---- what folders have

abbrev had_by : (folder : List ℕ) (folders sources : List (List ℕ)) → Listing → Had
had_by folder folders sources listing = record {
  folders = folders;
  sources = sources;
  unread = map (in_folder folder) listing.unnamed;
  identity = listing.identity;
}

-- a listing says one thing
holds_one : {folder : List ℕ} {gave : Option Listing} {had other : Had} → Holds folder gave had
    → Holds folder gave other → had ≡ other
holds_one unlisted unlisted = refl
holds_one {folder = folder} (listed {listing = listing} {folders = folders} {sources = sources} give)
    (listed {folders = others} {sources = longer} again) =
    let parts = give_one give again in
    ap (λ (l : List (List ℕ)). had_by folder l sources listing) parts.0
    ∙ ap (λ (l : List (List ℕ)). had_by folder others l listing) parts.1

-- what is kept is one
record SameKept (folders others sources longer : List (List ℕ)) (unread gone : List Unread)
    (after later : List FolderIdentity) : Type 0 where
  folders_are : folders ≡ others
  sources_are : sources ≡ longer
  unread_are : unread ≡ gone
  after_are : after ≡ later

kept_one : {met after later : List FolderIdentity} {all : List Had}
    {folders others sources longer : List (List ℕ)} {unread gone : List Unread}
    → Keep met all folders sources unread after
    → Keep met all others longer gone later → SameKept folders others sources longer unread gone after later
kept_one none_left none_left = record { folders_are = refl; sources_are = refl; unread_are = refl; after_are = refl }
kept_one (keeps {had = had} new rest) (keeps newly more) =
    let same = kept_one rest more in
    record {
      folders_are = ap (λ (l : List (List ℕ)). had.folders ++ l) same.folders_are;
      sources_are = ap (λ (l : List (List ℕ)). had.sources ++ l) same.sources_are;
      unread_are = ap (λ (l : List Unread). had.unread ++ l) same.unread_are;
      after_are = same.after_are;
    }
kept_one (keeps new rest) (passes known more) = absurd (new known)
kept_one (passes known rest) (keeps new more) = absurd (new known)
kept_one (passes known rest) (passes again more) = kept_one rest more

-- of nothing nothing is kept
kept_none : {met after : List FolderIdentity} {all : List Had} {folders sources : List (List ℕ)}
    {unread : List Unread} → all ≡ []
    → Keep met all folders sources unread after → (folders ≡ []) × (sources ≡ []) × (unread ≡ [])
kept_none none none_left = (refl, refl, refl)
kept_none none (keeps new rest) = absurd cc
kept_none none (passes known rest) = absurd cc

-- nothing is put in order as nothing
none_by_bytes : (folders next : List (List ℕ)) → folders ≡ [] → AreByBytes folders next → next ≡ []
none_by_bytes folders next none by =
    nil_from_length next (length_permutation folders next by.complete ∙ ap (λ (l : List (List ℕ)). length l) none)

-- and all in one way
by_bytes_one : (folders others next later : List (List ℕ)) → folders ≡ others → AreByBytes folders next
    → AreByBytes others later → next ≡ later
by_bytes_one folders others next later same by again =
    sorted_one next later
    (λ f. sym (permuted folders next by.complete f)
    ∙ (ap (sum_by f) same ∙ permuted others later again.complete f)) by.ascends again.ascends

module _ (lists : List ℕ → Option Listing → Type 0)
    (once : (folder : List ℕ) (one other : Option Listing) → lists folder one → lists folder other → one ≡ other)
  where
    has_one : {folder : List ℕ} {had other : Had} → Has lists folder had → Has lists folder other → had ≡ other
    has_one {folder = folder} {had = had} {other = other} one again =
        holds_one one.holds
        (subst (λ (l : Option Listing). Holds folder l other)
        (sym (once folder one.gave again.gave one.listed again.listed)) again.holds)

    have_one : (level : List (List ℕ)) (all others : List Had) → AllZip (Has lists) level all
        → AllZip (Has lists) level others → all ≡ others
    have_one [] [] [] have again = refl
    have_one [] (had ∷ all) others have again = absurd have
    have_one [] [] (other ∷ others) have again = absurd again
    have_one (folder ∷ level) [] others have again = absurd have
    have_one (folder ∷ level) (had ∷ all) [] have again = absurd again
    have_one (folder ∷ level) (had ∷ all) (other ∷ others) have again =
        ap₂ (λ (h : Had) (l : List Had). h ∷ l) (has_one have.0 again.0) (have_one level all others have.1 again.1)

    have_none : (level : List (List ℕ)) (all : List Had) → level ≡ [] → AllZip (Has lists) level all → all ≡ []
    have_none level [] none have = refl
    have_none [] (had ∷ all) none have = absurd have
    have_none (folder ∷ level) (had ∷ all) none have = absurd cc

    none_found : {met : List FolderIdentity} {level sources : List (List ℕ)} {unread : List Unread} → level ≡ []
        → AreFound lists met level sources unread → (sources ≡ []) × (unread ≡ [])
    none_found none nowhere = (refl, refl)
    none_found none (next_level {level = level} {folders = folders} {next = next} {here = here}
        {sources = sources} {gone = gone} {unread = unread} {all = all} have keep by below) =
        let kept = kept_none (have_none level all none have) keep in
        let others = none_found (none_by_bytes folders next kept.0 by) below in (
          ap₂ (λ (l : List (List ℕ)) (m : List (List ℕ)). l ++ m) kept.1 others.0,
          ap₂ (λ (l : List Unread) (m : List Unread). l ++ m) kept.2 others.1,
        )

    abbrev Same : (sources longer : List (List ℕ)) (unread gone : List Unread) → Type 0
    Same sources longer unread gone = (sources ≡ longer) × (unread ≡ gone)

    found_one : {met : List FolderIdentity} {level sources longer : List (List ℕ)} {unread gone : List Unread}
        → AreFound lists met level sources unread
        → AreFound lists met level longer gone → Same sources longer unread gone
    found_one nowhere again = let none = none_found refl again in (sym none.0, sym none.1)
    found_one (next_level have keep by below) nowhere = none_found refl (next_level have keep by below)
    found_one {met = met} (next_level {after = after} {level = level} {folders = folders} {next = next} {here = here}
        {gone = gone} {all = all} have keep by below) (next_level {after = later} {folders = others} {next = coming} {here = near}
        {sources = longer} {gone = away} {unread = lost} {all = whole} again kept sorted beyond) =
        let same : all ≡ whole = have_one level all whole have again in
        let parts = kept_one keep (subst (λ (l : List Had). Keep met l others near away later) (sym same) kept) in
        let coming_is = by_bytes_one folders others next coming parts.folders_are by sorted in
        let rest = found_one below
        (subst (λ (l : List (List ℕ)). AreFound lists after l longer lost) (sym coming_is)
        (subst (λ (l : List FolderIdentity). AreFound lists l coming longer lost) (sym parts.after_are) beyond)) in (
          ap₂ (λ (l : List (List ℕ)) (m : List (List ℕ)). l ++ m) parts.sources_are rest.0,
          ap₂ (λ (l : List Unread) (m : List Unread). l ++ m) parts.unread_are rest.1,
        )

pub one_listing : (lists : List ℕ → List ℕ → Option Listing → Type 0) → OneListing lists
one_listing lists = record {
  one = λ once root paths others listing other.
      let same = found_one (lists root) (once root) listing.below_root other.below_root in
      by_bytes_one listing.found other.found paths others same.0 listing.by_bytes other.by_bytes;
  whole = λ once root paths listing unlisting.
      let same = found_one (lists root) (once root) listing.below_root unlisting.walked.below_root in
      unlisting.some (sym same.1);
}
