-- Names of files that are one namespace, and of files each of which is one.
use Rattle.std.proofs.Common.{◌≡◌, ◌↔◌, inl, inr, ℕ, ◌+◌, ◌<◌, ◌≤◌, zero, List, [], ◌∷◌, length, get_or, Some}
use Rattle.std.proofs.Common.{Option, None, MatchOption, true, false, refl, ap, sym, ◌∙◌, subst, arith}
use Rattle.std.specs.Option.{is_some}
use Rattle.std.specs.List.{Contains, slice_get}
use Rattle.std.specs.List.Sorted.{IsStrictlyIncreasing}
use Rattle.std.proofs.lemmas.Bool.{cases_lt, cases_order, false≢true}
use Rattle.std.proofs.lemmas.Option.{same_Some}
use Rattle.std.proofs.lemmas.List.{get_or_default}
use Rattle.std.proofs.lemmas.List.Elements.{Contains-get_or}
use Rattle.std.proofs.lemmas.Map.Keys.{sorted_from_strictly_increasing, below_from_sorted}
use Rattle.proto_visibility.specs.declared.files.FilePlace.{FilePlace}
use Rattle.proto_visibility.specs.declared.clash.Duplicates.{Duplicates}
use Rattle.proto_visibility.specs.declared.clash.Duplicates.TheVariants.{Refuse, Keep}
use Rattle.proto_visibility.specs.Files.{File, HasFacts}
use Rattle.proto_visibility.specs.Reaches.{IsReachable}
use Rattle.proto_visibility.specs.Clashes.{Before, Item, IsItem, IsOwnItem, Excludes, ClashBy}
use Rattle.proto_visibility.specs.Clashes.{NoClashBy, Clash, NoClash, ShareNames}
use Rattle.proto_visibility.specs.Tables.FileItems.{IsItemIn, IsItemOf}
use Rattle.proto_visibility.specs.Linked.{HaveClearNames}
use Rattle.proto_visibility.proofs.ClashLemmas.{clash_by, no_clash_by}
use Rattle.proto_visibility.proofs.ItemAllLemmas.{counts_of, from_file, item_counts, to_file}
use Rattle.basics.proofs.ListLemmas.{only}

-- ---- pairs of items that can clash

-- of two items whose files share names it is so that they don't clash
abbrev pub NoneShare : Duplicates → List File → Type 0
NoneShare duplicates files = (a b : Item) → ShareNames duplicates a.place.file b.place.file
    → Excludes Before (IsItem files) a b → ⊥

excludes_items : {B : FilePlace → FilePlace → Type 0} {I J : Item → Type 0} (a b : Item) → (I a → J a) → (I b → J b)
    → Excludes B I a b → Excludes B J a b
excludes_items a b f g e = record {
  first_is = f e.first_is;
  second_is = g e.second_is;
  ordered = e.ordered;
  one_name = e.one_name;
  declares = e.declares;
}

pub none_from : (duplicates : Duplicates) (files : List File) → NoneShare duplicates files → NoClash duplicates files
none_from Refuse files none = λ a b e. none a b tt e
none_from Keep files none = λ number reached a b e.
    let reach : (item : Item) → IsOwnItem files number item → IsItem files item =
    λ item is. item_counts item (λ own. subst (IsReachable files) (sym own) reached) is in
    none a b (counts_of a e.first_is ∙ sym (counts_of b e.second_is))
    (excludes_items a b (reach a) (reach b) e)

pub none_to : (duplicates : Duplicates) (files : List File) → NoClash duplicates files → NoneShare duplicates files
none_to Refuse files clear a b can e = clear a b e
none_to Keep files clear a b can e =
    clear a.place.file (counts_of a e.first_is) a b
    (excludes_items a b (item_counts a (λ reached. refl)) (item_counts b (λ reached. sym can)) e)

-- if all files are one namespace, each is one
pub shared_too : (duplicates : Duplicates) (number other : ℕ) → ShareNames Keep number other
    → ShareNames duplicates number other
shared_too Refuse number other same = tt
shared_too Keep number other same = same

pub shared_itself : (duplicates : Duplicates) (number : ℕ) → ShareNames duplicates number number
shared_itself Refuse number = tt
shared_itself Keep number = refl

pub shared_turned : (duplicates : Duplicates) (number other : ℕ) → ShareNames duplicates number other
    → ShareNames duplicates other number
shared_turned Refuse number other can = tt
shared_turned Keep number other can = sym can

pub clear_each : (duplicates : Duplicates) (files : List File) → HaveClearNames duplicates files
    → HaveClearNames Keep files
clear_each duplicates files good = record {
  read = good.read;
  clear = none_from Keep files (λ a b can e.
      none_to duplicates files good.clear a b (shared_too duplicates a.place.file b.place.file can) e);
}

pub clear_of_all : (duplicates : Duplicates) (files : List File) → NoClashBy Before (IsItem files)
    → NoClash duplicates files
clear_of_all duplicates files clear = none_from duplicates files (λ a b can e. clear a b e)

-- ---- the items of one file

one_in : (number : ℕ) → Contains (number ∷ []) number
one_in number = (zero, omega arith, refl)

pub own_items : (files : List File) (number : ℕ) (file : File) → slice_get files number ≡ Some file → (item : Item)
    → IsItemIn number file item ↔ IsOwnItem files number item
own_items files number file stands item = (
  λ is.
      let has : HasFacts files number is.0 = record { file = file; numbered = stands; known = is.1 } in
      item_counts item (λ there. sym (only number item.place.file there))
      (from_file files (number ∷ []) number is.0 item (one_in number) has is.2),
  λ is.
      let t = to_file files (number ∷ []) item
      (item_counts item (λ own. subst (Contains (number ∷ [])) (sym own) (one_in number)) is) in
      let same : number ≡ t.0 = only number t.0 t.2 in
      let one : t.3.file ≡ file =
      same_Some t.3.file file (sym t.3.numbered ∙ (ap (slice_get files) (sym same) ∙ stands)) in (
        t.1,
        ap (λ (f : File). f.facts) (sym one) ∙ t.3.known,
        subst (λ n. IsItemOf n t.1 item) (sym same) t.4,
      ),
)

-- ---- the answer about one file

abbrev pub IsOwnAnswer : (number : ℕ) → File → Option (FilePlace × FilePlace) → Type 0
IsOwnAnswer number file answer = MatchOption answer (NoClashBy Before (IsItemIn number file))
    (λ places. ClashBy Before (IsItemIn number file) places.0 places.1)

pub none_by : (number : ℕ) (file : File) (answer : Option (FilePlace × FilePlace)) → is_some answer ≡ false
    → IsOwnAnswer number file answer → NoClashBy Before (IsItemIn number file)
none_by number file None none told = told
none_by number file (Some places) none told = absurd (false≢true (sym none))

pub some_by : (files : List File) (number : ℕ) (file : File) (answer : Option (FilePlace × FilePlace))
    → is_some answer ≡ true → IsOwnAnswer number file answer
    → ((first second : FilePlace) → ClashBy Before (IsItemIn number file) first second → Clash Keep files first second)
    → MatchOption answer (NoClash Keep files) (λ places. Clash Keep files places.0 places.1)
some_by files number file None some told change = absurd (false≢true some)
some_by files number file (Some places) some told change = change places.0 places.1 told

-- ---- the first clash of two items of one file

-- none of the first so many files of the row has one
abbrev pub NoneOwnUpTo : List File → (row : List ℕ) → (count : ℕ) → Type 0
NoneOwnUpTo files row count = (k : ℕ) → k < count → NoClashBy Before (IsOwnItem files (get_or row k 0))

module _ (files : List File) (row : List ℕ) (reachable : (number : ℕ) → Contains row number ↔ IsReachable files number)
  where
    pub none_own_more : (count number : ℕ) (file : File) → number ≡ get_or row count 0
        → slice_get files number ≡ Some file → NoClashBy Before (IsItemIn number file) → NoneOwnUpTo files row count
        → NoneOwnUpTo files row (count + 1)
    none_own_more count number file is stands none so_far k h = elim (cases_lt k count) [
      | inl before ↦ so_far k before
      | inr last ↦ (
          let here : k ≡ count = omega (arith, h, last) in
          subst (λ n. NoClashBy Before (IsOwnItem files n)) (is ∙ ap (λ n. get_or row n 0) (sym here))
          (no_clash_by (own_items files number file stands) none))
    ]

    pub no_own_clash : (count : ℕ) → length row ≤ count → NoneOwnUpTo files row count → NoClash Keep files
    no_own_clash count all so_far number is =
        let at = (reachable number).1 is in
        subst (λ n. NoClashBy Before (IsOwnItem files n)) (get_or_default row at.0 0 number at.1 ∙ at.2)
        (so_far at.0 (omega (arith, at.1, all)))

    pub own_clash_at : (count number : ℕ) (file : File) (first second : FilePlace) → IsStrictlyIncreasing row
        → count < length row → number ≡ get_or row count 0 → slice_get files number ≡ Some file
        → ClashBy Before (IsItemIn number file) first second → NoneOwnUpTo files row count → Clash Keep files first second
    own_clash_at count number file first second rises within is stands clash so_far = record {
      number = number;
      is_reachable = (reachable number).0 (subst (Contains row) (sym is) (Contains-get_or row count 0 within));
      clash = clash_by (own_items files number file stands) first second clash;
      least = λ other is_one less.
          let at = (reachable other).1 is_one in
          let same : get_or row at.0 0 ≡ other = get_or_default row at.0 0 other at.1 ∙ at.2 in
          elim (cases_lt at.0 count) [
            | inl before ↦ subst (λ n. NoClashBy Before (IsOwnItem files n)) same (so_far at.0 before)
            | inr behind ↦ absurd (not_behind at.0 other at.1 same less behind)
          ];
    }
      where
        not_behind : (k other : ℕ) → k < length row → get_or row k 0 ≡ other → other < number → count ≤ k → ⊥
        not_behind k other k_in same less behind = elim (cases_order count k) [
          | inl here ↦ (
              let one : get_or row count 0 ≡ get_or row k 0 = ap (λ n. get_or row n 0) here in
              omega (arith, one, same, is, less))
          | inr apart ↦ elim apart [
            | inl before ↦ (
                let below = below_from_sorted row count k 0 (sorted_from_strictly_increasing row rises) before k_in in
                omega (arith, below, same, is, less))
            | inr after ↦ omega (arith, behind, after)
          ]
        ]
