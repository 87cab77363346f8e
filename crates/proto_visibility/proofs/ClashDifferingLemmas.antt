-- Names that can't clash, since the numbers of them differ.
use Rattle.std.proofs.Common.{◌≡◌, ◌↔◌, ◌⊎◌, inl, inr, ℕ, ◌+◌, ◌<◌, ◌≤◌, Bool, true, false, ◌||◌, List}
use Rattle.std.specs.Prelude.{nat_eq}
use Rattle.std.proofs.Common.{[], ◌∷◌, ◌++◌, length, get_or, take, map, Some, refl, ap, sym, ◌∙◌, subst, arith}
use Rattle.std.specs.List.{Contains, slice_get, list_any}
use Rattle.std.specs.HashSet.{HashSet, Updates}
use Rattle.std.proofs.lemmas.Bool.{cases_lt, cases_Bool, false≢true, cond-true, cond-false}
use Rattle.std.proofs.lemmas.Option.{slice_get_within, same_Some}
use Rattle.std.proofs.lemmas.List.{append_assoc, append-nil, take_more, map-append, get_or_default}
use Rattle.std.proofs.lemmas.List.Elements.{Contains-push_cases, Contains-append_left}
use Rattle.std.proofs.lemmas.List.Elements.{Contains-append_right, Contains-append_cases}
use Rattle.basics.proofs.ListLemmas.{item_at, only}
use Rattle.proto_decl.specs.Names.{hash64}
use Rattle.proto_decl.specs.declared.declaration.Declaration.{Declaration}
use Rattle.proto_visibility.specs.Files.{File}
use Rattle.proto_visibility.specs.Reaches.{IsReachable}
use Rattle.proto_visibility.specs.Clashes.{Before, Item, IsItem, NoClashBy}
use Rattle.proto_visibility.specs.Clashes.IsItemBy.{declared, packaged}
use Rattle.proto_visibility.specs.Tables.FileItems.{AreAllPrefixes, ArePrefixes, declared_item, package_name_in}
use Rattle.proto_visibility.specs.Tables.GivenNames.{HasPrefixAt}
use Rattle.proto_visibility.specs.Tables.ClashTables.{AreApart, declarations_in, declarations_of, has_number}
use Rattle.proto_visibility.proofs.ItemAllLemmas.{declared_to}
use Rattle.proto_visibility.proofs.ClashLemmas.{never_both}
use Rattle.basics.proofs.FirstLemmas.{contained}

-- ---- one more item

never_itself : (a b item : Item) → item ≡ a → item ≡ b → Before a.place b.place → ⊥
never_itself a b item a_is b_is before =
    let itself = subst (λ (x : Item). Before item.place x.place) (sym b_is)
    (subst (λ (x : Item). Before x.place b.place) (sym a_is) before) in
    never_both item.place item.place itself itself

module _ {S : Type 0} (items : List Item) (item : Item) (old new : HashSet ℕ S)
    (fresh : has_number old item.full_name ≡ false) (after : Updates nat_eq old new (hash64 item.full_name) true)
    (so_far : AreApart items old) where
  differ : (x : Item) → Contains items x → x.full_name ≡ item.full_name → ⊥
  differ x there same = false≢true (sym fresh ∙ (ap (has_number old) (sym same) ∙ so_far.numbered x there))

  grown : (name : List ℕ) → has_number old name ≡ true → has_number new name ≡ true
  grown name there = elim (cases_Bool (nat_eq (hash64 item.full_name) (hash64 name))) [
    | inl same ↦ after.0 (hash64 name)
        ∙ cond-true (nat_eq (hash64 item.full_name) (hash64 name)) true (has_number old name) same
    | inr apart ↦ after.0 (hash64 name)
        ∙ (cond-false (nat_eq (hash64 item.full_name) (hash64 name)) true (has_number old name) apart ∙ there)
  ]

  pub apart_more : AreApart (items ++ item ∷ []) new
  apart_more = record {
    clear = λ a b e. elim (Contains-push_cases items item a e.first_is) [
      | inl a_before ↦ elim (Contains-push_cases items item b e.second_is) [
        | inl b_before ↦ so_far.clear a b (record {
          first_is = a_before;
          second_is = b_before;
          ordered = e.ordered;
          one_name = e.one_name;
          declares = e.declares;
        })
        | inr b_last ↦ differ a a_before (e.one_name ∙ ap (λ (x : Item). x.full_name) (sym b_last))
      ]
      | inr a_last ↦ elim (Contains-push_cases items item b e.second_is) [
        | inl b_before ↦ differ b b_before (sym e.one_name ∙ ap (λ (x : Item). x.full_name) (sym a_last))
        | inr b_last ↦ never_itself a b item a_last b_last e.ordered
      ]
    ];
    numbered = λ x there. elim (Contains-push_cases items item x there) [
      | inl before ↦ grown x.full_name (so_far.numbered x before)
      | inr last ↦ subst (λ (y : Item). has_number new y.full_name ≡ true) last after.1
    ];
  }

pub none_apart : {S : Type 0} (numbers : HashSet ℕ S) → AreApart [] numbers
none_apart numbers = record {
  clear = λ a b e. (let there = e.first_is in absurd (omega (arith, there.1)));
  numbered = λ item there. absurd (omega (arith, there.1));
}

-- ---- the declarations of a file

pub none_of_file : {S : Type 0} (items : List Item) (numbers : HashSet ℕ S) → AreApart items numbers
    → AreApart (items ++ []) numbers
none_of_file items numbers apart = subst (λ xs. AreApart xs numbers) (sym (append-nil items)) apart

pub apart_with : {S : Type 0} (number : ℕ) (declarations : List Declaration) (index : ℕ) (declaration : Declaration)
    (items : List Item) (old new : HashSet ℕ S) → index < length declarations
    → declaration ≡ get_or declarations index declaration → has_number old declaration.full_name ≡ false
    → Updates nat_eq old new (hash64 declaration.full_name) true
    → AreApart (items ++ map (declared_item number) (take index declarations)) old
    → AreApart (items ++ map (declared_item number) (take (index + 1) declarations)) new
apart_with number declarations index declaration items old new within at fresh after so_far =
    let f = declared_item number in
    let before = map f (take index declarations) in
    let more : take (index + 1) declarations ≡ take index declarations ++ declaration ∷ [] =
    take_more declarations index declaration within ∙ ap (λ d. take index declarations ++ d ∷ []) (sym at) in
    let mapped : map f (take (index + 1) declarations) ≡ before ++ f declaration ∷ [] =
    ap (map f) more ∙ map-append f (take index declarations) (declaration ∷ []) in
    let whole : (items ++ before) ++ f declaration ∷ [] ≡ items ++ map f (take (index + 1) declarations) =
    append_assoc items before (f declaration ∷ []) ∙ ap (λ xs. items ++ xs) (sym mapped) in
    subst (λ xs. AreApart xs new) whole (apart_more (items ++ before) (f declaration) old new fresh after so_far)

-- ---- the declarations of the files of a row

-- the items have the declarations of the first so many files of the row
abbrev pub HaveDeclared : List File → (row : List ℕ) → (count : ℕ) → List Item → Type 0
HaveDeclared files row count items = (k : ℕ) (file : File) (item : Item) → k < count
    → slice_get files (get_or row k 0) ≡ Some file
    → Contains (map (declared_item (get_or row k 0)) (declarations_of file)) item → Contains items item

-- so have some whose names are apart
abbrev pub AreApartUpTo : {S : Type 0} → List File → (row : List ℕ) → (count : ℕ) → HashSet ℕ S → Type 0
AreApartUpTo files row count numbers = (items : List Item) × AreApart items numbers × HaveDeclared files row count items

pub none_up_to : {S : Type 0} (files : List File) (reachable : List ℕ) (numbers : HashSet ℕ S)
    → AreApartUpTo files reachable 0 numbers
none_up_to files reachable numbers = ([], none_apart numbers, λ k file item less at there. absurd (omega (arith, less)))

pub more_up_to : {S : Type 0} (files : List File) (row : List ℕ) (count number : ℕ) (file : File)
    (old new : HashSet ℕ S) → number ≡ get_or row count 0 → slice_get files number ≡ Some file
    → ((n : ℕ) (items : List Item) → AreApart items old
    → AreApart (items ++ map (declared_item n) (declarations_of file)) new)
    → AreApartUpTo files row count old → AreApartUpTo files row (count + 1) new
more_up_to files row count number file old new is stands added so_far = (
  so_far.0 ++ map (declared_item number) (declarations_of file),
  added number so_far.0 so_far.1,
  λ k one item less at there. elim (cases_lt k count) [
    | inl before ↦ Contains-append_left so_far.0 (map (declared_item number) (declarations_of file)) item
        (so_far.2 k one item before at there)
    | inr last ↦ (
        let here : k ≡ count = omega arith in
        let same : get_or row k 0 ≡ number = ap (λ n. get_or row n 0) here ∙ sym is in
        let equal : one ≡ file = same_Some one file (sym at ∙ (ap (slice_get files) same ∙ stands)) in
        Contains-append_right so_far.0 (map (declared_item number) (declarations_of file)) item
        (subst (λ n. Contains (map (declared_item n) (declarations_of file)) item) same
        (subst (λ f. Contains (map (declared_item (get_or row k 0)) (declarations_of f)) item) equal there)))
  ],
)

-- ---- all of them, and the packages

-- what a test of a list doesn't find in it
pub none_passes : {X : Type 0} (test : X → Bool) (xs : List X) → list_any test xs ≡ false → (x : X) → Contains xs x
    → test x ≡ false
none_passes test [] none x there = absurd (omega (arith, there.1))
none_passes test (y ∷ ys) none x there = elim (cases_Bool (test y)) [
  | inl passes ↦ absurd (false≢true (sym none ∙ ap (λ b. b || list_any test ys) passes))
  | inr fails ↦ elim (Contains-append_cases (y ∷ []) ys x there) [
    | inl one ↦ sym (ap test (only y x one)) ∙ fails
    | inr other ↦ none_passes test ys (sym (ap (λ b. b || list_any test ys) fails) ∙ none) x other
  ]
]

module _ {S : Type 0} (files : List File) (prefixes : List (List (List ℕ))) (row : List ℕ) (numbers : HashSet ℕ S)
    (reachable : (number : ℕ) → Contains row number ↔ IsReachable files number) (all : AreAllPrefixes files prefixes)
    (count : ℕ) (enough : length row ≤ count) (apart : AreApartUpTo files row count numbers)
    (none : list_any (λ names. list_any (λ name. has_number numbers name) names) prefixes ≡ false) where
  not_numbered : (number : ℕ) (name : List ℕ) → HasPrefixAt prefixes number name → has_number numbers name ≡ false
  not_numbered number name has =
      none_passes (λ name. has_number numbers name) has.0
      (none_passes (λ names. list_any (λ name. has_number numbers name) names) prefixes none has.0
      (contained prefixes number has.0 has.1)) name has.2

  -- an item is a declaration, and one of those that are apart, or a package of these prefixes
  abbrev IsTold : Item → Type 0
  IsTold item =
      ((item.is_declaration ≡ true) × Contains apart.0 item)
      ⊎ ((item.is_declaration ≡ false) × ((number : ℕ) × HasPrefixAt prefixes number item.full_name))

  told : (item : Item) → IsItem files item → IsTold item
  told item (declared {number = number} {facts = facts} {declaration = d} is_reachable has listed) =
      let at = (reachable number).1 is_reachable in
      let same : get_or row at.0 0 ≡ number = get_or_default row at.0 0 number at.1 ∙ at.2 in
      let there = declared_to number d facts.declarations listed in
      let in_file = subst (λ o. Contains (map (declared_item number) (declarations_in o)) (declared_item number d))
      (sym has.known) there in
      inl (
        refl,
        apart.2 at.0 has.file (declared_item number d) (omega (arith, at.1, enough))
            (ap (slice_get files) same ∙ has.numbered)
            (subst (λ n. Contains (map (declared_item n) (declarations_of has.file)) (declared_item number d))
            (sym same) in_file),
      )
  told item (packaged {number = number} {facts = facts} {component = component} index is_reachable has stands) =
      let within = slice_get_within files number has.file has.numbered in
      let its = item_at prefixes number (omega (arith, within, all.one_each)) in
      let are = subst (λ cs. ArePrefixes cs its.0) (ap package_name_in has.known)
      (all.each number has.file its.0 has.numbered its.1) in
      let inside = slice_get_within facts.package_name index component stands in
      let prefix = item_at its.0 index (omega (arith, inside, are.one_each)) in
      let named = subst (Contains its.0) (are.each index prefix.0 prefix.1)
      (contained its.0 index prefix.0 prefix.1) in
      inr (refl, (number, (its.0, its.1, named)))

  apart_from_packages : (x : Item) → Contains apart.0 x → (number : ℕ) (name : List ℕ)
      → HasPrefixAt prefixes number name → x.full_name ≡ name → ⊥
  apart_from_packages x there number name has same =
      false≢true (sym (not_numbered number name has)
      ∙ (ap (has_number numbers) (sym same) ∙ apart.1.numbered x there))

  pub clear_by_numbers : NoClashBy Before (IsItem files)
  clear_by_numbers a b e = elim (told a e.first_is) [
    | inl a_declared ↦ elim (told b e.second_is) [
      | inl b_declared ↦ apart.1.clear a b (record {
        first_is = a_declared.1;
        second_is = b_declared.1;
        ordered = e.ordered;
        one_name = e.one_name;
        declares = e.declares;
      })
      | inr b_packaged ↦ apart_from_packages a a_declared.1 b_packaged.1.0 b.full_name b_packaged.1.1 e.one_name
    ]
    | inr a_packaged ↦ elim (told b e.second_is) [
      | inl b_declared ↦ apart_from_packages b b_declared.1 a_packaged.1.0 a.full_name a_packaged.1.1 (sym e.one_name)
      | inr b_packaged ↦ false≢true (sym b_packaged.0
          ∙ subst (λ v. (v || b.is_declaration) ≡ true) a_packaged.0 e.declares)
    ]
  ]
