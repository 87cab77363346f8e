-- Tables of the names that files give.
use Rattle.std.proofs.Common.{◌≡◌, ◌↔◌, ◌⊎◌, inl, inr, ℕ, ◌+◌, ◌<◌, ◌≤◌, ◌++◌, true, false, cond, zero, suc, List, []}
use Rattle.std.proofs.Common.{◌∷◌, length, Option, Some, None, Result, Ok, Err, OnOk, get_or, ◌-◌, refl, ap, sym, ◌∙◌}
use Rattle.std.proofs.Common.{subst, arith}
use Rattle.std.specs.List.{Contains, slice_get}
use Rattle.std.specs.List.Sorted.{IsNonDecreasing}
use Rattle.std.specs.Str.{bytes_eq}
use Rattle.std.proofs.lemmas.Bool.{cases_lt, cases_Bool, cond-true, cond-false, false≢true}
use Rattle.std.proofs.lemmas.Option.{slice_get_within, same_Some}
use Rattle.std.proofs.lemmas.List.Elements.{Contains-get_or, Contains-push, Contains-push_cases, Contains-append_left}
use Rattle.std.proofs.lemmas.List.Sorted.{IsNonDecreasingBy-push}
use Rattle.std.proofs.lemmas.Slice.Eq.{bytes_eq-Decides}
use Rattle.basics.proofs.ListLemmas.{item_at}
use Rattle.proto_decl.specs.Names.{package_of}
use Rattle.proto_decl.specs.Facts.{Facts}
use Rattle.proto_decl.specs.declared.declaration.Declaration.{Declaration}
use Rattle.proto_visibility.specs.declared.names.DeclaredAt.{DeclaredAt}
use Rattle.proto_visibility.specs.Files.{File}
use Rattle.proto_visibility.specs.Knows.{is_aggregate, IsPrefix}
use Rattle.proto_visibility.specs.Knows.NameKind.{OfDeclaration}
use Rattle.proto_visibility.specs.Tables.FileItems.{ArePrefixes, AreAllPrefixes, package_name_of, package_name_in}
use Rattle.proto_visibility.specs.Tables.GivenNames.{IsDeclaredOf, IsDeclaredIn, IsDeclaredBy, ArePackaged, HasPrefix}
use Rattle.proto_visibility.specs.Tables.GivenNames.{HasPrefixAt}
use Rattle.basics.proofs.FirstLemmas.{contained, contained_at}

-- ---- lists at names, with what comes to them in turn

-- what the new lists have: what the old ones had, and what is so of the first so many
abbrev pub HasUpTo : {Y : Type 0} → (old new : List ℕ → List Y) → (ℕ → List ℕ → Y → Type 0) → (count : ℕ) → Type 0
HasUpTo {Y} old new R count = (name : List ℕ) (y : Y) → Contains (new name) y
    ↔ (Contains (old name) y ⊎ ((k : ℕ) × (k < count) × R k name y))

module _ {Y : Type 0} (old : List ℕ → List Y) (R : ℕ → List ℕ → Y → Type 0) where
  pub up_to_more : (now new : List ℕ → List Y) (count : ℕ)
      → ((name : List ℕ) (y : Y) → Contains (new name) y ↔ (Contains (now name) y ⊎ R count name y))
      → HasUpTo old now R count → HasUpTo old new R (count + 1)
  up_to_more now new count more so_far name y = (
    λ there. elim ((more name y).0 there) [
      | inl before ↦ elim ((so_far name y).0 before)
          [ inl first ↦ inl first | inr some ↦ inr (some.0, omega (arith, some.1), some.2) ]
      | inr here ↦ inr (count, omega arith, here)
    ],
    λ those. (more name y).1 (elim those [
      | inl first ↦ inl ((so_far name y).1 (inl first))
      | inr some ↦ elim (cases_lt some.0 count) [
        | inl before ↦ inl ((so_far name y).1 (inr (some.0, before, some.2)))
        | inr last ↦ (let here : some.0 ≡ count = omega (arith, some.1) in inr (subst (λ k. R k name y) here some.2))
      ]
    ]),
  )

  pub up_to_skip : (now : List ℕ → List Y) (count : ℕ) → ((name : List ℕ) (y : Y) → R count name y → ⊥)
      → HasUpTo old now R count → HasUpTo old now R (count + 1)
  up_to_skip now count none so_far =
      up_to_more now now count
      (λ name y. (λ there. inl there, λ those. elim those [ inl there ↦ there | inr here ↦ absurd (none name y here) ]))
      so_far

  pub up_to_all : (now : List ℕ → List Y) (count size : ℕ) → size ≤ count
      → ((k : ℕ) (name : List ℕ) (y : Y) → R k name y → k < size) → HasUpTo old now R count
      → (name : List ℕ) (y : Y) → Contains (now name) y ↔ (Contains (old name) y ⊎ ((k : ℕ) × R k name y))
  up_to_all now count size all within so_far name y = (
    λ there. elim ((so_far name y).0 there) [ inl first ↦ inl first | inr some ↦ inr (some.0, some.2) ],
    λ those. (so_far name y).1
        (elim those [
          | inl first ↦ inl first
          | inr some ↦ inr
              (some.0, omega (arith, within some.0 name y some.1), some.1)
        ]),
  )

-- one more at one name
pub added : {Y : Type 0} (old new : List ℕ → List Y) (key : List ℕ) (x : Y)
    → ((name : List ℕ) → new name ≡ cond (bytes_eq key name) (old name ++ x ∷ []) (old name))
    → (name : List ℕ) (y : Y) → Contains (new name) y ↔ (Contains (old name) y ⊎ ((key ≡ name) × (y ≡ x)))
added old new key x after name y = elim (cases_Bool (bytes_eq key name)) [
  | inl same ↦ (
      let is : new name ≡ old name ++ x ∷ [] =
      after name ∙ cond-true (bytes_eq key name) (old name ++ x ∷ []) (old name) same in
      let equal : key ≡ name = (bytes_eq-Decides key name).0 same in (
        λ there. elim (Contains-push_cases (old name) x y (subst (λ ys. Contains ys y) is there))
            [ inl before ↦ inl before | inr last ↦ inr (equal, sym last) ],
        λ those. subst (λ ys. Contains ys y) (sym is) (elim those [
          | inl before ↦ Contains-append_left (old name) (x ∷ []) y before
          | inr here ↦ subst (Contains (old name ++ x ∷ [])) (sym here.1) (Contains-push (old name) x)
        ]),
      ))
  | inr apart ↦ (
      let is : new name ≡ old name =
      after name ∙ cond-false (bytes_eq key name) (old name ++ x ∷ []) (old name) apart in (
        λ there. inl (subst (λ ys. Contains ys y) is there),
        λ those. subst (λ ys. Contains ys y) (sym is) (elim those [
          | inl before ↦ before
          | inr here ↦ absurd (false≢true (sym apart ∙ (bytes_eq-Decides key name).1 here.0))
        ]),
      ))
]

-- ---- declarations

module _ (number : ℕ) (declarations : List Declaration) (count : ℕ) (declaration : Declaration)
    (stands : slice_get declarations count ≡ Some declaration) where
  pub declared_here : (old new : List ℕ → List DeclaredAt) → is_aggregate (OfDeclaration declaration.kind) ≡ true
      → ((name : List ℕ) → new name
      ≡ cond (bytes_eq declaration.full_name name)
      (old name ++ (record { file = number; index = count; kind = declaration.kind }) ∷ []) (old name))
      → (name : List ℕ) (one : DeclaredAt) → Contains (new name) one
      ↔ (Contains (old name) one ⊎ IsDeclaredOf number declarations count name one)
  declared_here old new aggregate after name one =
      let iff = added old new declaration.full_name
      (record { file = number; index = count; kind = declaration.kind }) after name one in (
        λ there. elim (iff.0 there) [
          | inl before ↦ inl before
          | inr here ↦ inr (record
              { declaration = declaration; stands = stands; named = here.0; aggregate = aggregate; is = here.1 })
        ],
        λ those. iff.1 (elim those [
          | inl before ↦ inl before
          | inr d ↦ (
              let same : d.declaration ≡ declaration = same_Some d.declaration declaration (sym d.stands ∙ stands) in
              inr (
                ap (λ (x : Declaration). x.full_name) (sym same) ∙ d.named,
                d.is ∙ ap (λ (x : Declaration). record { file = number; index = count; kind = x.kind }) same,
              ))
        ]),
      )

  pub not_declared : is_aggregate (OfDeclaration declaration.kind) ≡ false → (name : List ℕ) (one : DeclaredAt)
      → IsDeclaredOf number declarations count name one → ⊥
  not_declared other name one d =
      let same : d.declaration ≡ declaration = same_Some d.declaration declaration (sym d.stands ∙ stands) in
      false≢true (sym other ∙ (ap (λ (x : Declaration). is_aggregate (OfDeclaration x.kind)) (sym same) ∙ d.aggregate))

pub declared_within : (number : ℕ) (declarations : List Declaration) (k : ℕ) (name : List ℕ) (one : DeclaredAt)
    → IsDeclaredOf number declarations k name one → k < length declarations
declared_within number declarations k name one d = slice_get_within declarations k d.declaration d.stands

-- the declarations of a file's facts are the file's
pub declared_in_file : (number : ℕ) (file : File) (facts : Facts) (old new : List ℕ → List DeclaredAt)
    → file.facts ≡ Some facts
    → ((name : List ℕ) (one : DeclaredAt) → Contains (new name) one
    ↔ (Contains (old name) one ⊎ ((index : ℕ) × IsDeclaredOf number facts.declarations index name one)))
    → (name : List ℕ) (one : DeclaredAt) → Contains (new name) one
    ↔ (Contains (old name) one ⊎ IsDeclaredIn number file name one)
declared_in_file number file facts old new known its name one = (
  λ there. elim ((its name one).0 there) [ inl before ↦ inl before | inr here ↦ inr (facts, known, here.0, here.1) ],
  λ those. (its name one).1 (elim those [
    | inl before ↦ inl before
    | inr here ↦ inr (
      here.2,
      subst (λ (f : Facts). IsDeclaredOf number f.declarations here.2 name one)
          (same_Some here.0 facts (sym here.1 ∙ known)) here.3,
    )
  ]),
)

pub declared_by : (files : List File) (count : ℕ) (file : File) (old new : List ℕ → List DeclaredAt)
    → slice_get files count ≡ Some file
    → ((name : List ℕ) (one : DeclaredAt) → Contains (new name) one
    ↔ (Contains (old name) one ⊎ IsDeclaredIn count file name one))
    → (name : List ℕ) (one : DeclaredAt) → Contains (new name) one
    ↔ (Contains (old name) one ⊎ IsDeclaredBy files count name one)
declared_by files count file old new stands its name one = (
  λ there. elim ((its name one).0 there) [ inl before ↦ inl before | inr here ↦ inr (file, stands, here) ],
  λ those. (its name one).1 (elim those [
    | inl before ↦ inl before
    | inr here ↦ inr (subst (λ f. IsDeclaredIn count f name one) (same_Some here.0 file (sym here.1 ∙ stands)) here.2)
  ]),
)

-- where there was nothing, there is what came
pub from_nothing : {Y : Type 0} (now : List ℕ → List Y) (R : ℕ → List ℕ → Y → Type 0)
    → ((name : List ℕ) (y : Y) → Contains (now name) y ↔ (Contains [] y ⊎ ((k : ℕ) × R k name y)))
    → (name : List ℕ) (y : Y) → Contains (now name) y ↔ ((k : ℕ) × R k name y)
from_nothing now R its name y = (
  λ there. elim ((its name y).0 there) [ inl none ↦ absurd (omega (arith, none.1)) | inr some ↦ some ],
  λ some. (its name y).1 (inr some),
)

-- ---- packages

-- the text with this index is the name, and stands for the file with this number
abbrev pub IsPrefixAt : (number : ℕ) → (prefixes : List (List ℕ)) → (index : ℕ) → (name : List ℕ) → (other : ℕ) → Type 0
IsPrefixAt number prefixes index name other = (slice_get prefixes index ≡ Some name) × (other ≡ number)

-- the file with this number has it, and is the one
abbrev pub HasPrefixOf : (prefixes : List (List (List ℕ))) → (number : ℕ) → (name : List ℕ) → (other : ℕ) → Type 0
HasPrefixOf prefixes number name other = HasPrefixAt prefixes number name × (other ≡ number)

pub prefix_here : (number : ℕ) (prefixes : List (List ℕ)) (count : ℕ) (prefix : List ℕ)
    → slice_get prefixes count ≡ Some prefix → (old new : List ℕ → List ℕ)
    → ((name : List ℕ) → new name ≡ cond (bytes_eq prefix name) (old name ++ number ∷ []) (old name))
    → (name : List ℕ) (other : ℕ) → Contains (new name) other
    ↔ (Contains (old name) other ⊎ IsPrefixAt number prefixes count name other)
prefix_here number prefixes count prefix stands old new after name other =
    let iff = added old new prefix number after name other in (
      λ there. elim (iff.0 there) [ inl before ↦ inl before | inr here ↦ inr (stands ∙ ap Some here.0, here.1) ],
      λ those. iff.1 (elim those
          [ inl before ↦ inl before | inr here ↦ inr (same_Some prefix name (sym stands ∙ here.0), here.1) ]),
    )

pub prefixes_all : (number : ℕ) (prefixes : List (List ℕ)) (old new : List ℕ → List ℕ)
    → ((name : List ℕ) (other : ℕ) → Contains (new name) other
    ↔ (Contains (old name) other ⊎ ((k : ℕ) × IsPrefixAt number prefixes k name other)))
    → (name : List ℕ) (other : ℕ) → Contains (new name) other
    ↔ (Contains (old name) other ⊎ ((other ≡ number) × Contains prefixes name))
prefixes_all number prefixes old new its name other = (
  λ there. elim ((its name other).0 there)
      [ inl before ↦ inl before | inr here ↦ inr (here.1.1, contained prefixes here.0 name here.1.0) ],
  λ those. (its name other).1 (elim those [
    | inl before ↦ inl before
    | inr here ↦ (let at = contained_at prefixes name here.1 in inr (at.0, (at.1, here.0)))
  ]),
)

pub prefixes_of_file : (prefixes : List (List (List ℕ))) (count : ℕ) (its : List (List ℕ)) (old new : List ℕ → List ℕ)
    → slice_get prefixes count ≡ Some its
    → ((name : List ℕ) (other : ℕ) → Contains (new name) other
    ↔ (Contains (old name) other ⊎ ((other ≡ count) × Contains its name)))
    → (name : List ℕ) (other : ℕ) → Contains (new name) other
    ↔ (Contains (old name) other ⊎ HasPrefixOf prefixes count name other)
prefixes_of_file prefixes count its old new stands more name other = (
  λ there. elim ((more name other).0 there)
      [ inl before ↦ inl before | inr here ↦ inr ((its, stands, here.1), here.0) ],
  λ those. (more name other).1 (elim those [
    | inl before ↦ inl before
    | inr here ↦ inr (
      here.1,
      subst (λ (xs : List (List ℕ)). Contains xs name) (same_Some here.0.0 its (sym here.0.1 ∙ stands)) here.0.2,
    )
  ]),
)

pub of_prefixes : (prefixes : List (List (List ℕ))) (now : List ℕ → List ℕ)
    → ((name : List ℕ) (other : ℕ) → Contains (now name) other ↔ ((k : ℕ) × HasPrefixOf prefixes k name other))
    → (name : List ℕ) (number : ℕ) → Contains (now name) number ↔ HasPrefixAt prefixes number name
of_prefixes prefixes now its name number = (
  λ there. let at = (its name number).0 there in subst (λ k. HasPrefixAt prefixes k name) (sym at.1.1) at.1.0,
  λ at. (its name number).1 (number, (at, refl)),
)

pub prefix_within : (prefixes : List (List (List ℕ))) (k : ℕ) (name : List ℕ) (other : ℕ)
    → HasPrefixOf prefixes k name other → k < length prefixes
prefix_within prefixes k name other at = slice_get_within prefixes k at.0.0 at.0.1

cases_facts : (o : Option Facts) → (o ≡ None) ⊎ ((f : Facts) × (o ≡ Some f))
cases_facts None = inl refl
cases_facts (Some f) = inr (f, refl)

-- the prefixes of the files are those of their packages' names
pub packaged_by_prefixes : (files : List File) (prefixes : List (List (List ℕ))) (now : List ℕ → List ℕ)
    → AreAllPrefixes files prefixes
    → ((name : List ℕ) (number : ℕ) → Contains (now name) number ↔ HasPrefixAt prefixes number name)
    → ArePackaged files now
packaged_by_prefixes files prefixes now all its name number = (
  λ there.
      let at = (its name number).0 there in
      let within = slice_get_within prefixes number at.0 at.1 in
      let file = item_at files number (omega (arith, all.one_each)) in
      to file.0 file.1 at.0 (all.each number file.0 at.0 file.1 at.1) at.2,
  λ has.
      let within = slice_get_within files number has.0 has.2 in
      let prefixes_at = item_at prefixes number (omega (arith, all.one_each)) in
      let are = subst (λ cs. ArePrefixes cs prefixes_at.0) (ap package_name_in has.3)
      (all.each number has.0 prefixes_at.0 has.2 prefixes_at.1) in
      (its name number).1 (prefixes_at.0, prefixes_at.1, from has.1 prefixes_at.0 are has.4),
)
  where
    to : (file : File) → slice_get files number ≡ Some file → (prefixes_here : List (List ℕ))
        → ArePrefixes (package_name_of file) prefixes_here → Contains prefixes_here name → HasPrefix files number name
    to file stands prefixes_here are there = elim (cases_facts file.facts) [
      | inl none ↦ (
          let empty = subst (λ o. ArePrefixes (package_name_in o) prefixes_here) none are in
          absurd (omega (arith, empty.one_each, there.1)))
      | inr some ↦ (
          let named = subst (λ o. ArePrefixes (package_name_in o) prefixes_here) some.1 are in
          let at = contained_at prefixes_here name there in (
            file,
            some.0,
            stands,
            some.1,
            (
              at.0 + 1,
              omega arith,
              omega (arith, named.one_each, slice_get_within prefixes_here at.0 name at.1),
              named.each at.0 name at.1,
            ),
          ))
    ]

    from : (facts : Facts) (prefixes_here : List (List ℕ)) → ArePrefixes facts.package_name prefixes_here
        → IsPrefix facts.package_name name → Contains prefixes_here name
    from facts prefixes_here are (zero, some, few, is) = absurd (omega (arith, some))
    from facts prefixes_here are (suc k, some, few, is) =
        let at = item_at prefixes_here k (omega (arith, few, are.one_each)) in
        let next : k + 1 ≡ suc k = omega arith in
        let same : at.0 ≡ name = are.each k at.0 at.1 ∙ (ap (package_of facts.package_name) next ∙ sym is) in
        contained prefixes_here k name (at.1 ∙ ap Some same)

-- ---- answers

pub on_ok : {X E P Q : Type 0} (r : Result X E) → OnOk r P → (P → Q) → OnOk r Q
on_ok (Ok x) p f = f p
on_ok (Err e) p f = tt

pub prefix_at_within : (number : ℕ) (prefixes : List (List ℕ)) (k : ℕ) (name : List ℕ) (other : ℕ)
    → IsPrefixAt number prefixes k name other → k < length prefixes
prefix_at_within number prefixes k name other at = slice_get_within prefixes k name at.0

pub declared_by_within : (files : List File) (k : ℕ) (name : List ℕ) (one : DeclaredAt) → IsDeclaredBy files k name one
    → k < length files
declared_by_within files k name one by = slice_get_within files k by.0 by.1

-- ---- the order of the files

-- a number behind all others comes to one name
pub order_more : (now new : List ℕ → List ℕ) (key : List ℕ) (number : ℕ)
    → ((name : List ℕ) → new name ≡ cond (bytes_eq key name) (now name ++ number ∷ []) (now name))
    → ((name : List ℕ) (other : ℕ) → Contains (now name) other → other ≤ number)
    → ((name : List ℕ) → IsNonDecreasing (now name)) → (name : List ℕ) → IsNonDecreasing (new name)
order_more now new key number after behind order name = elim (cases_Bool (bytes_eq key name)) [
  | inl same ↦ subst IsNonDecreasing
      (sym (after name ∙ cond-true (bytes_eq key name) (now name ++ number ∷ []) (now name) same))
      (IsNonDecreasingBy-push (λ x. x) (now name) number (order name)
      (λ d some. behind name (get_or (now name) (length (now name) - 1) d)
      (Contains-get_or (now name) (length (now name) - 1) d (omega arith))))
  | inr apart ↦ subst IsNonDecreasing
      (sym (after name ∙ cond-false (bytes_eq key name) (now name ++ number ∷ []) (now name) apart)) (order name)
]

pub prefixes_behind : (number : ℕ) (prefixes : List (List ℕ)) (count : ℕ) (old now : List ℕ → List ℕ)
    → HasUpTo old now (IsPrefixAt number prefixes) count
    → ((name : List ℕ) (other : ℕ) → Contains (old name) other → other ≤ number) → (name : List ℕ) (other : ℕ)
    → Contains (now name) other → other ≤ number
prefixes_behind number prefixes count old now its behind name other there = elim ((its name other).0 there) [
  | inl before ↦ behind name other before
  | inr here ↦ omega (arith, here.2.1)
]

pub files_behind : (prefixes : List (List (List ℕ))) (count : ℕ) (now : List ℕ → List ℕ)
    → HasUpTo (λ name. []) now (HasPrefixOf prefixes) count
    → (name : List ℕ) (other : ℕ) → Contains (now name) other → other ≤ count
files_behind prefixes count now its name other there = elim ((its name other).0 there) [
  | inl none ↦ absurd (omega (arith, none.1))
  | inr here ↦ omega (arith, here.1, here.2.1)
]
