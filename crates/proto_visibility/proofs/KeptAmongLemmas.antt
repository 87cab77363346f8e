-- The files that are linked, among all files.
use Rattle.std.proofs.Common.{◌≡◌, ◌⊎◌, inl, inr, ℕ, ◌-◌, ◌<◌, ◌≤◌, Bool, false, zero, suc, List, [], ◌∷◌, ◌++◌, length}
use Rattle.std.proofs.Common.{map, Option, Some, None, get_or, ◌+◌, refl, ap, sym, ◌∙◌, subst, arith}
use Rattle.std.specs.List.{slice_get}
use Rattle.std.proofs.lemmas.Bool.{cases_lt, cases_order, false≢true}
use Rattle.std.proofs.lemmas.Option.{slice_get_within, slice_get-get_or, slice_get-map, same_Some}
use Rattle.std.specs.Option.{option_map}
use Rattle.proto_decl.specs.Facts.{Facts}
use Rattle.proto_visibility.specs.declared.omissions.FileOmission.{FileOmission}
use Rattle.proto_visibility.specs.Files.{File, HasFacts, IsSource, Imports}
use Rattle.proto_visibility.specs.Sees.{LeadsTo, Sees}
use Rattle.proto_visibility.specs.Reaches.{ImportsLeadTo, IsDescriptor, HasOptionsIn, IsReachable, LinksOptions}
use Rattle.proto_visibility.specs.Reaches.{Reaches}
use Rattle.proto_visibility.specs.Reaches.ImportsLeadTo.{at_once as stays, through as goes_on}
use Rattle.proto_visibility.specs.Reaches.HasOptionsIn.{imported, built_in}
use Rattle.proto_visibility.specs.Reaches.Reaches.{sees, imports, built_in as by_options}
use Rattle.proto_visibility.specs.Sees.LeadsTo.{at_once, through}
use Rattle.proto_visibility.specs.Sees.SeesBy.{itself, import}
use Rattle.proto_visibility.specs.Reaches.IsReachable.{reached}
use Rattle.proto_visibility.specs.Clashes.{Before, Item, IsItem, IsItemBy}
use Rattle.proto_visibility.specs.Clashes.IsItemBy.{declared, packaged}
use Rattle.proto_visibility.specs.Kept.{Omissions, IsKeptFile, IsCounted, kept_of, left_of, as_left_out, linked_of}
use Rattle.proto_visibility.specs.Kept.{number_among_all}
use Rattle.proto_visibility.specs.Kept.IsCounted.{is_reached}
use Rattle.proto_visibility.proofs.ItemAllLemmas.{counts_of}
use Rattle.proto_visibility.proofs.PassLemmas.{not_both}
use Rattle.proto_visibility.proofs.SeeingLemmas.{slice_get_prefix}

-- ---- a file that is kept, among all files

pub at_all : {X : Type 0} (omissions : Omissions) (xs : List X) (k : ℕ) (x : X)
    → slice_get (kept_of omissions xs) k ≡ Some x → slice_get xs (number_among_all omissions k) ≡ Some x
at_all [] xs k x e = absurd (cc)
at_all (None ∷ omissions) [] k x e = absurd (cc)
at_all (Some fault ∷ omissions) [] k x e = absurd (cc)
at_all (None ∷ omissions) (y ∷ ys) zero x e = e
at_all (None ∷ omissions) (y ∷ ys) (suc k) x e = at_all omissions ys k x e
at_all (Some fault ∷ omissions) (y ∷ ys) k x e = at_all omissions ys k x e

pub is_kept : {X : Type 0} (omissions : Omissions) (xs : List X) (k : ℕ) (x : X)
    → slice_get (kept_of omissions xs) k ≡ Some x → IsKeptFile omissions (number_among_all omissions k)
is_kept [] xs k x e = absurd (cc)
is_kept (None ∷ omissions) [] k x e = absurd (cc)
is_kept (Some fault ∷ omissions) [] k x e = absurd (cc)
is_kept (None ∷ omissions) (y ∷ ys) zero x e = refl
is_kept (None ∷ omissions) (y ∷ ys) (suc k) x e = is_kept omissions ys k x e
is_kept (Some fault ∷ omissions) (y ∷ ys) k x e = is_kept omissions ys k x e

pub numbers_rise : (omissions : Omissions) (j k : ℕ) → j < k
    → number_among_all omissions j < number_among_all omissions k
numbers_rise [] j k h = h
numbers_rise (None ∷ omissions) zero zero h = absurd (omega arith)
numbers_rise (None ∷ omissions) zero (suc k) h = omega arith
numbers_rise (None ∷ omissions) (suc j) zero h = absurd (omega arith)
numbers_rise (None ∷ omissions) (suc j) (suc k) h = omega (arith, numbers_rise omissions j k (omega arith))
numbers_rise (Some fault ∷ omissions) j k h = omega (arith, numbers_rise omissions j k h)

pub one_number : (omissions : Omissions) (i j : ℕ) → number_among_all omissions i ≡ number_among_all omissions j → i ≡ j
one_number omissions i j same = elim (cases_order i j) [
  | inl is ↦ is
  | inr apart ↦ elim apart [
    | inl less ↦ absurd (omega (arith, numbers_rise omissions i j less, same))
    | inr more ↦ absurd (omega (arith, numbers_rise omissions j i more, same))
  ]
]

-- a file of all that is kept
kept_at : {X : Type 0} (omissions : Omissions) (xs : List X) (n : ℕ) (x : X) → slice_get xs n ≡ Some x
    → IsKeptFile omissions n
    → (k : ℕ) × (slice_get (kept_of omissions xs) k ≡ Some x) × (number_among_all omissions k ≡ n)
kept_at [] xs n x at kept = absurd (cc)
kept_at (o ∷ omissions) [] n x at kept = absurd (cc)
kept_at (None ∷ omissions) (y ∷ ys) zero x at kept = (zero, at, refl)
kept_at (None ∷ omissions) (y ∷ ys) (suc n) x at kept =
    let its = kept_at omissions ys n x at kept in (suc its.0, its.1, ap suc its.2)
kept_at (Some fault ∷ omissions) (y ∷ ys) zero x at kept = absurd (cc)
kept_at (Some fault ∷ omissions) (y ∷ ys) (suc n) x at kept =
    let its = kept_at omissions ys n x at kept in (its.0, its.1, ap suc its.2)

-- ---- a file that is left out, among all files

-- the number that the left-out file with this number has among all files
abbrev pub left_among_all : Omissions → (number : ℕ) → ℕ
left_among_all [] number = number
left_among_all (None ∷ omissions) number = suc (left_among_all omissions number)
left_among_all (Some omission ∷ omissions) zero = zero
left_among_all (Some omission ∷ omissions) (suc number) = suc (left_among_all omissions number)

pub left_at_all : {X : Type 0} (omissions : Omissions) (xs : List X) (k : ℕ) (x : X)
    → slice_get (left_of omissions xs) k ≡ Some x → slice_get xs (left_among_all omissions k) ≡ Some x
left_at_all [] xs k x e = absurd (cc)
left_at_all (None ∷ omissions) [] k x e = absurd (cc)
left_at_all (Some fault ∷ omissions) [] k x e = absurd (cc)
left_at_all (None ∷ omissions) (y ∷ ys) k x e = left_at_all omissions ys k x e
left_at_all (Some fault ∷ omissions) (y ∷ ys) zero x e = e
left_at_all (Some fault ∷ omissions) (y ∷ ys) (suc k) x e = left_at_all omissions ys k x e

pub is_left : {X : Type 0} (omissions : Omissions) (xs : List X) (k : ℕ) (x : X)
    → slice_get (left_of omissions xs) k ≡ Some x
    → (fault : FileOmission) × (slice_get omissions (left_among_all omissions k) ≡ Some (Some fault))
is_left [] xs k x e = absurd (cc)
is_left (None ∷ omissions) [] k x e = absurd (cc)
is_left (Some fault ∷ omissions) [] k x e = absurd (cc)
is_left (None ∷ omissions) (y ∷ ys) k x e = is_left omissions ys k x e
is_left (Some fault ∷ omissions) (y ∷ ys) zero x e = (fault, refl)
is_left (Some fault ∷ omissions) (y ∷ ys) (suc k) x e = is_left omissions ys k x e

pub lefts_rise : (omissions : Omissions) (j k : ℕ) → j < k → left_among_all omissions j < left_among_all omissions k
lefts_rise [] j k h = h
lefts_rise (None ∷ omissions) j k h = omega (arith, lefts_rise omissions j k h)
lefts_rise (Some fault ∷ omissions) zero zero h = absurd (omega arith)
lefts_rise (Some fault ∷ omissions) zero (suc k) h = omega arith
lefts_rise (Some fault ∷ omissions) (suc j) zero h = absurd (omega arith)
lefts_rise (Some fault ∷ omissions) (suc j) (suc k) h = omega (arith, lefts_rise omissions j k (omega arith))

pub one_left : (omissions : Omissions) (i j : ℕ) → left_among_all omissions i ≡ left_among_all omissions j → i ≡ j
one_left omissions i j same = elim (cases_order i j) [
  | inl is ↦ is
  | inr apart ↦ elim apart [
    | inl less ↦ absurd (omega (arith, lefts_rise omissions i j less, same))
    | inr more ↦ absurd (omega (arith, lefts_rise omissions j i more, same))
  ]
]

-- a file of all that is left out
left_at : {X : Type 0} (omissions : Omissions) (xs : List X) (n : ℕ) (x : X) (fault : FileOmission)
    → slice_get xs n ≡ Some x → slice_get omissions n ≡ Some (Some fault)
    → (k : ℕ) × (slice_get (left_of omissions xs) k ≡ Some x) × (left_among_all omissions k ≡ n)
left_at [] xs n x fault at out = absurd (cc)
left_at (o ∷ omissions) [] n x fault at out = absurd (cc)
left_at (None ∷ omissions) (y ∷ ys) zero x fault at out = absurd (cc)
left_at (None ∷ omissions) (y ∷ ys) (suc n) x fault at out =
    let its = left_at omissions ys n x fault at out in (its.0, its.1, ap suc its.2)
left_at (Some other ∷ omissions) (y ∷ ys) zero x fault at out = (zero, at, refl)
left_at (Some other ∷ omissions) (y ∷ ys) (suc n) x fault at out =
    let its = left_at omissions ys n x fault at out in (suc its.0, its.1, ap suc its.2)

-- ---- what is linked, among all files

pub behind : {X : Type 0} (xs ys : List X) (k : ℕ) → length xs ≤ k
    → slice_get (xs ++ ys) k ≡ slice_get ys (k - length xs)
behind [] ys k h = ap (slice_get ys) (omega arith)
behind (x ∷ xs) ys zero h = absurd (omega arith)
behind (x ∷ xs) ys (suc k) h =
    let same : suc k - length (x ∷ xs) ≡ k - length xs = omega arith in
    behind xs ys k (omega arith) ∙ ap (slice_get ys) (sym same)

pub from_mapped : {X Y : Type 0} (f : X → Y) (xs : List X) (k : ℕ) (y : Y) → slice_get (map f xs) k ≡ Some y
    → (x : X) × (slice_get xs k ≡ Some x) × (f x ≡ y)
from_mapped f [] k y e = absurd (cc)
from_mapped f (x ∷ xs) zero y e = (x, refl, same_Some (f x) y e)
from_mapped f (x ∷ xs) (suc k) y e = from_mapped f xs k y e

item_of : {X : Type 0} (xs : List X) (k : ℕ) → k < length xs → (x : X) × (slice_get xs k ≡ Some x)
item_of [] k within = absurd (omega (arith, within))
item_of (x ∷ xs) zero within = (x, refl)
item_of (x ∷ xs) (suc k) within = item_of xs k (omega (arith, within))

module _ (files : List File) (omissions : Omissions) where
  abbrev pub kept : List File
  kept = kept_of omissions files

  abbrev pub linked : List File
  linked = linked_of omissions files

  abbrev pub all : ℕ → ℕ
  all = number_among_all omissions

  abbrev pub place : (k : ℕ) → (k < length kept) ⊎ (length kept ≤ k) → ℕ
  place k (inl front) = all k
  place k (inr later) = left_among_all omissions (k - length kept)

  -- the number that a linked file has among all files
  abbrev pub origin : ℕ → ℕ
  origin k = place k (cases_lt k (length kept))

  -- what is the same of a linked file and of the file that it is among all
  pub record IsOrigin (k : ℕ) (file : File) : Type 0 where
    pub original : File
    pub numbered : slice_get files k ≡ Some original
    pub path : original.path ≡ file.path
    pub facts : original.facts ≡ file.facts
    pub links : original.links_options ≡ file.links_options

  original_by : (k : ℕ) (file : File) (c : (k < length kept) ⊎ (length kept ≤ k)) → slice_get linked k ≡ Some file
      → IsOrigin (place k c) file
  original_by k file (inl front) at =
      let stands = sym (slice_get_prefix kept (map as_left_out (left_of omissions files)) k front) ∙ at in
      record {
        original = file;
        numbered = at_all omissions files k file stands;
        path = refl;
        facts = refl;
        links = refl;
      }
  original_by k file (inr later) at =
      let stands = sym (behind kept (map as_left_out (left_of omissions files)) k later) ∙ at in
      let its = from_mapped as_left_out (left_of omissions files) (k - length kept) file stands in
      record {
        original = its.0;
        numbered = left_at_all omissions files (k - length kept) its.0 its.1;
        path = ap (λ (f : File). f.path) its.2;
        facts = ap (λ (f : File). f.facts) its.2;
        links = ap (λ (f : File). f.links_options) its.2;
      }

  pub original : (k : ℕ) (file : File) → slice_get linked k ≡ Some file → IsOrigin (origin k) file
  original k file at = original_by k file (cases_lt k (length kept)) at

  -- one that isn't left out is one of those that are kept
  pub present_kept : (k : ℕ) (file : File) → slice_get linked k ≡ Some file → file.is_left_out ≡ false
      → slice_get kept k ≡ Some file
  present_kept k file at present = elim (cases_lt k (length kept)) [
    | inl front ↦ sym (slice_get_prefix kept (map as_left_out (left_of omissions files)) k front) ∙ at
    | inr later ↦ (
        let stands = sym (behind kept (map as_left_out (left_of omissions files)) k later) ∙ at in
        let its = from_mapped as_left_out (left_of omissions files) (k - length kept) file stands in
        absurd (false≢true (sym present ∙ ap (λ (f : File). f.is_left_out) (sym its.2))))
  ]

  pub origin_kept : (k : ℕ) (file : File) → slice_get kept k ≡ Some file → origin k ≡ all k
  origin_kept k file at = by (cases_lt k (length kept))
    where
      by : (c : (k < length kept) ⊎ (length kept ≤ k)) → place k c ≡ all k
      by (inl front) = refl
      by (inr later) = absurd (omega (arith, slice_get_within kept k file at))

  at_left : (k : ℕ) → origin (length kept + k) ≡ left_among_all omissions k
  at_left k = by (cases_lt (length kept + k) (length kept))
    where
      by : (c : (length kept + k < length kept) ⊎ (length kept ≤ length kept + k))
          → place (length kept + k) c ≡ left_among_all omissions k
      by (inl front) = absurd (omega arith)
      by (inr later) = ap (left_among_all omissions) (omega arith)

  pub facts_among : (k : ℕ) (facts : Facts) → HasFacts linked k facts → HasFacts files (origin k) facts
  facts_among k facts has =
      let o = original k has.file has.numbered in
      record { file = o.original; numbered = o.numbered; known = o.facts ∙ has.known }

  pub imports_among : (i j : ℕ) {publicly : Bool} → Imports linked i publicly j
      → Imports files (origin i) publicly (origin j)
  imports_among i j is =
      let o = original j is.file is.numbered in
      record {
        facts = is.facts;
        import = is.import;
        file = o.original;
        known = facts_among i is.facts is.known;
        listed = is.listed;
        kind = is.kind;
        numbered = o.numbered;
        path = o.path ∙ is.path;
      }

  leads_among : {i j : ℕ} → LeadsTo (Imports linked) i j → LeadsTo (Imports files) (origin i) (origin j)
  leads_among at_once = at_once
  leads_among (through {file = file} {next = next} step rest) =
      through (imports_among file next step) (leads_among rest)

  pub sees_among : {i j : ℕ} → Sees linked i j → Sees files (origin i) (origin j)
  sees_among itself = itself
  sees_among (import {file = file} {next = next} step rest) = import (imports_among file next step) (leads_among rest)

  pub source_among : (k : ℕ) → IsSource linked k → IsSource files (all k) × IsKeptFile omissions (all k)
  source_among k is =
      let at = present_kept k is.file is.numbered is.present in (
        record {
          file = is.file;
          numbered = at_all omissions files k is.file at;
          source = is.source;
          present = is.present;
        },
        is_kept omissions files k is.file at,
      )

  lead_among : {i j : ℕ} → ImportsLeadTo linked i j → ImportsLeadTo files (origin i) (origin j)
  lead_among stays = stays
  lead_among (goes_on {file = file} {next = next} step rest) =
      goes_on (imports_among file next step) (lead_among rest)

  links_among : {i : ℕ} → LinksOptions linked i → LinksOptions files (origin i)
  links_among {i} is =
      let o = original i is.file is.numbered in
      record { file = o.original; numbered = o.numbered; links = o.links ∙ is.links }

  descriptor_among : {i : ℕ} → IsDescriptor linked i → IsDescriptor files (origin i)
  descriptor_among {i} is = record {
    facts = is.facts;
    declaration = is.declaration;
    known = facts_among i is.facts is.known;
    listed = is.listed;
    message = is.message;
    named = is.named;
  }

  -- a file is linked as one with this number
  record IsLinkedAs (n : ℕ) : Type 0 where
    number : ℕ
    file : File
    numbered : slice_get linked number ≡ Some file
    same : origin number ≡ n

  facts_back : (i : ℕ) (file : File) (n : ℕ) (facts : Facts) → slice_get linked i ≡ Some file → origin i ≡ n
      → HasFacts files n facts → HasFacts linked i facts
  facts_back i file n facts at same has =
      let o = original i file at in
      let one : has.file ≡ o.original =
      same_Some has.file o.original (sym has.numbered ∙ (ap (slice_get files) (sym same) ∙ o.numbered)) in
      record {
        file = file;
        numbered = at;
        known = sym o.facts ∙ (ap (λ (f : File). f.facts) (sym one) ∙ has.known);
      }

  descriptor_back : (i : ℕ) (file : File) (n : ℕ) → slice_get linked i ≡ Some file → origin i ≡ n
      → IsDescriptor files n → IsDescriptor linked i
  descriptor_back i file n at same is = record {
    facts = is.facts;
    declaration = is.declaration;
    known = facts_back i file n is.facts at same is.known;
    listed = is.listed;
    message = is.message;
    named = is.named;
  }

  imports_back : (i j : ℕ) (file next : File) (m n : ℕ) {publicly : Bool} → slice_get linked i ≡ Some file
      → origin i ≡ m → slice_get linked j ≡ Some next → origin j ≡ n → Imports files m publicly n
      → Imports linked i publicly j
  imports_back i j file next m n at same next_at next_same is =
      let o = original j next next_at in
      let one : is.file ≡ o.original =
      same_Some is.file o.original (sym is.numbered ∙ (ap (slice_get files) (sym next_same) ∙ o.numbered)) in
      record {
        facts = is.facts;
        import = is.import;
        file = next;
        known = facts_back i file m is.facts at same is.known;
        listed = is.listed;
        kind = is.kind;
        numbered = next_at;
        path = sym o.path ∙ (ap (λ (f : File). f.path) (sym one) ∙ is.path);
      }

  -- what is reached of linked files is reached among all, if each file has an entry
  module _ (one_each : length omissions ≡ length files) where
    linked_at : (n : ℕ) (file : File) → slice_get files n ≡ Some file → IsLinkedAs n
    linked_at n file at = by (get_or omissions n None)
        (slice_get-get_or omissions n None (omega (arith, one_each, slice_get_within files n file at)))
      where
        by : (o : Option FileOmission) → slice_get omissions n ≡ Some o → IsLinkedAs n
        by None none =
            let its = kept_at omissions files n file at none in
            let here = slice_get_within kept its.0 file its.1 in
            record {
              number = its.0;
              file = file;
              numbered = slice_get_prefix kept (map as_left_out (left_of omissions files)) its.0 here ∙ its.1;
              same = origin_kept its.0 file its.1 ∙ its.2;
            }
        by (Some out) some =
            let its = left_at omissions files n file out at some in
            record {
              number = length kept + its.0;
              file = as_left_out file;
              numbered = behind kept (map as_left_out (left_of omissions files)) (length kept + its.0) (omega arith)
                  ∙ (ap (slice_get (map as_left_out (left_of omissions files))) (omega arith)
                  ∙ (slice_get-map as_left_out (left_of omissions files) its.0 ∙ ap (option_map as_left_out) its.1));
              same = at_left its.0 ∙ its.2;
            }

    lead_back : {m n : ℕ} → ImportsLeadTo files m n → (i : ℕ) (file : File) → slice_get linked i ≡ Some file
        → origin i ≡ m → (there : IsLinkedAs n) × ImportsLeadTo linked i there.number
    lead_back stays i file at same = (record { number = i; file = file; numbered = at; same = same }, stays)
    lead_back (goes_on {file = m} {next = next} step rest) i file at same =
        let there = linked_at next step.file step.numbered in
        let onward = lead_back rest there.number there.file there.numbered there.same in (
          onward.0,
          goes_on (imports_back i there.number file there.file m next at same there.numbered there.same step) onward.1,
        )

    options_among : (i first : ℕ) → LinksOptions linked i → HasOptionsIn linked i first
        → HasOptionsIn files (origin i) (origin first)
    options_among i first links (imported lead is) = imported (lead_among lead) (descriptor_among is)
    options_among i first links (built_in none path) =
        let o = original first path.0 path.1 in
        built_in (λ other lead is.
        let there = lead_back lead i links.file links.numbered refl in
        none there.0.number there.1
        (descriptor_back there.0.number there.0.file other there.0.numbered there.0.same is))
        (o.original, o.numbered, o.path ∙ path.2)

    pub reaches_among : {i j : ℕ} → Reaches linked i j → Reaches files (origin i) (origin j)
    reaches_among (sees way) = sees (sees_among way)
    reaches_among (imports links lead) = imports (links_among links) (lead_among lead)
    reaches_among {i} (by_options {first = first} links has lead) =
        by_options (links_among links) (options_among i first links has) (lead_among lead)

    pub counted_among : (k : ℕ) → IsReachable linked k
        → IsCounted files omissions (all k) × IsKeptFile omissions (all k)
    counted_among k (reached {source = source} is reaches present) =
        let from = source_among source is in
        let source_at = origin_kept source is.file (present_kept source is.file is.numbered is.present) in
        let at = present_kept k present.file present.numbered present.present in
        let way : Reaches files (all source) (all k) =
        subst (λ n. Reaches files n (all k)) source_at
        (subst (Reaches files (origin source)) (origin_kept k present.file at) (reaches_among reaches)) in (
          is_reached from.0 from.1 way (record {
            file = present.file;
            numbered = at_all omissions files k present.file at;
            present = present.present;
          }),
          is_kept omissions files k present.file at,
        )

  present_facts : (k : ℕ) (facts : Facts) → IsReachable linked k → HasFacts linked k facts → HasFacts files (all k) facts
  present_facts k facts (reached is reaches present) has =
      let at = present_kept k present.file present.numbered present.present in
      subst (λ n. HasFacts files n facts) (origin_kept k present.file at) (facts_among k facts has)

  pub present_unread : (k : ℕ) → IsReachable linked k → (file : File) → slice_get linked k ≡ Some file
      → slice_get files (all k) ≡ Some file
  present_unread k (reached is reaches present) file at =
      let same : present.file ≡ file = same_Some present.file file (sym present.numbered ∙ at) in
      let stands = present_kept k present.file present.numbered present.present in
      at_all omissions files k present.file stands ∙ ap Some same

  abbrev pub moved : Item → Item
  moved item = record {
    place = record { file = all item.place.file; span = item.place.span };
    full_name = item.full_name;
    is_declaration = item.is_declaration;
  }

  pub item_among : length omissions ≡ length files → (item : Item) → IsItem linked item → IsItemBy files (IsCounted files omissions) (moved item)
  item_among one_each _ (declared {number = number} {facts = facts} is_reachable has listed) =
      declared (counted_among one_each number is_reachable).0 (present_facts number facts is_reachable has) listed
  item_among one_each _ (packaged {number = number} {facts = facts} index is_reachable has stands) =
      packaged index (counted_among one_each number is_reachable).0 (present_facts number facts is_reachable has) stands

  pub item_kept : length omissions ≡ length files → (item : Item) → IsItem linked item → IsKeptFile omissions (all item.place.file)
  item_kept one_each item is = (counted_among one_each item.place.file (counts_of item is)).1

  pub order_among : (a b : Item) → Before a.place b.place → Before (moved a).place (moved b).place
  order_among a b (inl less) = inl (numbers_rise omissions a.place.file b.place.file less)
  order_among a b (inr same) = inr (ap all same.0, same.1)

  -- what is kept isn't what is left out
  apart : (i j : ℕ) → i < length kept → length kept ≤ j → j < length linked
      → all i ≡ left_among_all omissions (j - length kept) → ⊥
  apart i j front later within same =
      let first = item_of kept i front in
      let at = item_of linked j within in
      let stands = sym (behind kept (map as_left_out (left_of omissions files)) j later) ∙ at.1 in
      let its = from_mapped as_left_out (left_of omissions files) (j - length kept) at.0 stands in
      let out = is_left omissions files (j - length kept) its.0 its.1 in
      not_both out.0 (sym (is_kept omissions files i first.0 first.1) ∙ (ap (slice_get omissions) same ∙ out.1))

  -- two linked files are two files
  pub one_origin : (i j : ℕ) (c : (i < length kept) ⊎ (length kept ≤ i)) (d : (j < length kept) ⊎ (length kept ≤ j))
      → i < length linked → j < length linked → place i c ≡ place j d → i ≡ j
  one_origin i j (inl i_front) (inl j_front) i_in j_in same = one_number omissions i j same
  one_origin i j (inl i_front) (inr j_later) i_in j_in same = absurd (apart i j i_front j_later j_in same)
  one_origin i j (inr i_later) (inl j_front) i_in j_in same = absurd (apart j i j_front i_later i_in (sym same))
  one_origin i j (inr i_later) (inr j_later) i_in j_in same =
      let one = one_left omissions (i - length kept) (j - length kept) same in omega (arith, one, i_later, j_later)
