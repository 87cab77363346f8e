-- What holds of the files of a tree holds of those that are linked.
use Rattle.std.proofs.Common.{◌≡◌, ◌∙◌, ◌⊎◌, inl, inr, ℕ, ◌<◌, ◌≤◌, ◌+◌, ◌-◌, ◌++◌, Bool, true, false, zero, suc, List, []}
use Rattle.std.proofs.Common.{◌∷◌, length, map, Option, Some, None, ap, sym, refl, subst, append-nil, length-append, arith}
use Rattle.std.specs.declared.cmp.Ordering.{Ordering}
use Rattle.std.specs.declared.cmp.Ordering.TheVariants.{Less}
use Rattle.std.specs.Ordering.{nat_cmp, bool_cmp, ordering_then}
use Rattle.std.specs.Cmp.Lexicographic.{slice_cmp}
use Rattle.std.specs.List.{slice_get}
use Rattle.std.specs.Option.{unwrap_or}
use Rattle.std.proofs.lemmas.Bool.{cases_lt}
use Rattle.std.proofs.lemmas.Option.{none-some, slice_get_within}
use Rattle.std.proofs.lemmas.List.{length-map, map-append}
use Rattle.std.proofs.lemmas.List.Elements.{All-head, All-tail}
use Rattle.proto_visibility.specs.declared.omissions.FileOmission.{FileOmission}
use Rattle.proto_visibility.specs.Files.{HaveOwnPaths}
use Rattle.proto_visibility.specs.Kept.{Omissions, kept_of, left_of, number_among_all, AreAllKept}
use Rattle.proto_visibility.specs.Kept as link
use Rattle.proto_visibility.proofs.KeptAmongLemmas.{at_all, behind, from_mapped, left_among_all, left_at_all, lefts_rise}
use Rattle.proto_visibility.proofs.KeptAmongLemmas.{numbers_rise}
use Rattle.proto_visibility.proofs.SeeingLemmas.{slice_get_prefix}
use Rattle.scip_build.specs.Files.{ReadFile}
use Rattle.scip_build.specs.Linking.{linked_file, linked_files}
use Rattle.scip_build.specs.Ready.{AreOfTree, ArePresent, IsOfTree, parsed_file_cmp}
use Rattle.scip_build.specs.Keeping.{kept_numbers, left_numbers, linked_numbers, as_left_out, linked_of}
use Rattle.scip_build.specs.Telling.{number_in}

pub map_kept : {X Y : Type 0} (f : X → Y) (omissions : Omissions) (xs : List X)
    → map f (kept_of omissions xs) ≡ kept_of omissions (map f xs)
map_kept f [] xs = refl
map_kept f (None ∷ omissions) [] = refl
map_kept f (Some fault ∷ omissions) [] = refl
map_kept f (None ∷ omissions) (x ∷ xs) = ap (λ ys. f x ∷ ys) (map_kept f omissions xs)
map_kept f (Some fault ∷ omissions) (x ∷ xs) = map_kept f omissions xs

pub map_left : {X Y : Type 0} (f : X → Y) (omissions : Omissions) (xs : List X)
    → map f (left_of omissions xs) ≡ left_of omissions (map f xs)
map_left f [] xs = refl
map_left f (None ∷ omissions) [] = refl
map_left f (Some fault ∷ omissions) [] = refl
map_left f (None ∷ omissions) (x ∷ xs) = map_left f omissions xs
map_left f (Some fault ∷ omissions) (x ∷ xs) = ap (λ ys. f x ∷ ys) (map_left f omissions xs)

turned : (xs : List ReadFile) → map linked_file (map as_left_out xs) ≡ map link.as_left_out (map linked_file xs)
turned [] = refl
turned (x ∷ xs) = ap (λ ys. linked_file (as_left_out x) ∷ ys) (turned xs)

-- what is linked of files that were read are the files that are linked
pub linked_is : (omissions : Omissions) (all : List ReadFile)
    → linked_files (linked_of omissions all) ≡ link.linked_of omissions (linked_files all)
linked_is omissions all =
    let left = map as_left_out (left_of omissions all) in
    map-append linked_file (kept_of omissions all) left
    ∙ (ap (λ fs. fs ++ map linked_file left) (map_kept linked_file omissions all)
    ∙ ap (λ fs. kept_of omissions (linked_files all) ++ fs)
    (turned (left_of omissions all) ∙ ap (map link.as_left_out) (map_left linked_file omissions all)))

both_within : {X : Type 0} (omissions : Omissions) (xs : List X)
    → length (kept_of omissions xs) + length (left_of omissions xs) ≤ length xs
both_within [] xs = omega arith
both_within (None ∷ omissions) [] = omega arith
both_within (Some fault ∷ omissions) [] = omega arith
both_within (None ∷ omissions) (x ∷ xs) = omega (arith, both_within omissions xs)
both_within (Some fault ∷ omissions) (x ∷ xs) = omega (arith, both_within omissions xs)

-- ---- in order

abbrev rest_cmp : ReadFile → ReadFile → Ordering
rest_cmp a b = ordering_then (bool_cmp a.is_included b.is_included) (slice_cmp nat_cmp a.path b.path)

-- what is left out comes later
left_later : (a b : ReadFile) → a.is_left_out ≡ false → parsed_file_cmp a (as_left_out b) ≡ Less
left_later a b present = subst (λ x. ordering_then (bool_cmp x true) (rest_cmp a b) ≡ Less) (sym present) refl

-- and among its like in the same order
left_alike : (a b : ReadFile) → a.is_left_out ≡ false → b.is_left_out ≡ false → parsed_file_cmp a b ≡ Less
    → parsed_file_cmp (as_left_out a) (as_left_out b) ≡ Less
left_alike a b first second less =
    let one = subst (λ x. ordering_then (bool_cmp x b.is_left_out) (rest_cmp a b) ≡ Less) first less in
    subst (λ x. ordering_then (bool_cmp false x) (rest_cmp a b) ≡ Less) second one

module _ {links : Bool} (all : List ReadFile) (omissions : Omissions) (tree : AreOfTree links all)
    (present : ArePresent all) where
  abbrev kept : List ReadFile
  kept = kept_of omissions all

  abbrev left : List ReadFile
  left = left_of omissions all

  -- a file that is linked is one that is kept, or one that is left out
  kept_or_left : (number : ℕ) (parsed_file : ReadFile) → slice_get (linked_of omissions all) number ≡ Some parsed_file
      → (slice_get kept number ≡ Some parsed_file)
      ⊎ ((length kept ≤ number) × ((original : ReadFile) × (slice_get left (number - length kept) ≡ Some original)
      × (as_left_out original ≡ parsed_file)))
  kept_or_left number parsed_file at = elim (cases_lt number (length kept)) [
    | inl front ↦ inl (sym (slice_get_prefix kept (map as_left_out left) number front) ∙ at)
    | inr later ↦ inr (
      later,
      from_mapped as_left_out left (number - length kept) parsed_file
          (sym (behind kept (map as_left_out left) number later) ∙ at),
    )
  ]

  each_of_tree : (number : ℕ) (parsed_file : ReadFile) → slice_get (linked_of omissions all) number ≡ Some parsed_file
      → IsOfTree links parsed_file
  each_of_tree number parsed_file at = elim (kept_or_left number parsed_file at) [
    | inl there ↦ tree.each (number_among_all omissions number) parsed_file
        (at_all omissions all number parsed_file there)
    | inr its ↦ (
        let of = its.1 in
        let is = tree.each (left_among_all omissions (number - length kept)) of.0
        (left_at_all omissions all (number - length kept) of.0 of.1) in
        subst (IsOfTree links) of.2
        (record { good = is.good; contents = is.contents; fields = is.fields; links_are = is.links_are }))
  ]

  rises : (lesser number : ℕ) (a b : ReadFile) → lesser < number → slice_get (linked_of omissions all) lesser ≡ Some a
      → slice_get (linked_of omissions all) number ≡ Some b → parsed_file_cmp a b ≡ Less
  rises lesser number a b less at and = elim (kept_or_left lesser a at) [
    | inl first ↦ elim (kept_or_left number b and) [
      | inl second ↦ tree.rising (number_among_all omissions lesser) (number_among_all omissions number) a b
          (numbers_rise omissions lesser number less) (at_all omissions all lesser a first)
          (at_all omissions all number b second)
      | inr second ↦ subst (λ (r : ReadFile). parsed_file_cmp a r ≡ Less) second.1.2
          (left_later a second.1.0
          (present (number_among_all omissions lesser) a (at_all omissions all lesser a first)))
    ]
    | inr first ↦ elim (kept_or_left number b and) [
      | inl second ↦ absurd (let within = slice_get_within kept number b second in
          let later = first.0 in
          omega (arith, within, later, less))
      | inr second ↦ (
          let i = lesser - length kept in
          let j = number - length kept in
          let a_at = left_at_all omissions all i first.1.0 first.1.1 in
          let b_at = left_at_all omissions all j second.1.0 second.1.1 in
          let before = let later = first.0 in lefts_rise omissions i j (omega (arith, less, later)) in
          let up = tree.rising (left_among_all omissions i) (left_among_all omissions j) first.1.0 second.1.0 before
          a_at b_at in
          let both = left_alike first.1.0 second.1.0 (present (left_among_all omissions i) first.1.0 a_at)
          (present (left_among_all omissions j) second.1.0 b_at) up in
          subst (λ (r : ReadFile). parsed_file_cmp r b ≡ Less) first.1.2
          (subst (λ (r : ReadFile). parsed_file_cmp (as_left_out first.1.0) r ≡ Less) second.1.2 both))
    ]
  ]

  pub linked_tree : HaveOwnPaths (linked_files (linked_of omissions all)) → AreOfTree links (linked_of omissions all)
  linked_tree own = record {
    few = (
        let few = tree.few in
        let within = both_within omissions all in
        let size = length-append kept (map as_left_out left) in
        let lefts = length-map left as_left_out in
        omega (arith, few, within, size, lefts)
        );
    each = each_of_tree;
    own = own;
    rising = rises;
  }

-- ---- where no file is to come, all are linked

nothing_kept : {X : Type 0} (omissions : Omissions) (xs : List X) → (length xs ≡ 0) ⊎ (length omissions ≡ 0)
    → (kept_of omissions xs ≡ []) × (left_of omissions xs ≡ [])
nothing_kept [] xs ended = (refl, refl)
nothing_kept (None ∷ omissions) [] ended = (refl, refl)
nothing_kept (Some fault ∷ omissions) [] ended = (refl, refl)
nothing_kept (omission ∷ omissions) (x ∷ xs) (inl e) = absurd (omega arith)
nothing_kept (omission ∷ omissions) (x ∷ xs) (inr e) = absurd (omega arith)

pub kept_end : {X : Type 0} (kept : List X) (omissions : Omissions) (xs all : List X)
    → (length xs ≡ 0) ⊎ (length omissions ≡ 0) → kept ++ kept_of omissions xs ≡ all → kept ≡ all
kept_end kept omissions xs all ended whole =
    sym (append-nil kept) ∙ (ap (λ l. kept ++ l) (sym (nothing_kept omissions xs ended).0) ∙ whole)

pub left_end : (left : List ReadFile) (omissions : Omissions) (xs all : List ReadFile)
    → (length xs ≡ 0) ⊎ (length omissions ≡ 0) → left ++ map as_left_out (left_of omissions xs) ≡ all → left ≡ all
left_end left omissions xs all ended whole =
    sym (append-nil left)
    ∙ (ap (λ l. left ++ map as_left_out l) (sym (nothing_kept omissions xs ended).1) ∙ whole)

-- ---- the numbers of those that are kept

number_listed : {X : Type 0} (first : ℕ) (omissions : Omissions) (xs : List X) (k : ℕ) (x : X)
    → slice_get (kept_of omissions xs) k ≡ Some x
    → slice_get (kept_numbers first omissions) k ≡ Some (first + number_among_all omissions k)
number_listed first [] xs k x at = absurd (none-some x at)
number_listed first (None ∷ omissions) [] k x at = absurd (none-some x at)
number_listed first (Some fault ∷ omissions) [] k x at = absurd (none-some x at)
number_listed first (None ∷ omissions) (y ∷ ys) zero x at =
    let same : first ≡ first + 0 = omega arith in ap Some same
number_listed first (None ∷ omissions) (y ∷ ys) (suc k) x at =
    let same : first + 1 + number_among_all omissions k ≡ first + suc (number_among_all omissions k) = omega arith in
    number_listed (first + 1) omissions ys k x at ∙ ap Some same
number_listed first (Some fault ∷ omissions) (y ∷ ys) k x at =
    let same : first + 1 + number_among_all omissions k ≡ first + suc (number_among_all omissions k) = omega arith in
    number_listed (first + 1) omissions ys k x at ∙ ap Some same

pub number_of : {X : Type 0} (omissions : Omissions) (xs : List X) (k : ℕ) (x : X)
    → slice_get (kept_of omissions xs) k ≡ Some x
    → number_in (linked_numbers omissions) k ≡ number_among_all omissions k
number_of omissions xs k x at =
    let same : 0 + number_among_all omissions k ≡ number_among_all omissions k = omega arith in
    let there = number_listed 0 omissions xs k x at in
    let within = slice_get_within (kept_numbers 0 omissions) k (0 + number_among_all omissions k) there in
    let front = slice_get_prefix (kept_numbers 0 omissions) (left_numbers 0 omissions) k within in
    ap (λ (o : Option ℕ). unwrap_or o k) (front ∙ there) ∙ same

-- ---- and of those that are left out

left_listed : {X : Type 0} (first : ℕ) (omissions : Omissions) (xs : List X) (k : ℕ) (x : X)
    → slice_get (left_of omissions xs) k ≡ Some x
    → slice_get (left_numbers first omissions) k ≡ Some (first + left_among_all omissions k)
left_listed first [] xs k x at = absurd (none-some x at)
left_listed first (None ∷ omissions) [] k x at = absurd (none-some x at)
left_listed first (Some fault ∷ omissions) [] k x at = absurd (none-some x at)
left_listed first (Some fault ∷ omissions) (y ∷ ys) zero x at =
    let same : first ≡ first + 0 = omega arith in ap Some same
left_listed first (Some fault ∷ omissions) (y ∷ ys) (suc k) x at =
    let same : first + 1 + left_among_all omissions k ≡ first + suc (left_among_all omissions k) = omega arith in
    left_listed (first + 1) omissions ys k x at ∙ ap Some same
left_listed first (None ∷ omissions) (y ∷ ys) k x at =
    let same : first + 1 + left_among_all omissions k ≡ first + suc (left_among_all omissions k) = omega arith in
    left_listed (first + 1) omissions ys k x at ∙ ap Some same

pub kept_count : {X : Type 0} (first : ℕ) (omissions : Omissions) (xs : List X) → length omissions ≡ length xs
    → length (kept_numbers first omissions) ≡ length (kept_of omissions xs)
kept_count first [] [] size = refl
kept_count first [] (x ∷ xs) size = absurd (omega (arith, size))
kept_count first (omission ∷ omissions) [] size = absurd (omega (arith, size))
kept_count first (None ∷ omissions) (x ∷ xs) size =
    ap suc (kept_count (first + 1) omissions xs (omega (arith, size)))
kept_count first (Some fault ∷ omissions) (x ∷ xs) size = kept_count (first + 1) omissions xs (omega (arith, size))

-- the number of one that is left out, as it is linked behind those that are kept
pub left_number : {X : Type 0} (omissions : Omissions) (xs : List X) (k : ℕ) (x : X)
    → length omissions ≡ length xs → length (kept_of omissions xs) ≤ k
    → slice_get (left_of omissions xs) (k - length (kept_of omissions xs)) ≡ Some x
    → slice_get (linked_numbers omissions) k ≡ Some (left_among_all omissions (k - length (kept_of omissions xs)))
left_number omissions xs k x size later at =
    let count = kept_count 0 omissions xs size in
    let past : length (kept_numbers 0 omissions) ≤ k = omega (arith, count, later) in
    let index = k - length (kept_of omissions xs) in
    let same : 0 + left_among_all omissions index ≡ left_among_all omissions index = omega arith in
    behind (kept_numbers 0 omissions) (left_numbers 0 omissions) k past
    ∙ (ap (λ n. slice_get (left_numbers 0 omissions) (k - n)) count
    ∙ (left_listed 0 omissions xs index x at ∙ ap Some same))

-- ---- where all are kept

pub all_of : {X : Type 0} (omissions : Omissions) (xs : List X) → length omissions ≡ length xs → AreAllKept omissions
    → kept_of omissions xs ≡ xs
all_of [] [] few all = refl
all_of [] (x ∷ xs) few all = absurd (omega (arith, few))
all_of (omission ∷ omissions) [] few all = absurd (omega (arith, few))
all_of (None ∷ omissions) (x ∷ xs) few all =
    ap (λ ys. x ∷ ys) (all_of omissions xs (omega (arith, few))
    (All-tail (λ (o : Option FileOmission). o ≡ None) None omissions all))
all_of (Some fault ∷ omissions) (x ∷ xs) few all =
    absurd (apart (All-head (λ (o : Option FileOmission). o ≡ None) (Some fault) omissions all))
  where
    apart : ◌≡◌ {A = Option FileOmission} (Some fault) None → ⊥
    apart e = cc

nothing_left : {X : Type 0} (omissions : Omissions) (xs : List X) → AreAllKept omissions → left_of omissions xs ≡ []
nothing_left [] xs all = refl
nothing_left (None ∷ omissions) [] all = refl
nothing_left (Some fault ∷ omissions) [] all = refl
nothing_left (None ∷ omissions) (x ∷ xs) all =
    nothing_left omissions xs (All-tail (λ (o : Option FileOmission). o ≡ None) None omissions all)
nothing_left (Some fault ∷ omissions) (x ∷ xs) all =
    absurd (apart (All-head (λ (o : Option FileOmission). o ≡ None) (Some fault) omissions all))
  where
    apart : ◌≡◌ {A = Option FileOmission} (Some fault) None → ⊥
    apart e = cc

pub all_linked : (omissions : Omissions) (all : List ReadFile) → length omissions ≡ length all → AreAllKept omissions
    → linked_of omissions all ≡ all
all_linked omissions all few kept =
    ap (λ rs. rs ++ map as_left_out (left_of omissions all)) (all_of omissions all few kept)
    ∙ (ap (λ rs. all ++ map as_left_out rs) (nothing_left omissions all kept) ∙ append-nil all)
