-- A search along the steps of a table finds what a file sees.
use Rattle.std.proofs.Common.{◌≡◌, ◌↔◌, ◌⊎◌, inl, inr, ℕ, ◌+◌, ◌<◌, ◌≤◌, Bool, true, false, zero, suc, List, [], ◌∷◌}
use Rattle.std.proofs.Common.{◌++◌, length, get_or, map, eqb, Option, Some, None, refl, ap, sym, ◌∙◌, subst, arith, All}
use Rattle.std.specs.Option.{option_map}
use Rattle.std.specs.List.{Contains, list_any, slice_get}
use Rattle.std.proofs.lemmas.Bool.{cases_lt, cases_Bool, eqb-true, cond-true, cond-false}
use Rattle.std.proofs.lemmas.Option.{slice_get-get_or, slice_get-map, slice_get_within, get_or_from_slice_get}
use Rattle.std.proofs.lemmas.List.{length-map, append_assoc, append-nil, length_push, get_or_push}
use Rattle.std.proofs.lemmas.List.Elements.{All-push, All-contains, All-head, All-tail}
use Rattle.std.proofs.lemmas.List.Elements.{Contains-append_left, Contains-append_cases, Contains-push, Contains-get_or}
use Rattle.std.proofs.lemmas.Map.Views.{Contains-from_any}
use Rattle.proto_visibility.specs.declared.import_table.Steps.{Steps}
use Rattle.proto_visibility.specs.Sees.{LeadsTo, SeesBy}
use Rattle.proto_visibility.specs.Sees.LeadsTo.{at_once, through}
use Rattle.proto_visibility.specs.Sees.SeesBy.{itself, import}
use Rattle.proto_visibility.specs.Tables.ImportTables.{targets, HasStep, AreWithin, AreFollowed, AreRowsBy, IsBegun, IsFront}
use Rattle.proto_visibility.specs.Tables.ImportTables.{IsLedTo}
use Rattle.proto_visibility.specs.Tables.Rows.{files_at}
use Rattle.proto_visibility.specs.Tables.Visits.{visit, visit_all}

-- ---- what visits do

visit_cases : (found : List ℕ) (number : ℕ)
    → (visit found number ≡ found ++ number ∷ []) ⊎ ((visit found number ≡ found) × Contains found number)
visit_cases found number = elim (cases_Bool (list_any (eqb number) found)) [
  | inl there ↦ inr (
    cond-true (list_any (eqb number) found) found (found ++ number ∷ []) there,
    Contains-from_any eqb-true number found there,
  )
  | inr absent ↦ inl (cond-false (list_any (eqb number) found) found (found ++ number ∷ []) absent)
]

pub visit_finds : (found : List ℕ) (number : ℕ) → Contains (visit found number) number
visit_finds found number = elim (visit_cases found number) [
  | inl new ↦ subst (λ xs. Contains xs number) (sym new) (Contains-push found number)
  | inr old ↦ subst (λ xs. Contains xs number) (sym old.0) old.1
]

pub visit_all_of : (P : ℕ → Type 0) (found : List ℕ) (number : ℕ) → All P found → P number → All P (visit found number)
visit_all_of P found number each one = elim (visit_cases found number) [
  | inl new ↦ subst (All P) (sym new) (All-push P found number each one)
  | inr old ↦ subst (All P) (sym old.0) each
]

-- those found stay in their places
visit_adds : (found : List ℕ) (number : ℕ) → (more : List ℕ) × (visit found number ≡ found ++ more)
visit_adds found number = elim (visit_cases found number) [
  | inl new ↦ (number ∷ [], new)
  | inr old ↦ ([], old.0 ∙ sym (append-nil found))
]

pub visits_add : (found numbers : List ℕ) → (more : List ℕ) × (visit_all found numbers ≡ found ++ more)
visits_add found [] = ([], sym (append-nil found))
visits_add found (number ∷ numbers) =
    let one = visit_adds found number in
    let others = visits_add (visit found number) numbers in
    (one.0 ++ others.0, others.1 ∙ (ap (λ xs. xs ++ others.0) one.1 ∙ append_assoc found one.0 others.0))

pub visits_keep : (found numbers : List ℕ) (number : ℕ) → Contains found number
    → Contains (visit_all found numbers) number
visits_keep found numbers number there =
    let added = visits_add found numbers in
    subst (λ xs. Contains xs number) (sym added.1) (Contains-append_left found added.0 number there)

pub visits_of : (P : ℕ → Type 0) (found numbers : List ℕ) → All P found → All P numbers
    → All P (visit_all found numbers)
visits_of P found [] each others = each
visits_of P found (number ∷ numbers) each others =
    visits_of P (visit found number) numbers (visit_all_of P found number each (All-head P number numbers others))
    (All-tail P number numbers others)

pub visits_find : (found numbers : List ℕ) (number : ℕ) → Contains numbers number
    → Contains (visit_all found numbers) number
visits_find found [] number there = absurd (omega (arith, there.1))
visits_find found (first ∷ numbers) number there = elim (Contains-append_cases (first ∷ []) numbers number there) [
  | inl one ↦ visits_keep (visit found first) numbers number
      (subst (λ n. Contains (visit found first) n) (only first number one) (visit_finds found first))
  | inr other ↦ visits_find (visit found first) numbers number other
]
  where
    only : (x y : ℕ) → Contains (x ∷ []) y → x ≡ y
    only x y (zero, h, e) = e
    only x y (suc k, h, e) = absurd (omega arith)

pub slice_get_prefix : {X : Type 0} (xs ys : List X) (k : ℕ) → k < length xs → slice_get (xs ++ ys) k ≡ slice_get xs k
slice_get_prefix [] ys k h = absurd (omega arith)
slice_get_prefix (x ∷ xs) ys zero h = refl
slice_get_prefix (x ∷ xs) ys (suc k) h = slice_get_prefix xs ys k (omega arith)

visits_stay : (found numbers : List ℕ) (k : ℕ) → k < length found
    → slice_get (visit_all found numbers) k ≡ slice_get found k
visits_stay found numbers k h =
    let added = visits_add found numbers in
    ap (λ xs. slice_get xs k) added.1 ∙ slice_get_prefix found added.0 k h

-- ---- the search

one_step : (table : List Steps) (file : ℕ) (steps : Steps) → slice_get table file ≡ Some steps
    → (publicly : Bool) (other : ℕ) → HasStep table file publicly other → Contains (targets steps publicly) other
one_step table file steps stands publicly other step =
    let same : Some step.steps ≡ Some steps = sym step.stands ∙ stands in
    let equal : step.steps ≡ steps = cc in
    subst (λ s. Contains (targets s publicly) other) equal step.listed

each_step : (table : List Steps) (file : ℕ) (steps : Steps) → slice_get table file ≡ Some steps → (publicly : Bool)
    → All (HasStep table file publicly) (targets steps publicly)
each_step table file steps stands publicly k d h =
    record { steps = steps; stands = stands; listed = Contains-get_or (targets steps publicly) k d h }

-- a file has just these steps of a kind
pub steps_listed : (table : List Steps) (file : ℕ) (steps : Steps) → slice_get table file ≡ Some steps
    → (publicly : Bool) (other : ℕ) → HasStep table file publicly other ↔ Contains (targets steps publicly) other
steps_listed table file steps stands publicly other = (
  one_step table file steps stands publicly other,
  λ there. record { steps = steps; stands = stands; listed = there },
)

All-implies : {X : Type 0} (P Q : X → Type 0) → ((x : X) → P x → Q x) → (xs : List X) → All P xs → All Q xs
All-implies P Q f xs each k d h = f (get_or xs k d) (each k d h)

pub leads_more : {I : ℕ → Bool → ℕ → Type 0} {a b c : ℕ} → LeadsTo I a b → I b true c → LeadsTo I a c
leads_more at_once step = through step at_once
leads_more (through first rest) step = through first (leads_more rest step)

pub leads_on : {I : ℕ → Bool → ℕ → Type 0} {a b c : ℕ} → LeadsTo I a b → LeadsTo I b c → LeadsTo I a c
leads_on at_once rest = rest
leads_on (through first more) rest = through first (leads_on more rest)

module _ (I : ℕ → Bool → ℕ → Type 0) where
  -- what is found from these files, once the public steps of so many of those found were followed
  pub record Follows (starts : List ℕ) (done : ℕ) (numbers : List ℕ) : Type 0 where
    pub sound : All (IsLedTo I starts) numbers
    pub front : IsFront starts numbers
    pub closed : AreFollowed I numbers done

  pub follows_first : (starts : List ℕ) (from : ℕ) → AreFollowed I starts from → Follows starts from starts
  follows_first starts from followed = record {
    sound = λ k d h. (get_or starts k d, Contains-get_or starts k d h, at_once);
    front = ([], sym (append-nil starts));
    closed = followed;
  }

  pub follows_more : (starts : List ℕ) (done : ℕ) (numbers : List ℕ) (next : ℕ) (steps : List ℕ)
      → Follows starts done numbers → slice_get numbers done ≡ Some next
      → ((other : ℕ) → I next true other ↔ Contains steps other)
      → Follows starts (done + 1) (visit_all numbers steps)
  follows_more starts done numbers next steps so_far is listed =
      let within : done < length numbers = slice_get_within numbers done next is in
      let seen : IsLedTo I starts next =
      subst (IsLedTo I starts) (get_or_from_slice_get numbers done next next is) (so_far.sound done next within) in
      let added = visits_add numbers steps in
      record {
        sound = visits_of (IsLedTo I starts) numbers steps so_far.sound
            (λ k d h. (seen.0, seen.1, leads_more seen.2 ((listed (get_or steps k d)).1 (Contains-get_or steps k d h))));
        front = (
          so_far.front.0 ++ added.0,
          added.1 ∙ (ap (λ xs. xs ++ added.0) so_far.front.1 ∙ append_assoc starts so_far.front.0 added.0),
        );
        closed = λ k number other h here step.
            let there : slice_get numbers k ≡ Some number =
            sym (visits_stay numbers steps k (omega arith)) ∙ here in
            elim (cases_lt k done) [
              | inl before ↦ visits_keep numbers steps other (so_far.closed k number other before there step)
              | inr last ↦ (
                  let at : k ≡ done = omega arith in
                  let same : Some next ≡ Some number = sym is ∙ (ap (slice_get numbers) (sym at) ∙ there) in
                  let equal : number ≡ next = cc in
                  visits_find numbers steps other ((listed other).0 (subst (λ n. I n true other) equal step)))
            ];
      }

  module _ (numbers : List ℕ)
      (closed : (number other : ℕ) → Contains numbers number → I number true other → Contains numbers other) where
    pub leads_within : {number other : ℕ} → LeadsTo I number other → Contains numbers number → Contains numbers other
    leads_within at_once there = there
    leads_within (through {file = a} {next = b} step rest) there = leads_within rest (closed a b there step)

  pub step_within : (numbers : List ℕ) (done : ℕ) → AreFollowed I numbers done → length numbers ≤ done
      → (number next : ℕ) → Contains numbers number → I number true next → Contains numbers next
  step_within numbers done closed all number next there step =
      closed there.0 number next (omega (arith, there.1))
      (slice_get-get_or numbers there.0 number there.1 ∙ ap Some there.2) step

  pub follows_all : (starts : List ℕ) (done : ℕ) (numbers : List ℕ) → Follows starts done numbers
      → length numbers ≤ done → (other : ℕ) → Contains numbers other ↔ IsLedTo I starts other
  follows_all starts done numbers reached all other = (
    λ there. All-contains (IsLedTo I starts) numbers other reached.sound there,
    λ led. leads_within numbers (step_within numbers done reached.closed all) led.2
        (subst (λ xs. Contains xs led.0) (sym reached.front.1)
        (Contains-append_left starts reached.front.0 led.0 led.1)),
  )

-- files are visited in two parts
pub visits_append : (found numbers more : List ℕ)
    → visit_all found (numbers ++ more) ≡ visit_all (visit_all found numbers) more
visits_append found [] more = refl
visits_append found (number ∷ numbers) more = visits_append (visit found number) numbers more

-- ---- where a search begins

pub leads_see : {I : ℕ → Bool → ℕ → Type 0} {a b : ℕ} → LeadsTo I a b → SeesBy I a b
leads_see at_once = itself
leads_see (through step rest) = import step rest

pub sees_begun : (table : List Steps) (file start other : ℕ) → IsBegun table file start
    → LeadsTo (HasStep table) start other → SeesBy (HasStep table) file other
sees_begun table file start other begun leads = elim begun [
  | inl same ↦ subst (λ n. SeesBy (HasStep table) n other) same (leads_see leads)
  | inr step ↦ import step leads
]

pub begun_of : (table : List Steps) (file other : ℕ) → SeesBy (HasStep table) file other
    → (start : ℕ) × IsBegun table file start × LeadsTo (HasStep table) start other
begun_of table file other sees = begun other sees
  where
    begun : (last : ℕ) → SeesBy (HasStep table) file last
        → (start : ℕ) × IsBegun table file start × LeadsTo (HasStep table) start last
    begun last itself = (file, inl refl, at_once)
    begun last (import {next = next} {publicly = true} step rest) = (file, inl refl, through step rest)
    begun last (import {next = next} {publicly = false} step rest) = (next, inr step, rest)

-- what is found once more where a search begins at a file
pub begun_iff : (table : List Steps) (file : ℕ) (steps : Steps) (old new : List ℕ) → slice_get table file ≡ Some steps
    → new ≡ visit_all (visit old file) steps.plain.items
    → (other : ℕ) → Contains new other ↔ (Contains old other ⊎ IsBegun table file other)
begun_iff table file steps old new stands is other = (
  λ there. All-contains Begun (visit_all (visit old file) steps.plain.items) other found
      (subst (λ xs. Contains xs other) is there),
  λ begun. subst (λ xs. Contains xs other) (sym is) (elim begun [
    | inl before ↦ visits_keep (visit old file) steps.plain.items other (visits_keep old (file ∷ []) other before)
    | inr here ↦ elim here [
      | inl same ↦ visits_keep (visit old file) steps.plain.items other
          (subst (Contains (visit old file)) (sym same) (visit_finds old file))
      | inr step ↦ visits_find (visit old file) steps.plain.items other
          (one_step table file steps stands false other step)
    ]
  ]),
)
  where
    Begun : ℕ → Type 0
    Begun number = Contains old number ⊎ IsBegun table file number

    found : All Begun (visit_all (visit old file) steps.plain.items)
    found = visits_of Begun (visit old file) steps.plain.items
        (visit_all_of Begun old file (λ k d h. inl (Contains-get_or old k d h)) (inr (inl refl)))
        (All-implies (HasStep table file false) Begun (λ number step. inr (inr step)) steps.plain.items
        (each_step table file steps stands false))

-- a search from a file, which begins with nothing found
pub seen_from : (table : List Steps) (file : ℕ) (none starts numbers : List ℕ) → none ≡ []
    → ((other : ℕ) → Contains starts other ↔ (Contains none other ⊎ IsBegun table file other))
    → ((other : ℕ) → Contains numbers other ↔ IsLedTo (HasStep table) starts other)
    → (other : ℕ) → Contains numbers other ↔ SeesBy (HasStep table) file other
seen_from table file none starts numbers empty begun led other = (
  λ there. (
      let its = (led other).0 there in
      sees_begun table file its.0 other (begins its.0 ((begun its.0).0 its.1)) its.2
      ),
  λ sees. (let its = begun_of table file other sees in (led other).1 (its.0, (begun its.0).1 (inr its.1), its.2)),
)
  where
    begins : (start : ℕ) → Contains none start ⊎ IsBegun table file start → IsBegun table file start
    begins start from = elim from [
      | inl there ↦ (let size = ap length empty in absurd (omega (arith, there.1, size)))
      | inr here ↦ here
    ]

steps_within : (table : List Steps) (file : ℕ) (steps : Steps) → AreWithin table → slice_get table file ≡ Some steps
    → (publicly : Bool) → All (λ number. number < length table) (targets steps publicly)
steps_within table file steps within stands publicly =
    subst (λ s. All (λ number. number < length table) (targets s publicly))
    (get_or_from_slice_get table file steps steps stands)
    (within file steps (slice_get_within table file steps stands) publicly)

-- the steps of a file lead to files that there are
pub numbers_within : (table : List Steps) (file : ℕ) (steps : Steps) (publicly : Bool) (files : ℕ) (numbers : List ℕ)
    → AreWithin table → slice_get table file ≡ Some steps → files ≡ length table → numbers ≡ targets steps publicly
    → All (λ number. number < files) numbers
numbers_within table file steps publicly files numbers within stands same are =
    subst (All (λ number. number < files)) (sym are)
    (subst (λ n. All (λ number. number < n) (targets steps publicly)) (sym same)
    (steps_within table file steps within stands publicly))

pub all_followed : (numbers : List ℕ) (done : ℕ) → None ≡ slice_get numbers done → length numbers ≤ done
all_followed numbers done none = elim (cases_lt done (length numbers)) [
  | inl more ↦ (let some = slice_get-get_or numbers done 0 more in cc)
  | inr all ↦ all
]

-- ---- the rows

-- a row has what the file sees
abbrev pub IsRowOf : List Steps → ℕ → List ℕ → Type 0
IsRowOf table file row = (other : ℕ) → Contains row other ↔ SeesBy (HasStep table) file other

pub rows_more : (IsRow : ℕ → List ℕ → Type 0) (rows : List (List ℕ)) (row : List ℕ) → IsRow (length rows) row
    → ((file : ℕ) (one : List ℕ) → slice_get rows file ≡ Some one → IsRow file one)
    → (file : ℕ) (one : List ℕ) → slice_get (rows ++ row ∷ []) file ≡ Some one → IsRow file one
rows_more IsRow rows row last each file one stands = elim (cases_lt file (length rows)) [
  | inl before ↦ each file one (sym (slice_get_prefix rows (row ∷ []) file before) ∙ stands)
  | inr behind ↦ (
      let within : file < length (rows ++ row ∷ []) = slice_get_within (rows ++ row ∷ []) file one stands in
      let at : file ≡ length rows = omega (arith, length_push rows row) in
      let here : Some one ≡ Some row = sym stands ∙ (ap (slice_get (rows ++ row ∷ [])) at ∙ slice_get_last rows row) in
      let equal : one ≡ row = cc in
      subst (λ n. IsRow n one) (sym at) (subst (IsRow (length rows)) (sym equal) last))
]
  where
    slice_get_last : (xs : List (List ℕ)) (x : List ℕ) → slice_get (xs ++ x ∷ []) (length xs) ≡ Some x
    slice_get_last xs x = slice_get-get_or (xs ++ x ∷ []) (length xs) x (omega (arith, length_push xs x))
        ∙ ap Some (get_or_push xs x x (length xs) refl)

-- by their places in an order
pub rows_placed : (table : List Steps) (order : List ℕ) (rows : List (List ℕ)) → length rows ≡ length table
    → ((file : ℕ) (row : List ℕ) → slice_get rows file ≡ Some row → IsRowOf table file (files_at order row))
    → AreRowsBy (HasStep table) (length table) (map (files_at order) rows)
rows_placed table order rows size each = record {
  one_each = length-map rows (files_at order) ∙ size;
  each = λ file row stands. placed file row (slice_get rows file) refl
      (sym (slice_get-map (files_at order) rows file) ∙ stands);
}
  where
    one_Row : (a b : List ℕ) → Some a ≡ Some b → a ≡ b
    one_Row a b e = cc

    placed : (file : ℕ) (row : List ℕ) (one : Option (List ℕ)) → slice_get rows file ≡ one
        → option_map (files_at order) one ≡ Some row → IsRowOf table file row
    placed file row None at e = absurd cc
    placed file row (Some one) at e =
        subst (IsRowOf table file) (one_Row (files_at order one) row e) (each file one at)

-- ---- other imports that are the same

leads_by : {I J : ℕ → Bool → ℕ → Type 0}
    (change : (from to : ℕ) (publicly : Bool) → I from publicly to → J from publicly to) {a b : ℕ} → LeadsTo I a b
    → LeadsTo J a b
leads_by change at_once = at_once
leads_by change (through {file = a} {next = b} step rest) = through (change a b true step) (leads_by change rest)

pub sees_by : {I J : ℕ → Bool → ℕ → Type 0}
    (change : (from to : ℕ) (publicly : Bool) → I from publicly to → J from publicly to) {a b : ℕ} → SeesBy I a b
    → SeesBy J a b
sees_by change itself = itself
sees_by change (import {file = a} {next = b} {publicly = publicly} step rest) =
    import (change a b publicly step) (leads_by change rest)

pub rows_by : {I J : ℕ → Bool → ℕ → Type 0}
    (same : (from to : ℕ) (publicly : Bool) → I from publicly to ↔ J from publicly to) (m n : ℕ) (rows : List (List ℕ))
    → m ≡ n → AreRowsBy I m rows → AreRowsBy J n rows
rows_by same m n rows size rows_are = record {
  one_each = rows_are.one_each ∙ size;
  each = λ file row stands other. (
    λ there. sees_by (λ from to publicly. (same from to publicly).0) ((rows_are.each file row stands other).0 there),
    λ sees. (rows_are.each file row stands other).1 (sees_by (λ from to publicly. (same from to publicly).1) sees),
  );
}
