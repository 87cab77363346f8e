-- Searches backwards: steps that are turned, and for each file the first end that leads to it.
use Rattle.std.proofs.Common.{◌≡◌, ◌↔◌, ◌⊎◌, inl, inr, ℕ, ◌+◌, ◌<◌, ◌≤◌, Bool, true, false, List, [], ◌∷◌, ◌++◌, length}
use Rattle.std.proofs.Common.{Option, Some, None, All, MatchOption, eqb, get_or, take, refl, ap, sym, ◌∙◌, subst, arith}
use Rattle.std.specs.Prelude.{slice_set}
use Rattle.std.specs.List.{Contains, IsDistinct, list_any, slice_get}
use Rattle.std.proofs.lemmas.Bool.{cases_lt, cases_order, cases_Bool, eqb-true, false≢true}
use Rattle.std.proofs.lemmas.Cmp.{nat_eq_equiv}
use Rattle.std.proofs.lemmas.List.{append_assoc}
use Rattle.std.proofs.lemmas.Option.{slice_get_within, slice_get-get_or, get_or_from_slice_get, same_Some}
use Rattle.std.proofs.lemmas.List.Elements.{Contains-append_left, Contains-get_or}
use Rattle.std.proofs.lemmas.List.Elements.{Contains-push, Contains-push_cases}
use Rattle.std.proofs.lemmas.Map.Views.{Contains-from_any, list_any-from_Contains}
use Rattle.basics.proofs.FirstLemmas.{at_contained, contained, take_next}
use Rattle.proto_visibility.specs.declared.import_table.Steps.{Steps}
use Rattle.proto_visibility.specs.Sees.{LeadsTo}
use Rattle.proto_visibility.specs.Sees.LeadsTo.{at_once}
use Rattle.proto_visibility.specs.Tables.ImportTables.{targets, HasStep, AreFollowed, IsFront, IsLedTo}
use Rattle.proto_visibility.specs.Tables.OptionTables.{AreTurned, ByEach, IsFirstEnd, IsNoEnd, AreFirstEnds}
use Rattle.proto_visibility.specs.Tables.Visits.{visit}
use Rattle.proto_visibility.proofs.PassLemmas.{set_elsewhere, set_there}
use Rattle.proto_visibility.proofs.SeeingLemmas.{leads_more, leads_on, slice_get_prefix, steps_listed, visits_add}
use Rattle.proto_visibility.proofs.FileOrderLemmas.{apart}
use Rattle.proto_visibility.proofs.ReachingLemmas.{visited_iff}

-- ---- steps that are turned

-- a file has no steps
pub record HasNone (steps : Steps) : Type 0 where
  pub plain : steps.plain.items ≡ []
  pub public : steps.public.items ≡ []

pub no_step : (table : List Steps) → All HasNone table → (from to : ℕ) (publicly : Bool)
    → HasStep table from publicly to → ⊥
no_step table none from to publicly step = by publicly step.listed
  where
    its : HasNone step.steps
    its = subst HasNone (sym (same_Some step.steps (get_or table from step.steps)
        (sym step.stands ∙ slice_get-get_or table from step.steps (slice_get_within table from step.steps step.stands))))
        (none from step.steps (slice_get_within table from step.steps step.stands))

    by : (p : Bool) → Contains (targets step.steps p) to → ⊥
    by true there = (let size = ap length its.public in omega (arith, there.1, size))
    by false there = (let size = ap length its.plain in omega (arith, there.1, size))

-- one public step is added
module _ (table : List Steps) (from to : ℕ) (old new : Steps) (stands : slice_get table from ≡ Some old)
    (public : new.public.items ≡ old.public.items ++ to ∷ []) (plain : new.plain.items ≡ old.plain.items) where
  abbrev pub added : List Steps
  added = slice_set table from new

  within : from < length table
  within = slice_get_within table from old stands

  there : slice_get added from ≡ Some new
  there = set_there table from new within

  other_place : (number : ℕ) → (number ≡ from) ⊎ (slice_get added number ≡ slice_get table number)
  other_place number = elim (cases_order number from) [
    | inl same ↦ inl same
    | inr apart ↦ inr (set_elsewhere table from number new (λ same. differ apart same))
  ]
    where
      differ : (number < from) ⊎ (from < number) → number ≡ from → ⊥
      differ (inl less) same = omega arith
      differ (inr more) same = omega arith

  before : (publicly : Bool) (other : ℕ) → Contains (targets new publicly) other
      → HasStep table from publicly other ⊎ ((publicly ≡ true) × (other ≡ to))
  before true other listed =
      elim (Contains-push_cases old.public.items to other (subst (λ xs. Contains xs other) public listed)) [
        | inl earlier ↦ inl (record { steps = old; stands = stands; listed = earlier })
        | inr last ↦ inr (refl, sym last)
      ]
  before false other listed =
      inl (record { steps = old; stands = stands; listed = subst (λ xs. Contains xs other) plain listed })

  after : (publicly : Bool) (other : ℕ) → Contains (targets old publicly) other → Contains (targets new publicly) other
  after true other listed =
      subst (λ xs. Contains xs other) (sym public) (Contains-append_left old.public.items (to ∷ []) other listed)
  after false other listed = subst (λ xs. Contains xs other) (sym plain) listed

  pub one_added : (number other : ℕ) (publicly : Bool) → HasStep added number publicly other
      ↔ (HasStep table number publicly other ⊎ ((publicly ≡ true) × (number ≡ from) × (other ≡ to)))
  one_added number other publicly = (
    λ step. elim (other_place number) [
      | inl same ↦ (
          let is : step.steps ≡ new =
          same_Some step.steps new (sym step.stands ∙ (ap (slice_get added) same ∙ there)) in
          elim (before publicly other (subst (λ (s : Steps). Contains (targets s publicly) other) is step.listed)) [
            | inl earlier ↦ inl (subst (λ n. HasStep table n publicly other) (sym same) earlier)
            | inr last ↦ inr (last.0, same, last.1)
          ])
      | inr unchanged ↦ inl (record {
        steps = step.steps;
        stands = sym unchanged ∙ step.stands;
        listed = step.listed;
      })
    ],
    λ either. elim either [
      | inl step ↦ elim (other_place number) [
        | inl same ↦ (
            let is : step.steps ≡ old =
            same_Some step.steps old (sym step.stands ∙ (ap (slice_get table) same ∙ stands)) in
            record {
              steps = new;
              stands = ap (slice_get added) same ∙ there;
              listed = after publicly other
                  (subst (λ (s : Steps). Contains (targets s publicly) other) is step.listed);
            })
        | inr unchanged ↦ record {
          steps = step.steps;
          stands = unchanged ∙ step.stands;
          listed = step.listed;
        }
      ]
      | inr last ↦ record {
        steps = new;
        stands = ap (slice_get added) last.1 ∙ there;
        listed = subst (λ p. Contains (targets new p) other) (sym last.0)
            (subst (Contains new.public.items) (sym last.2)
            (subst (λ xs. Contains xs to) (sym public) (Contains-push old.public.items to)));
      }
    ],
  )

-- the steps of a table, and a public one from each of these
abbrev pub AreAdded : (old new : List Steps) → (from : List ℕ) → (to : ℕ) → Type 0
AreAdded old new from to = (number other : ℕ) (publicly : Bool) → HasStep new number publicly other
    ↔ (HasStep old number publicly other ⊎ ((publicly ≡ true) × Contains from number × (other ≡ to)))

pub added_none : (table : List Steps) (to : ℕ) → AreAdded table table [] to
added_none table to number other publicly = (
  λ step. inl step,
  λ either. elim either [ inl step ↦ step | inr none ↦ absurd (omega (arith, none.1.1)) ],
)

pub added_more : (old now new : List Steps) (from : List ℕ) (k to : ℕ) → k < length from
    → ((number other : ℕ) (publicly : Bool) → HasStep new number publicly other
    ↔ (HasStep now number publicly other ⊎ ((publicly ≡ true) × (number ≡ get_or from k 0) × (other ≡ to))))
    → AreAdded old now (take k from) to → AreAdded old new (take (k + 1) from) to
added_more old now new from k to inside more so_far number other publicly = (
  λ step. elim ((more number other publicly).0 step) [
    | inl before ↦ elim ((so_far number other publicly).0 before) [
      | inl first ↦ inl first
      | inr its ↦ inr (
        its.0,
        subst (λ xs. Contains xs number) (sym next)
            (Contains-append_left (take k from) (get_or from k 0 ∷ []) number its.1),
        its.2,
      )
    ]
    | inr last ↦ inr (
      last.0,
      subst (λ xs. Contains xs number) (sym next)
          (subst (Contains (take k from ++ get_or from k 0 ∷ [])) (sym last.1)
          (Contains-push (take k from) (get_or from k 0))),
      last.2,
    )
  ],
  λ either. (more number other publicly).1 (elim either [
    | inl first ↦ inl ((so_far number other publicly).1 (inl first))
    | inr its ↦ elim (Contains-push_cases (take k from) (get_or from k 0) number
        (subst (λ xs. Contains xs number) next its.1)) [
          | inl before ↦ inl ((so_far number other publicly).1 (inr (its.0, before, its.2)))
          | inr last ↦ inr (its.0, sym last, its.2)
        ]
  ]),
)
  where
    next : take (k + 1) from ≡ take k from ++ get_or from k 0 ∷ []
    next = take_next from k (get_or from k 0) (slice_get-get_or from k 0 inside)

-- the steps of the first so many files, turned
abbrev pub AreTurnedUpTo : (table back : List Steps) → (count : ℕ) → Type 0
AreTurnedUpTo table back count = (number other : ℕ) (publicly : Bool) → HasStep back number publicly other
    ↔ ((publicly ≡ true) × (other < count) × ByEach (HasStep table) other true number)

pub turned_none : (table back : List Steps)
    → ((from to : ℕ) (publicly : Bool) → HasStep back from publicly to → ⊥) → AreTurnedUpTo table back 0
turned_none table back none number other publicly = (
  λ step. absurd (none number other publicly step),
  λ is. absurd (omega (arith, is.1)),
)

pub turned_more : (table : List Steps) (count : ℕ) (steps : Steps) (old now new : List Steps)
    → slice_get table count ≡ Some steps
    → AreAdded old now steps.plain.items count → AreAdded now new steps.public.items count
    → AreTurnedUpTo table old count → AreTurnedUpTo table new (count + 1)
turned_more table count steps old now new stands plain public so_far number other publicly = (
  λ step. elim ((public number other publicly).0 step) [
    | inl before ↦ elim ((plain number other publicly).0 before) [
      | inl first ↦ (let its = (so_far number other publicly).0 first in (its.0, omega (arith, its.1), its.2))
      | inr its ↦ (its.0, omega (arith, its.2), own false number its.1 its.2)
    ]
    | inr its ↦ (its.0, omega (arith, its.2), own true number its.1 its.2)
  ],
  λ is. elim (cases_lt other count) [
    | inl before ↦ (public number other publicly).1 (inl ((plain number other publicly).1
        (inl ((so_far number other publicly).1 (is.0, before, is.2)))))
    | inr behind ↦ (
        let here : other ≡ count = omega (arith, is.1) in
        last is.0 here is.2.0 (subst (λ n. HasStep table n is.2.0 number) here is.2.1))
  ],
)
  where
    own : (kind : Bool) (n : ℕ) → Contains (targets steps kind) n → other ≡ count → ByEach (HasStep table) other true n
    own kind n listed here =
        (kind, subst (λ m. HasStep table m kind n) (sym here) ((steps_listed table count steps stands kind n).1 listed))

    last : publicly ≡ true → other ≡ count → (kind : Bool) → HasStep table count kind number
        → HasStep new number publicly other
    last is here true step = (public number other publicly).1
        (inr (is, (steps_listed table count steps stands true number).0 step, here))
    last is here false step = (public number other publicly).1 (inl ((plain number other publicly).1
        (inr (is, (steps_listed table count steps stands false number).0 step, here))))

pub turned_all : (table back : List Steps) (count : ℕ) → length back ≡ length table → length table ≤ count
    → count ≤ length table → AreTurnedUpTo table back count → AreTurned table back
turned_all table back count size all few turned = record {
  one_each = size;
  within = λ k d h publicly j e i.
      let steps = get_or back k d in
      let step : HasStep back k publicly (get_or (targets steps publicly) j e) = record {
        steps = steps;
        stands = slice_get-get_or back k d h;
        listed = Contains-get_or (targets steps publicly) j e i;
      } in
      let is = (turned k (get_or (targets steps publicly) j e) publicly).0 step in
      omega (arith, is.1, size, few);
  steps = λ from to. (
    λ step. ((turned from to true).0 step).2,
    λ each. (turned from to true).1 (refl, below to each, each),
  );
}
  where
    below : (to : ℕ) {from : ℕ} → ByEach (HasStep table) to true from → to < count
    below to each = (let within = slice_get_within table to each.1.steps each.1.stands in omega (arith, within, all))

-- ---- the first end

-- of the files of a list from an index on, up to another, this end is set, and of the others what there was
pub record AreSetUpTo (numbers : List ℕ) (from end : ℕ) (old new : List (Option ℕ)) (count : ℕ) : Type 0 where
  pub set : (index number : ℕ) → from ≤ index → index < count → slice_get numbers index ≡ Some number
      → slice_get new number ≡ Some (Some end)
  pub kept : (number : ℕ)
      → ((index : ℕ) → from ≤ index → index < count → slice_get numbers index ≡ Some number → ⊥)
      → slice_get new number ≡ slice_get old number

module _ (back : List Steps) (ends : List ℕ) where
  -- one of the first so many leads to it
  abbrev pub IsLedUpTo : (count number : ℕ) → Type 0
  IsLedUpTo count number = (index : ℕ) × (end : ℕ) × (index < count) × (slice_get ends index ≡ Some end)
      × LeadsTo (HasStep back) end number

  abbrev pub IsFirstUpTo : (count number end : ℕ) → Type 0
  IsFirstUpTo count number end = (is : IsFirstEnd back ends number end) × (is.index < count)

  -- what is found from the first so many, and the first of these for each file
  pub record AreEndsUpTo (count : ℕ) (numbers : List ℕ) (firsts : List (Option ℕ)) : Type 0 where
    pub found : (number : ℕ) → Contains numbers number ↔ IsLedUpTo count number
    pub size : length firsts ≡ length back
    pub each : (number : ℕ) (first : Option ℕ) → slice_get firsts number ≡ Some first
        → MatchOption first (IsLedUpTo count number → ⊥) (IsFirstUpTo count number)

  pub ends_all : (count : ℕ) (numbers : List ℕ) (firsts : List (Option ℕ)) → length ends ≤ count
      → AreEndsUpTo count numbers firsts → AreFirstEnds back ends firsts
  ends_all count numbers firsts all are = record {
    one_each = are.size;
    each = λ number first at. by number first (are.each number first at);
  }
    where
      by : (number : ℕ) (first : Option ℕ)
          → MatchOption first (IsLedUpTo count number → ⊥) (IsFirstUpTo count number)
          → MatchOption first (IsNoEnd back ends number) (IsFirstEnd back ends number)
      by number None none = λ end there leads.
          none (there.0, end, omega (arith, there.1), at_contained ends end there, leads)
      by number (Some end) is = is.0

one_place : (xs : List ℕ) → IsDistinct eqb xs → (i j : ℕ) (x : ℕ) → slice_get xs i ≡ Some x → slice_get xs j ≡ Some x
    → i ≡ j
one_place xs distinct i j x first second = elim (cases_order i j) [
  | inl same ↦ same
  | inr differ ↦ elim differ [
    | inl less ↦ absurd (apart xs i j distinct less (slice_get_within xs j x second)
        (get_or_from_slice_get xs i x 0 first ∙ sym (get_or_from_slice_get xs j x 0 second)))
    | inr more ↦ absurd (apart xs j i distinct more (slice_get_within xs i x first)
        (get_or_from_slice_get xs j x 0 second ∙ sym (get_or_from_slice_get xs i x 0 first)))
  ]
]

-- what is found is closed
pub all_closed : (I : ℕ → Bool → ℕ → Type 0) (starts numbers : List ℕ)
    → ((other : ℕ) → Contains numbers other ↔ IsLedTo I starts other) → AreFollowed I numbers (length numbers)
all_closed I starts numbers led index number other h at step =
    let from = (led number).0 (contained numbers index number at) in
    (led other).1 (from.0, from.1, leads_more from.2 step)

-- a file is visited: what was found before stays closed
pub closed_visit : (I : ℕ → Bool → ℕ → Type 0) (old : List ℕ) (end from : ℕ) → from ≡ length old
    → AreFollowed I old (length old) → AreFollowed I (visit old end) from
closed_visit I old end from size closed index number other h at step =
    let before : index < length old = omega arith in
    let front = front_of old end in
    let there : slice_get old index ≡ Some number =
    sym (ap (λ xs. slice_get xs index) front.1 ∙ slice_get_prefix old front.0 index before) ∙ at in
    (visited_iff old end other).1 (inl (closed index number other before there step))
  where
    front_of : (old : List ℕ) (end : ℕ) → IsFront old (visit old end)
    front_of old end = visits_add old (end ∷ [])

module _ (back : List Steps) (ends : List ℕ) (count end : ℕ) (old numbers : List ℕ) (firsts new : List (Option ℕ))
    (from : ℕ) (stands : slice_get ends count ≡ Some end) (size : from ≡ length old)
    (distinct : IsDistinct eqb numbers) (front : IsFront (visit old end) numbers)
    (led : (other : ℕ) → Contains numbers other ↔ IsLedTo (HasStep back) (visit old end) other)
    (same_size : length new ≡ length firsts)
    (set : (index number : ℕ) → from ≤ index → slice_get numbers index ≡ Some number
    → slice_get new number ≡ Some (Some end))
    (kept : (number : ℕ) → ((index : ℕ) → from ≤ index → slice_get numbers index ≡ Some number → ⊥)
    → slice_get new number ≡ slice_get firsts number)
    (so_far : AreEndsUpTo back ends count old firsts) where
  whole : IsFront old numbers
  whole =
      let added = visits_add old (end ∷ []) in
      (added.0 ++ front.0, front.1 ∙ (ap (λ xs. xs ++ front.0) added.1 ∙ append_assoc old added.0 front.0))

  at_front : (index : ℕ) → index < from → slice_get numbers index ≡ slice_get old index
  at_front index h = ap (λ xs. slice_get xs index) whole.1 ∙ slice_get_prefix old whole.0 index (omega (arith, size))

  from_old : (start number : ℕ) → Contains old start → LeadsTo (HasStep back) start number → Contains old number
  from_old start number there leads =
      let its = (so_far.found start).0 there in
      (so_far.found number).1 (its.0, its.1, its.2, its.3, leads_on its.4 leads)

  by_end : (number : ℕ) → Contains numbers number → Contains old number ⊎ LeadsTo (HasStep back) end number
  by_end number there =
      let way = (led number).0 there in
      elim ((visited_iff old end way.0).0 way.1) [
        | inl before ↦ inl (from_old way.0 number before way.2)
        | inr same ↦ inr (subst (λ n. LeadsTo (HasStep back) n number) same way.2)
      ]

  found_next : (number : ℕ) → Contains numbers number ↔ IsLedUpTo back ends (count + 1) number
  found_next number = (
    λ there. elim (by_end number there) [
      | inl before ↦ (
          let its = (so_far.found number).0 before in
          (its.0, its.1, omega (arith, its.2), its.3, its.4))
      | inr leads ↦ (count, end, omega arith, stands, leads)
    ],
    λ its. elim (cases_lt its.0 count) [
      | inl before ↦ (led number).1 (
        number,
        (visited_iff old end number).1 (inl ((so_far.found number).1 (its.0, its.1, before, its.3, its.4))),
        at_once,
      )
      | inr last ↦ (
          let here : its.0 ≡ count = omega (arith, its.2) in
          let same : its.1 ≡ end = same_Some its.1 end (sym its.3 ∙ (ap (slice_get ends) here ∙ stands)) in
          (led number).1 (
            end,
            (visited_iff old end end).1 (inr refl),
            subst (λ n. LeadsTo (HasStep back) n number) same its.4,
          ))
    ],
  )

  -- a file that isn't new
  extends : (number : ℕ) (first : Option ℕ) → ((index : ℕ) → from ≤ index → slice_get numbers index ≡ Some number → ⊥)
      → (Contains numbers number → Contains old number) → slice_get new number ≡ Some first
      → MatchOption first (IsLedUpTo back ends (count + 1) number → ⊥) (IsFirstUpTo back ends (count + 1) number)
  extends number first isnt old_only at = by first (so_far.each number first (sym (kept number isnt) ∙ at))
    where
      by : (o : Option ℕ) → MatchOption o (IsLedUpTo back ends count number → ⊥) (IsFirstUpTo back ends count number)
          → MatchOption o (IsLedUpTo back ends (count + 1) number → ⊥) (IsFirstUpTo back ends (count + 1) number)
      by None none = λ is. none ((so_far.found number).0 (old_only ((found_next number).1 is)))
      by (Some e) is = (is.0, omega (arith, is.1))

  contains_or_not : (xs : List ℕ) (number : ℕ) → Contains xs number ⊎ (Contains xs number → ⊥)
  contains_or_not xs number = elim (cases_Bool (list_any (eqb number) xs)) [
    | inl there ↦ inl (Contains-from_any eqb-true number xs there)
    | inr absent ↦ inr (λ is. false≢true (sym absent ∙ list_any-from_Contains nat_eq_equiv number xs is))
  ]

  in_front : (number index : ℕ) → Contains old number → from ≤ index → slice_get numbers index ≡ Some number → ⊥
  in_front number index there behind at =
      let first : slice_get numbers there.0 ≡ Some number =
      at_front there.0 (omega (arith, there.1, size)) ∙ at_contained old number there in
      let one = one_place numbers distinct there.0 index number first at in
      omega (arith, there.1, size, one)

  each_next : (number : ℕ) (first : Option ℕ) → slice_get new number ≡ Some first
      → MatchOption first (IsLedUpTo back ends (count + 1) number → ⊥) (IsFirstUpTo back ends (count + 1) number)
  each_next number first at = elim (contains_or_not old number) [
    | inl before ↦ extends number first (λ index. in_front number index before) (λ _. before) at
    | inr unseen ↦ elim (contains_or_not numbers number) [
      | inl there ↦ fresh number first unseen there at
      | inr absent ↦ extends number first
          (λ index behind stands_at. absent (contained numbers index number stands_at))
          (λ is. absurd (absent is)) at
    ]
  ]
    where
      fresh : (number : ℕ) (first : Option ℕ) → (Contains old number → ⊥) → Contains numbers number
          → slice_get new number ≡ Some first
          → MatchOption first (IsLedUpTo back ends (count + 1) number → ⊥) (IsFirstUpTo back ends (count + 1) number)
      fresh number first unseen there at =
          let stands_at = at_contained numbers number there in
          let behind : from ≤ there.0 = elim (cases_lt there.0 from) [
            | inl before ↦ absurd (unseen (contained old there.0 number (sym (at_front there.0 before) ∙ stands_at)))
            | inr later ↦ later
          ] in
          let is : Some end ≡ first = same_Some (Some end) first (sym (set there.0 number behind stands_at) ∙ at) in
          subst (λ o. MatchOption o (IsLedUpTo back ends (count + 1) number → ⊥)
          (IsFirstUpTo back ends (count + 1) number)) is (
            record {
              index = count;
              stands = stands;
              leads = elim (by_end number there) [ inl before ↦ absurd (unseen before) | inr leads ↦ leads ];
              first = λ k other less at_k leads. unseen ((so_far.found number).1 (k, other, less, at_k, leads));
            },
            omega arith,
          )

  pub ends_next : AreEndsUpTo back ends (count + 1) numbers new
  ends_next = record {
    found = found_next;
    size = same_size ∙ so_far.size;
    each = each_next;
  }
