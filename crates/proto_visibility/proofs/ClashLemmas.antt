-- The first clash of names, over items in order of place.
use Rattle.std.proofs.Common.{◌≡◌, ◌↔◌, ◌⊎◌, inl, inr, ℕ, ◌+◌, ◌<◌, ◌≤◌, Bool, true, false, ◌||◌, List, length, Option}
use Rattle.std.proofs.Common.{Some, None, MatchOption, is_some, cond, refl, ap, sym, ◌∙◌, subst, arith}
use Rattle.std.specs.List.{Contains, slice_get}
use Rattle.std.specs.Str.{bytes_eq}
use Rattle.std.specs.HashMap.{HashMap}
use Rattle.std.proofs.lemmas.Bool.{cases_lt, cases_order, cases_Bool, false≢true, cond-true, cond-false, or_parts}
use Rattle.std.proofs.lemmas.Option.{slice_get_within, same_Some}
use Rattle.std.proofs.lemmas.Slice.Eq.{bytes_eq-Decides}
use Rattle.proto_visibility.specs.declared.files.FilePlace.{FilePlace}
use Rattle.proto_visibility.specs.Clashes.{Before, BeforeBy, Item, Excludes, ClashBy, NoClashBy}
use Rattle.proto_visibility.specs.Tables.ClashTables.{AreInPlace, AreInPlaceBy, HasNone, IsFirstNamed, AreFirst}
use Rattle.proto_visibility.specs.Tables.ClashTables.{place_if_declared}
use Rattle.proto_visibility.specs.Tables.ClashTables.{clash_with, index_in}
use Rattle.basics.proofs.FirstLemmas.{contained_at, contained}

-- ---- places

-- of two numbers at most one comes before the other
abbrev pub IsOneWay : (Earlier : ℕ → ℕ → Type 0) → Type 0
IsOneWay Earlier = (number other : ℕ) → Earlier number other → Earlier other number → ⊥

module _ (Earlier : ℕ → ℕ → Type 0) (one_way : IsOneWay Earlier) where
  pub never_both_by : (a b : FilePlace) → BeforeBy Earlier a b → BeforeBy Earlier b a → ⊥
  never_both_by a b (inl h) (inl k) = one_way a.file b.file h k
  never_both_by a b (inl h) (inr k) =
      let itself = subst (λ n. Earlier n b.file) (sym k.0) h in one_way b.file b.file itself itself
  never_both_by a b (inr h) (inl k) =
      let itself = subst (Earlier b.file) h.0 k in one_way b.file b.file itself itself
  never_both_by a b (inr h) (inr k) = omega (arith, h.1, k.1)

  module _ (items : List Item) (placed : AreInPlaceBy Earlier items) where
    pub in_order_by : (j k : ℕ) (a b : Item) → slice_get items j ≡ Some a → slice_get items k ≡ Some b
        → BeforeBy Earlier a.place b.place → j < k
    in_order_by j k a b at there before = elim (cases_order j k) [
      | inl same ↦ (
          let equal : a ≡ b = same_Some a b (sym at ∙ (ap (slice_get items) same ∙ there)) in
          let itself = subst (λ (x : Item). BeforeBy Earlier x.place b.place) equal before in
          absurd (never_both_by b.place b.place itself itself))
      | inr apart ↦ elim apart [
        | inl less ↦ less
        | inr more ↦ absurd (never_both_by a.place b.place before (placed k j b a more there at))
      ]
    ]

    pub one_index_by : (j k : ℕ) (a b : Item) → slice_get items j ≡ Some a → slice_get items k ≡ Some b
        → a.place ≡ b.place → j ≡ k
    one_index_by j k a b at there same = elim (cases_order j k) [
      | inl is ↦ is
      | inr apart ↦ elim apart [
        | inl less ↦ (let before = subst (λ p. BeforeBy Earlier p b.place) same (placed j k a b less at there) in
            absurd (never_both_by b.place b.place before before))
        | inr more ↦ (let before = subst (λ p. BeforeBy Earlier b.place p) same (placed k j b a more there at) in
            absurd (never_both_by b.place b.place before before))
      ]
    ]

-- in order of numbers
less_one_way : IsOneWay (λ number other. number < other)
less_one_way number other h k = omega arith

pub never_both : (a b : FilePlace) → Before a b → Before b a → ⊥
never_both a b = never_both_by (λ number other. number < other) less_one_way a b

in_order : (items : List Item) → AreInPlace items → (j k : ℕ) (a b : Item) → slice_get items j ≡ Some a
    → slice_get items k ≡ Some b → Before a.place b.place → j < k
in_order items placed = in_order_by (λ number other. number < other) less_one_way items placed

one_index : (items : List Item) → AreInPlace items → (j k : ℕ) (a b : Item) → slice_get items j ≡ Some a
    → slice_get items k ≡ Some b → a.place ≡ b.place → j ≡ k
one_index items placed = one_index_by (λ number other. number < other) less_one_way items placed

-- ---- the pass

-- no two of the first so many items have one name where one is a declaration
abbrev pub NoneClash : List Item → (count : ℕ) → Type 0
NoneClash items count = (j k : ℕ) (a b : Item) → j < k → k < count → slice_get items j ≡ Some a
    → slice_get items k ≡ Some b → a.full_name ≡ b.full_name → (a.is_declaration || b.is_declaration) ≡ false

pub clash_at : (items : List Item) (first : Option ℕ) (item : Item) (place : FilePlace)
    → clash_with items first item ≡ Some place
    → (k : ℕ) × (a : Item) × (first ≡ Some k) × (slice_get items k ≡ Some a) × (a.place ≡ place)
    × ((a.is_declaration || item.is_declaration) ≡ true)
clash_at items None item place e = absurd (cc)
clash_at items (Some k) item place e = elim (cases (slice_get items k)) [
  | inl absent ↦ (let wrong : None ≡ Some place = sym (ap (λ o. place_if_declared o item) absent) ∙ e in absurd (cc))
  | inr some ↦ (
      let told : cond (some.0.is_declaration || item.is_declaration) (Some some.0.place) None ≡ Some place =
      sym (ap (λ o. place_if_declared o item) some.1) ∙ e in
      elim (cases_Bool (some.0.is_declaration || item.is_declaration)) [
        | inl declares ↦ (
            let same : Some some.0.place ≡ Some place =
            sym (cond-true (some.0.is_declaration || item.is_declaration) (Some some.0.place) None declares) ∙ told
            in
            (k, some.0, refl, some.1, one_place some.0.place place same, declares))
        | inr neither ↦ (let wrong : None ≡ Some place =
            sym (cond-false (some.0.is_declaration || item.is_declaration) (Some some.0.place) None neither) ∙ told in
            absurd (cc))
      ])
]
  where
    cases : (o : Option Item) → (o ≡ None) ⊎ ((a : Item) × (o ≡ Some a))
    cases None = inl refl
    cases (Some a) = inr (a, refl)

    one_place : (a b : FilePlace) → Some a ≡ Some b → a ≡ b
    one_place a b h = cc

pub no_clash_at : (items : List Item) (item : Item) (k : ℕ) (a : Item)
    → ((place : FilePlace) → clash_with items (Some k) item ≡ Some place → ⊥) → slice_get items k ≡ Some a
    → (a.is_declaration || item.is_declaration) ≡ false
no_clash_at items item k a missing stands = elim (cases_Bool (a.is_declaration || item.is_declaration)) [
  | inl declares ↦ absurd (missing a.place
      (ap (λ o. place_if_declared o item) stands
      ∙ cond-true (a.is_declaration || item.is_declaration) (Some a.place) None declares))
  | inr neither ↦ neither
]

-- the first item with the name of the one at hand, if there is one, and no clash with it: so there is missing with any
-- before it
pub none_clash_more : (items : List Item) (count : ℕ) (item : Item) (first : Option ℕ)
    → slice_get items count ≡ Some item
    → MatchOption first (HasNone items count item.full_name) (IsFirstNamed items count item.full_name)
    → ((place : FilePlace) → clash_with items first item ≡ Some place → ⊥) → NoneClash items count
    → NoneClash items (count + 1)
none_clash_more items count item first stands is missing so_far j k a b less within at there name =
    elim (cases_lt k count) [
      | inl before ↦ so_far j k a b less before at there name
      | inr last ↦ (
          let here : k ≡ count = omega arith in
          let same : b ≡ item = same_Some b item (sym there ∙ (ap (slice_get items) here ∙ stands)) in
          let named : a.full_name ≡ item.full_name = name ∙ ap (λ (x : Item). x.full_name) same in
          subst (λ (x : Item). (a.is_declaration || x.is_declaration) ≡ false) (sym same)
          (with_first first is missing named))
    ]
  where
    j_before : j < count
    j_before = omega arith

    with_first : (o : Option ℕ)
        → MatchOption o (HasNone items count item.full_name) (IsFirstNamed items count item.full_name)
        → ((place : FilePlace) → clash_with items o item ≡ Some place → ⊥) → a.full_name ≡ item.full_name
        → (a.is_declaration || item.is_declaration) ≡ false
    with_first None has_none missing named = absurd (has_none j a j_before at named)
    with_first (Some m) f missing named =
        let neither = or_parts f.item.is_declaration item.is_declaration
        (no_clash_at items item m f.item missing f.stands) in
        or_false a.is_declaration item.is_declaration (elim (cases_order m j) [
          | inl equal ↦ (let one : f.item ≡ a = same_Some f.item a (sym f.stands ∙ (ap (slice_get items) equal ∙ at)) in
              sym (ap (λ (x : Item). x.is_declaration) one) ∙ neither.0)
          | inr apart ↦ elim apart [
            | inl later ↦ (or_parts f.item.is_declaration a.is_declaration
                (so_far m j f.item a later j_before f.stands at (f.named ∙ sym named))).1
            | inr earlier ↦ absurd (f.first j a earlier at named)
          ]
        ]) neither.1
      where
        or_false : (x y : Bool) → x ≡ false → y ≡ false → (x || y) ≡ false
        or_false true y h e = h
        or_false false y h e = e

-- the clash that is found is the first
pub is_clash : (items : List Item) (count : ℕ) (item : Item) (first : Option ℕ) (place : FilePlace) → AreInPlace items
    → slice_get items count ≡ Some item
    → MatchOption first (HasNone items count item.full_name) (IsFirstNamed items count item.full_name)
    → clash_with items first item ≡ Some place → NoneClash items count
    → ClashBy Before (Contains items) place item.place
is_clash items count item first place placed stands is found so_far =
    let at = clash_at items first item place found in
    by_first at (subst (λ o. MatchOption o (HasNone items count item.full_name)
    (IsFirstNamed items count item.full_name)) at.2 is)
  where
    by_first : (at : (k : ℕ) × (a : Item) × (first ≡ Some k) × (slice_get items k ≡ Some a) × (a.place ≡ place)
        × ((a.is_declaration || item.is_declaration) ≡ true))
        → IsFirstNamed items count item.full_name at.0 → ClashBy Before (Contains items) place item.place
    by_first at f =
        let same : f.item ≡ at.1 = same_Some f.item at.1 (sym f.stands ∙ at.3) in
        record {
          earlier = at.1;
          later = item;
          exclude = record {
            first_is = contained items at.0 at.1 at.3;
            second_is = contained items count item stands;
            ordered = placed at.0 count at.1 item f.within at.3 stands;
            one_name = sym (ap (λ (x : Item). x.full_name) same) ∙ f.named;
            declares = at.5;
          };
          first_is = at.4;
          second_is = refl;
          least_second = λ a b e before.
              let ja = contained_at items a e.first_is in
              let jb = contained_at items b e.second_is in
              let prefix = in_order items placed jb.0 count b item jb.1 stands before in
              let order = in_order items placed ja.0 jb.0 a b ja.1 jb.1 e.ordered in
              false≢true (sym (so_far ja.0 jb.0 a b order prefix ja.1 jb.1 e.one_name) ∙ e.declares);
          least_first = λ a b e here before.
              let ja = contained_at items a e.first_is in
              let jb = contained_at items b e.second_is in
              let is_last = one_index items placed jb.0 count b item jb.1 stands here in
              let equal : b ≡ item = same_Some b item (sym jb.1 ∙ (ap (slice_get items) is_last ∙ stands)) in
              let prefix = in_order items placed ja.0 at.0 a at.1 ja.1 at.3
              (subst (λ p. Before a.place p) (sym at.4) before) in
              f.first ja.0 a prefix ja.1 (e.one_name ∙ ap (λ (x : Item). x.full_name) equal);
        }

pub no_clash : (items : List Item) (count : ℕ) → AreInPlace items → length items ≤ count → NoneClash items count
    → NoClashBy Before (Contains items)
no_clash items count placed all so_far a b e =
    let ja = contained_at items a e.first_is in
    let jb = contained_at items b e.second_is in
    let order = in_order items placed ja.0 jb.0 a b ja.1 jb.1 e.ordered in
    let within = slice_get_within items jb.0 b jb.1 in
    false≢true (sym (so_far ja.0 jb.0 a b order (omega arith) ja.1 jb.1 e.one_name) ∙ e.declares)

-- ---- the map of names

more_none : (items : List Item) (count : ℕ) (item : Item) (name : List ℕ) → slice_get items count ≡ Some item
    → (item.full_name ≡ name → ⊥) → HasNone items count name → HasNone items (count + 1) name
more_none items count item name stands other missing k x h at named = elim (cases_lt k count) [
  | inl before ↦ missing k x before at named
  | inr last ↦ (
      let here : k ≡ count = omega arith in
      let same : x ≡ item = same_Some x item (sym at ∙ (ap (slice_get items) here ∙ stands)) in
      other (sym (ap (λ (y : Item). y.full_name) same) ∙ named))
]

more_first : (items : List Item) (count : ℕ) (name : List ℕ) (k : ℕ) → IsFirstNamed items count name k
    → IsFirstNamed items (count + 1) name k
more_first items count name k f =
    record {
      item = f.item;
      stands = f.stands;
      named = f.named;
      within = let w = f.within in
          omega arith;
      first = f.first;
    }

at_name : (items : List Item) (count : ℕ) (item : Item) (name : List ℕ) (o : Option ℕ)
    → slice_get items count ≡ Some item → (item.full_name ≡ name → ⊥)
    → MatchOption o (HasNone items count name) (IsFirstNamed items count name)
    → MatchOption o (HasNone items (count + 1) name) (IsFirstNamed items (count + 1) name)
at_name items count item name None stands other h = more_none items count item name stands other h
at_name items count item name (Some k) stands other h = more_first items count name k h

-- the map after the item at hand: as it was where its name is known, and else with its index
pub first_more : {S : Type 0} (items : List Item) (count : ℕ) (item : Item) (first : Option ℕ)
    (old new : HashMap (List ℕ) ℕ S) → slice_get items count ≡ Some item → first ≡ index_in old item.full_name
    → ((other : List ℕ) → index_in new other
    ≡ cond (is_some first) (index_in old other)
    (cond (bytes_eq item.full_name other) (Some count) (index_in old other)))
    → AreFirst items count old → AreFirst items (count + 1) new
first_more items count item first old new stands is after so_far name = by_first first is after
  where
    by_first : (o : Option ℕ) → o ≡ index_in old item.full_name
        → ((other : List ℕ) → index_in new other
        ≡ cond (is_some o) (index_in old other)
        (cond (bytes_eq item.full_name other) (Some count) (index_in old other)))
        → MatchOption (index_in new name) (HasNone items (count + 1) name) (IsFirstNamed items (count + 1) name)
    by_first None told update = elim (cases_Bool (bytes_eq item.full_name name)) [
      | inl same ↦ (
          let now : index_in new name ≡ Some count =
          update name ∙ cond-true (bytes_eq item.full_name name) (Some count) (index_in old name) same in
          let named : item.full_name ≡ name = (bytes_eq-Decides item.full_name name).0 same in
          let missing : HasNone items count item.full_name =
          subst (λ o. MatchOption o (HasNone items count item.full_name) (IsFirstNamed items count item.full_name))
          (sym told) (so_far item.full_name) in
          subst (λ o. MatchOption o (HasNone items (count + 1) name) (IsFirstNamed items (count + 1) name)) (sym now)
          (record {
            item = item;
            stands = stands;
            named = named;
            within = omega arith;
            first = subst (HasNone items count) named missing;
          }))
      | inr apart ↦ (
          let now : index_in new name ≡ index_in old name =
          update name ∙ cond-false (bytes_eq item.full_name name) (Some count) (index_in old name) apart in
          subst (λ o. MatchOption o (HasNone items (count + 1) name) (IsFirstNamed items (count + 1) name)) (sym now)
          (at_name items count item name (index_in old name) stands
          (λ e. false≢true (sym apart ∙ (bytes_eq-Decides item.full_name name).1 e)) (so_far name)))
    ]
    by_first (Some k) told update = elim (cases_Bool (bytes_eq item.full_name name)) [
      | inl same ↦ (
          let named : item.full_name ≡ name = (bytes_eq-Decides item.full_name name).0 same in
          let now : index_in new name ≡ Some k = update name ∙ sym (told ∙ ap (index_in old) named) in
          let known : IsFirstNamed items count name k =
          subst (λ o. MatchOption o (HasNone items count name) (IsFirstNamed items count name))
          (sym (told ∙ ap (index_in old) named)) (so_far name) in
          subst (λ o. MatchOption o (HasNone items (count + 1) name) (IsFirstNamed items (count + 1) name)) (sym now)
          (more_first items count name k known))
      | inr apart ↦
          subst (λ o. MatchOption o (HasNone items (count + 1) name) (IsFirstNamed items (count + 1) name))
          (sym (update name))
          (at_name items count item name (index_in old name) stands
          (λ e. false≢true (sym apart ∙ (bytes_eq-Decides item.full_name name).1 e)) (so_far name))
    ]

-- the map in which a name was put, and then what it had there before
pub kept_first : {S : Type 0} (old put back : HashMap (List ℕ) ℕ S) (name : List ℕ) (index first : ℕ)
    → Some first ≡ index_in old name
    → ((other : List ℕ) → index_in put other ≡ cond (bytes_eq name other) (Some index) (index_in old other))
    → ((other : List ℕ) → index_in back other ≡ cond (bytes_eq name other) (Some first) (index_in put other))
    → (other : List ℕ) → index_in back other ≡ index_in old other
kept_first old put back name index first was after again other = elim (cases_Bool (bytes_eq name other)) [
  | inl same ↦
      again other
      ∙ (cond-true (bytes_eq name other) (Some first) (index_in put other) same
      ∙ (was ∙ ap (index_in old) ((bytes_eq-Decides name other).0 same)))
  | inr apart ↦
      again other
      ∙ (cond-false (bytes_eq name other) (Some first) (index_in put other) apart
      ∙ (after other ∙ cond-false (bytes_eq name other) (Some index) (index_in old other) apart))
]

-- ---- the same items by another word

pub excludes_by : {B : FilePlace → FilePlace → Type 0} {I J : Item → Type 0} → ((item : Item) → I item → J item)
    → (a b : Item) → Excludes B I a b → Excludes B J a b
excludes_by change a b e =
    record {
      first_is = change a e.first_is;
      second_is = change b e.second_is;
      ordered = e.ordered;
      one_name = e.one_name;
      declares = e.declares;
    }

pub clash_by : {B : FilePlace → FilePlace → Type 0} {I J : Item → Type 0} → ((item : Item) → I item ↔ J item)
    → (first second : FilePlace) → ClashBy B I first second → ClashBy B J first second
clash_by same first second clash = record {
  earlier = clash.earlier;
  later = clash.later;
  exclude = excludes_by (λ item. (same item).0) clash.earlier clash.later clash.exclude;
  first_is = clash.first_is;
  second_is = clash.second_is;
  least_second = λ a b e. clash.least_second a b (excludes_by (λ item. (same item).1) a b e);
  least_first = λ a b e. clash.least_first a b (excludes_by (λ item. (same item).1) a b e);
}

pub no_clash_by : {B : FilePlace → FilePlace → Type 0} {I J : Item → Type 0} → ((item : Item) → I item ↔ J item)
    → NoClashBy B I → NoClashBy B J
no_clash_by same clear a b e = clear a b (excludes_by (λ item. (same item).1) a b e)

pub clash_of_items : (B : FilePlace → FilePlace → Type 0) {I J : Item → Type 0} → ((item : Item) → I item ↔ J item)
    → (clash : Option (FilePlace × FilePlace))
    → MatchOption clash (NoClashBy B I) (λ places. ClashBy B I places.0 places.1)
    → MatchOption clash (NoClashBy B J) (λ places. ClashBy B J places.0 places.1)
clash_of_items B same None clear = no_clash_by same clear
clash_of_items B same (Some places) clash = clash_by same places.0 places.1 clash
