-- The pass over items that leaves out the files with a clash.
use Rattle.std.proofs.Common.{◌≡◌, ◌↔◌, ◌⊎◌, inl, inr, ℕ, ◌+◌, ◌<◌, ◌≤◌, Bool, true, false, ◌||◌, zero, suc, List, []}
use Rattle.std.proofs.Common.{◌∷◌, length, Option, Some, None, MatchOption, cond, refl, ap, sym, ◌∙◌, subst, arith}
use Rattle.std.specs.Prelude.{slice_set}
use Rattle.std.specs.List.{Contains, slice_get}
use Rattle.std.specs.Str.{bytes_eq}
use Rattle.std.specs.HashMap.{HashMap}
use Rattle.std.proofs.lemmas.Bool.{cases_lt, cases_order, cases_Bool, false≢true, cond-true, cond-false, or_parts}
use Rattle.std.proofs.lemmas.Option.{slice_get_within, same_Some}
use Rattle.std.proofs.lemmas.Slice.Eq.{bytes_eq-Decides}
use Rattle.proto_visibility.specs.declared.files.FilePlace.{FilePlace}
use Rattle.proto_visibility.specs.declared.omissions.FileOmission.{FileOmission}
use Rattle.proto_visibility.specs.declared.omissions.FileOmission.TheVariants.{Duplicate}
use Rattle.proto_visibility.specs.Clashes.{BeforeBy, Item, ClashBy}
use Rattle.proto_visibility.specs.Kept.{Omissions, IsKeptFile, IsMetBy}
use Rattle.proto_visibility.specs.Tables.ClashTables.{AreInPlaceBy, clash_with, index_in}
use Rattle.proto_visibility.specs.Tables.Passes.{IsOutByClash, IsClashOmission, AreClashesOmitted, IsOpen, IsOpenAt}
use Rattle.proto_visibility.specs.Tables.Passes.{IsTold, ArePassed}
use Rattle.proto_visibility.specs.Tables.Passes.IsOutByClash.{by_clash}
use Rattle.proto_visibility.proofs.ClashLemmas.{IsOneWay, in_order_by, one_index_by, clash_at, no_clash_at, clash_by}
use Rattle.basics.proofs.FirstLemmas.{contained_at, contained}

-- ---- a list of which one entry is set

pub length_set : {X : Type 0} (xs : List X) (n : ℕ) (y : X) → length (slice_set xs n y) ≡ length xs
length_set [] n y = refl
length_set (x ∷ xs) zero y = refl
length_set (x ∷ xs) (suc n) y = omega (arith, length_set xs n y)

pub set_there : {X : Type 0} (xs : List X) (n : ℕ) (y : X) → n < length xs → slice_get (slice_set xs n y) n ≡ Some y
set_there [] n y h = absurd (omega arith)
set_there (x ∷ xs) zero y h = refl
set_there (x ∷ xs) (suc n) y h = set_there xs n y (omega arith)

pub set_elsewhere : {X : Type 0} (xs : List X) (n m : ℕ) (y : X) → (m ≡ n → ⊥)
    → slice_get (slice_set xs n y) m ≡ slice_get xs m
set_elsewhere [] n m y apart = refl
set_elsewhere (x ∷ xs) zero zero y apart = absurd (apart refl)
set_elsewhere (x ∷ xs) zero (suc m) y apart = refl
set_elsewhere (x ∷ xs) (suc n) zero y apart = refl
set_elsewhere (x ∷ xs) (suc n) (suc m) y apart = set_elsewhere xs n m y (λ same. apart (ap suc same))

same_item : (items : List Item) (k : ℕ) (a b : Item) → slice_get items k ≡ Some a → slice_get items k ≡ Some b → a ≡ b
same_item items k a b at there = same_Some a b (sym at ∙ there)

pub same_kept : (a b : Omissions) (n m : ℕ) → a ≡ b → n ≡ m → IsKeptFile a n → IsKeptFile b m
same_kept a b n m list number kept =
    ap (slice_get b) (sym number) ∙ (ap (λ (l : Omissions). slice_get l n) (sym list) ∙ kept)

same_at : (items : List Item) (j k : ℕ) (a b : Item) → j ≡ k → slice_get items j ≡ Some a → slice_get items k ≡ Some b
    → a ≡ b
same_at items j k a b same at there = same_Some a b (sym at ∙ (ap (slice_get items) same ∙ there))

or_false : (x y : Bool) → x ≡ false → y ≡ false → (x || y) ≡ false
or_false true y h e = h
or_false false y h e = e

-- a file is kept or left out
pub not_both : (fault : FileOmission) → Some None ≡ Some (Some fault) → ⊥
not_both fault e = none (same_Some {A = Option FileOmission} None (Some fault) e)
  where
    none : {f : FileOmission} → None ≡ Some f → ⊥
    none h = cc

module _ (Earlier : ℕ → ℕ → Type 0) (one_way : IsOneWay Earlier) (items : List Item)
    (placed : AreInPlaceBy Earlier items) where
  -- the file of an item is that of one behind it, or is taken before it
  not_behind : (j k : ℕ) (a b : Item) → j ≤ k → slice_get items j ≡ Some a → slice_get items k ≡ Some b
      → (a.place.file ≡ b.place.file) ⊎ Earlier a.place.file b.place.file
  not_behind j k a b h at there = elim (cases_order j k) [
    | inl same ↦ inl (ap (λ (x : Item). x.place.file) (same_at items j k a b same at there))
    | inr apart ↦ elim apart [
      | inl less ↦ by (placed j k a b less at there)
      | inr more ↦ absurd (omega arith)
    ]
  ]
    where
      by : BeforeBy Earlier a.place b.place → (a.place.file ≡ b.place.file) ⊎ Earlier a.place.file b.place.file
      by (inl earlier) = inr earlier
      by (inr same) = inl same.0

  module _ {S : Type 0} (start : Omissions) (count : ℕ) (omissions : Omissions) (names : HashMap (List ℕ) ℕ S)
      (item : Item)
      (at : slice_get items count ≡ Some item) (so_far : ArePassed Earlier items start count omissions names) where
    told_more : (number : ℕ) (fault : FileOmission) → IsKeptFile start number
        → slice_get omissions number ≡ Some (Some fault)
        → IsTold Earlier items (count + 1) omissions number fault
    told_more number fault kept out = let told = so_far.told number fault kept out in
        (told.0, told.1, omega (arith, told.2), told.3, told.4, told.5)

    -- the item's file is left out already
    pub pass_closed : (IsOpen omissions item → ⊥) → ArePassed Earlier items start (count + 1) omissions names
    pass_closed closed = record {
      size = so_far.size;
      stays = so_far.stays;
      told = told_more;
      clear = λ j k a b less within here there open_a open_b name. elim (cases_lt k count) [
        | inl before ↦ so_far.clear j k a b less before here there open_a open_b name
        | inr last ↦ absurd (closed
            (subst (IsOpen omissions) (same_at items k count b item (omega arith) there at) open_b))
      ];
      found = λ name k e. (let f = so_far.found name k e in (omega (arith, f.0), f.1));
      first = λ j other within here open_other. elim (cases_lt j count) [
        | inl before ↦ so_far.first j other before here open_other
        | inr last ↦ absurd (closed
            (subst (IsOpen omissions) (same_at items j count other item (omega arith) here at) open_other))
      ];
    }

    -- no item of an open file has its name
    pub pass_new : (new : HashMap (List ℕ) ℕ S) → IsOpen omissions item
        → ((k : ℕ) → index_in names item.full_name ≡ Some k → IsOpenAt items omissions k → ⊥)
        → ((name : List ℕ) → index_in new name
        ≡ cond (bytes_eq item.full_name name) (Some count) (index_in names name))
        → ArePassed Earlier items start (count + 1) omissions new
    pass_new new open_item none after = record {
      size = so_far.size;
      stays = so_far.stays;
      told = told_more;
      clear = λ j k a b less within here there open_a open_b name. elim (cases_lt k count) [
        | inl before ↦ so_far.clear j k a b less before here there open_a open_b name
        | inr last ↦ (
            let same = same_at items k count b item (omega arith) there at in
            absurd (not_before j a (omega arith) here open_a (name ∙ ap (λ (x : Item). x.full_name) same)))
      ];
      found = λ name k e. elim (cases_Bool (bytes_eq item.full_name name)) [
        | inl same ↦ (
            let is : Some count ≡ Some k =
            sym (after name ∙ cond-true (bytes_eq item.full_name name) (Some count) (index_in names name) same) ∙ e
            in
            let k_is = same_Some count k is in (
              omega arith,
              (
                item,
                subst (λ n. slice_get items n ≡ Some item) k_is at,
                (bytes_eq-Decides item.full_name name).0 same,
              ),
            ))
        | inr apart ↦ (
            let old = sym (after name
            ∙ cond-false (bytes_eq item.full_name name) (Some count) (index_in names name) apart) ∙ e in
            let f = so_far.found name k old in (omega (arith, f.0), f.1))
      ];
      first = λ j other within here open_other. elim (cases_lt j count) [
        | inl before ↦ (
            let f = so_far.first j other before here open_other in
            elim (cases_Bool (bytes_eq item.full_name other.full_name)) [
              | inl same ↦ absurd (not_before j other before here open_other
                  (sym ((bytes_eq-Decides item.full_name other.full_name).0 same)))
              | inr apart ↦ (
                f.0,
                after other.full_name
                    ∙ (cond-false (bytes_eq item.full_name other.full_name) (Some count)
                    (index_in names other.full_name) apart ∙ f.1),
                f.2,
                f.3,
              )
            ])
        | inr last ↦ (
            let same = same_at items j count other item (omega arith) here at in
            let told = after item.full_name
            ∙ cond-true (bytes_eq item.full_name item.full_name) (Some count) (index_in names item.full_name)
            ((bytes_eq-Decides item.full_name item.full_name).1 refl) in
            (count, ap (λ (x : Item). index_in new x.full_name) same ∙ told, omega arith, (item, at, open_item)))
      ];
    }
      where
        not_before : (j : ℕ) (a : Item) → j < count → slice_get items j ≡ Some a → IsOpen omissions a
            → a.full_name ≡ item.full_name → ⊥
        not_before j a before here open_a name =
            let f = so_far.first j a before here open_a in
            none f.0 (sym (ap (index_in names) name) ∙ f.1) f.3

    module _ (k : ℕ) (known : index_in names item.full_name ≡ Some k) (open_k : IsOpenAt items omissions k)
        (open_item : IsOpen omissions item) where
      -- it is the first of its name
      k_first : (j : ℕ) (a : Item) → j < count → slice_get items j ≡ Some a → IsOpen omissions a
          → a.full_name ≡ item.full_name → k ≤ j
      k_first j a before here open_a name =
          let f = so_far.first j a before here open_a in
          let same : f.0 ≡ k = same_Some f.0 k (sym f.1 ∙ (ap (index_in names) name ∙ known)) in
          omega (arith, f.2)

      k_name : open_k.0.full_name ≡ item.full_name
      k_name =
          let f = so_far.found item.full_name k known in
          ap (λ (x : Item). x.full_name) (same_item items k open_k.0 f.1.0 open_k.1 f.1.1) ∙ f.1.2

      k_before : k < count
      k_before = (so_far.found item.full_name k known).0

      -- it doesn't clash with the item
      pub pass_known : ((place : FilePlace) → clash_with items (Some k) item ≡ Some place → ⊥)
          → ArePassed Earlier items start (count + 1) omissions names
      pass_known missing = record {
        size = so_far.size;
        stays = so_far.stays;
        told = told_more;
        clear = λ i l a b less within here there open_a open_b name. elim (cases_lt l count) [
          | inl before ↦ so_far.clear i l a b less before here there open_a open_b name
          | inr last ↦ (
              let same = same_at items l count b item (omega arith) there at in
              let named = name ∙ ap (λ (x : Item). x.full_name) same in
              subst (λ (x : Item). (a.is_declaration || x.is_declaration) ≡ false) (sym same)
              (neither i a (omega arith) here open_a named))
        ];
        found = λ name l e. (let f = so_far.found name l e in (omega (arith, f.0), f.1));
        first = λ j other within here open_other. elim (cases_lt j count) [
          | inl before ↦ so_far.first j other before here open_other
          | inr last ↦ (
              let same = same_at items j count other item (omega arith) here at in
              (k, ap (λ (x : Item). index_in names x.full_name) same ∙ known, omega (arith, k_before), open_k))
        ];
      }
        where
          parts : (open_k.0.is_declaration ≡ false) × (item.is_declaration ≡ false)
          parts = or_parts open_k.0.is_declaration item.is_declaration
              (no_clash_at items item k open_k.0 missing open_k.1)

          neither : (j : ℕ) (a : Item) → j < count → slice_get items j ≡ Some a → IsOpen omissions a
              → a.full_name ≡ item.full_name → (a.is_declaration || item.is_declaration) ≡ false
          neither j a before here open_a name = or_false a.is_declaration item.is_declaration (elim (cases_order k j) [
            | inl equal ↦ sym (ap (λ (x : Item). x.is_declaration) (same_at items k j open_k.0 a equal open_k.1 here))
                ∙ parts.0
            | inr apart ↦ elim apart [
              | inl later ↦ (or_parts open_k.0.is_declaration a.is_declaration
                  (so_far.clear k j open_k.0 a later before open_k.1 here open_k.2 open_a (k_name ∙ sym name))).1
              | inr earlier ↦ absurd (omega (arith, k_first j a before here open_a name))
            ]
          ]) parts.1

      -- it clashes with the item, whose file is left out
      module _ (place : FilePlace) (clashes : clash_with items (Some k) item ≡ Some place) where
        abbrev fault : FileOmission
        fault = Duplicate place item.place

        abbrev new : Omissions
        new = slice_set omissions item.place.file (Some fault)

        out_there : slice_get new item.place.file ≡ Some (Some fault)
        out_there = set_there omissions item.place.file (Some fault)
            (slice_get_within omissions item.place.file None open_item)

        elsewhere : (n : ℕ) → (n ≡ item.place.file → ⊥) → slice_get new n ≡ slice_get omissions n
        elsewhere n apart = set_elsewhere omissions item.place.file n (Some fault) apart

        not_kept : (n : ℕ) → n ≡ item.place.file → IsKeptFile new n → ⊥
        not_kept n same kept = not_both fault (sym kept ∙ (ap (slice_get new) same ∙ out_there))

        kept_before : (n : ℕ) → IsKeptFile new n → IsKeptFile omissions n
        kept_before n kept = sym (elsewhere n (λ same. not_kept n same kept)) ∙ kept

        kept_after : (n : ℕ) → (n ≡ item.place.file → ⊥) → IsKeptFile omissions n → IsKeptFile new n
        kept_after n apart kept = elsewhere n apart ∙ kept

        -- what comes before the item's file, or before one that comes before it, isn't the item's file
        not_its : (n m : ℕ) → (n ≡ item.place.file) ⊎ Earlier n item.place.file → Earlier m n → m ≡ item.place.file → ⊥
        not_its n m (inl here) earlier same =
            let itself = subst (Earlier item.place.file) here (subst (λ k. Earlier k n) same earlier) in
            one_way item.place.file item.place.file itself itself
        not_its n m (inr before) earlier same =
            one_way item.place.file n (subst (λ k. Earlier k n) same earlier) before

        -- what a file up to this one meets, it still meets
        still_met : (n : ℕ) → (n ≡ item.place.file) ⊎ Earlier n item.place.file → (x : Item)
            → IsMetBy (Contains items) Earlier omissions n x ↔ IsMetBy (Contains items) Earlier new n x
        still_met n h x = (
          λ is. record {
            is_item = is.is_item;
            meets = elim is.meets [
              | inl own ↦ inl own
              | inr before ↦ inr
                  (before.0, kept_after x.place.file (λ same. not_its n x.place.file h before.0 same) before.1)
            ];
          },
          λ is. record {
            is_item = is.is_item;
            meets = elim is.meets [
              | inl own ↦ inl own
              | inr before ↦ inr
                  (before.0, kept_before x.place.file before.1)
            ];
          },
        )

        met_open : (x : Item) → IsMetBy (Contains items) Earlier new item.place.file x → IsOpen omissions x
        met_open x is = elim is.meets [
          | inl own ↦ subst (IsKeptFile omissions) (sym own) open_item
          | inr before ↦ kept_before
              x.place.file before.1
        ]

        met_now : (x : Item) (j : ℕ) → slice_get items j ≡ Some x
            → (x.place.file ≡ item.place.file) ⊎ Earlier x.place.file item.place.file → IsOpen omissions x
            → IsMetBy (Contains items) Earlier new item.place.file x
        met_now x j here h open_x = record {
          is_item = contained items j x here;
          meets = elim h [
            | inl same ↦ inl same
            | inr earlier ↦ inr (
              earlier,
              kept_after x.place.file (λ same. not_its item.place.file x.place.file (inl refl) earlier same) open_x,
            )
          ];
        }

        first_clash : ClashBy (BeforeBy Earlier) (IsMetBy (Contains items) Earlier new item.place.file) place item.place
        first_clash =
            let c = clash_at items (Some k) item place clashes in
            let k_is = same_Some k c.0 c.2 in
            let a_is = same_at items k c.0 open_k.0 c.1 k_is open_k.1 c.3 in
            record {
              earlier = open_k.0;
              later = item;
              exclude = record {
                first_is = met_now open_k.0 k open_k.1
                    (not_behind k count open_k.0 item (omega (arith, k_before)) open_k.1 at) open_k.2;
                second_is = met_now item count at (inl refl) open_item;
                ordered = placed k count open_k.0 item k_before open_k.1 at;
                one_name = k_name;
                declares = subst (λ (x : Item). (x.is_declaration || item.is_declaration) ≡ true) (sym a_is) c.5;
              };
              first_is = ap (λ (x : Item). x.place) a_is ∙ c.4;
              second_is = refl;
              least_second = λ a b e before.
                  let ja = contained_at items a e.first_is.is_item in
                  let jb = contained_at items b e.second_is.is_item in
                  let prefix = in_order_by Earlier one_way items placed jb.0 count b item jb.1 at before in
                  let order = in_order_by Earlier one_way items placed ja.0 jb.0 a b ja.1 jb.1 e.ordered in
                  false≢true (sym (so_far.clear ja.0 jb.0 a b order prefix ja.1 jb.1 (met_open a e.first_is)
                  (met_open b e.second_is) e.one_name) ∙ e.declares);
              least_first = λ a b e here before.
                  let ja = contained_at items a e.first_is.is_item in
                  let jb = contained_at items b e.second_is.is_item in
                  let is_last = one_index_by Earlier one_way items placed jb.0 count b item jb.1 at here in
                  let equal = same_at items jb.0 count b item is_last jb.1 at in
                  let k_place = sym (ap (λ (x : Item). x.place) a_is ∙ c.4) in
                  let prefix = in_order_by Earlier one_way items placed ja.0 k a open_k.0 ja.1 open_k.1
                  (subst (λ p. BeforeBy Earlier a.place p) k_place before) in
                  let named = e.one_name ∙ ap (λ (x : Item). x.full_name) equal in
                  omega (
                    arith,
                    prefix,
                    k_before,
                    k_first ja.0 a (omega (arith, prefix, k_before)) ja.1 (met_open a e.first_is) named,
                  );
            }

        pub pass_omitted : ArePassed Earlier items start (count + 1) new names
        pass_omitted = record {
          size = length_set omissions item.place.file (Some fault) ∙ so_far.size;
          stays = λ number other out.
              let was = so_far.stays number other out in
              elsewhere number (λ same. not_both other (sym open_item ∙ (ap (slice_get omissions) (sym same) ∙ was)))
              ∙ was;
          told = λ number other kept out. elim (cases_order number item.place.file) [
            | inl same ↦ (
                let is : fault ≡ other =
                one_fault fault other (sym out_there ∙ (ap (slice_get new) (sym same) ∙ out)) in
                let here : IsOutByClash Earlier (Contains items) new number fault =
                by_clash (subst (λ n. ClashBy (BeforeBy Earlier) (IsMetBy (Contains items) Earlier new n) place item.place)
                (sym same) first_clash) in (
                  count,
                  item,
                  omega arith,
                  at,
                  sym same,
                  subst (IsOutByClash Earlier (Contains items) new number) is here,
                ))
            | inr apart ↦ (
                let was = sym (elsewhere number (λ same. unequal number item.place.file apart same)) ∙ out in
                let t = so_far.told number other kept was in
                let low = subst (λ n. (n ≡ item.place.file) ⊎ Earlier n item.place.file) t.4
                (not_behind t.0 count t.1 item (omega (arith, t.2)) t.3 at) in (
                  t.0,
                  t.1,
                  omega (arith, t.2),
                  t.3,
                  t.4,
                  omitted_by number other (still_met number low) t.5,
                ))
          ];
          clear = λ j l a b less within here there open_a open_b name. elim (cases_lt l count) [
            | inl before ↦ so_far.clear j l a b less before here there (kept_before a.place.file open_a)
                (kept_before b.place.file open_b) name
            | inr last ↦ absurd (closed l b (omega arith) there open_b)
          ];
          found = λ name l e. (let f = so_far.found name l e in (omega (arith, f.0), f.1));
          first = λ j other within here open_other. elim (cases_lt j count) [
            | inl before ↦ (
                let f = so_far.first j other before here (kept_before other.place.file open_other) in
                let low = not_behind f.0 j f.3.0 other f.2 f.3.1 here in
                let high = not_behind j count other item (omega arith) here at in (
                  f.0,
                  f.1,
                  f.2,
                  (
                    f.3.0,
                    f.3.1,
                    kept_after f.3.0.place.file
                        (λ same. between f.3.0.place.file other.place.file low high open_other same) f.3.2,
                  ),
                ))
            | inr last ↦ absurd (closed j other (omega arith) here open_other)
          ];
        }
          where
            -- a file that is kept isn't between two places of the item's
            between : (n m : ℕ) → (n ≡ m) ⊎ Earlier n m → (m ≡ item.place.file) ⊎ Earlier m item.place.file
                → IsKeptFile new m → n ≡ item.place.file → ⊥
            between n m low (inl here) kept same = not_kept m here kept
            between n m (inl is) (inr later) kept same = not_kept m (sym is ∙ same) kept
            between n m (inr earlier) (inr later) kept same =
                one_way item.place.file m (subst (λ k. Earlier k m) same earlier) later

            one_fault : (a b : FileOmission) → Some (Some a) ≡ Some (Some b) → a ≡ b
            one_fault a b e = cc

            unequal : (a b : ℕ) → (a < b) ⊎ (b < a) → a ≡ b → ⊥
            unequal a b (inl h) e = omega arith
            unequal a b (inr h) e = omega arith

            closed : (l : ℕ) (b : Item) → l ≡ count → slice_get items l ≡ Some b → IsOpen new b → ⊥
            closed l b same there open_b =
                not_kept b.place.file (ap (λ (x : Item). x.place.file) (same_at items l count b item same there at))
                open_b

            omitted_by : (n : ℕ) (f : FileOmission)
                → ((x : Item) → IsMetBy (Contains items) Earlier omissions n x
                ↔ IsMetBy (Contains items) Earlier new n x)
                → IsOutByClash Earlier (Contains items) omissions n f → IsOutByClash Earlier (Contains items) new n f
            omitted_by n _ same (by_clash {first = first} {second = second} h) =
                by_clash (clash_by same first second h)

      -- whether it clashes or not
      pub pass_met : (new : Omissions) (clash : Option FilePlace) → clash_with items (Some k) item ≡ clash
          → MatchOption clash (new ≡ omissions)
          (λ place. new ≡ slice_set omissions item.place.file (Some (Duplicate place item.place)))
          → ArePassed Earlier items start (count + 1) new names
      pass_met new None missing same =
          subst (λ (os : Omissions). ArePassed Earlier items start (count + 1) os names) (sym same)
          (pass_known (λ place e. no_place place (sym missing ∙ e)))
        where
          no_place : (place : FilePlace) → None ≡ Some place → ⊥
          no_place place e = cc
      pass_met new (Some place) clashes same =
          subst (λ (os : Omissions). ArePassed Earlier items start (count + 1) os names) (sym same) (pass_omitted place clashes)

  -- after all items
  pub passed_all : {S : Type 0} (start : Omissions) (count : ℕ) (omissions : Omissions)
      (names : HashMap (List ℕ) ℕ S) → length items ≤ count → ArePassed Earlier items start count omissions names
      → AreClashesOmitted Earlier items start omissions
  passed_all start count omissions names all so_far = record {
    size = so_far.size;
    stays = so_far.stays;
    told = λ number omission kept out. by number omission kept out;
  }
    where
      by : (number : ℕ) (omission : Option FileOmission) → IsKeptFile start number
          → slice_get omissions number ≡ Some omission
          → IsClashOmission Earlier (Contains items) omissions number omission
      by number (Some fault) kept out = (so_far.told number fault kept out).5
      by number None kept out = λ a b e.
          let ja = contained_at items a e.first_is.is_item in
          let jb = contained_at items b e.second_is.is_item in
          let order = in_order_by Earlier one_way items placed ja.0 jb.0 a b ja.1 jb.1 e.ordered in
          let within = slice_get_within items jb.0 b jb.1 in
          false≢true (sym (so_far.clear ja.0 jb.0 a b order (omega arith) ja.1 jb.1 (opened a e.first_is)
          (opened b e.second_is) e.one_name) ∙ e.declares)
        where
          opened : (x : Item) → IsMetBy (Contains items) Earlier omissions number x → IsOpen omissions x
          opened x is = elim is.meets [ inl own ↦ subst (IsKeptFile omissions) (sym own) out | inr before ↦ before.1 ]

-- beyond the last item there is nothing to pass
pub passed_within : {S : Type 0} (Earlier : ℕ → ℕ → Type 0) (items : List Item) (start : Omissions) (count : ℕ)
    (omissions : Omissions) (names : HashMap (List ℕ) ℕ S) → length items ≤ count
    → ArePassed Earlier items start count omissions names → ArePassed Earlier items start (length items) omissions names
passed_within Earlier items start count omissions names all so_far = record {
  size = so_far.size;
  stays = so_far.stays;
  told = λ number fault kept out.
      let t = so_far.told number fault kept out in
      (t.0, t.1, slice_get_within items t.0 t.1 t.3, t.3, t.4, t.5);
  clear = λ j k a b less within here there open_a open_b name.
      so_far.clear j k a b less (omega arith) here there open_a open_b name;
  found = λ name k e.
      let f = so_far.found name k e in (slice_get_within items k f.1.0 f.1.1, f.1);
  first = λ j item within here open_item. so_far.first j item (omega arith) here open_item;
}

-- before any item
pub none_passed : {S : Type 0} (Earlier : ℕ → ℕ → Type 0) (items : List Item) (start : Omissions)
    (names : HashMap (List ℕ) ℕ S) → ((name : List ℕ) → index_in names name ≡ None)
    → ArePassed Earlier items start 0 start names
none_passed Earlier items start names empty = record {
  size = refl;
  stays = λ number fault out. out;
  told = λ number fault kept out. absurd (not_both fault (sym kept ∙ out));
  clear = λ j k a b less within here there open_a open_b name. absurd (omega arith);
  found = λ name k e. absurd (no_index k (sym (empty name) ∙ e));
  first = λ j other within here open_other. absurd (omega arith);
}
  where
    no_index : (k : ℕ) → None ≡ Some k → ⊥
    no_index k e = cc
