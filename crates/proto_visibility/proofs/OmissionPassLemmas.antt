-- What is left out of the sources, and then of the other files that kept ones see.
use Rattle.std.proofs.Common.{◌≡◌, ◌↔◌, ◌⊎◌, inl, inr, ℕ, ◌<◌, true, ◌||◌, zero, suc, List, [], ◌∷◌, ◌++◌, length}
use Rattle.std.proofs.Common.{Option, Some, None, refl, ap, sym, ◌∙◌, subst, arith}
use Rattle.std.specs.List.{Contains, slice_get}
use Rattle.std.specs.HashMap.{HashMap}
use Rattle.std.proofs.lemmas.Bool.{false≢true}
use Rattle.std.proofs.lemmas.Option.{slice_get_within, slice_get-get_or, same_Some}
use Rattle.std.proofs.lemmas.List.Elements.{Contains-append_left, Contains-append_right, Contains-append_cases}
use Rattle.basics.proofs.FirstLemmas.{contained, contained_at}
use Rattle.proto_visibility.specs.declared.clash.Duplicates.TheVariants.{Refuse}
use Rattle.proto_visibility.specs.declared.omissions.FileOmission.{FileOmission}
use Rattle.proto_visibility.specs.declared.omissions.FileOmission.TheVariants.{Broken, Duplicate}
use Rattle.proto_visibility.specs.Files.{File, IsSource}
use Rattle.proto_visibility.specs.Clashes.{BeforeBy, Item, IsItemBy}
use Rattle.proto_visibility.specs.Absences.{IsUnreadBy}
use Rattle.proto_visibility.specs.Kept.{Omissions, IsKeptFile, AreAllKept, IsCounted, IsTakenBefore, IsMetBy}
use Rattle.proto_visibility.specs.Kept.{IsOmission, AreOmissions}
use Rattle.proto_visibility.specs.Kept.IsCounted.{is_source, is_reached}
use Rattle.proto_visibility.specs.Tables.ClashTables.{AreInPlace, AreInPlaceBy, index_in}
use Rattle.proto_visibility.specs.Tables.Passes.{AreUnreadOmitted, IsOutByClash, IsClashOmission, AreClashesOmitted}
use Rattle.proto_visibility.specs.Tables.Passes.{ArePassed, IsOpen}
use Rattle.proto_visibility.specs.Tables.Passes.IsOutByClash.{by_clash}
use Rattle.proto_visibility.proofs.ClashLemmas.{clash_by, in_order_by, no_clash_by}
use Rattle.proto_visibility.proofs.SeeingLemmas.{slice_get_prefix}
use Rattle.proto_visibility.proofs.ItemAllLemmas.{counts_of, item_counts}
use Rattle.proto_visibility.proofs.KeptOrderLemmas.{source_or_not, taken_one_way, before_source}
use Rattle.proto_visibility.proofs.OmissionLemmas.{both_in_place, sources_in_place}
use Rattle.proto_visibility.proofs.PassLemmas.{none_passed, not_both, passed_all}

-- ---- the passes over the items of the sources, and of the others

pub kept_of_all : (omissions : Omissions) (number : ℕ) → AreAllKept omissions → number < length omissions
    → IsKeptFile omissions number
kept_of_all omissions number all within =
    slice_get-get_or omissions number None within ∙ ap Some (all number None within)

pub all_kept : (omissions : Omissions) (number : ℕ) (out : FileOmission) → AreAllKept omissions
    → slice_get omissions number ≡ Some (Some out) → ⊥
all_kept omissions number out all at =
    not_both out (sym (kept_of_all omissions number all (slice_get_within omissions number (Some out) at)) ∙ at)

-- of two lists that are as long, one has no more than the other
pub never_missing : {X Y : Type 0} (xs : List X) (ys : List Y) (k : ℕ) (x : X) → length xs ≡ length ys
    → slice_get xs k ≡ Some x → slice_get ys k ≡ None → ⊥
never_missing [] ys k x size at missing = cc
never_missing (x ∷ xs) [] k y size at missing = omega (arith, size)
never_missing (x ∷ xs) (y ∷ ys) zero z size at missing = cc
never_missing (x ∷ xs) (y ∷ ys) (suc k) z size at missing =
    never_missing xs ys k z (omega (arith, size)) at missing

pub kept_or_out : (o : Option (Option FileOmission)) → (o ≡ None) ⊎ ((o ≡ Some None)
    ⊎ ((out : FileOmission) × (o ≡ Some (Some out))))
kept_or_out None = inl refl
kept_or_out (Some None) = inr (inl refl)
kept_or_out (Some (Some out)) = inr (inr (out, refl))

-- a pass over items, from one index up to another
abbrev pub Passes : {S : Type 0} → List Item → (from to : ℕ) → (old : Omissions) → HashMap (List ℕ) ℕ S
    → (new : Omissions) → HashMap (List ℕ) ℕ S → Type 0
Passes items from to old names new more = (files : List File) → AreInPlaceBy (IsTakenBefore files) items
    → (start : Omissions) → ArePassed (IsTakenBefore files) items start from old names
    → ArePassed (IsTakenBefore files) items start to new more

-- the pass over the items of the sources, with the items by another name
pub first_pass : {S : Type 0} (files : List File) (sources : List ℕ) (items : List Item) (start passed : Omissions)
    (empty names : HashMap (List ℕ) ℕ S) → ((number : ℕ) → Contains sources number ↔ IsSource files number)
    → ((item : Item) → Contains items item ↔ IsItemBy files (Contains sources) item) → AreInPlace items
    → empty.entries ≡ [] → (slice : List Item) → slice ≡ items → Passes slice 0 (length slice) start empty passed names
    → ArePassed (IsTakenBefore files) items start (length items) passed names
first_pass {S} files sources items start passed empty names are_sources source_items placed none slice same passes =
    let its = subst (λ (xs : List Item). Passes xs 0 (length xs) start empty passed names) same passes in
    its files (sources_in_place files items placed of_source) start
    (none_passed (IsTakenBefore files) items start empty (λ name. by name empty none))
  where
    of_source : (item : Item) → Contains items item → IsSource files item.place.file
    of_source item there = (are_sources item.place.file).0 (counts_of item ((source_items item).0 there))

    by : (name : List ℕ) (map : HashMap (List ℕ) ℕ S) → map.entries ≡ [] → index_in map name ≡ None
    by name map none = rw none refl

-- the pass over all items, with them by another name
pub second_pass : {S : Type 0} (files : List File) (both slice : List Item) (count from : ℕ) (open_ omissions : Omissions)
    (names more : HashMap (List ℕ) ℕ S) → slice ≡ both → count ≡ from
    → Passes slice count (length slice) open_ names omissions more
    → AreInPlaceBy (IsTakenBefore files) both → (start : Omissions)
    → ArePassed (IsTakenBefore files) both start from open_ names
    → ArePassed (IsTakenBefore files) both start (length both) omissions more
second_pass files both slice count from open_ omissions names more same counted passes placed start begun =
    let its = subst (λ (xs : List Item). Passes xs count (length xs) open_ names omissions more) same passes in
    let here = subst (λ n. Passes both n (length both) open_ names omissions more) counted its in
    here files placed start begun

-- what the code has made: nothing is left out; the sources without facts are; those with a clash; the other files without
-- facts; and all that have a clash
module _ {S : Type 0} (files : List File) (sources others : List ℕ) (items more : List Item)
    (none start passed open_ omissions : Omissions) (names more_names : HashMap (List ℕ) ℕ S)
    (are_sources : (number : ℕ) → Contains sources number ↔ IsSource files number)
    (size : length none ≡ length files) (all : AreAllKept none)
    (unread : AreUnreadOmitted files sources none start)
    (source_items : (item : Item) → Contains items item ↔ IsItemBy files (Contains sources) item)
    (placed : AreInPlace items)
    (pass : ArePassed (IsTakenBefore files) items start (length items) passed names)
    (are_others : (number : ℕ) → Contains others number
    ↔ (IsCounted files passed number × (IsSource files number → ⊥)))
    (unread_others : AreUnreadOmitted files others passed open_)
    (other_items : (item : Item) → Contains more item ↔ IsItemBy files (Contains others) item)
    (other_placed : AreInPlace more)
    (other_pass : AreInPlaceBy (IsTakenBefore files) (items ++ more) → (from : Omissions)
    → ArePassed (IsTakenBefore files) (items ++ more) from (length items) open_ names
    → ArePassed (IsTakenBefore files) (items ++ more) from (length (items ++ more)) omissions more_names) where
  of_source : (item : Item) → Contains items item → IsSource files item.place.file
  of_source item there = (are_sources item.place.file).0 (counts_of item ((source_items item).0 there))

  of_other : (item : Item) → Contains more item → IsSource files item.place.file → ⊥
  of_other item there = ((are_others item.place.file).0 (counts_of item ((other_items item).0 there))).1

  whole : AreInPlaceBy (IsTakenBefore files) (items ++ more)
  whole = both_in_place files items more placed other_placed of_source of_other

  -- those of sources are of the first pass
  source_item : (item : Item) → Contains (items ++ more) item → IsSource files item.place.file → Contains items item
  source_item item there is = elim (Contains-append_cases items more item there) [
    | inl front ↦ front
    | inr behind ↦ absurd (of_other item behind is)
  ]

  -- the other files without facts are none of the sources
  source_open : (number : ℕ) → IsSource files number → slice_get open_ number ≡ slice_get passed number
  source_open number is = elim (unread_others.each number) [
    | inl out ↦ absurd (((are_others number).0 out.0.counts).1 is)
    | inr kept ↦ kept.1
  ]

  -- the first pass is one over the first of all items, too
  front : (k : ℕ) (item : Item) → k < length items → slice_get (items ++ more) k ≡ Some item
      → slice_get items k ≡ Some item
  front k item within at = sym (slice_get_prefix items more k within) ∙ at

  open_passed : (k : ℕ) (item : Item) → slice_get items k ≡ Some item → IsOpen open_ item → IsOpen passed item
  open_passed k item at is = sym (source_open item.place.file (of_source item (contained items k item at))) ∙ is

  passed_open : (k : ℕ) (item : Item) → slice_get items k ≡ Some item → IsOpen passed item → IsOpen open_ item
  passed_open k item at is = source_open item.place.file (of_source item (contained items k item at)) ∙ is

  begun : ArePassed (IsTakenBefore files) (items ++ more) open_ (length items) open_ names
  begun = record {
    size = refl;
    stays = λ number out at. at;
    told = λ number out kept at. absurd (not_both out (sym kept ∙ at));
    clear = λ j k a b less within here there open_a open_b name.
        let a_at = front j a (omega arith) here in
        let b_at = front k b within there in
        pass.clear j k a b less within a_at b_at (open_passed j a a_at open_a) (open_passed k b b_at open_b) name;
    found = λ name k e.
        let f = pass.found name k e in
        (f.0, (f.1.0, slice_get_prefix items more k f.0 ∙ f.1.1, f.1.2));
    first = λ j item within here is.
        let at = front j item within here in
        let f = pass.first j item within at (open_passed j item at is) in
        let inside = slice_get_within items f.0 f.3.0 f.3.1 in (
          f.0,
          f.1,
          f.2,
          (f.3.0, slice_get_prefix items more f.0 inside ∙ f.3.1, passed_open f.0 f.3.0 f.3.1 f.3.2),
        );
  }

  ended : ArePassed (IsTakenBefore files) (items ++ more) open_ (length (items ++ more)) omissions more_names
  ended = other_pass whole open_ begun

  first_clashes : AreClashesOmitted (IsTakenBefore files) items start passed
  first_clashes = passed_all (IsTakenBefore files) (taken_one_way files) items
      (sources_in_place files items placed of_source) start (length items) passed names (omega arith) pass

  clashes : AreClashesOmitted (IsTakenBefore files) (items ++ more) open_ omissions
  clashes = passed_all (IsTakenBefore files) (taken_one_way files) (items ++ more) whole open_
      (length (items ++ more)) omissions more_names (omega arith) ended

  sizes : length omissions ≡ length files
  sizes = clashes.size ∙ (unread_others.size ∙ (first_clashes.size ∙ (unread.size ∙ size)))

  -- what is kept in the end was kept before
  still_kept : (number : ℕ) → IsKeptFile omissions number → IsKeptFile open_ number
  still_kept number kept = elim (kept_or_out (slice_get open_ number)) [
    | inl missing ↦ absurd (never_missing omissions open_ number None clashes.size kept missing)
    | inr there ↦ elim there [
      | inl is ↦ is
      | inr out ↦ absurd (not_both out.0 (sym kept ∙ clashes.stays number out.0 out.1))
    ]
  ]

  -- what a source meets in the end are items of open sources
  met_item : (number : ℕ) → IsSource files number → (item : Item)
      → IsMetBy (Contains (items ++ more)) (IsTakenBefore files) omissions number item → Contains items item
  met_item number is item met = source_item item met.is_item (elim met.meets [
    | inl own ↦ subst (IsSource files) (sym own) is
    | inr before ↦ (before_source files item.place.file number before.0 is).0
  ])

  -- no source is left out later
  source_stays : (number : ℕ) → IsSource files number → IsKeptFile open_ number → IsKeptFile omissions number
  source_stays number is kept = elim (kept_or_out (slice_get omissions number)) [
    | inl missing ↦ absurd (never_missing open_ omissions number None (sym clashes.size) kept missing)
    | inr there ↦ elim there [
      | inl stays ↦ stays
      | inr out ↦ absurd (by (ended.told number out.0 kept out.1).5)
    ]
  ]
    where
      is_open : (item : Item) → IsMetBy (Contains (items ++ more)) (IsTakenBefore files) omissions number item
          → IsOpen open_ item
      is_open item met = elim met.meets [
        | inl own ↦ subst (IsKeptFile open_) (sym own) kept
        | inr before ↦ still_kept item.place.file before.1
      ]

      by : {out : FileOmission}
          → IsOutByClash (IsTakenBefore files) (Contains (items ++ more)) omissions number out → ⊥
      by (by_clash {first = first} {second = second} clash) =
          let e = clash.exclude in
          let a = contained_at items clash.earlier (met_item number is clash.earlier e.first_is) in
          let b = contained_at items clash.later (met_item number is clash.later e.second_is) in
          let a_open = open_passed a.0 clash.earlier a.1 (is_open clash.earlier e.first_is) in
          let b_open = open_passed b.0 clash.later b.1 (is_open clash.later e.second_is) in
          clear_pair a.0 b.0 clash.earlier clash.later a.1 b.1 a_open b_open e.one_name e.ordered e.declares
        where
          clear_pair : (j k : ℕ) (x y : Item) → slice_get items j ≡ Some x → slice_get items k ≡ Some y
              → IsOpen passed x → IsOpen passed y → x.full_name ≡ y.full_name
              → BeforeBy (IsTakenBefore files) x.place y.place → (x.is_declaration || y.is_declaration) ≡ true → ⊥
          clear_pair j k x y x_at y_at x_open y_open name before declares =
              let order = in_order_by (IsTakenBefore files) (taken_one_way files) items
              (sources_in_place files items placed of_source) j k x y x_at y_at before in
              false≢true (sym (pass.clear j k x y order (slice_get_within items k y y_at) x_at y_at x_open y_open name)
              ∙ declares)

  source_kept : (number : ℕ) → IsSource files number → IsKeptFile passed number ↔ IsKeptFile omissions number
  source_kept number is = (
    λ kept. source_stays number is (source_open number is ∙ kept),
    λ kept. sym (source_open number is) ∙ still_kept number kept,
  )

  -- so the same files count
  counted : (number : ℕ) → IsCounted files passed number ↔ IsCounted files omissions number
  counted number = (to, from)
    where
      to : IsCounted files passed number → IsCounted files omissions number
      to (is_source is) = is_source is
      to (is_reached {source = source} is kept reaches present) =
          is_reached is ((source_kept source is).0 kept) reaches present

      from : IsCounted files omissions number → IsCounted files passed number
      from (is_source is) = is_source is
      from (is_reached {source = source} is kept reaches present) =
          is_reached is ((source_kept source is).1 kept) reaches present

  all_items : (item : Item) → Contains (items ++ more) item ↔ IsItemBy files (IsCounted files omissions) item
  all_items item = (
    λ there. elim (Contains-append_cases items more item there) [
      | inl early ↦ item_counts item (λ counts. is_source ((are_sources item.place.file).0 counts))
          ((source_items item).0 early)
      | inr late ↦ item_counts item
          (λ counts. (counted item.place.file).0 ((are_others item.place.file).0 counts).0) ((other_items item).0 late)
    ],
    λ is. elim (source_or_not files item.place.file) [
      | inl source ↦ Contains-append_left items more item
          ((source_items item).1 (item_counts item (λ counts. (are_sources item.place.file).1 source) is))
      | inr isnt ↦ Contains-append_right items more item
          ((other_items item).1 (item_counts item
          (λ counts. (are_others item.place.file).1 ((counted item.place.file).1 counts, isnt)) is))
    ],
  )

  met : (number : ℕ) (item : Item) → IsMetBy (Contains (items ++ more)) (IsTakenBefore files) omissions number item
      ↔ IsMetBy (IsItemBy files (IsCounted files omissions)) (IsTakenBefore files) omissions number item
  met number item = (
    λ m. record { is_item = (all_items item).0 m.is_item; meets = m.meets },
    λ m. record { is_item = (all_items item).1 m.is_item; meets = m.meets },
  )

  unread_counted : (number : ℕ) → IsUnreadBy files (IsCounted files omissions) number
      → IsUnreadBy files (Contains sources) number ⊎ IsUnreadBy files (Contains others) number
  unread_counted number is = elim (source_or_not files number) [
    | inl source ↦ inl (record {
      file = is.file;
      counts = (are_sources number).1 source;
      numbered = is.numbered;
      unread = is.unread;
    })
    | inr isnt ↦ inr (record {
      file = is.file;
      counts = (are_others number).1 ((counted number).1 is.counts, isnt);
      numbered = is.numbered;
      unread = is.unread;
    })
  ]

  -- a file that is open before the second pass has facts if it counts
  read : (number : ℕ) → IsKeptFile open_ number → IsUnreadBy files (IsCounted files omissions) number → ⊥
  read number kept is = elim (unread_counted number is) [
    | inl source ↦ elim (unread.each number) [
      | inl out ↦ (
          let there = first_clashes.stays number Broken out.1 in
          let open_there = source_open number ((are_sources number).0 source.counts) ∙ there in
          not_both Broken (sym kept ∙ open_there))
      | inr stays ↦ stays.0 source
    ]
    | inr other ↦ elim (unread_others.each number) [
      | inl out ↦ not_both Broken (sym kept ∙ out.1)
      | inr stays ↦ stays.0 other
    ]
  ]

  by_both : (number : ℕ) (omission : Option FileOmission) → IsKeptFile open_ number
      → IsClashOmission (IsTakenBefore files) (Contains (items ++ more)) omissions number omission
      → IsOmission Refuse files omissions number omission
  by_both number None kept is = (read number kept, no_clash_by (met number) is)
  by_both number (Some Broken) kept is = elim is [ ]
  by_both number (Some (Duplicate first second)) kept (by_clash is) = clash_by (met number) first second is

  -- what a source meets in the first pass, and in the end
  met_first : (number : ℕ) → IsSource files number → (item : Item)
      → IsMetBy (Contains items) (IsTakenBefore files) passed number item
      ↔ IsMetBy (IsItemBy files (IsCounted files omissions)) (IsTakenBefore files) omissions number item
  met_first number is item = (
    λ m. record {
      is_item = (all_items item).0 (Contains-append_left items more item m.is_item);
      meets = elim m.meets [
        | inl own ↦ inl own
        | inr before ↦ inr (
          before.0,
          (source_kept item.place.file (before_source files item.place.file number before.0 is).0).0 before.1,
        )
      ];
    },
    λ m. record {
      is_item = met_item number is item (record { is_item = (all_items item).1 m.is_item; meets = m.meets });
      meets = elim m.meets [
        | inl own ↦ inl own
        | inr before ↦ inr (
          before.0,
          (source_kept item.place.file (before_source files item.place.file number before.0 is).0).1 before.1,
        )
      ];
    },
  )

  by_first : (number : ℕ) (out : FileOmission) → IsSource files number
      → IsOutByClash (IsTakenBefore files) (Contains items) passed number out → IsOmission Refuse files omissions number (Some out)
  by_first number _ is (by_clash {first = first} {second = second} clash) =
      clash_by (met_first number is) first second clash

  counts_as_source : (number : ℕ) → IsUnreadBy files (Contains sources) number
      → IsUnreadBy files (IsCounted files omissions) number
  counts_as_source number is = record {
    file = is.file;
    counts = is_source ((are_sources number).0 is.counts);
    numbered = is.numbered;
    unread = is.unread;
  }

  -- a file that is left out by the first pass
  out_first : (number : ℕ) (out : FileOmission) → slice_get passed number ≡ Some (Some out)
      → IsOmission Refuse files omissions number (Some out)
  out_first number out at = elim (kept_or_out (slice_get start number)) [
    | inl missing ↦ absurd (never_missing passed start number (Some out) first_clashes.size at missing)
    | inr there ↦ elim there [
      | inl kept ↦ (
          let told = pass.told number out kept at in
          let source = subst (IsSource files) told.4 (of_source told.1 (contained items told.0 told.1 told.3)) in
          by_first number out source told.5)
      | inr begins ↦ elim (unread.each number) [
        | inl is ↦ (
            let broken : Broken ≡ begins.0 = one_out Broken begins.0 (sym is.1 ∙ begins.1) in
            let same : begins.0 ≡ out = one_out begins.0 out (sym (first_clashes.stays number begins.0 begins.1) ∙ at)
            in
            subst (λ o. IsOmission Refuse files omissions number (Some o)) (broken ∙ same) (counts_as_source number is.0))
        | inr stays ↦ absurd (all_kept none number begins.0 all (sym stays.1 ∙ begins.1))
      ]
    ]
  ]
    where
      one_out : (a b : FileOmission) → Some (Some a) ≡ Some (Some b) → a ≡ b
      one_out a b e = cc

  -- a file that is left out before the second pass
  out_open : (number : ℕ) (out : FileOmission) → slice_get open_ number ≡ Some (Some out)
      → IsOmission Refuse files omissions number (Some out)
  out_open number out at = elim (unread_others.each number) [
    | inl is ↦ subst (λ o. IsOmission Refuse files omissions number (Some o)) (one_out Broken out (sym is.1 ∙ at)) (record {
      file = is.0.file;
      counts = (counted number).0 ((are_others number).0 is.0.counts).0;
      numbered = is.0.numbered;
      unread = is.0.unread;
    })
    | inr stays ↦ out_first number out (sym stays.1 ∙ at)
  ]
    where
      one_out : (a b : FileOmission) → Some (Some a) ≡ Some (Some b) → a ≡ b
      one_out a b e = cc

  pub are_omissions : AreOmissions Refuse files omissions
  are_omissions = record {
    one_each = sizes;
    each = λ number omission at. elim (kept_or_out (slice_get open_ number)) [
      | inl missing ↦ absurd (never_missing omissions open_ number omission clashes.size at missing)
      | inr there ↦ elim there [
        | inl kept ↦ by_both number omission kept (clashes.told number omission kept at)
        | inr out ↦ (
            let same : Some out.0 ≡ omission =
            same_Some (Some out.0) omission (sym (clashes.stays number out.0 out.1) ∙ at) in
            subst (IsOmission Refuse files omissions number) same (out_open number out.0 out.1))
      ]
    ];
  }
