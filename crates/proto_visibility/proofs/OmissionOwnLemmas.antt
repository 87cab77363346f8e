-- What is left out where each file is a namespace of its own.
use Rattle.std.proofs.Common.{◌≡◌, ◌↔◌, ◌⊎◌, inl, inr, ℕ, ◌<◌, List, [], ◌∷◌, ◌++◌, length, Option, Some, None, refl}
use Rattle.std.proofs.Common.{MatchOption}
use Rattle.std.proofs.Common.{ap, sym, ◌∙◌, subst, arith}
use Rattle.std.specs.Prelude.{slice_set}
use Rattle.std.specs.List.{Contains, slice_get}
use Rattle.std.proofs.lemmas.Bool.{cases_order}
use Rattle.std.proofs.lemmas.Option.{slice_get_within, same_Some}
use Rattle.std.proofs.lemmas.List.Elements.{Contains-append_left, Contains-push, Contains-push_cases}
use Rattle.proto_visibility.specs.declared.clash.Duplicates.TheVariants.{Keep}
use Rattle.proto_visibility.specs.declared.files.FilePlace.{FilePlace}
use Rattle.proto_visibility.specs.declared.omissions.FileOmission.{FileOmission}
use Rattle.proto_visibility.specs.declared.omissions.FileOmission.TheVariants.{Broken, Duplicate}
use Rattle.proto_visibility.specs.Files.{File, IsSource}
use Rattle.proto_visibility.specs.Clashes.{Before, Item, IsOwnItem, Excludes, ClashBy, NoClashBy}
use Rattle.proto_visibility.specs.Absences.{IsUnreadBy}
use Rattle.proto_visibility.specs.Kept.{Omissions, IsKeptFile, AreAllKept, IsCounted, IsTakenBefore, Precedes, IsMet}
use Rattle.proto_visibility.specs.Kept.{IsOmission, AreOmissions}
use Rattle.proto_visibility.specs.Kept.IsCounted.{is_source, is_reached}
use Rattle.proto_visibility.specs.Tables.FileItems.{IsItemIn}
use Rattle.proto_visibility.specs.Tables.Passes.{AreUnreadOmitted, AreOwnClashesOmitted, IsOwnClashOmitted, IsOwnStep}
use Rattle.proto_visibility.proofs.ClashLemmas.{clash_by, no_clash_by}
use Rattle.proto_visibility.proofs.DuplicateLemmas.{own_items}
use Rattle.proto_visibility.proofs.ItemAllLemmas.{counts_of, item_counts}
use Rattle.proto_visibility.proofs.KeptOrderLemmas.{source_or_not, taken_one_way}
use Rattle.proto_visibility.proofs.OmissionPassLemmas.{kept_of_all}
use Rattle.proto_visibility.proofs.PassLemmas.{length_set, set_elsewhere, set_there}

-- ---- the files of a row that have a clash

pub none_own : (files : List File) (omissions : Omissions) → AreOwnClashesOmitted files [] omissions omissions
none_own files omissions = record {
  size = refl;
  each = λ number. inr ((λ there. absurd (omega (arith, there.1))), refl);
}

module _ (files : List File) (row : List ℕ) (number : ℕ) (file : File) (stands : slice_get files number ≡ Some file)
    (old now new : Omissions) (within : number < length now) (so_far : AreOwnClashesOmitted files row old now) where
  stays_so : (other : ℕ) → slice_get new other ≡ slice_get now other
      → (Contains (row ++ number ∷ []) other → Contains row other ⊎ NoClashBy Before (IsOwnItem files other))
      → IsOwnClashOmitted files (row ++ number ∷ []) old new other
  stays_so other same back = elim (so_far.each other) [
    | inl out ↦ inl (out.0, out.1, Contains-append_left row (number ∷ []) other out.2, out.3, same ∙ out.4)
    | inr kept ↦ inr (
      λ there. elim (back there) [ inl before ↦ kept.0 before | inr none ↦ none ],
      same ∙ kept.1,
    )
  ]

  own_more : (first second : FilePlace) → ClashBy Before (IsItemIn number file) first second
      → new ≡ slice_set now number (Some (Duplicate first second))
      → AreOwnClashesOmitted files (row ++ number ∷ []) old new
  own_more first second clash is = record {
    size = ap length is ∙ (length_set now number (Some (Duplicate first second)) ∙ so_far.size);
    each = λ other. elim (cases_order other number) [
      | inl same ↦ inl (
        first,
        second,
        subst (Contains (row ++ number ∷ [])) (sym same) (Contains-push row number),
        subst (λ n. ClashBy Before (IsOwnItem files n) first second) (sym same)
            (clash_by (own_items files number file stands) first second clash),
        ap (slice_get new) same ∙ (ap (λ (os : Omissions). slice_get os number) is
            ∙ set_there now number (Some (Duplicate first second)) within),
      )
      | inr apart ↦ (
          let differ : other ≡ number → ⊥ = λ same. unequal other number apart same in
          stays_so other (ap (λ (os : Omissions). slice_get os other) is
          ∙ set_elsewhere now number other (Some (Duplicate first second)) differ)
          (λ there. elim (Contains-push_cases row number other there) [
            | inl before ↦ inl before
            | inr last ↦ absurd (differ (sym last))
          ]))
    ];
  }
    where
      unequal : (a b : ℕ) → (a < b) ⊎ (b < a) → a ≡ b → ⊥
      unequal a b (inl h) e = omega arith
      unequal a b (inr h) e = omega arith

  own_same : NoClashBy Before (IsItemIn number file) → new ≡ now → AreOwnClashesOmitted files (row ++ number ∷ []) old new
  own_same none is = record {
    size = ap length is ∙ so_far.size;
    each = λ other. stays_so other (ap (λ (os : Omissions). slice_get os other) is)
        (λ there. elim (Contains-push_cases row number other there) [
          | inl before ↦ inl before
          | inr last ↦ inr (subst (λ n. NoClashBy Before (IsOwnItem files n)) last
              (no_clash_by (own_items files number file stands) none))
        ]);
  }

  pub own_next : IsOwnStep (IsItemIn number file) number now new → AreOwnClashesOmitted files (row ++ number ∷ []) old new
  own_next (inl out) = own_more out.0 out.1 out.2 out.3
  own_next (inr stays) = own_same stays.0 stays.1

pub own_step : (IsItem : Item → Type 0) (number : ℕ) (old new : Omissions) (clash : Option (FilePlace × FilePlace))
    → MatchOption clash (NoClashBy Before IsItem) (λ places. ClashBy Before IsItem places.0 places.1)
    → MatchOption clash (new ≡ old) (λ places. new ≡ slice_set old number (Some (Duplicate places.0 places.1)))
    → IsOwnStep IsItem number old new
own_step IsItem number old new None none is = inr (none, is)
own_step IsItem number old new (Some places) clash is = inl (places.0, places.1, clash, is)

-- ---- an order of files has no say in one file

module _ {B C : FilePlace → FilePlace → Type 0} {I J : Item → Type 0} (same : (item : Item) → I item ↔ J item)
    (number : ℕ) (own : (item : Item) → I item → item.place.file ≡ number)
    (to : (a b : FilePlace) → a.file ≡ b.file → B a b → C a b)
    (from : (a b : FilePlace) → a.file ≡ b.file → C a b → B a b) where
  one_file : (a b : Item) → I a → I b → a.place.file ≡ b.place.file
  one_file a b a_is b_is = own a a_is ∙ sym (own b b_is)

  excludes_to : (a b : Item) → Excludes B I a b → Excludes C J a b
  excludes_to a b e = record {
    first_is = (same a).0 e.first_is;
    second_is = (same b).0 e.second_is;
    ordered = to a.place b.place (one_file a b e.first_is e.second_is) e.ordered;
    one_name = e.one_name;
    declares = e.declares;
  }

  excludes_from : (a b : Item) → Excludes C J a b → Excludes B I a b
  excludes_from a b e = record {
    first_is = (same a).1 e.first_is;
    second_is = (same b).1 e.second_is;
    ordered = from a.place b.place (one_file a b ((same a).1 e.first_is) ((same b).1 e.second_is)) e.ordered;
    one_name = e.one_name;
    declares = e.declares;
  }

  pub no_clash_in : NoClashBy B I → NoClashBy C J
  no_clash_in none a b e = none a b (excludes_from a b e)

  pub clash_in : (first second : FilePlace) → ClashBy B I first second → ClashBy C J first second
  clash_in first second clash = record {
    earlier = clash.earlier;
    later = clash.later;
    exclude = excludes_to clash.earlier clash.later clash.exclude;
    first_is = clash.first_is;
    second_is = clash.second_is;
    least_second = λ a b e before. clash.least_second a b (excludes_from a b e)
        (from b.place second (at b (excludes_from a b e).second_is clash.later clash.exclude.second_is second
        clash.second_is) before);
    least_first = λ a b e last before. clash.least_first a b (excludes_from a b e) last
        (from a.place first (at a (excludes_from a b e).first_is clash.earlier clash.exclude.first_is first
        clash.first_is) before);
  }
    where
      at : (a : Item) → I a → (b : Item) → I b → (place : FilePlace) → b.place ≡ place → a.place.file ≡ place.file
      at a a_is b b_is place is = one_file a b a_is b_is ∙ ap (λ (p : FilePlace). p.file) is

order_to : (files : List File) (a b : FilePlace) → a.file ≡ b.file → Before a b → Precedes files a b
order_to files a b same (inl less) = absurd (omega (arith, same, less))
order_to files a b same (inr start) = inr start

order_from : (files : List File) (a b : FilePlace) → a.file ≡ b.file → Precedes files a b → Before a b
order_from files a b same (inl taken) =
    let back : IsTakenBefore files b.file a.file =
    subst (λ n. IsTakenBefore files n a.file) same (subst (IsTakenBefore files a.file) (sym same) taken) in
    absurd (taken_one_way files a.file b.file taken back)
order_from files a b same (inr start) = inr start

-- ---- the four steps

-- what the code has made: nothing is left out; the sources without facts are; those with a clash; the other files
-- without facts; and those of them that have a clash
module _ (files : List File) (sources others : List ℕ) (none start passed open_ omissions : Omissions)
    (are_sources : (number : ℕ) → Contains sources number ↔ IsSource files number)
    (size : length none ≡ length files) (all : AreAllKept none)
    (unread : AreUnreadOmitted files sources none start)
    (own : AreOwnClashesOmitted files sources start passed)
    (are_others : (number : ℕ) → Contains others number
    ↔ (IsCounted files passed number × (IsSource files number → ⊥)))
    (unread_others : AreUnreadOmitted files others passed open_)
    (own_others : AreOwnClashesOmitted files others open_ omissions) where
  sizes : length omissions ≡ length files
  sizes = own_others.size ∙ (unread_others.size ∙ (own.size ∙ (unread.size ∙ size)))

  -- of sources nothing changes behind the second step
  source_stays : (number : ℕ) → IsSource files number → slice_get omissions number ≡ slice_get passed number
  source_stays number is = last ∙ before
    where
      no_other : Contains others number → ⊥
      no_other there = ((are_others number).0 there).1 is

      last : slice_get omissions number ≡ slice_get open_ number
      last = elim (own_others.each number) [ inl out ↦ absurd (no_other out.2) | inr kept ↦ kept.1 ]

      before : slice_get open_ number ≡ slice_get passed number
      before = elim (unread_others.each number) [ inl out ↦ absurd (no_other out.0.counts) | inr kept ↦ kept.1 ]

  -- so the same files count
  counted_to : (number : ℕ) → IsCounted files passed number → IsCounted files omissions number
  counted_to number (is_source is) = is_source is
  counted_to number (is_reached {source = source} is kept reaches present) =
      is_reached is (source_stays source is ∙ kept) reaches present

  counted_from : (number : ℕ) → IsCounted files omissions number → IsCounted files passed number
  counted_from number (is_source is) = is_source is
  counted_from number (is_reached {source = source} is kept reaches present) =
      is_reached is (sym (source_stays source is) ∙ kept) reaches present

  source_counts : (number : ℕ) → Contains sources number → IsCounted files omissions number
  source_counts number there = is_source ((are_sources number).0 there)

  other_counts : (number : ℕ) → Contains others number → IsCounted files omissions number
  other_counts number there = counted_to number ((are_others number).0 there).0

  -- a file that counts is a source or one of the others
  either : (number : ℕ) → IsCounted files omissions number → Contains sources number ⊎ Contains others number
  either number counts = elim (source_or_not files number) [
    | inl is ↦ inl ((are_sources number).1 is)
    | inr isnt ↦ inr ((are_others number).1 (counted_from number counts, isnt))
  ]

  -- what a file meets are its own items
  met_own : (number : ℕ) → IsCounted files omissions number → (item : Item)
      → IsOwnItem files number item ↔ IsMet Keep files omissions number item
  met_own number counts item = (
    λ is. record {
      is_item = item_counts item (λ own. subst (IsCounted files omissions) (sym own) counts) is;
      meets = inl (counts_of item is);
    },
    λ met. item_counts item (λ counted. elim met.meets [ inl own ↦ own | inr before ↦ absurd before.0 ]) met.is_item,
  )

  clash_told : (number : ℕ) (first second : FilePlace) → IsCounted files omissions number
      → ClashBy Before (IsOwnItem files number) first second
      → ClashBy (Precedes files) (IsMet Keep files omissions number) first second
  clash_told number first second counts =
      clash_in (met_own number counts) number (λ item is. counts_of item is) (order_to files) (order_from files) first second

  no_clash_told : (number : ℕ) → (IsCounted files omissions number → NoClashBy Before (IsOwnItem files number))
      → NoClashBy (Precedes files) (IsMet Keep files omissions number)
  no_clash_told number none a b e =
      let counts : IsCounted files omissions number = elim e.first_is.meets [
        | inl own ↦ subst (IsCounted files omissions) own (counts_of a e.first_is.is_item)
        | inr before ↦ absurd before.0
      ] in
      no_clash_in (met_own number counts) number (λ item is. counts_of item is) (order_to files) (order_from files)
      (none counts) a b e

  unread_told : (number : ℕ) (row : List ℕ) → (Contains row number → IsCounted files omissions number)
      → IsUnreadBy files (Contains row) number → IsUnreadBy files (IsCounted files omissions) number
  unread_told number row counts is = record {
    file = is.file;
    counts = counts is.counts;
    numbered = is.numbered;
    unread = is.unread;
  }

  unread_in : (number : ℕ) (row : List ℕ) → Contains row number → IsUnreadBy files (IsCounted files omissions) number
      → IsUnreadBy files (Contains row) number
  unread_in number row there is = record {
    file = is.file;
    counts = there;
    numbered = is.numbered;
    unread = is.unread;
  }

  one : (number : ℕ) (a b : Option FileOmission) → slice_get omissions number ≡ Some a
      → slice_get omissions number ≡ Some b → a ≡ b
  one number a b at there = same_Some a b (sym at ∙ there)

  -- a file that is kept in all four steps
  kept_told : (number : ℕ) → (IsUnreadBy files (Contains sources) number → ⊥)
      → (Contains sources number → NoClashBy Before (IsOwnItem files number))
      → (IsUnreadBy files (Contains others) number → ⊥)
      → (Contains others number → NoClashBy Before (IsOwnItem files number)) → IsOmission Keep files omissions number None
  kept_told number read clear others_read others_clear = (
    λ is. elim (either number is.counts) [
      | inl source ↦ read (unread_in number sources source is)
      | inr other ↦ others_read (unread_in number others other is)
    ],
    no_clash_told number (λ counts. elim (either number counts) [
      | inl source ↦ clear source
      | inr other ↦ others_clear other
    ]),
  )

  told : (number : ℕ) (omission : Option FileOmission) → slice_get omissions number ≡ Some omission
      → IsOmission Keep files omissions number omission
  told number omission at = elim (own_others.each number) [
    | inl out ↦ subst (IsOmission Keep files omissions number)
        (one number (Some (Duplicate out.0 out.1)) omission out.4 at)
        (clash_told number out.0 out.1 (other_counts number out.2) out.3)
    | inr last ↦ elim (unread_others.each number) [
      | inl out ↦ subst (IsOmission Keep files omissions number)
          (one number (Some Broken) omission (last.1 ∙ out.1) at)
          (unread_told number others (other_counts number) out.0)
      | inr third ↦ elim (own.each number) [
        | inl out ↦ subst (IsOmission Keep files omissions number)
            (one number (Some (Duplicate out.0 out.1)) omission (last.1 ∙ (third.1 ∙ out.4)) at)
            (clash_told number out.0 out.1 (source_counts number out.2) out.3)
        | inr second ↦ elim (unread.each number) [
          | inl out ↦ subst (IsOmission Keep files omissions number)
              (one number (Some Broken) omission (last.1 ∙ (third.1 ∙ (second.1 ∙ out.1))) at)
              (unread_told number sources (source_counts number) out.0)
          | inr first ↦ (
              let kept : IsKeptFile omissions number =
              last.1 ∙ (third.1 ∙ (second.1 ∙ (first.1 ∙ kept_of_all none number all (inside number omission at)))) in
              subst (IsOmission Keep files omissions number) (one number None omission kept at)
              (kept_told number first.0 second.0 third.0 last.0))
        ]
      ]
    ]
  ]
    where
      inside : (k : ℕ) (o : Option FileOmission) → slice_get omissions k ≡ Some o → k < length none
      inside k o there =
          let within = slice_get_within omissions k o there in omega (arith, within, sizes, size)

  pub are_own_omissions : AreOmissions Keep files omissions
  are_own_omissions = record { one_each = sizes; each = told }
