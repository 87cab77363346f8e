-- The files without facts are left out; what kept sources reach; and the order of all items.
use Rattle.std.proofs.Common.{◌≡◌, ◌↔◌, ◌⊎◌, inl, inr, ℕ, ◌<◌, Bool, true, false, not, ◌&&◌, List, [], ◌∷◌, ◌++◌, length}
use Rattle.std.proofs.Common.{Option, Some, None, ◌+◌, get_or, take, refl, ap, sym, ◌∙◌, subst, arith}
use Rattle.std.specs.Prelude.{slice_set}
use Rattle.std.specs.List.{Contains, filter, slice_get}
use Rattle.std.proofs.lemmas.Bool.{and_parts, cases_order, false≢true, not-true}
use Rattle.std.proofs.lemmas.Option.{slice_get_within, slice_get-get_or, same_Some}
use Rattle.std.proofs.lemmas.List.Elements.{Contains-append_left, Contains-push, Contains-push_cases}
use Rattle.basics.proofs.FirstLemmas.{contained, take_next}
use Rattle.proto_decl.specs.Facts.{Facts}
use Rattle.proto_visibility.specs.declared.omissions.FileOmission.TheVariants.{Broken}
use Rattle.proto_visibility.specs.Files.{File, IsPresent, IsSource}
use Rattle.proto_visibility.specs.Reaches.{LinksOptions, Reaches}
use Rattle.proto_visibility.specs.Clashes.{Before, BeforeBy, Item}
use Rattle.proto_visibility.specs.Absences.{IsUnreadBy}
use Rattle.proto_visibility.specs.Kept.{Omissions, IsCounted, IsKeptFile, IsTakenBefore}
use Rattle.proto_visibility.specs.Kept.IsCounted.{is_source, is_reached}
use Rattle.proto_visibility.specs.Kept.IsTakenBefore.{of_sources, source_first, of_others}
use Rattle.proto_visibility.specs.Tables.ClashTables.{AreInPlace, AreInPlaceBy}
use Rattle.proto_visibility.specs.Tables.ImportTables.{is_other, is_other_at}
use Rattle.proto_visibility.specs.Tables.OptionTables.{IsLinkingSource}
use Rattle.proto_visibility.specs.Tables.Passes.{AreUnreadOmitted, IsUnreadOmitted, IsKeptSource}
use Rattle.proto_visibility.proofs.SeeingReachableLemmas.{filtered}
use Rattle.proto_visibility.proofs.ItemAllLemmas.{in_place_both}
use Rattle.proto_visibility.proofs.PassLemmas.{length_set, set_elsewhere, set_there}

-- ---- files without facts

pub none_unread : (files : List File) (omissions : Omissions) → AreUnreadOmitted files [] omissions omissions
none_unread files omissions = record {
  size = refl;
  each = λ number. inr ((λ unread. absurd (omega (arith, unread.counts.1))), refl);
}

has_facts_or_not : (file : File) → (file.facts ≡ None) ⊎ (file.facts ≡ None → ⊥)
has_facts_or_not file = by file.facts refl
  where
    by : (o : Option Facts) → file.facts ≡ o → (file.facts ≡ None) ⊎ (file.facts ≡ None → ⊥)
    by None at = inl at
    by (Some facts) at = inr (λ none. something facts (sym none ∙ at))
      where
        something : {X : Type 0} (x : X) → None ≡ Some x → ⊥
        something x e = cc

module _ (files : List File) (row : List ℕ) (number : ℕ) (file : File) (stands : slice_get files number ≡ Some file)
    (old now new : Omissions) (within : number < length now) (so_far : AreUnreadOmitted files row old now) where
  more_row : (other : ℕ) → IsUnreadBy files (Contains row) other → IsUnreadBy files (Contains (row ++ number ∷ [])) other
  more_row other is = record {
    file = is.file;
    counts = Contains-append_left row (number ∷ []) other is.counts;
    numbered = is.numbered;
    unread = is.unread;
  }

  -- of a file that isn't at hand
  elsewhere : (other : ℕ) → (other ≡ number → ⊥) → IsUnreadBy files (Contains (row ++ number ∷ [])) other
      → IsUnreadBy files (Contains row) other
  elsewhere other apart is = record {
    file = is.file;
    counts = elim (Contains-push_cases row number other is.counts) [
      | inl before ↦ before
      | inr last ↦ absurd (apart (sym last))
    ];
    numbered = is.numbered;
    unread = is.unread;
  }

  stays_so : (other : ℕ) → slice_get new other ≡ slice_get now other
      → (IsUnreadBy files (Contains (row ++ number ∷ [])) other → IsUnreadBy files (Contains row) other)
      → IsUnreadOmitted files (row ++ number ∷ []) old new other
  stays_so other same back = elim (so_far.each other) [
    | inl out ↦ inl (more_row other out.0, same ∙ out.1)
    | inr kept ↦ inr ((λ is. kept.0 (back is)), same ∙ kept.1)
  ]

  pub unread_more : file.facts ≡ None → new ≡ slice_set now number (Some Broken)
      → AreUnreadOmitted files (row ++ number ∷ []) old new
  unread_more unread is = record {
    size = ap length is ∙ (length_set now number (Some Broken) ∙ so_far.size);
    each = λ other. elim (cases_order other number) [
      | inl same ↦ inl (
        record {
          file = file;
          counts = subst (Contains (row ++ number ∷ [])) (sym same) (Contains-push row number);
          numbered = ap (slice_get files) same ∙ stands;
          unread = unread;
        },
        ap (slice_get new) same
            ∙ (ap (λ (os : Omissions). slice_get os number) is ∙ set_there now number (Some Broken) within),
      )
      | inr apart ↦ (
          let differ : other ≡ number → ⊥ = λ same. unequal other number apart same in
          stays_so other (ap (λ (os : Omissions). slice_get os other) is
          ∙ set_elsewhere now number other (Some Broken) differ) (elsewhere other differ))
    ];
  }
    where
      unequal : (a b : ℕ) → (a < b) ⊎ (b < a) → a ≡ b → ⊥
      unequal a b (inl h) e = omega arith
      unequal a b (inr h) e = omega arith

  pub unread_same : (file.facts ≡ None → ⊥) → new ≡ now → AreUnreadOmitted files (row ++ number ∷ []) old new
  unread_same known is = record {
    size = ap length is ∙ so_far.size;
    each = λ other. stays_so other (ap (λ (os : Omissions). slice_get os other) is) (back other);
  }
    where
      back : (other : ℕ) → IsUnreadBy files (Contains (row ++ number ∷ [])) other
          → IsUnreadBy files (Contains row) other
      back other is = elsewhere other (λ same.
          let one : is.file ≡ file = same_Some is.file file (sym is.numbered ∙ (ap (slice_get files) same ∙ stands)) in
          known (ap (λ (f : File). f.facts) (sym one) ∙ is.unread)) is

  pub unread_next : (file.facts ≡ None → new ≡ slice_set now number (Some Broken))
      → ((file.facts ≡ None → ⊥) → new ≡ now) → AreUnreadOmitted files (row ++ number ∷ []) old new
  unread_next out stays = elim (has_facts_or_not file) [
    | inl unread ↦ unread_more unread (out unread)
    | inr known ↦ unread_same known (stays known)
  ]

-- ---- what kept sources reach

other_from : (files : List File) (number : ℕ) → is_other_at files number ≡ true
    → IsPresent files number × (IsSource files number → ⊥)
other_from files number is = by (slice_get files number) refl is
  where
    by : (o : Option File) → slice_get files number ≡ o → is_other o ≡ true
        → IsPresent files number × (IsSource files number → ⊥)
    by None at is = absurd (false≢true is)
    by (Some file) at is =
        let parts = and_parts (not file.is_left_out) file.is_included is in (
          record { file = file; numbered = at; present = not-true file.is_left_out parts.0 },
          λ source.
              let same : source.file ≡ file = same_Some source.file file (sym source.numbered ∙ at) in
              false≢true (sym source.source ∙ (ap (λ (f : File). f.is_included) same ∙ parts.1)),
        )

to_other : (files : List File) (number : ℕ) → IsPresent files number → (IsSource files number → ⊥)
    → is_other_at files number ≡ true
to_other files number is isnt = ap is_other is.numbered ∙ by is.file.is_included refl
  where
    by : (included : Bool) → is.file.is_included ≡ included → (not is.file.is_left_out && is.file.is_included) ≡ true
    by true e = rw is.present (rw e refl)
    by false e = absurd (isnt (record { file = is.file; numbered = is.numbered; source = e; present = is.present }))

pub kept_source_within : (files : List File) (omissions : Omissions) (number : ℕ) → IsKeptSource files omissions number
    → number < length files
kept_source_within files omissions number is = slice_get_within files number is.0.file is.0.numbered

pub counted_within : (files : List File) (omissions : Omissions) (number : ℕ) → IsCounted files omissions number
    → number < length files
counted_within files omissions number (is_source is) = slice_get_within files number is.file is.numbered
counted_within files omissions number (is_reached is kept reaches present) =
    slice_get_within files number present.file present.numbered

pub reached_others : (files : List File) (omissions : Omissions) (numbers others : List ℕ)
    → ((number : ℕ) → Contains numbers number
    ↔ ((source : ℕ) × IsKeptSource files omissions source × Reaches files source number))
    → others ≡ filter (is_other_at files) numbers
    → (number : ℕ) → Contains others number
    ↔ (IsCounted files omissions number × (IsSource files number → ⊥))
reached_others files omissions numbers others all are_others number = (
  λ there. (
      let its = (filtered (is_other_at files) numbers others are_others number).0 there in
      let from = (all number).0 its.0 in
      let other = other_from files number its.1 in
      (is_reached from.1.0 from.1.1 from.2 other.0, other.1)),
  λ is. by is.0 is.1,
)
  where
    by : IsCounted files omissions number → (IsSource files number → ⊥) → Contains others number
    by (is_source is) isnt = absurd (isnt is)
    by (is_reached {source = source} is kept reaches present) isnt =
        (filtered (is_other_at files) numbers others are_others number).1
        ((all number).1 (source, (is, kept), reaches), to_other files number present isnt)

-- those of some files that are kept
abbrev pub IsAmong : Omissions → (numbers kept : List ℕ) → Type 0
IsAmong omissions numbers kept = (number : ℕ) → Contains kept number
    ↔ (Contains numbers number × IsKeptFile omissions number)

-- the sources that are kept, of those whose options are linked
pub kept_linking : (files : List File) (omissions : Omissions) (linking kept : List ℕ)
    → ((number : ℕ) → Contains linking number ↔ IsLinkingSource files number)
    → IsAmong omissions linking kept
    → (number : ℕ) → Contains kept number ↔ (IsKeptSource files omissions number × LinksOptions files number)
kept_linking files omissions linking kept links are number = (
  λ there. (
      let its = (are number).0 there in
      let is = (links number).0 its.0 in
      ((is.0, its.1), is.1)),
  λ is. (are number).1 ((links number).1 (is.0.0, is.1), is.0.1),
)

pub among_none : (omissions : Omissions) (kept : List ℕ) → kept ≡ [] → IsAmong omissions [] kept
among_none omissions kept none number = (
  λ there. (let size = ap length none in absurd (omega (arith, there.1, size))),
  λ is. absurd (omega (arith, is.0.1)),
)

module _ (omissions : Omissions) (numbers kept more : List ℕ) (k : ℕ) (within : k < length numbers)
    (so_far : IsAmong omissions (take k numbers) kept)
  where
    abbrev pub one : ℕ
    one = get_or numbers k 0

    next : take (k + 1) numbers ≡ take k numbers ++ one ∷ []
    next = take_next numbers k one (slice_get-get_or numbers k 0 within)

    pub among_skip : (IsKeptFile omissions one → ⊥) → IsAmong omissions (take (k + 1) numbers) kept
    among_skip isnt number = (
      λ there. (
          let its = (so_far number).0 there in (
            subst (λ xs. Contains xs number) (sym next)
                (Contains-append_left (take k numbers) (one ∷ []) number its.0),
            its.1,
          )),
      λ is. elim (Contains-push_cases (take k numbers) one number (subst (λ xs. Contains xs number) next is.0)) [
        | inl before ↦ (so_far number).1 (before, is.1)
        | inr last ↦ absurd (isnt (subst (IsKeptFile omissions) (sym last) is.1))
      ],
    )

    pub among_more : IsKeptFile omissions one → more ≡ kept ++ one ∷ [] → IsAmong omissions (take (k + 1) numbers) more
    among_more kept_one is number = (
      λ there. elim (Contains-push_cases kept one number (subst (λ xs. Contains xs number) is there)) [
        | inl before ↦ (
            let its = (so_far number).0 before in (
              subst (λ xs. Contains xs number) (sym next)
                  (Contains-append_left (take k numbers) (one ∷ []) number its.0),
              its.1,
            ))
        | inr last ↦ (
          subst (λ xs. Contains xs number) (sym next)
              (subst (Contains (take k numbers ++ one ∷ [])) last (Contains-push (take k numbers) one)),
          subst (IsKeptFile omissions) last kept_one,
        )
      ],
      λ both. subst (λ xs. Contains xs number) (sym is)
          (elim (Contains-push_cases (take k numbers) one number (subst (λ xs. Contains xs number) next both.0)) [
            | inl before ↦ Contains-append_left kept (one ∷ []) number ((so_far number).1 (before, both.1))
            | inr last ↦ subst (Contains (kept ++ one ∷ [])) last (Contains-push kept one)
          ]),
    )

-- ---- the order of all items

pub both_in_place : (files : List File) (items more : List Item) → AreInPlace items → AreInPlace more
    → ((item : Item) → Contains items item → IsSource files item.place.file)
    → ((item : Item) → Contains more item → IsSource files item.place.file → ⊥)
    → AreInPlaceBy (IsTakenBefore files) (items ++ more)
both_in_place files items more first second are_sources are_others =
    in_place_both (IsTakenBefore files) items more
    (λ j k a b less at there. by_sources a b (contained items j a at) (contained items k b there)
    (first j k a b less at there))
    (λ j k a b less at there. by_others a b (contained more j a at) (contained more k b there)
    (second j k a b less at there))
    (λ a b a_in b_in. inl (source_first (are_sources a a_in) (are_others b b_in)))
  where
    by_sources : (a b : Item) → Contains items a → Contains items b → Before a.place b.place
        → BeforeBy (IsTakenBefore files) a.place b.place
    by_sources a b a_in b_in (inl less) = inl (of_sources (are_sources a a_in) (are_sources b b_in) less)
    by_sources a b a_in b_in (inr same) = inr same

    by_others : (a b : Item) → Contains more a → Contains more b → Before a.place b.place
        → BeforeBy (IsTakenBefore files) a.place b.place
    by_others a b a_in b_in (inl less) = inl (of_others (are_others a a_in) (are_others b b_in) less)
    by_others a b a_in b_in (inr same) = inr same

pub sources_in_place : (files : List File) (items : List Item) → AreInPlace items
    → ((item : Item) → Contains items item → IsSource files item.place.file)
    → AreInPlaceBy (IsTakenBefore files) items
sources_in_place files items placed are_sources j k a b less at there = by (placed j k a b less at there)
  where
    by : Before a.place b.place → BeforeBy (IsTakenBefore files) a.place b.place
    by (inl first) =
        inl (of_sources (are_sources a (contained items j a at)) (are_sources b (contained items k b there)) first)
    by (inr same) = inr same
