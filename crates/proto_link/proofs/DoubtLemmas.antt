-- Lists of uncertain uses.
use Rattle.std.proofs.Common.{◌≡◌, ◌↔◌, inl, inr, ℕ, ◌+◌, ◌<◌, ◌≤◌, Bool, true, false, not, List, [], ◌∷◌, ◌++◌, length}
use Rattle.std.proofs.Common.{Option, Some, None, get_or, refl, ap, sym, ◌∙◌, subst, arith}
use Rattle.std.specs.List.{Contains, slice_get}
use Rattle.std.proofs.lemmas.Bool.{and_parts, cases_lt, cases_order, false≢true}
use Rattle.std.proofs.lemmas.Option.{same_Some, slice_get_within, slice_get_cases, slice_get-get_or}
use Rattle.std.proofs.lemmas.List.{get_or_default, get_or_push, length_push}
use Rattle.std.proofs.lemmas.List.Elements.{Contains-append_left, Contains-append_cases, Contains-push, Contains-get_or}
use Rattle.std.proofs.lemmas.List.Quantifiers.{all_pairs_push}
use Rattle.basics.proofs.ListLemmas.{only, in_nothing}
use Rattle.proto_decl.specs.Facts.{Facts}
use Rattle.proto_decl.specs.declared.uses.Use.{Use}
use Rattle.proto_visibility.specs.Files.{File, HasFacts, IsSource, IsSourceAt}
use Rattle.proto_visibility.specs.Sees.{Sees}
use Rattle.proto_visibility.proofs.FileFactLemmas.{one_list_of_facts}
use Rattle.proto_visibility.proofs.SeeingLemmas.{slice_get_prefix}
use Rattle.proto_link.specs.declared.uncertain_use.UncertainUse.{UncertainUse}
use Rattle.proto_link.specs.Uncertain.{AreFirstUnread, HasNoFacts, IsFirstUnread, IsFirstUnreadIf, IsUncertain}
use Rattle.proto_link.specs.Tables.Doubts.{Adds, AreUnread, IsDoubted, IsDoubtedIn, IsDoubtedUse, MayChange}

-- ---- files without facts

module _ (files : List File) where
  -- with facts it has some
  pub not_unread : (number : ℕ) (facts : Facts) → HasFacts files number facts → HasNoFacts files number → ⊥
  not_unread number facts has unread = some (sym has.known ∙ (ap (λ (f : File). f.facts)
      (same_Some has.file unread.file (sym has.numbered ∙ unread.numbered)) ∙ unread.unread))
    where
      some : ◌≡◌ {A = Option Facts} (Some facts) None → ⊥
      some e = cc

  pub unread_without : (number : ℕ) → number < length files
      → ((facts : Facts) → HasFacts files number facts → ⊥) → HasNoFacts files number
  unread_without number within none = elim (slice_get_cases files number).1 [
    | inl at ↦ by at.0 at.0.facts refl at.2
    | inr past ↦ absurd (omega (arith, within, past.0))
  ]
    where
      by : (file : File) (its : Option Facts) → file.facts ≡ its → slice_get files number ≡ Some file
          → HasNoFacts files number
      by file None is stands = record { file = file; numbered = stands; unread = is }
      by file (Some facts) is stands =
          absurd (none facts (record { file = file; numbered = stands; known = is }))

  pub none_unread : AreUnread files 0 []
  none_unread = record {
    each = λ number. (λ there. absurd (in_nothing number there), λ is. absurd (omega (arith, is.0)));
    rising = λ i j d less within. absurd (omega (arith, within));
  }

  pub unread_more : (count : ℕ) (numbers : List ℕ) → HasNoFacts files count → AreUnread files count numbers
      → AreUnread files (count + 1) (numbers ++ count ∷ [])
  unread_more count numbers unread are = record {
    each = λ number. (
      λ there. elim (Contains-append_cases numbers (count ∷ []) number there) [
        | inl before ↦ (let is = (are.each number).0 before in (omega (arith, is.0), is.1))
        | inr last ↦ (
            let same : count ≡ number = only count number last in
            (omega (arith, same), subst (HasNoFacts files) same unread))
      ],
      λ is. elim (cases_lt number count) [
        | inl before ↦ Contains-append_left numbers (count ∷ []) number ((are.each number).1 (before, is.1))
        | inr behind ↦ (
            let same : count ≡ number = omega (arith, behind, is.0) in
            subst (Contains (numbers ++ count ∷ [])) same (Contains-push numbers count))
      ],
    );
    rising = all_pairs_push (λ a b. a < b) numbers count are.rising
        (λ k d within. ((are.each (get_or numbers k d)).0 (Contains-get_or numbers k d within)).0);
  }

  pub unread_skip : (count : ℕ) (numbers : List ℕ) → (HasNoFacts files count → ⊥) → AreUnread files count numbers
      → AreUnread files (count + 1) numbers
  unread_skip count numbers not are = record {
    each = λ number. (
      λ there. (let is = (are.each number).0 there in (omega (arith, is.0), is.1)),
      λ is. elim (cases_lt number count) [
        | inl before ↦ (are.each number).1 (before, is.1)
        | inr behind ↦ (
            let same : number ≡ count = omega (arith, behind, is.0) in
            absurd (not (subst (HasNoFacts files) same is.1)))
      ],
    );
    rising = are.rising;
  }

  pub unread_all : (count : ℕ) (numbers : List ℕ) → count ≡ length files → AreUnread files count numbers
      → AreUnread files (length files) numbers
  unread_all count numbers all are = subst (λ n. AreUnread files n numbers) all are

  pub unread_within : (numbers : List ℕ) → AreUnread files (length files) numbers → (k d : ℕ) → k < length numbers
      → get_or numbers k d < length files
  unread_within numbers are k d within = ((are.each (get_or numbers k d)).0 (Contains-get_or numbers k d within)).0

  -- ---- the first of them that is seen

  -- none of the first so many is
  abbrev pub NoneSeen : (file : ℕ) → (numbers : List ℕ) → (count : ℕ) → Type 0
  NoneSeen file numbers count = (k : ℕ) → k < count → Sees files file (get_or numbers k 0) → ⊥

  pub none_seen_more : (file : ℕ) (numbers : List ℕ) (count number : ℕ) → number ≡ get_or numbers count 0
      → (Sees files file number → ⊥) → NoneSeen file numbers count → NoneSeen file numbers (count + 1)
  none_seen_more file numbers count number is not none k less sees = elim (cases_lt k count) [
    | inl before ↦ none k before sees
    | inr behind ↦ (
        let at : k ≡ count = omega (arith, behind, less) in
        not (subst (Sees files file) (ap (λ n. get_or numbers n 0) at ∙ sym is) sees))
  ]

  module _ (file : ℕ) (numbers : List ℕ) (are : AreUnread files (length files) numbers) where
    place_of : (number : ℕ) → HasNoFacts files number
        → (k : ℕ) × (k < length numbers) × (get_or numbers k 0 ≡ number)
    place_of number unread =
        let within = slice_get_within files number unread.file unread.numbered in
        let there = (are.each number).1 (within, unread) in
        (there.0, there.1, get_or_default numbers there.0 0 number there.1 ∙ there.2)

    pub first_seen : (count number : ℕ) → count < length numbers → number ≡ get_or numbers count 0
        → Sees files file number → NoneSeen file numbers count → IsFirstUnread files file number
    first_seen count number within is sees none = record {
      unread = subst (HasNoFacts files) (sym is)
          ((are.each (get_or numbers count 0)).0 (Contains-get_or numbers count 0 within)).1;
      sees = sees;
      least = λ lesser less unread its.
          let at = place_of lesser unread in
          elim (cases_order at.0 count) [
            | inl same ↦ (let e : get_or numbers at.0 0 ≡ get_or numbers count 0 = ap (λ n. get_or numbers n 0) same in
                omega (arith, less, at.2, e, is))
            | inr apart ↦ elim apart [
              | inl before ↦ none at.0 before (subst (Sees files file) (sym at.2) its)
              | inr behind ↦ (let order = are.rising count at.0 0 behind at.1 in omega (arith, less, at.2, is, order))
            ]
          ];
    }

    pub none_seen_all : (count : ℕ) → length numbers ≤ count → NoneSeen file numbers count
        → (number : ℕ) → HasNoFacts files number → Sees files file number → ⊥
    none_seen_all count all none number unread sees =
        let at = place_of number unread in
        none at.0 (omega (arith, at.1, all)) (subst (Sees files file) (sym at.2) sees)

  -- ---- the first of them that each file sees

  pub none_first : AreFirstUnread files 0 []
  none_first = record {
    one_each = refl;
    are = λ file first stands.
        absurd (omega (arith, slice_get_within {A = Option ℕ} [] file first stands));
  }

  pub firsts_more : (count : ℕ) (firsts : List (Option ℕ)) (first : Option ℕ) → IsFirstUnreadIf files count first
      → AreFirstUnread files count firsts → AreFirstUnread files (count + 1) (firsts ++ first ∷ [])
  firsts_more count firsts first is so_far = record {
    one_each = length_push firsts first ∙ ap (λ n. n + 1) so_far.one_each;
    are = λ file one stands. elim (cases_lt file (length firsts)) [
      | inl before ↦ so_far.are file one (sym (slice_get_prefix firsts (first ∷ []) file before) ∙ stands)
      | inr behind ↦ (
          let within = slice_get_within (firsts ++ first ∷ []) file one stands in
          let here : file ≡ length firsts = omega (arith, within, behind, length_push firsts first) in
          let last : slice_get (firsts ++ first ∷ []) (length firsts) ≡ Some first =
          slice_get-get_or (firsts ++ first ∷ []) (length firsts) first (omega (arith, length_push firsts first))
          ∙ ap Some (get_or_push firsts first first (length firsts) refl) in
          let same : first ≡ one =
          same_Some first one (sym last ∙ (ap (slice_get (firsts ++ first ∷ [])) (sym here) ∙ stands)) in
          let at : count ≡ file = sym (here ∙ so_far.one_each) in
          subst (λ f. IsFirstUnreadIf files f one) at (subst (IsFirstUnreadIf files count) same is))
    ];
  }

-- ---- what is added

pub adds_none : (IsNew : UncertainUse → Type 0) (old : List UncertainUse) → ((x : UncertainUse) → IsNew x → ⊥)
    → Adds IsNew old old
adds_none IsNew old none x = (
  λ there. inl there,
  λ both. elim both [
    | inl there ↦ there
    | inr is ↦ absurd (none x is)
  ],
)

module _ (files : List File) (file behind : ℕ) where
  pub doubted_first : (old : List UncertainUse) → Adds (IsDoubted files file behind []) old old
  doubted_first old = adds_none (IsDoubted files file behind []) old (λ x is. in_nothing is.type_use is.listed)

  pub doubted_more : (uses : List Use) (type_use : Use) (first old new : List UncertainUse)
      → Adds (IsDoubted files file behind uses) first old → Adds (IsDoubtedUse files file behind type_use) old new
      → Adds (IsDoubted files file behind (uses ++ type_use ∷ [])) first new
  doubted_more uses type_use first old new so_far adds x = (
    λ there. elim ((adds x).0 there) [
      | inl before ↦ elim ((so_far x).0 before) [
        | inl begun ↦ inl begun
        | inr is ↦ inr (record {
          type_use = is.type_use;
          listed = Contains-append_left uses (type_use ∷ []) is.type_use is.listed;
          is = is.is;
        })
      ]
      | inr is ↦ inr (record { type_use = type_use; listed = Contains-push uses type_use; is = is })
    ],
    λ both. elim both [
      | inl begun ↦ (adds x).1 (inl ((so_far x).1 (inl begun)))
      | inr is ↦ elim (Contains-append_cases uses (type_use ∷ []) is.type_use is.listed) [
        | inl before ↦ (adds x).1 (inl ((so_far x).1
            (inr (record { type_use = is.type_use; listed = before; is = is.is }))))
        | inr last ↦ (adds x).1 (inr
            (subst (λ (u : Use). IsDoubtedUse files file behind u x) (sym (only type_use is.type_use last)) is.is))
      ]
    ],
  )

-- ---- of one file

module _ (files : List File) (file : ℕ) where
  pub source_if : (source : Bool) → IsSourceAt files file source → source ≡ true → IsSource files file
  source_if source at is =
      let both = and_parts _ _ (sym at.2 ∙ is) in
      record {
        file = at.0;
        numbered = at.1;
        source = not_true at.0.is_included both.0;
        present = not_true at.0.is_left_out both.1;
      }
    where
      not_true : (b : Bool) → not b ≡ true → b ≡ false
      not_true false e = refl
      not_true true e = absurd (false≢true e)

  pub no_facts : (old : List UncertainUse) → ((facts : Facts) → HasFacts files file facts → ⊥)
      → Adds (IsDoubtedIn files file) old old
  no_facts old none = adds_none (IsDoubtedIn files file) old
      (λ x is. none is.is.facts (subst (λ n. HasFacts files n is.is.facts) is.there is.is.known))

  one_behind : (a b : ℕ) → IsFirstUnread files file a → IsFirstUnread files file b → a ≡ b
  one_behind a b first second = elim (cases_order a b) [
    | inl same ↦ same
    | inr apart ↦ elim apart [
      | inl less ↦ absurd (second.least a less first.unread first.sees)
      | inr more ↦ absurd (first.least b more second.unread second.sees)
    ]
  ]

  pub of_facts : IsSource files file → (behind : ℕ) → IsFirstUnread files file behind → (facts : Facts)
      → HasFacts files file facts → (old new : List UncertainUse)
      → Adds (IsDoubted files file behind facts.uses) old new → Adds (IsDoubtedIn files file) old new
  of_facts source behind first facts known old new adds x = (
    λ there. elim ((adds x).0 there) [
      | inl before ↦ inl before
      | inr is ↦ inr (subst (IsDoubtedIn files file) (sym is.is.is) (record {
        is = record {
          source = source;
          facts = facts;
          known = known;
          type_use = is.type_use;
          listed = is.listed;
          stands = refl;
          named = is.is.may.1;
          farther = is.is.may.0;
          behind = first;
        };
        there = refl;
      }))
    ],
    λ both. elim both [
      | inl before ↦ (adds x).1 (inl before)
      | inr is ↦ (adds x).1 (inr (doubted x is.there is.is))
    ],
  )
    where
      one_use : (a b : UncertainUse) → a.place.file ≡ b.place.file → a.place.span ≡ b.place.span → a.behind ≡ b.behind
          → a ≡ b
      one_use a b same span more = λ i. record { place = record { file = same i; span = span i }; behind = more i }

      doubted : (x : UncertainUse) → x.place.file ≡ file → IsUncertain files x → IsDoubted files file behind facts.uses x
      doubted x same is =
          let facts_same : is.facts ≡ facts = one_list_of_facts files file is.facts facts
          (subst (λ n. HasFacts files n is.facts) same is.known) known in
          record {
            type_use = is.type_use;
            listed = subst (λ (f : Facts). Contains f.uses is.type_use) facts_same is.listed;
            is = record {
              may = subst (λ n. MayChange files n is.type_use) same (is.farther, is.named);
              is = one_use x
                  (record { place = record { file = file; span = is.type_use.span }; behind = behind }) same is.stands
                  (one_behind x.behind behind (subst (λ n. IsFirstUnread files n x.behind) same is.behind) first);
            };
          }

-- ---- of all files

-- those of the first so many files
abbrev pub AreDoubtedUpTo : List File → (count : ℕ) → List UncertainUse → Type 0
AreDoubtedUpTo files count uses =
    (x : UncertainUse) → Contains uses x ↔ ((x.place.file < count) × IsUncertain files x)

module _ (files : List File) where
  pub none_doubted : AreDoubtedUpTo files 0 []
  none_doubted x = (λ there. absurd (in_nothing x there), λ is. absurd (omega (arith, is.0)))

  pub doubted_up_to : (count : ℕ) (old new : List UncertainUse) → AreDoubtedUpTo files count old
      → Adds (IsDoubtedIn files count) old new → AreDoubtedUpTo files (count + 1) new
  doubted_up_to count old new are adds x = (
    λ there. elim ((adds x).0 there) [
      | inl before ↦ (let is = (are x).0 before in (omega (arith, is.0), is.1))
      | inr is ↦ (omega (arith, is.there), is.is)
    ],
    λ is. elim (cases_lt x.place.file count) [
      | inl before ↦ (adds x).1 (inl ((are x).1 (before, is.1)))
      | inr behind ↦ (adds x).1 (inr (record { is = is.1; there = omega (arith, behind, is.0) }))
    ],
  )

  pub all_doubted : (count : ℕ) (uses : List UncertainUse) → length files ≤ count → AreDoubtedUpTo files count uses
      → (x : UncertainUse) → Contains uses x ↔ IsUncertain files x
  all_doubted count uses all are x = (
    λ there. ((are x).0 there).1,
    λ is. (
        let within = slice_get_within files x.place.file is.source.file is.source.numbered in
        (are x).1 (omega (arith, within, all), is)),
  )
