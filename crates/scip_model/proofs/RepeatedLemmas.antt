-- Which outermost declarations an earlier file has, too, as files are taken one after the other.
use Rattle.std.proofs.Common.{◌≡◌, ◌≢◌, ◌∙◌, ◌⊎◌, ◌↔◌, inl, inr, ℕ, ◌+◌, ◌<◌, ◌≤◌, Bool, true, false, cond}
use Rattle.std.proofs.Common.{Option, Some, None, Result, Ok, Err, OnOk, List, [], ◌∷◌, ◌++◌, String, length, refl, sym, ap, subst, arith}
use Rattle.std.specs.Prelude.{Contains, if◌then◌else◌}
use Rattle.std.specs.List.{slice_get}
use Rattle.std.specs.List.Sorted.{IsStrictlyIncreasing}
use Rattle.std.specs.Option.{unwrap_or}
use Rattle.std.specs.Str.{bytes_eq}
use Rattle.std.specs.HashMap.{HashMap, IsEmpty, get_by_text}
use Rattle.std.proofs.lemmas.Bool.{cases_lt}
use Rattle.std.proofs.lemmas.Slice.Eq.{bytes_eq-Decides}
use Rattle.std.proofs.lemmas.List.Elements.{Contains-append_cases, Contains-append_left, Contains-append_right}
use Rattle.std.proofs.lemmas.Map.Keys.{sorted_from_strictly_increasing, below_from_sorted}
use Rattle.std.proofs.lemmas.Option.{same_Some, none-some, slice_get_within, get_or_from_slice_get}
use Rattle.basics.proofs.FirstLemmas.{contained_at}
use Rattle.basics.proofs.ListLemmas.{in_front, in_nothing, only}
use Rattle.proto_decl.specs.Facts.{Facts}
use Rattle.proto_decl.specs.declared.declaration.Declaration.{Declaration}
use Rattle.proto_visibility.specs.Files.{File, HasFacts}
use Rattle.proto_visibility.specs.Reaches.{IsReachable}
use Rattle.proto_visibility.specs.Reaches.IsReachable.{reached}
use Rattle.proto_visibility.specs.Clashes.{NoClash, Item}
use Rattle.proto_visibility.specs.Clashes.IsItemBy.{declared}
use Rattle.proto_visibility.specs.declared.clash.Duplicates.TheVariants.{Refuse}
use Rattle.scip_model.specs.Packages.{RepeatedNames, names_at}
use Rattle.scip_model.specs.Repeated.{HasOutermost, IsRepeated, AreRepeated}
use Rattle.scip_model.specs.Tables.Repeats.{IsOutermostIn, IsHeldBefore, AreTakenFrom, IsFileTaken, AreNone, AreSome}
use Rattle.scip_model.specs.Tables.Repeats.{declarations_if_known, declarations_if_there, declarations_at}

-- ---- some declarations, and then some more

out-cases : (xs ys : List Declaration) (name : List ℕ) → IsOutermostIn (xs ++ ys) name
    → IsOutermostIn xs name ⊎ IsOutermostIn ys name
out-cases xs ys name is = elim (Contains-append_cases xs ys is.declaration is.listed) [
  | inl first ↦ inl (record
      { declaration = is.declaration; listed = first; outermost = is.outermost; named = is.named })
  | inr second ↦ inr (record
      { declaration = is.declaration; listed = second; outermost = is.outermost; named = is.named })
]

out-left : (xs ys : List Declaration) (name : List ℕ) → IsOutermostIn xs name → IsOutermostIn (xs ++ ys) name
out-left xs ys name is = record {
  declaration = is.declaration;
  listed = Contains-append_left xs ys is.declaration is.listed;
  outermost = is.outermost;
  named = is.named;
}

out-right : (xs ys : List Declaration) (name : List ℕ) → IsOutermostIn ys name → IsOutermostIn (xs ++ ys) name
out-right xs ys name is = record {
  declaration = is.declaration;
  listed = Contains-append_right xs ys is.declaration is.listed;
  outermost = is.outermost;
  named = is.named;
}

-- of one declaration

out-is : (d : Declaration) (name : List ℕ) → IsOutermostIn (d ∷ []) name → d.full_name ≡ name
out-is d name is = ap (λ (x : Declaration). x.full_name) (only d is.declaration is.listed) ∙ is.named

is-out : (d : Declaration) → length d.path ≡ 1 → IsOutermostIn (d ∷ []) d.full_name
is-out d outermost = record { declaration = d; listed = in_front d []; outermost = outermost; named = refl }

module _ {A S : Type 0} (number : ℕ) where
  -- where none is outermost nothing changes
  pub taken-none : (ds : List Declaration) (holders : HashMap (String A) ℕ S) (names : List (List ℕ))
      → ((name : List ℕ) → IsOutermostIn ds name → ⊥) → AreTakenFrom number ds holders holders names names
  taken-none ds holders names none = record {
    added = λ name. (λ h. inl h, λ either. elim either [ inl h ↦ h | inr x ↦ absurd (none name x.0) ]);
    stays = λ name first at. at;
    leads = λ name is. absurd (none name is);
    came = λ name first at. inl at;
  }

  -- the same of the same
  pub taken-same : (xs ys : List Declaration) (a b : HashMap (String A) ℕ S) (o p q r : List (List ℕ)) → xs ≡ ys → o ≡ q
      → p ≡ r → AreTakenFrom number xs a b o p → AreTakenFrom number ys a b q r
  taken-same xs ys a b o p q r one two three is =
      subst (λ (l : List Declaration). AreTakenFrom number l a b q r) one
      (subst (λ (l : List (List ℕ)). AreTakenFrom number xs a b l r) two
      (subst (AreTakenFrom number xs a b o) three is))

  pub taken-both : (xs ys : List Declaration) (a b c : HashMap (String A) ℕ S) (o p q : List (List ℕ))
      → AreTakenFrom number xs a b o p → AreTakenFrom number ys b c p q → AreTakenFrom number (xs ++ ys) a c o q
  taken-both xs ys a b c o p q one two = record {
    added = λ name. (
      λ there. elim ((two.added name).0 there) [
        | inl earlier ↦ elim ((one.added name).0 earlier) [
          | inl old ↦ inl old
          | inr x ↦ inr (out-left xs ys name x.0, x.1)
        ]
        | inr y ↦ inr (out-right xs ys name y.0, back name y.1)
      ],
      λ either. elim either [
        | inl old ↦ (two.added name).1 (inl ((one.added name).1 (inl old)))
        | inr new ↦ elim (out-cases xs ys name new.0) [
          | inl x ↦ (two.added name).1 (inl ((one.added name).1 (inr (x, new.1))))
          | inr y ↦ (two.added name).1 (inr (y, on name new.1))
        ]
      ],
    );
    stays = λ name first at. two.stays name first (one.stays name first at);
    leads = λ name is. elim (out-cases xs ys name is) [
      | inl x ↦ (let led = one.leads name x in (led.0, two.stays name led.0 led.1))
      | inr y ↦ two.leads name y
    ];
    came = λ name first at. elim (two.came name first at) [
      | inl mid ↦ elim (one.came name first mid) [
        | inl old ↦ inl old
        | inr new ↦ inr (new.0, new.1, out-left xs ys name new.2)
      ]
      | inr new ↦ inr (nowhere name (get_by_text a name) refl new.0, new.1, out-right xs ys name new.2)
    ];
  }
    where
      back : (name : List ℕ) → IsHeldBefore number b name → IsHeldBefore number a name
      back name held = elim (one.came name held.first held.leads_to) [
        | inl old ↦ record { first = held.first; leads_to = old; before = held.before }
        | inr new ↦ absurd (omega (arith, new.1, held.before))
      ]

      on : (name : List ℕ) → IsHeldBefore number a name → IsHeldBefore number b name
      on name held = record {
        first = held.first;
        leads_to = one.stays name held.first held.leads_to;
        before = held.before;
      }

      nowhere : (name : List ℕ) (o : Option ℕ) → get_by_text a name ≡ o → get_by_text b name ≡ None
          → get_by_text a name ≡ None
      nowhere name None is none = is
      nowhere name (Some first) is none = absurd (none-some first (sym none ∙ one.stays name first is))

  -- ---- one declaration

  module _ (d : Declaration) where
    module _ (outermost : length d.path ≡ 1) (holders more : HashMap (String A) ℕ S) (old new : List (List ℕ))
        (first : ℕ) (found : first ≡ unwrap_or (get_by_text holders d.full_name) number)
        (kept : (other : List ℕ) → get_by_text more other
        ≡ (if bytes_eq d.full_name other then Some first else get_by_text holders other)) where
      -- a name that led to a file leads there
      led : (g : ℕ) → get_by_text holders d.full_name ≡ Some g → first ≡ g
      led g at = found ∙ ap (λ (o : Option ℕ). unwrap_or o number) at

      is-number : get_by_text holders d.full_name ≡ None → first ≡ number
      is-number at = found ∙ ap (λ (o : Option ℕ). unwrap_or o number) at

      held : first < number → IsHeldBefore number holders d.full_name
      held less = by (get_by_text holders d.full_name) refl
        where
          by : (o : Option ℕ) → get_by_text holders d.full_name ≡ o → IsHeldBefore number holders d.full_name
          by None none = absurd (omega (arith, less, is-number none))
          by (Some g) at = record { first = g; leads_to = at; before = omega (arith, less, led g at) }

      -- of this name, and of another
      this : (name : List ℕ) → d.full_name ≡ name → get_by_text more name ≡ Some first
      this name same =
          kept name ∙ ap (λ (t : Bool). cond t (Some first) (get_by_text holders name))
          ((bytes_eq-Decides d.full_name name).1 same)

      other : (name : List ℕ) → bytes_eq d.full_name name ≡ false
          → get_by_text more name ≡ get_by_text holders name
      other name is = kept name ∙ ap (λ (t : Bool). cond t (Some first) (get_by_text holders name)) is

      stays-by : (name : List ℕ) (f : ℕ) (t : Bool) → bytes_eq d.full_name name ≡ t
          → get_by_text holders name ≡ Some f → get_by_text more name ≡ Some f
      stays-by name f false is at = other name is ∙ at
      stays-by name f true is at =
          let same = (bytes_eq-Decides d.full_name name).0 is in
          this name same ∙ ap Some (led f (ap (get_by_text holders) same ∙ at))

      came-by : (name : List ℕ) (f : ℕ) (t : Bool) → bytes_eq d.full_name name ≡ t → get_by_text more name ≡ Some f
          → (get_by_text holders name ≡ Some f)
          ⊎ ((get_by_text holders name ≡ None) × (f ≡ number) × IsOutermostIn (d ∷ []) name)
      came-by name f false is at = inl (sym (other name is) ∙ at)
      came-by name f true is at = by (get_by_text holders d.full_name) refl
        where
          same : d.full_name ≡ name
          same = (bytes_eq-Decides d.full_name name).0 is

          one : first ≡ f
          one = same_Some first f (sym (this name same) ∙ at)

          by : (o : Option ℕ) → get_by_text holders d.full_name ≡ o
              → (get_by_text holders name ≡ Some f)
              ⊎ ((get_by_text holders name ≡ None) × (f ≡ number) × IsOutermostIn (d ∷ []) name)
          by None none = inr (
            ap (get_by_text holders) (sym same) ∙ none,
            sym one ∙ is-number none,
            subst (IsOutermostIn (d ∷ [])) same (is-out d outermost),
          )
          by (Some g) found = inl (ap (get_by_text holders) (sym same) ∙ (found ∙ ap Some (sym (led g found) ∙ one)))

      pub taken-one : (first < number → (name : List ℕ) → Contains new name ↔ (Contains old name ⊎ (name ≡ d.full_name)))
          → (number ≤ first → new ≡ old) → AreTakenFrom number (d ∷ []) holders more old new
      taken-one added same = record {
        added = λ name. elim (cases_lt first number) [
          | inl less ↦ (
            λ there. elim ((added less name).0 there) [
              | inl h ↦ inl h
              | inr e ↦ inr (
                subst (IsOutermostIn (d ∷ [])) (sym e) (is-out d outermost),
                subst (IsHeldBefore number holders) (sym e) (held less),
              )
            ],
            λ either. elim either [
              | inl h ↦ (added less name).1 (inl h)
              | inr x ↦ (added less name).1 (inr (sym (out-is d name x.0)))
            ],
          )
          | inr more ↦ (
            λ there. inl (subst (λ (l : List (List ℕ)). Contains l name) (same more) there),
            λ either. elim either [
              | inl h ↦ subst (λ (l : List (List ℕ)). Contains l name) (sym (same more)) h
              | inr x ↦ absurd (omega (
                arith,
                more,
                x.1.before,
                led x.1.first (ap (get_by_text holders) (out-is d name x.0) ∙ x.1.leads_to),
              ))
            ],
          )
        ];
        stays = λ name f at. stays-by name f (bytes_eq d.full_name name) refl at;
        leads = λ name is. (first, this name (out-is d name is));
        came = λ name f at. came-by name f (bytes_eq d.full_name name) refl at;
      }

-- ---- numbers that rise, up to a place

pub record IsUpTo (numbers : List ℕ) (count number : ℕ) : Type 0 where
  pub place : ℕ
  pub within : place < count
  pub at : slice_get numbers place ≡ Some number

module _ (numbers : List ℕ) (count last : ℕ) (there : slice_get numbers count ≡ Some last) where
  one-more : (number : ℕ) → IsUpTo numbers (count + 1) number → IsUpTo numbers count number ⊎ (number ≡ last)
  one-more number is = elim (cases_lt is.place count) [
    | inl less ↦ inl (record { place = is.place; within = less; at = is.at })
    | inr more ↦ inr (same_Some number last (sym is.at
        ∙ (ap (slice_get numbers) (let same : is.place ≡ count = omega (arith, more, is.within) in same) ∙ there)))
  ]

  still : (number : ℕ) → IsUpTo numbers count number → IsUpTo numbers (count + 1) number
  still number is = record { place = is.place; within = omega (arith, is.within); at = is.at }

  the-last : IsUpTo numbers (count + 1) last
  the-last = record { place = count; within = omega arith; at = there }

  module _ (rises : IsStrictlyIncreasing numbers) where
    below : (i j m n : ℕ) → slice_get numbers i ≡ Some m → slice_get numbers j ≡ Some n → i < j → m < n
    below i j m n first second less =
        let up = below_from_sorted numbers i j 0 (sorted_from_strictly_increasing numbers rises) less
        (slice_get_within numbers j n second) in
        omega (arith, up, get_or_from_slice_get numbers i m 0 first, get_or_from_slice_get numbers j n 0 second)

    lesser : (number : ℕ) → IsUpTo numbers count number → number < last
    lesser number is = below is.place count number last is.at there is.within

    earlier-are : (number : ℕ) → Contains numbers number → number < last → IsUpTo numbers count number
    earlier-are number listed less =
        let place = contained_at numbers number listed in
        elim (cases_lt place.0 count) [
          | inl before ↦ record { place = place.0; within = before; at = place.1 }
          | inr behind ↦ elim (cases_lt count place.0) [
            | inl after ↦ absurd (omega (arith, less, below count place.0 last number there place.1 after))
            | inr same ↦ absurd (
                let one : place.0 ≡ count = omega (arith, behind, same) in
                let is : number ≡ last =
                same_Some number last (sym place.1 ∙ (ap (slice_get numbers) one ∙ there)) in
                omega (arith, less, is))
          ]
        ]

-- ---- files that are taken

module _ (files : List File) where
  pub is-there : (number : ℕ) → IsReachable files number → number < length files
  is-there number (reached source reaches present) = slice_get_within files number present.file present.numbered

  -- what a reachable file has outermost
  has-outermost : (number : ℕ) (name : List ℕ) → IsReachable files number
      → IsOutermostIn (declarations_at files number) name → HasOutermost files number name
  has-outermost number name reachable is = by (slice_get files number) refl is.listed
    where
      known : (file : File) → slice_get files number ≡ Some file → (o : Option Facts) → file.facts ≡ o
          → Contains (declarations_if_known o) is.declaration → HasOutermost files number name
      known file at None none there = absurd (in_nothing is.declaration there)
      known file at (Some facts) some there = record {
        facts = facts;
        declaration = is.declaration;
        is_reachable = reachable;
        known = record { file = file; numbered = at; known = some };
        listed = there;
        outermost = is.outermost;
        named = is.named;
      }

      by : (o : Option File) → slice_get files number ≡ o → Contains (declarations_if_there o) is.declaration
          → HasOutermost files number name
      by None none there = absurd (in_nothing is.declaration there)
      by (Some file) at there = known file at file.facts refl there

  outermost-in : (number : ℕ) (name : List ℕ) → HasOutermost files number name
      → IsOutermostIn (declarations_at files number) name
  outermost-in number name has =
      let same : declarations_at files number ≡ has.facts.declarations =
      ap declarations_if_there has.known.numbered ∙ ap declarations_if_known has.known.known in
      record {
        declaration = has.declaration;
        listed = subst (λ (ds : List Declaration). Contains ds has.declaration) (sym same) has.listed;
        outermost = has.outermost;
        named = has.named;
      }

  pub declared-are : (number : ℕ) (facts : Facts) → HasFacts files number facts
      → declarations_at files number ≡ facts.declarations
  declared-are number facts has = ap declarations_if_there has.numbered ∙ ap declarations_if_known has.known

  pub nothing-declared : (number : ℕ) → ((facts : Facts) → HasFacts files number facts → ⊥) → (name : List ℕ)
      → IsOutermostIn (declarations_at files number) name → ⊥
  nothing-declared number none name is = by (slice_get files number) refl is.listed
    where
      known : (file : File) → slice_get files number ≡ Some file → (o : Option Facts) → file.facts ≡ o
          → Contains (declarations_if_known o) is.declaration → ⊥
      known file at None e there = in_nothing is.declaration there
      known file at (Some facts) some there = none facts (record { file = file; numbered = at; known = some })

      by : (o : Option File) → slice_get files number ≡ o → Contains (declarations_if_there o) is.declaration → ⊥
      by None e there = in_nothing is.declaration there
      by (Some file) at there = known file at file.facts refl there

  module _ {A S : Type 0} (numbers : List ℕ) where
    -- the files with the first so many of these numbers are taken
    pub record AreTaken (count : ℕ) (holders : HashMap (String A) ℕ S) (repeated : RepeatedNames) : Type 0 where
      pub names : (number : ℕ) (name : List ℕ) → Contains (names_at repeated number) name
          ↔ (IsUpTo numbers count number × IsRepeated files number name)
      pub held : (name : List ℕ) (first : ℕ) → get_by_text holders name ≡ Some first
          → IsUpTo numbers count first × HasOutermost files first name
      pub least : (number : ℕ) (name : List ℕ) → IsUpTo numbers count number → HasOutermost files number name
          → (first : ℕ) × (get_by_text holders name ≡ Some first) × (first ≤ number)

    pub none-taken : (holders : HashMap (String A) ℕ S) (repeated : RepeatedNames) → AreNone repeated
        → ((name : List ℕ) → get_by_text holders name ≡ None) → AreTaken 0 holders repeated
    none-taken holders repeated none nowhere = record {
      names = λ number name. (
        λ there. absurd (none number name there),
        λ is. absurd (omega (arith, is.0.within)),
      );
      held = λ name first at. absurd (none-some first (sym (nowhere name) ∙ at));
      least = λ number name is has. absurd (omega (arith, is.within));
    }

    pub all-taken : (count : ℕ) (holders : HashMap (String A) ℕ S) (repeated : RepeatedNames) → length numbers ≤ count
        → ((number : ℕ) → Contains numbers number ↔ IsReachable files number) → AreTaken count holders repeated
        → (number : ℕ) (name : List ℕ) → Contains (names_at repeated number) name ↔ IsRepeated files number name
    all-taken count holders repeated all reachable taken number name = (
      λ there. ((taken.names number name).0 there).1,
      λ is. (
          let place = contained_at numbers number ((reachable number).1 is.has.is_reachable) in
          (taken.names number name).1 (
            record {
              place = place.0;
              within = omega (arith, all, slice_get_within numbers place.0 number place.1);
              at = place.1;
            },
            is,
          )),
    )

    module _ (rises : IsStrictlyIncreasing numbers)
        (reachable : (number : ℕ) → Contains numbers number ↔ IsReachable files number) (count last : ℕ)
        (there : slice_get numbers count ≡ Some last) (counts : IsReachable files last)
        (holders more : HashMap (String A) ℕ S) (old new : RepeatedNames) (taken : AreTaken count holders old)
        (now : IsFileTaken files last holders more old new) where
      -- of the file that is taken
      its-names : (name : List ℕ) → Contains (names_at new last) name ↔ IsRepeated files last name
      its-names name = (
        λ listed. elim ((now.taken.added name).0 listed) [
          | inl before ↦ absurd (let is = (taken.names last name).0 before in
              omega (arith, lesser numbers count last there rises last is.0))
          | inr x ↦ record {
            has = has-outermost last name counts x.0;
            earlier = x.1.first;
            before = x.1.before;
            had = (taken.held name x.1.first x.1.leads_to).1;
          }
        ],
        λ is. (
            let up = earlier-are numbers count last there rises is.earlier
            ((reachable is.earlier).1 is.had.is_reachable) is.before in
            let first = taken.least is.earlier name up is.had in
            (now.taken.added name).1 (inr (
              outermost-in last name is.has,
              record { first = first.0; leads_to = first.1; before = omega (arith, first.2, is.before) },
            ))),
      )

      -- of another one
      other-names : (number : ℕ) (name : List ℕ) → number ≢ last
          → Contains (names_at new number) name ↔ (IsUpTo numbers (count + 1) number × IsRepeated files number name)
      other-names number name other =
          let same : names_at new number ≡ names_at old number = now.others number other in (
            λ listed. (
                let is = (taken.names number name).0
                (subst (λ (l : List (List ℕ)). Contains l name) same listed) in
                (still numbers count last there number is.0, is.1)),
            λ is. elim (one-more numbers count last there number is.0) [
              | inl up ↦ subst (λ (l : List (List ℕ)). Contains l name) (sym same)
                  ((taken.names number name).1 (up, is.1))
              | inr one ↦ absurd (other one)
            ],
          )

      pub one-file-more : AreTaken (count + 1) more new
      one-file-more = record {
        names = λ number name. elim (cases_lt number last) [
          | inl less ↦ other-names number name (λ e. omega (arith, less, e))
          | inr behind ↦ elim (cases_lt last number) [
            | inl less ↦ other-names number name (λ e. omega (arith, less, e))
            | inr ahead ↦ (
                let one : last ≡ number = omega (arith, behind, ahead) in
                subst (λ n. Contains (names_at new n) name ↔ (IsUpTo numbers (count + 1) n × IsRepeated files n name))
                one (
                  λ listed. (the-last numbers count last there, (its-names name).0 listed),
                  λ is. (its-names name).1 is.1,
                ))
          ]
        ];
        held = λ name first at. elim (now.taken.came name first at) [
          | inl was ↦ (let is = taken.held name first was in (still numbers count last there first is.0, is.1))
          | inr is ↦ (
            subst (IsUpTo numbers (count + 1)) (sym is.1) (the-last numbers count last there),
            subst (λ n. HasOutermost files n name) (sym is.1) (has-outermost last name counts is.2),
          )
        ];
        least = λ number name is has. elim (one-more numbers count last there number is) [
          | inl up ↦ (let first = taken.least number name up has in
              (first.0, now.taken.stays name first.0 first.1, first.2))
          | inr one ↦ (
              let led = now.taken.leads name
              (outermost-in last name (subst (λ n. HasOutermost files n name) one has)) in
              elim (now.taken.came name led.0 led.1) [
                | inl was ↦ (
                  led.0,
                  led.1,
                  omega (arith, one, lesser numbers count last there rises led.0 (taken.held name led.0 was).0),
                )
                | inr new ↦ (led.0, led.1, omega (arith, one, new.1))
              ])
        ];
      }

  -- ---- if no two files may give one name

  pub none-repeated : NoClash Refuse files → (number : ℕ) (name : List ℕ) → IsRepeated files number name → ⊥
  none-repeated clear number name is =
      clear (item is.earlier is.had.declaration) (item number is.has.declaration) (record {
        first_is = declared is.had.is_reachable is.had.known is.had.listed;
        second_is = declared is.has.is_reachable is.has.known is.has.listed;
        ordered = inl is.before;
        one_name = is.had.named ∙ sym is.has.named;
        declares = refl;
      })
    where
      item : ℕ → Declaration → Item
      item file declaration = record {
        place = record { file = file; span = declaration.name };
        full_name = declaration.full_name;
        is_declaration = true;
      }

  pub are-none : NoClash Refuse files → AreRepeated files []
  are-none clear = record {
    exact = λ number name. (
      λ there. absurd (in_nothing name there),
      λ is. absurd (none-repeated clear number name is),
    );
    none = λ nothing. refl;
  }

  -- ---- the list of them

  pub some-are : (repeated : RepeatedNames)
      → ((number : ℕ) (name : List ℕ) → Contains (names_at repeated number) name ↔ IsRepeated files number name)
      → AreSome repeated → AreRepeated files repeated
  some-are repeated exact some = record {
    exact = exact;
    none = λ nothing. absurd (nothing some.number some.name ((exact some.number some.name).0 some.there));
  }

  pub nothing-is : (repeated : RepeatedNames)
      → ((number : ℕ) (name : List ℕ) → Contains (names_at repeated number) name ↔ IsRepeated files number name)
      → AreNone repeated → AreRepeated files []
  nothing-is repeated exact none = record {
    exact = λ number name. (
      λ there. absurd (in_nothing name there),
      λ is. absurd (none number name ((exact number name).1 is)),
    );
    none = λ nothing. refl;
  }

-- what holds anyway
pub whatever-comes : {P : Type 0} {A E : Type 0} (r : Result A E) → P → OnOk r P
whatever-comes (Ok x) p = p
whatever-comes (Err e) p = tt

-- nothing leads anywhere yet
pub nowhere-yet : {A S : Type 0} (holders : HashMap (String A) ℕ S) → IsEmpty holders → (name : List ℕ)
    → get_by_text holders name ≡ None
nowhere-yet holders none name = rw none refl
