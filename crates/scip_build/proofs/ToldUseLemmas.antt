-- Uses that are told, each by why it names nothing.
use Rattle.std.proofs.Common.{◌≡◌, ◌↔◌, ◌∙◌, inl, inr, ℕ, ◌+◌, ◌<◌, ◌≤◌, List, [], ◌∷◌, ◌++◌, Option, Some, None, length}
use Rattle.std.proofs.Common.{true, false, refl, get_or, take, ap, sym, subst, arith}
use Rattle.std.specs.List.{Contains, flat_map, slice_get}
use Rattle.std.proofs.lemmas.Bool.{and_parts, cases_lt, false≢true}
use Rattle.std.proofs.lemmas.Bool.Decides.{Decides-eqb}
use Rattle.std.proofs.lemmas.Option.{get_or_from_slice_get, same_Some, slice_get_within}
use Rattle.std.proofs.lemmas.List.Elements.{Contains-append_right, Contains-append_left, Contains-append_cases}
use Rattle.std.specs.Prelude.{All}
use Rattle.std.proofs.lemmas.List.Elements.{All-contains_itself, All-weaker, Contains-push}
use Rattle.basics.proofs.ListLemmas.{only, in_front, in_nothing}
use Rattle.basics.proofs.FirstLemmas.{contained, take_next}
use Rattle.proto_visibility.specs.declared.fault.LinkFault.{LinkFault}
use Rattle.proto_visibility.specs.declared.fault.LinkFault.TheVariants as link
use Rattle.proto_visibility.specs.declared.files.FilePlace.{FilePlace}
use Rattle.proto_visibility.specs.Files.{File}
use Rattle.proto_link.specs.Targets.{IsUseFault}
use Rattle.proto_link.proofs.UseFaultLemmas.{nothing_named}
use Rattle.scip_build.specs.declared.faulty.Faulty.{Faulty}
use Rattle.scip_build.specs.declared.fault.BuildFault.{BuildFault}
use Rattle.scip_build.specs.declared.fault.BuildFault.TheVariants as build
use Rattle.scip_build.specs.Documents.{IsToldUse, IsUnresolvedAt, MayRefuseDocuments}
use Rattle.scip_build.specs.Documents.MayRefuseDocuments.{documents_lack_thread, documents_lack_memory}
use Rattle.scip_build.specs.Documents.MayRefuseDocuments.{first_is_unresolved}
use Rattle.scip_build.specs.Telling.{AreUseFaults, is_in, is_one_place}
use Rattle.scip_build.specs.UseFaults.{is_ambiguous}

-- ---- lists of lists

module _ {X A : Type 0} (f : X → List A) where
  pub from_lists : (xs : List X) (y : A) → Contains (flat_map f xs) y → (x : X) × Contains xs x × Contains (f x) y
  from_lists [] y there = absurd (omega (arith, there.1))
  from_lists (x ∷ xs) y there = elim (Contains-append_cases (f x) (flat_map f xs) y there) [
    | inl here ↦ (x, in_front x xs, here)
    | inr others ↦ (
        let of = from_lists xs y others in
        (of.0, Contains-append_right (x ∷ []) xs of.0 of.1, of.2))
  ]

  pub to_lists : (xs : List X) (x : X) (y : A) → Contains xs x → Contains (f x) y → Contains (flat_map f xs) y
  to_lists [] x y at there = absurd (omega (arith, at.1))
  to_lists (z ∷ xs) x y at there = elim (Contains-append_cases (z ∷ []) xs x at) [
    | inl here ↦ (
        let same : z ≡ x = only z x here in
        Contains-append_left (f z) (flat_map f xs) y (subst (λ w. Contains (f w) y) (sym same) there))
    | inr others ↦ Contains-append_right (f z) (flat_map f xs) y (to_lists xs x y others there)
  ]

-- ---- where such a use is

module _ (files : List File) where
  pub unresolved_file : (number : ℕ) (p : FilePlace) → IsUseFault files number (link.Unresolved p) → p.file ≡ number
  unresolved_file number p is = ap (λ (q : FilePlace). q.file) is.among.is.refused.2

  pub ambiguous_file : (number : ℕ) (p : FilePlace) → IsUseFault files number (link.Ambiguous p) → p.file ≡ number
  ambiguous_file number p is = ap (λ (q : FilePlace). q.file) is.among.is.refused.1

  pub unresolved_there : (p : FilePlace) → IsToldUse files p (link.Unresolved p) → IsUnresolvedAt files p
  unresolved_there p told =
      let among = told.1.among in
      record {
        source = told.0;
        facts = told.1.facts;
        known = told.1.known;
        type_use = among.type_use;
        listed = among.listed;
        stands = sym (ap (λ (q : FilePlace). q.span) among.is.refused.2);
        unresolved = among.is.refused.0;
      }

  -- an ambiguous one names nothing, either
  pub ambiguous_there : (p : FilePlace) → IsToldUse files p (link.Ambiguous p) → IsUnresolvedAt files p
  ambiguous_there p told =
      let among = told.1.among in
      record {
        source = told.0;
        facts = told.1.facts;
        known = told.1.known;
        type_use = among.type_use;
        listed = among.listed;
        stands = sym (ap (λ (q : FilePlace). q.span) among.is.refused.1);
        unresolved = nothing_named files p.file among.type_use among.is.refused.0;
      }

-- ---- places that are one

pub one_if : (a b : FilePlace) → is_one_place a b ≡ true → a ≡ b
one_if a b e =
    let both = and_parts _ _ e in
    let ends = and_parts _ _ both.1 in
    let file = (Decides-eqb a.file b.file).0 both.0 in
    let start = (Decides-eqb a.span.start b.span.start).0 ends.0 in
    let end = (Decides-eqb a.span.end b.span.end).0 ends.1 in
    λ i. record { file = file i; span = record { start = start i; end = end i } }

pub one_itself : (a : FilePlace) → is_one_place a a ≡ true
one_itself a =
    let file = (Decides-eqb a.file a.file).1 refl in
    let start = (Decides-eqb a.span.start a.span.start).1 refl in
    let end = (Decides-eqb a.span.end a.span.end).1 refl in
    rw (file, start, end) refl

pub its_file : (place : FilePlace) (last : Option ℕ) → is_in place last ≡ true → last ≡ Some place.file
its_file place None e = absurd (false≢true e)
its_file place (Some number) e = ap Some ((Decides-eqb number place.file).0 e)

-- ---- the faults of files, file by file

module _ (files : List File) where
  -- of these places, and the last of their files
  pub record AreFaultsSo (places : List FilePlace) (last : Option ℕ) (faults : List LinkFault) : Type 0 where
    pub are : AreUseFaults files places faults
    pub last_is : (number : ℕ) → last ≡ Some number
        → (place : FilePlace) × Contains places place × (place.file ≡ number)

  pub none_so : AreFaultsSo [] None []
  none_so = record {
    are = λ fault. (λ there. absurd (in_nothing fault there), λ at. absurd (in_nothing at.place at.listed));
    last_is = λ number e. absurd cc;
  }

  pub same_so : (places : List FilePlace) (place : FilePlace) (last : Option ℕ) (faults : List LinkFault)
      → last ≡ Some place.file → AreFaultsSo places last faults → AreFaultsSo (places ++ place ∷ []) last faults
  same_so places place last faults same so =
      let earlier = so.last_is place.file same in
      record {
        are = λ fault. (
          λ there.
              let at = (so.are fault).0 there in
              record {
                place = at.place;
                listed = Contains-append_left places (place ∷ []) at.place at.listed;
                is = at.is;
              },
          λ at. elim (Contains-append_cases places (place ∷ []) at.place at.listed) [
            | inl before ↦ (so.are fault).1 (record { place = at.place; listed = before; is = at.is })
            | inr here ↦ (
                let file : at.place.file ≡ earlier.0.file =
                sym (ap (λ (p : FilePlace). p.file) (only place at.place here)) ∙ sym earlier.2 in
                (so.are fault).1 (record {
                  place = earlier.0;
                  listed = earlier.1;
                  is = subst (λ n. IsUseFault files n fault) file at.is;
                }))
          ],
        );
        last_is = λ number e.
            let of = so.last_is number e in
            (of.0, Contains-append_left places (place ∷ []) of.0 of.1, of.2);
      }

  pub other_so : (places : List FilePlace) (place : FilePlace) (last : Option ℕ) (faults its : List LinkFault)
      → ((fault : LinkFault) → Contains its fault ↔ IsUseFault files place.file fault)
      → AreFaultsSo places last faults → AreFaultsSo (places ++ place ∷ []) (Some place.file) (faults ++ its)
  other_so places place last faults its are so = record {
    are = λ fault. (
      λ there. elim (Contains-append_cases faults its fault there) [
        | inl before ↦ (
            let at = (so.are fault).0 before in
            record {
              place = at.place;
              listed = Contains-append_left places (place ∷ []) at.place at.listed;
              is = at.is;
            })
        | inr new ↦ record { place = place; listed = Contains-push places place; is = (are fault).0 new }
      ],
      λ at. elim (Contains-append_cases places (place ∷ []) at.place at.listed) [
        | inl before ↦ Contains-append_left faults its fault
            ((so.are fault).1 (record { place = at.place; listed = before; is = at.is }))
        | inr here ↦ (
            let file : at.place.file ≡ place.file = sym (ap (λ (p : FilePlace). p.file) (only place at.place here)) in
            Contains-append_right faults its fault
            ((are fault).1 (subst (λ n. IsUseFault files n fault) file at.is)))
      ],
    );
    last_is = λ number e. (place, Contains-push places place, same_Some place.file number e);
  }

-- ---- whether one of them is ambiguous

-- none of the first so many is this one
abbrev pub NoneIs : List LinkFault → LinkFault → (count : ℕ) → Type 0
NoneIs faults fault count = (k : ℕ) → k < count → k < length faults → get_or faults k fault ≡ fault → ⊥

pub none_is_more : (faults : List LinkFault) (fault its : LinkFault) (count : ℕ) → slice_get faults count ≡ Some its
    → (its ≡ fault → ⊥) → NoneIs faults fault count → NoneIs faults fault (count + 1)
none_is_more faults fault its count at not none k less within same = elim (cases_lt k count) [
  | inl before ↦ none k before within same
  | inr behind ↦ (
      let here : k ≡ count = omega (arith, behind, less) in
      let got : get_or faults count fault ≡ its = get_or_from_slice_get faults count its fault at in
      not (sym got ∙ (ap (λ n. get_or faults n fault) (sym here) ∙ same)))
]

pub none_is_all : (faults : List LinkFault) (fault : LinkFault) (count : ℕ) → length faults ≤ count
    → NoneIs faults fault count → Contains faults fault → ⊥
none_is_all faults fault count all none there = none there.0 (omega (arith, there.1, all)) there.1 there.2

-- ---- where the first is that refuses the documents

pub place_within : (faulty : Faulty) (files : List File) (workers : ℕ) (fault : BuildFault)
    → MayRefuseDocuments faulty files workers fault → (place : FilePlace) → fault ≡ build.Unresolved place
    → place.file < length files
place_within faulty files workers _ (documents_lack_thread more) place e = absurd cc
place_within faulty files workers _ documents_lack_memory place e = absurd cc
place_within faulty files workers _ (first_is_unresolved {place = first} refuse least) place e =
    subst (λ (p : FilePlace). p.file < length files) (same first place e)
    (slice_get_within files first.file least.source.file least.source.numbered)
  where
    same : (a b : FilePlace) → build.Unresolved a ≡ build.Unresolved b → a ≡ b
    same a b f = cc

-- the places of uses that name nothing are in files
pub all_within : (files : List File) (places : List FilePlace)
    → ((place : FilePlace) → Contains places place → IsUnresolvedAt files place)
    → All (λ (place : FilePlace). place.file < length files) places
all_within files places are = All-weaker (Contains places) (λ (place : FilePlace). place.file < length files)
    (λ place there. (
    let source = (are place there).source in
    slice_get_within files place.file source.file source.numbered)) places (All-contains_itself places)

-- a fault that is that of an ambiguous use at a place
pub ambiguous_if : (fault : LinkFault) (place : FilePlace) → is_ambiguous fault place ≡ true
    → fault ≡ link.Ambiguous place
ambiguous_if (link.Ambiguous other) place e = ap link.Ambiguous (one_if other place e)
ambiguous_if (link.Unresolved other) place e = absurd (false≢true e)
ambiguous_if (link.Broken number) place e = absurd (false≢true e)
ambiguous_if (link.Duplicate first second) place e = absurd (false≢true e)
ambiguous_if (link.MissingImport other) place e = absurd (false≢true e)
ambiguous_if link.Memory place e = absurd (false≢true e)

pub not_ambiguous : (fault : LinkFault) (place : FilePlace) → is_ambiguous fault place ≡ false
    → fault ≡ link.Ambiguous place → ⊥
not_ambiguous fault place e same =
    false≢true (sym e ∙ subst (λ (f : LinkFault). is_ambiguous f place ≡ true) (sym same) (one_itself place))

pub then_has : (faults : List LinkFault) (index : ℕ) (its : LinkFault) (place : FilePlace)
    → slice_get faults index ≡ Some its → is_ambiguous its place ≡ true → Contains faults (link.Ambiguous place)
then_has faults index its place at e = subst (Contains faults) (ambiguous_if its place e) (contained faults index its at)

pub none_has_more : (faults : List LinkFault) (count : ℕ) (its : LinkFault) (place : FilePlace)
    → slice_get faults count ≡ Some its → is_ambiguous its place ≡ false
    → NoneIs faults (link.Ambiguous place) count → NoneIs faults (link.Ambiguous place) (count + 1)
none_has_more faults count its place at e none =
    none_is_more faults (link.Ambiguous place) its count at (not_ambiguous its place e) none

-- one place more
module _ (files : List File) (places : List FilePlace) (index : ℕ) (place : FilePlace)
    (at : slice_get places index ≡ Some place) (last : Option ℕ) (faults : List LinkFault)
    (so : AreFaultsSo files (take index places) last faults) where
  pub same_at : is_in place last ≡ true → AreFaultsSo files (take (index + 1) places) last faults
  same_at e = subst (λ ps. AreFaultsSo files ps last faults) (sym (take_next places index place at))
      (same_so files (take index places) place last faults (its_file place last e) so)

  pub other_at : (its : List LinkFault)
      → ((fault : LinkFault) → Contains its fault ↔ IsUseFault files place.file fault)
      → (new : List LinkFault) → new ≡ faults ++ its
      → AreFaultsSo files (take (index + 1) places) (Some place.file) new
  other_at its are new made =
      subst (AreFaultsSo files (take (index + 1) places) (Some place.file)) (sym made)
      (subst (λ ps. AreFaultsSo files ps (Some place.file) (faults ++ its)) (sym (take_next places index place at))
      (other_so files (take index places) place last faults its are so))
