-- Which declarations of included files the uses in sources name.
use Rattle.std.proofs.Common.{◌≡◌, ◌∙◌, inl, inr, ℕ, ◌+◌, ◌<◌, ◌≤◌, Some, List, [], length, get_or, sym, ap, subst}
use Rattle.std.proofs.Common.{arith, Option, None}
use Rattle.std.specs.List.{slice_get, All}
use Rattle.std.proofs.lemmas.Bool.{cases_lt}
use Rattle.std.proofs.lemmas.Option.{same_Some, slice_get-get_or, slice_get_within}
use Rattle.proto_decl.specs.Facts.{Facts}
use Rattle.proto_decl.specs.declared.uses.Use.{Use}
use Rattle.proto_visibility.specs.Files.{File, HasFacts, IsSource, HaveOrigins}
use Rattle.proto_visibility.specs.Clashes.{NoClash}
use Rattle.proto_visibility.specs.declared.clash.Duplicates.TheVariants.{Keep}
use Rattle.proto_link.specs.Laws.{OneTargetAUse}
use Rattle.proto_link.specs.Targets.{IsTarget}
use Rattle.proto_visibility.specs.Knows.{IsEntityOf}
use Rattle.proto_visibility.specs.Knows.IsEntityOf.{packaged, declared}
use Rattle.proto_visibility.specs.declared.lookup.Entity.{Entity}
use Rattle.proto_link.specs.declared.target.Target.{Target}
use Rattle.proto_visibility.proofs.FileFactLemmas.{one_list_of_facts}
use Rattle.scip_model.specs.Chosen.{Chosen, HaveChoices}
use Rattle.scip_model.specs.Conditions.{IsFound}
use Rattle.scip_model.specs.Tables.Listing.{parts_of}
use Rattle.scip_model.specs.Tables.ExternalLists.{Pair, Adds, FromFront, IsKnownPart, IsOfPart, IsOfUse, IsOfSource}
use Rattle.scip_model.specs.Tables.ExternalLists.{IsExternal}

module _ {X Y : Type 0} (IsOf : X → Y → Type 0) (xs : List X) where
  -- one element more
  pub adds-more : (count : ℕ) (element : X) (old mid new : List Y) → slice_get xs count ≡ Some element
      → Adds (FromFront IsOf xs count) old mid → Adds (IsOf element) mid new
      → Adds (FromFront IsOf xs (count + 1)) old new
  adds-more count element old mid new at before now = λ x. (
    λ there. elim ((now x).0 there) [
      | inl earlier ↦ elim ((before x).0 earlier) [
        | inl kept ↦ inl kept
        | inr front ↦ inr (record {
          index = front.index;
          element = front.element;
          within = omega (arith, front.within);
          stands = front.stands;
          is = front.is;
        })
      ]
      | inr added ↦ inr (record { index = count; element = element; within = omega arith; stands = at; is = added })
    ],
    λ either. elim either [
      | inl kept ↦ (now x).1 (inl ((before x).1 (inl kept)))
      | inr front ↦ elim (cases_lt front.index count) [
        | inl less ↦ (now x).1 (inl
            ((before x).1 (inr (record
            { index = front.index; element = front.element; within = less; stands = front.stands; is = front.is }))))
        | inr last ↦ (
            let same : front.index ≡ count = omega (arith, last, front.within) in
            let one : front.element ≡ element =
            same_Some front.element element (sym front.stands ∙ (ap (slice_get xs) same ∙ at)) in
            (now x).1 (inr (subst (λ (e : X). IsOf e x) one front.is)))
      ]
    ],
  )

  pub adds-more-at : (count : ℕ) (d : X) (old mid new : List Y) → count < length xs
      → Adds (FromFront IsOf xs count) old mid → Adds (IsOf (get_or xs count d)) mid new
      → Adds (FromFront IsOf xs (count + 1)) old new
  adds-more-at count d old mid new within before now =
      adds-more count (get_or xs count d) old mid new (slice_get-get_or xs count d within) before now

  pub adds-all : (count : ℕ) (old new : List Y) → length xs ≤ count → Adds (FromFront IsOf xs count) old new
      → Adds (FromFront IsOf xs (length xs)) old new
  adds-all count old new past before = λ x. (
    λ there. elim ((before x).0 there) [
      | inl kept ↦ inl kept
      | inr front ↦ inr (record {
        index = front.index;
        element = front.element;
        within = slice_get_within xs front.index front.element front.stands;
        stands = front.stands;
        is = front.is;
      })
    ],
    λ either. elim either [
      | inl kept ↦ (before x).1 (inl kept)
      | inr front ↦ (before x).1
          (inr (record {
            index = front.index;
            element = front.element;
            within = omega (arith, front.within, past);
            stands = front.stands;
            is = front.is;
          }))
    ],
  )

-- what is added by one account is by another
pub adds-same : {Y : Type 0} (P Q : Y → Type 0) (old new : List Y) → ((x : Y) → P x → Q x) → ((x : Y) → Q x → P x)
    → Adds P old new → Adds Q old new
adds-same P Q old new there back adds = λ x. (
  λ found. elim ((adds x).0 found) [ inl kept ↦ inl kept | inr added ↦ inr (there x added) ],
  λ either. elim either [ inl kept ↦ (adds x).1 (inl kept) | inr added ↦ (adds x).1 (inr (back x added)) ],
)

module _ (files : List File) (chosen : Chosen) where
  pub known-part : {owner : ℕ} {facts : Facts} {name : List ℕ} {count : ℕ} {part : Entity} → HasFacts files owner facts
      → HaveChoices files chosen → IsEntityOf owner facts name count part → IsKnownPart files chosen part
  known-part has choices (packaged prefix) = tt
  known-part {owner} {facts} has choices (declared {index = index} {declaration = declaration} at full) = (
    slice_get_within files owner has.file has.numbered,
    choices owner index facts declaration (record { has_facts = has; numbered = at }),
  )

  pub known-parts : (file : ℕ) (type_use : Use) (target : Target) → HaveChoices files chosen
      → IsTarget files file type_use target → All (IsKnownPart files chosen) target.parts
  known-parts file type_use target choices is =
      λ k d within. known-part is.known choices
      (is.named k (get_or target.parts k d) (slice_get-get_or target.parts k d within))

  -- by the use's only target
  pub of-use : (one : OneTargetAUse) (origins : HaveOrigins files) (clear : NoClash Keep files) (source : ℕ) (type_use : Use)
      (target : Target) (old new : List Pair) → IsSource files source
      → IsTarget files source type_use target
      → Adds (FromFront (IsOfPart files chosen) target.parts (length target.parts)) old new
      → Adds (IsOfUse files chosen source type_use) old new
  of-use one origins clear source type_use target old new is_source is =
      adds-same (FromFront (IsOfPart files chosen) target.parts (length target.parts))
      (IsOfUse files chosen source type_use) old new
      (λ x front. record { target = target; is_target = is; of_parts = front })
      (λ x used. subst (λ (t : Target). FromFront (IsOfPart files chosen) t.parts (length t.parts) x)
      (one Keep files origins clear source is_source type_use used.target target used.is_target is) used.of_parts)

  -- a use that names no type names none of them
  pub of-found : (one : OneTargetAUse) (origins : HaveOrigins files) (clear : NoClash Keep files) (source : ℕ) (type_use : Use)
      (found : Option Target) (old new : List Pair) → IsSource files source
      → IsFound files source type_use found
      → Adds (FromFront (IsOfPart files chosen) (parts_of found) (length (parts_of found))) old new
      → Adds (IsOfUse files chosen source type_use) old new
  of-found one origins clear source type_use None old new is_source unresolved =
      adds-same (FromFront (IsOfPart files chosen) [] 0) (IsOfUse files chosen source type_use) old new
      (λ x front. absurd (omega (arith, front.within)))
      (λ x used. absurd (unresolved used.target.name used.is_target.owner used.is_target.names))
  of-found one origins clear source type_use (Some target) old new is_source is =
      of-use one origins clear source type_use target old new is_source is

  pub found-parts : (source : ℕ) (type_use : Use) (found : Option Target) → HaveChoices files chosen
      → IsFound files source type_use found → All (IsKnownPart files chosen) (parts_of found)
  found-parts source type_use None have unresolved = λ k d within. absurd (omega (arith, within))
  found-parts source type_use (Some target) have is = known-parts source type_use target have is

  -- by the source's only facts
  pub of-source : (source : ℕ) (facts : Facts) (old new : List Pair) → IsSource files source
      → HasFacts files source facts
      → Adds (FromFront (IsOfUse files chosen source) facts.uses (length facts.uses)) old new
      → Adds (IsOfSource files chosen source) old new
  of-source source facts old new is_source known =
      adds-same (FromFront (IsOfUse files chosen source) facts.uses (length facts.uses))
      (IsOfSource files chosen source) old new
      (λ x front. record { is_source = is_source; facts = facts; known = known; of_uses = front })
      (λ x of. subst (λ (f : Facts). FromFront (IsOfUse files chosen source) f.uses (length f.uses) x)
      (one_list_of_facts files source of.facts facts of.known known) of.of_uses)

  -- of one file more
  pub external-more : (count : ℕ) (mid new : List Pair) → Adds (IsExternal files chosen count) [] mid
      → Adds (IsOfSource files chosen count) mid new → Adds (IsExternal files chosen (count + 1)) [] new
  external-more count mid new before now = λ x. (
    λ there. elim ((now x).0 there) [
      | inl earlier ↦ elim ((before x).0 earlier) [
        | inl none ↦ inl none
        | inr of ↦ inr (record { source = of.source; within = omega (arith, of.within); of_source = of.of_source })
      ]
      | inr added ↦ inr (record { source = count; within = omega arith; of_source = added })
    ],
    λ either. elim either [
      | inl none ↦ (now x).1 (inl ((before x).1 (inl none)))
      | inr of ↦ elim (cases_lt of.source count) [
        | inl less ↦ (now x).1 (inl
            ((before x).1 (inr (record { source = of.source; within = less; of_source = of.of_source }))))
        | inr last ↦ (
            let same : of.source ≡ count = omega (arith, last, of.within) in
            (now x).1 (inr (subst (λ n. IsOfSource files chosen n x) same of.of_source)))
      ]
    ],
  )
