-- What the components of a name name: those of a full name, the last one in place of what is declared there.
use Rattle.std.proofs.Common.{◌≡◌, ℕ, ◌+◌, ◌-◌, ◌<◌, ◌≤◌, List, [], ◌∷◌, ◌++◌, length, take, drop, Some}
use Rattle.std.proofs.Common.{inl, inr, refl, ap, sym, ◌∙◌, subst, arith}
use Rattle.std.proofs.lemmas.Bool.{cases_lt}
use Rattle.std.specs.List.{slice_get}
use Rattle.std.proofs.lemmas.List.{length-take-le, length_push, get_or_push, take-append-drop}
use Rattle.std.proofs.lemmas.List.Splits.{length-slice_split}
use Rattle.std.proofs.lemmas.List.Sums.{count_by-le-length}
use Rattle.std.proofs.lemmas.Option.{same_Some, slice_get_within, slice_get-get_or}
use Rattle.basics.proofs.FirstLemmas.{contained}
use Rattle.proto_decl.specs.Names.{components_of, prefix_of}
use Rattle.proto_decl.specs.Facts.{Facts}
use Rattle.proto_decl.specs.declared.declaration.Declaration.{Declaration}
use Rattle.proto_decl.proofs.NameComponentLemmas.{is_dot, whole_prefix}
use Rattle.proto_options.specs.declared.names.OptionName.{OptionName}
use Rattle.proto_visibility.specs.Files.{File}
use Rattle.proto_visibility.specs.Knows.{IsEntityOf}
use Rattle.proto_visibility.specs.Knows.IsEntityOf.{declared as entity-declared}
use Rattle.proto_visibility.specs.declared.lookup.Entity.{Entity}
use Rattle.proto_visibility.specs.declared.lookup.Entity.TheVariants.{Declared}
use Rattle.proto_visibility.proofs.FileFactLemmas.{one_list_of_facts}
use Rattle.proto_visibility.proofs.SeeingLemmas.{slice_get_prefix}
use Rattle.option_link.specs.declared.place.DeclaredPlace.{DeclaredPlace}
use Rattle.option_link.specs.Places.{IsDeclaredIn, Stands}
use Rattle.option_link.specs.OptionNames.{NamesParts}
use Rattle.option_link.specs.Found.{AreOuterEntitiesAt, NamesOuterParts}
use Rattle.option_link.proofs.FitLemmas.{some_components}

-- a name has at most one component more than bytes
pub components_within : (name : List ℕ) → length (components_of name) ≤ length name + 1
components_within name = omega (arith, length-slice_split is_dot name, count_by-le-length is_dot name)

pub declared_in_file : (files : List File) (at : DeclaredPlace) (d : Declaration) (name : List ℕ) → Stands files at d
    → name ≡ d.full_name → IsDeclaredIn files at.file name
declared_in_file files at d name stands is = record {
  facts = stands.facts;
  known = stands.known;
  declaration = d;
  listed = contained stands.facts.declarations at.index d stands.listed;
  named = sym is;
}

-- what is around the last component, where there is one alone: nothing
pub none_outer : (files : List File) (name : OptionName) (at : DeclaredPlace) (behind : ℕ) (d : Declaration)
    → Stands files at d → length name.name.components ≡ 1
    → length name.name.components + behind ≤ length (components_of d.full_name)
    → NamesOuterParts files name at behind []
none_outer files name at behind d stands one few = record {
  declaration = d;
  stands = stands;
  skipped = length (components_of d.full_name) - (1 + behind);
  split = omega (arith, one, few);
  one_each = sym one;
  named = λ j part there. absurd (omega (arith, slice_get_within [] j part there));
}

-- where there are more: what those in front of the last one name
module _ (files : List File) (name : OptionName) (at : DeclaredPlace) (behind : ℕ) (d : Declaration)
    (stands : Stands files at d) (count : ℕ) (is_count : count ≡ length name.name.components) (some : 0 < count)
    (few : count + behind ≤ length (components_of d.full_name)) (all : List Entity)
    (are : AreOuterEntitiesAt files at.file d.full_name (count + behind) all) where
  pub outer_by : (parts : List Entity) → parts ≡ take (count - 1) all → NamesOuterParts files name at behind parts
  outer_by parts taken = subst (NamesOuterParts files name at behind) (sym taken) (record {
    declaration = d;
    stands = stands;
    skipped = length (components_of d.full_name) - (count + behind);
    split = omega (arith, is_count, few);
    one_each = omega (arith, size, some, is_count);
    named = λ j part there.
        let within = slice_get_within (take (count - 1) all) j part there in
        subst (λ (f : Facts). IsEntityOf at.file f (prefix_of d.full_name (length
        (components_of d.full_name) - (count + behind) + j + 1))
        (length (components_of d.full_name) - (count + behind) + j + 1) part)
        (one_list_of_facts files at.file are.facts stands.facts are.known stands.known)
        (are.are.named j part (ap (λ (xs : List Entity). slice_get xs j) (sym (take-append-drop (count - 1) all))
        ∙ (slice_get_prefix (take (count - 1) all) (drop (count - 1) all) j within ∙ there)));
  })
    where
      size : length (take (count - 1) all) ≡ count - 1
      size = length-take-le (count - 1) all (omega (arith, are.are.one_each))

-- the last one is what is declared at the place
module _ (files : List File) (name : OptionName) (at : DeclaredPlace) (front : List Entity)
    (behind : ℕ) (outer : NamesOuterParts files name at behind front) where
  pub parts_by : (new : List Entity) → new ≡ front ++ Declared at.file at.index ∷ []
      → NamesParts files name at behind new
  parts_by new made = subst (NamesParts files name at behind) (sym made) (record {
    declaration = outer.declaration;
    stands = outer.stands;
    facts = outer.stands.facts;
    known = outer.stands.known;
    skipped = outer.skipped;
    split = outer.split;
    one_each = omega (arith, length_push front its, outer.one_each);
    named = λ j part there more.
        let before : j < length front = omega (arith, more, length_push front its) in
        outer.named j part (sym (slice_get_prefix front (its ∷ []) j before) ∙ there);
    last = λ j end. (
        let here : j ≡ length front = omega (arith, end, length_push front its) in
        let within : j < length (front ++ its ∷ []) = omega (arith, here, length_push front its) in
        slice_get-get_or (front ++ its ∷ []) j its within ∙ ap Some (get_or_push front its its j (sym here)));
  })
    where
      its : Entity
      its = Declared at.file at.index

-- each of them is the entity of so many components of the full name
module _ (files : List File) {name : OptionName} {at : DeclaredPlace} {behind : ℕ} {parts : List Entity}
    (is : NamesParts files name at behind parts) where
  pub entity_of_part : (index : ℕ) (part : Entity) → slice_get parts index ≡ Some part
      → (count : ℕ) × (0 < count)
      × IsEntityOf at.file is.facts (prefix_of is.declaration.full_name count) count part
  entity_of_part index part there = elim (cases_lt (index + 1) (length parts)) [
    | inl outer ↦ (is.skipped + index + 1, omega arith, is.named index part there outer)
    | inr last ↦ (
        let full = is.declaration.full_name in
        let end : index + 1 ≡ length parts = omega (arith, last, slice_get_within parts index part there) in
        let facts = one_list_of_facts files at.file is.stands.facts is.facts is.stands.known is.known in
        let listed = subst (λ (f : Facts). slice_get f.declarations at.index ≡ Some is.declaration) facts
        is.stands.listed in
        let count = length (components_of full) in (
          count,
          some_components full,
          subst (IsEntityOf at.file is.facts (prefix_of full count) count)
              (same_Some (Declared at.file at.index) part (sym (is.last index end) ∙ there))
              (entity-declared listed (sym (whole_prefix full count refl))),
        ))
  ]
