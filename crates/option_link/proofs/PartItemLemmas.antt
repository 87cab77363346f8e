-- The extensions of message sets that messages of a part declare for themselves, as in the whole.
use Rattle.std.proofs.Common.{◌≡◌, ◌↔◌, ℕ, Bool, List, sym, subst}
use Rattle.proto_decl.specs.declared.declaration.DeclarationKind.TheVariants.{Field}
use Rattle.proto_visibility.specs.Files.{File, HaveOwnPaths}
use Rattle.proto_visibility.specs.Knows.{NameKind, KnowsAs}
use Rattle.proto_visibility.specs.Parts.{IsPart}
use Rattle.proto_link.proofs.PartLemmas.{innermost}
use Rattle.option_link.specs.declared.contexts.Context.TheVariants as inside
use Rattle.option_link.specs.declared.facts.OptionFacts.{OptionFacts}
use Rattle.option_link.specs.declared.place.DeclaredPlace.{DeclaredPlace}
use Rattle.option_link.specs.Places.{place_at}
use Rattle.option_link.specs.Fields.{Extends, FieldGives, IsFirstItem, IsItem}
use Rattle.option_link.specs.Lookups.{LooksFor}
use Rattle.option_link.specs.Lookups.LooksFor.{absolute, single, compound}
use Rattle.option_link.specs.Parts.{AreKnownAlike}
use Rattle.option_link.proofs.PartPlaceLemmas.{beside_is, extends_back, extends_to, member_back, member_to, one_place}
use Rattle.option_link.proofs.PartContextLemmas.{Deep, field_gives_back, field_gives_to, from_message, to}

-- what is known alike is looked for alike
pub looks_for : (files others : List File) (number other : ℕ)
    → ((admits : NameKind → Bool) (name : List ℕ) → KnowsAs files number admits name ↔ KnowsAs others other admits name)
    → {has_dot : Bool} {words : List (List ℕ)} {from name : List ℕ} → LooksFor files number has_dot words from name
    → LooksFor others other has_dot words from name
looks_for files others number other alike absolute = absolute
looks_for files others number other alike (single inner) = single (innermost files others number other alike inner)
looks_for files others number other alike (compound inner) = compound (innermost files others number other alike inner)

module _ (part whole : List File) (at : ℕ → ℕ) (own_paths : HaveOwnPaths part) (are : IsPart part whole at)
    (known theirs : List OptionFacts) (alike : AreKnownAlike part at known theirs) where
  abbrev there : DeclaredPlace → DeclaredPlace
  there place = to part whole at own_paths are known theirs alike place

  abbrev IsWithinFile : ℕ → Type 0
  IsWithinFile = Deep part whole at own_paths are known theirs alike

  pub item_to : (set type field : DeclaredPlace) → IsWithinFile field.file → IsItem part known set type field
      → IsItem whole theirs (there set) (there type) (there field)
  item_to set type field deep x = record {
    name = x.name;
    plain = x.plain;
    member = member_to part whole at own_paths are known theirs alike type Field x.name field x.member;
    extends = extends_to part whole at own_paths are known theirs alike set field deep x.extends;
    of_type = (field_gives_to part whole at own_paths are known theirs alike field deep (inside.Message type)
        x.of_type).0;
  }

  module _ (set type : DeclaredPlace) (set_deep : IsWithinFile set.file) (deep : IsWithinFile type.file) where
    item_back : (index : ℕ) → IsItem whole theirs (there set) (there type) (there (place_at type.file index))
        → IsItem part known set type (place_at type.file index)
    item_back index x =
        let field = place_at type.file index in
        let extended = extends_back part whole at own_paths are known theirs alike (there set) field deep x.extends in
        let set_is : extended.own ≡ set =
        one_place part whole at own_paths are known theirs alike extended.own set extended.deep.file set_deep.file
        extended.deep.stands set_deep.stands extended.same in
        let gives = field_gives_back part whole at own_paths are known theirs alike field deep
        (inside.Message (there type)) x.of_type in
        let from = from_message part whole at own_paths are known theirs alike gives.own (there type) gives.deep
        gives.same in
        let type_is : from.place ≡ type =
        one_place part whole at own_paths are known theirs alike from.place type from.deep.file deep.file
        from.deep.stands deep.stands from.same in
        record {
          name = x.name;
          plain = x.plain;
          member = member_back part whole at own_paths are known theirs alike type.file type.index index deep.file
              deep.stands Field x.name x.member;
          extends = subst (λ (s : DeclaredPlace). Extends part known s field) set_is extended.holds;
          of_type = subst (λ (t : DeclaredPlace). FieldGives part known field (inside.Message t)) type_is
              (subst (FieldGives part known field) from.is gives.holds);
        }

    item_beside : (field : DeclaredPlace) → IsItem whole theirs (there set) (there type) field
        → IsItem part known set type (place_at type.file field.index)
    item_beside field x = item_back field.index (subst (IsItem whole theirs (there set) (there type))
        (sym (beside_is part whole at own_paths are known theirs alike type field x.member.same_file)) x)

    pub first_item_to : (field : DeclaredPlace) → IsFirstItem part known set type field
        → IsFirstItem whole theirs (there set) (there type) (there field)
    first_item_to field x = record {
      is = item_to set type field (subst IsWithinFile (sym x.is.member.same_file) deep) x.is;
      first = λ other y. x.first (place_at type.file other.index) (item_beside other y);
    }

    pub first_item_back : (field : DeclaredPlace) → IsFirstItem whole theirs (there set) (there type) field
        → IsFirstItem part known set type (place_at type.file field.index)
    first_item_back field x = record {
      is = item_beside field x.is;
      first = λ other y. x.first (there other)
          (item_to set type other (subst IsWithinFile (sym y.member.same_file) deep) y);
    }
