-- A use of a file names in a part of files what it names in the whole.
use Rattle.std.proofs.Common.{◌≡◌, ◌∙◌, ◌↔◌, ℕ, ◌+◌, ◌<◌, zero, suc, Bool, List, [], ◌∷◌, length, map, Some, ap, sym}
use Rattle.std.proofs.Common.{refl, subst}
use Rattle.std.specs.Prelude.{⊤}
use Rattle.std.specs.List.{slice_get}
use Rattle.std.proofs.lemmas.Option.{same_Some, none-some, slice_get_within}
use Rattle.std.proofs.lemmas.List.{length-map}
use Rattle.basics.proofs.ListLemmas.{item_at}
use Rattle.proto_decl.specs.Names.{prefix_of, qualified}
use Rattle.proto_decl.specs.Facts.{Facts}
use Rattle.proto_decl.specs.declared.uses.Use.{Use}
use Rattle.proto_visibility.specs.declared.lookup.Entity.{Entity}
use Rattle.proto_visibility.specs.Files.{File, HaveOwnPaths, IsPresent}
use Rattle.proto_visibility.specs.Knows.{NameKind, KnowsAs, IsEntityOf, IsOwner}
use Rattle.proto_visibility.specs.Parts.{HasAllSeen, IsOfPart, IsPart, entity_at, renumbered}
use Rattle.proto_visibility.proofs.PartLemmas.{Shares, entity_back, entity_to, facts_of, facts_to, known_alike}
use Rattle.proto_visibility.proofs.PartLemmas.{owner_back, owner_to, shares}
use Rattle.proto_visibility.proofs.PartLinkedLemmas as linked
use Rattle.proto_visibility.proofs.KeptAmongLemmas.{from_mapped}
use Rattle.proto_link.specs.declared.target.Target.{Target}
use Rattle.proto_link.specs.Resolves.{Innermost, ResolvesIn, wanted}
use Rattle.proto_link.specs.Resolves.Innermost.{here, farther}
use Rattle.proto_link.specs.Resolves.ResolvesIn.{absolute, single, extended, compound}
use Rattle.proto_link.specs.Targets.{Names, IsTarget}
use Rattle.proto_link.specs.Parts.{NamesTheSame, PartsResolveAlike, ResolvesAlike, target_at}

-- ---- what is known alike is resolved alike

module _ (files others : List File) (number other : ℕ)
    (alike : (admits : NameKind → Bool) (name : List ℕ) → KnowsAs files number admits name
    ↔ KnowsAs others other admits name) where
  pub innermost : {admits : NameKind → Bool} {word from scope : List ℕ} → Innermost files number admits word from scope
      → Innermost others other admits word from scope
  innermost {admits} {word} (here {scope = scope} known) = here ((alike admits (qualified scope word)).0 known)
  innermost {admits} {word} (farther {scope = scope} absent is inner) =
      farther (λ known. absent ((alike admits (qualified scope word)).1 known)) is (innermost inner)

  pub resolves : {is_extended has_dot : Bool} {words : List (List ℕ)} {from name : List ℕ}
      → ResolvesIn files number is_extended has_dot words from name
      → ResolvesIn others other is_extended has_dot words from name
  resolves (absolute {is_extended = is_extended} known) = absolute ((alike (wanted is_extended) _).0 known)
  resolves (single inner) = single (innermost inner)
  resolves (extended inner known) = extended (innermost inner) ((alike _ _).0 known)
  resolves (compound {is_extended = is_extended} inner known) =
      compound (innermost inner) ((alike (wanted is_extended) _).0 known)

-- ---- what the components name

one_more : (P : ℕ → Entity → Type 0) (first : Entity) (others : List Entity) → P zero first
    → ((index : ℕ) (other : Entity) → slice_get others index ≡ Some other → P (suc index) other)
    → (index : ℕ) (other : Entity) → slice_get (first ∷ others) index ≡ Some other → P index other
one_more P first others is more zero other stands = subst (P zero) (same_Some first other stands) is
one_more P first others is more (suc index) other stands = more index other stands

pub parts_of : (at : ℕ → ℕ) (P : ℕ → Entity → Type 0) (parts : List Entity)
    → ((index : ℕ) (part : Entity) → slice_get parts index ≡ Some part
    → (own : Entity) × (entity_at at own ≡ part) × P index own)
    → (owns : List Entity) × (map (entity_at at) owns ≡ parts)
    × ((index : ℕ) (own : Entity) → slice_get owns index ≡ Some own → P index own)
parts_of at P [] of = ([], refl, λ index own stands. absurd (none-some own stands))
parts_of at P (part ∷ parts) of =
    let first = of zero part refl in
    let more = parts_of at (λ index. P (suc index)) parts (λ index other stands. of (suc index) other stands) in (
      first.0 ∷ more.0,
      λ i. first.1 i ∷ more.1 i,
      one_more P first.0 more.0 first.2 more.2,
    )

-- what a component is to name, by its index, in the file that declares the type
abbrev IsPartAt : (name : List ℕ) (skipped : ℕ) (facts : Facts) (owner index : ℕ) → Entity → Type 0
IsPartAt name skipped facts owner index =
    IsEntityOf owner facts (prefix_of name (skipped + index + 1)) (skipped + index + 1)

-- ---- both ways, if files stay that others have

module _ (files others : List File) (at : ℕ → ℕ)
    (there : (k : ℕ) (file : File) → slice_get files k ≡ Some file → Shares others (at k) file)
    (number : ℕ) (within : number < length files) (all : HasAllSeen files others at number)
    (Stays : ℕ → Type 0) (present_to : (k : ℕ) → IsPresent files k → IsPresent others (at k) × Stays (at k))
    (present_back : (k : ℕ) → k < length files → IsPresent others (at k) → Stays (at k) → IsPresent files k)
    (one : (i j : ℕ) → i < length files → j < length files → at i ≡ at j → i ≡ j) (type_use : Use) where
  pub names_to : (name : List ℕ) (owner : ℕ) → Names files number type_use name owner
      → Names others (at number) type_use name (at owner) × Stays (at owner)
  names_to name owner is =
      let owned = owner_to files others at there number within all Stays present_to present_back one
      (wanted type_use.is_extended) name owner is.owned in (
        record {
          resolves = resolves files others number (at number) (known_alike files others at there number within all)
              is.resolves;
          owned = owned.0;
        },
        owned.1,
      )

  pub names_back : (name : List ℕ) (n : ℕ) → Names others (at number) type_use name n → Stays n
      → (own : IsOfPart files at n) × Names files number type_use name own.number
  names_back name n is stays =
      let owned = owner_back files others at there number within all Stays present_to present_back one
      (wanted type_use.is_extended) name n is.owned stays in (
        owned.own,
        record {
          resolves = resolves others files (at number) number
              (λ admits text. let known = known_alike files others at there number within all admits text in
              (known.1, known.0)) is.resolves;
          owned = owned.owns;
        },
      )

  pub target_to : (target : Target) → IsTarget files number type_use target
      → (is : IsTarget others (at number) type_use (target_at at target)) × Stays is.owner
  target_to target is =
      let names = names_to target.name is.owner is.names in
      let known = facts_to files others at there is.owner is.facts is.known in (
        record {
          owner = at is.owner;
          facts = renumbered known.0 is.facts;
          names = names.0;
          known = known.1;
          skipped = is.skipped;
          split = is.split;
          one_each = length-map target.parts (entity_at at) ∙ is.one_each;
          named = λ j part stands.
              let own = from_mapped (entity_at at) target.parts j part stands in
              subst (IsPartAt target.name is.skipped (renumbered known.0 is.facts) (at is.owner) j) own.2
              (entity_to at is.owner known.0 own.0 (is.named j own.0 own.1));
        },
        names.1,
      )

  pub target_back : (target : Target) (is : IsTarget others (at number) type_use target) → Stays is.owner
      → NamesTheSame files at number type_use target
  target_back target is stays =
      let its = names_back target.name is.owner is.names stays in
      let known = facts_of files others at there its.0 is.known in
      let owns = parts_of at (IsPartAt target.name is.skipped (renumbered known.0 is.facts) its.0.number) target.parts
      (λ j part stands. entity_back at its.0.number known.0 part
      (subst (λ n. IsPartAt target.name is.skipped is.facts n j part) (sym its.0.same) (is.named j part stands))) in
      record {
        own = record { name = target.name; parts = owns.0 };
        is_target = record {
          owner = its.0.number;
          facts = renumbered known.0 is.facts;
          names = its.1;
          known = known.1;
          skipped = is.skipped;
          split = is.split;
          one_each = sym (length-map owns.0 (entity_at at)) ∙ (ap length owns.1 ∙ is.one_each);
          named = owns.2;
        };
        same = λ i. record { name = target.name; parts = owns.1 i };
      }

-- ---- in parts all files stay

module _ (part whole : List File) (at : ℕ → ℕ) (own : HaveOwnPaths part) (are : IsPart part whole at) where
  present_too : (k : ℕ) → IsPresent part k → IsPresent whole (at k) × ⊤
  present_too k is = (linked.present_to part whole at are k is, tt)

  present_as_well : (k : ℕ) → k < length part → IsPresent whole (at k) → ⊤ → IsPresent part k
  present_as_well k inside is stays =
      let its = item_at part k inside in linked.present_back part whole at are k its.0 its.1 is

  pub one_number : (i j : ℕ) → i < length part → j < length part → at i ≡ at j → i ≡ j
  one_number i j i_in j_in same =
      let a = item_at part i i_in in
      let b = item_at part j j_in in
      linked.one_number part whole at are own i j a.0 b.0 a.1 b.1 same

  module _ (number : ℕ) (file : File) (numbered : slice_get part number ≡ Some file)
      (all : HasAllSeen part whole at number) where
    within : number < length part
    within = slice_get_within part number file numbered

    pub owner_in_whole : (admits : NameKind → Bool) (name : List ℕ) (owner : ℕ)
        → IsOwner part number admits name owner → IsOwner whole (at number) admits name (at owner)
    owner_in_whole admits name owner is =
        (owner_to part whole at (shares part whole at are) number within all (λ n. ⊤) present_too present_as_well
        one_number admits name owner is).0

    pub owner_in_part : (admits : NameKind → Bool) (name : List ℕ) (n : ℕ) → IsOwner whole (at number) admits name n
        → (own : IsOfPart part at n) × IsOwner part number admits name own.number
    owner_in_part admits name n is =
        let owned = owner_back part whole at (shares part whole at are) number within all (λ n. ⊤) present_too
        present_as_well one_number admits name n is tt in
        (owned.own, owned.owns)

    pub known_in_whole : (admits : NameKind → Bool) (name : List ℕ) → KnowsAs part number admits name
        ↔ KnowsAs whole (at number) admits name
    known_in_whole = known_alike part whole at (shares part whole at are) number within all

    pub names_in_whole : (type_use : Use) (name : List ℕ) (owner : ℕ) → Names part number type_use name owner
        → Names whole (at number) type_use name (at owner)
    names_in_whole type_use name owner is =
        (names_to part whole at (shares part whole at are) number within all (λ n. ⊤) present_too present_as_well
        one_number type_use name owner is).0

    pub names_in_part : (type_use : Use) (name : List ℕ) (n : ℕ) → Names whole (at number) type_use name n
        → (own : IsOfPart part at n) × Names part number type_use name own.number
    names_in_part type_use name n is =
        names_back part whole at (shares part whole at are) number within all (λ n. ⊤) present_too present_as_well
        one_number type_use name n is tt

    pub resolve_alike : (type_use : Use) → ResolvesAlike part whole at number type_use
    resolve_alike type_use = record {
      never_invented = λ target is.
          (target_to part whole at (shares part whole at are) number within all (λ n. ⊤) present_too present_as_well
          one_number type_use target is).0;
      never_lost = λ target is.
          target_back part whole at (shares part whole at are) number within all (λ n. ⊤) present_too present_as_well
          one_number type_use target is tt;
    }

pub parts_resolve_alike : PartsResolveAlike
parts_resolve_alike part whole at own are number file numbered all =
    resolve_alike part whole at own are number file numbered all
