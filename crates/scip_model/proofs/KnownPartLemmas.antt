-- The numbers that are kept of what the names in a document's options named.
use Rattle.std.proofs.Common.{◌≡◌, ◌∙◌, sym, ap, refl, subst, ◌⊎◌, inl, inr, ⊎_elim, ℕ, Option, None, Some, List, All}
use Rattle.std.specs.List.{Contains, slice_set}
use Rattle.std.proofs.lemmas.List.Elements.{All-contains, All-contains_itself, All-set, All-weaker}
use Rattle.std.proofs.lemmas.Option.{none-some, same_Some}
use Rattle.option_link.specs.declared.place.DeclaredPlace.{DeclaredPlace}
use Rattle.proto_visibility.specs.Files.{File}
use Rattle.proto_visibility.specs.declared.lookup.Entity.{Entity}
use Rattle.proto_visibility.specs.declared.lookup.Entity.TheVariants.{Declared}
use Rattle.scip_model.specs.Packages.{Packages}
use Rattle.scip_model.specs.Tables.KnownParts.{AreKnown, NumbersPart, known_part}
use Rattle.scip_model.specs.Tables.Listing.{IsNameable, entity_of}
use Rattle.scip_model.specs.Tables.Plans.{Grown}
use Rattle.scip_model.specs.declared.document_maker.DocumentMaker.{DocumentMaker}
use Rattle.scip_model.specs.declared.known_parts.KnownPart.{KnownPart}
use Rattle.scip_model.specs.declared.known_parts.KnownParts.{KnownParts}
use Rattle.scip_model.proofs.PlanLemmas.{number_then}

-- ---- slots

pub none_there : (slots : List (Option KnownPart)) → All (λ slot. slot ≡ None) slots → (known : KnownPart)
    → Contains slots (Some known) → ⊥
none_there slots empty known there =
    none-some known (sym (All-contains (λ (slot : Option KnownPart). slot ≡ None) slots (Some known) empty there))

pub one_more : (slots : List (Option KnownPart)) (slot : ℕ) (one known : KnownPart)
    → Contains (slice_set slots slot (Some one)) (Some known) → Contains slots (Some known) ⊎ (known ≡ one)
one_more slots slot one known there =
    let Is : Option KnownPart → Type 0 = λ found. (its : KnownPart) → found ≡ Some its
    → Contains slots (Some its) ⊎ (its ≡ one) in
    All-contains Is (slice_set slots slot (Some one)) (Some known)
    (All-set Is slots slot (Some one) (λ its is. inr (same_Some its one (sym is)))
    (All-weaker (Contains slots) Is
    (λ found listed its is. inl (subst (λ (o : Option KnownPart). Contains slots o) is listed)) slots
    (All-contains_itself slots)))
    there known refl

-- ---- numbers

module _ (maker : DocumentMaker) where
  numbers_then : (a b : List (List ℕ)) (place : DeclaredPlace) (part : Entity) (number : ℕ)
      → NumbersPart maker a place part number → Grown a b → NumbersPart maker b place part number
  numbers_then a b place part number is grown = λ facts declared has.
      let at = is facts declared has in (at.0, at.1, number_then a b at.0 number at.2 grown)

  -- one more is kept
  pub known_more : (a b : List (List ℕ)) (old new : KnownParts) (place : DeclaredPlace) (part : Entity) (number : ℕ)
      → AreKnown maker a old → Grown a b → NumbersPart maker b place part number
      → ((known : KnownPart) → Contains new.slots.items (Some known)
      → Contains old.slots.items (Some known) ⊎ (known ≡ known_part place part number))
      → AreKnown maker b new
  known_more a b old new place part number known grown is gains = λ its there.
      ⊎_elim (λ before. numbers_then a b its.place its.part its.number (known its before) grown)
      (λ same. subst (λ (k : KnownPart). NumbersPart maker b k.place k.part k.number) (sym same) is) (gains its there)

-- ---- declarations, whose symbols have nothing of a full name

pub nameable_as : (files : List File) (name other : List ℕ) (part : Entity) (file index : ℕ)
    → part ≡ Declared file index → IsNameable files name part → IsNameable files other part
nameable_as files name other part file index is nameable =
    subst (λ (e : Entity). IsNameable files other e) (sym is)
    (subst (λ (e : Entity). IsNameable files name e) is nameable)

pub named_as : (files : List File) (ids : Packages) (name other : List ℕ) (part : Entity) (file index : ℕ)
    → part ≡ Declared file index → entity_of files ids name part ≡ entity_of files ids other part
named_as files ids name other part file index is =
    ap (entity_of files ids name) is ∙ sym (ap (entity_of files ids other) is)
