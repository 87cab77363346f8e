-- The numbers that are kept of what the names in a document's options named.
use Rattle.std.specs.Prelude.{ℕ, List, Some, Contains}
use Rattle.proto_decl.specs.Facts.{Facts}
use Rattle.proto_decl.specs.declared.declaration.Declaration.{Declaration}
use Rattle.proto_visibility.specs.declared.lookup.Entity.{Entity}
use Rattle.option_link.specs.declared.place.DeclaredPlace.{DeclaredPlace}
use Rattle.scip_model.specs.Makers.{CanName, IsDeclaredAt, entity_named, part_package}
use Rattle.scip_model.specs.Tables.Plans.{IsNumberIn}
use Rattle.scip_model.specs.declared.document_maker.DocumentMaker.{DocumentMaker}
use Rattle.scip_model.specs.declared.known_parts.KnownPart.{KnownPart}
use Rattle.scip_model.specs.declared.known_parts.KnownParts.{KnownParts}

abbrev pub known_part : DeclaredPlace → Entity → (number : ℕ) → KnownPart
known_part place part number = record { place = place; part = part; number = number }

module _ (maker : DocumentMaker) where
  -- the part of the full name of what is declared at a place has a symbol
  abbrev pub CanNamePartAt : DeclaredPlace → Entity → Type 0
  CanNamePartAt place part =
      (facts : Facts) (declared : Declaration) → IsDeclaredAt maker place facts declared
      → CanName maker declared.full_name part

  -- the number is that of its symbol's text
  abbrev pub NumbersPart : (texts : List (List ℕ)) → DeclaredPlace → Entity → (number : ℕ) → Type 0
  NumbersPart texts place part number =
      (facts : Facts) (declared : Declaration) → IsDeclaredAt maker place facts declared
      → IsNumberIn texts (part_package maker part) (entity_named maker declared.full_name part) number

  -- all that is kept is
  abbrev pub AreKnown : (texts : List (List ℕ)) → KnownParts → Type 0
  AreKnown texts parts =
      (known : KnownPart) → Contains parts.slots.items (Some known)
      → NumbersPart texts known.place known.part known.number
