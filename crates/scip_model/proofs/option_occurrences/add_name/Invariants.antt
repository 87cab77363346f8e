use Rattle.std.proofs.Common.{◌≡◌, ◌++◌, List, ℕ, drop, map}
use Rattle.proto_decl.specs.Facts.{Facts}
use Rattle.proto_decl.specs.declared.declaration.Declaration.{Declaration}
use Rattle.scip_model.specs.Makers.{IsDeclaredAt, at_its_name}
use Rattle.scip_model.specs.Tables.KnownParts.{AreKnown}
use Rattle.scip_model.specs.Tables.Listing.{each_from}
use Rattle.scip_model.specs.Tables.Plans.{Around, Grown, occurrence_of}
use Rattle.scip_model.proofs.option_occurrences.add_name.Given as goal

abbrev pub invariant-loop-index : goal.invariant-loop-index
invariant-loop-index l = record {
  grown : Grown l.fn.texts l.texts;
  known : AreKnown l.maker l.texts l.plan.known;
  added : (facts : Facts) (declared : Declaration) → IsDeclaredAt l.maker l.fn.place facts declared
      → (around : Around) (later : List (List ℕ)) → Grown l.texts later
      → map (occurrence_of around later) l.plan.list.items
      ++ each_from (at_its_name l.maker declared.full_name l.parts) l.index (drop l.index l.span-items)
      ≡ map (occurrence_of around later) l.fn.plan.list.items
      ++ each_from (at_its_name l.maker declared.full_name l.parts) 0 l.span-items;
}
