use Rattle.std.proofs.Common.{◌≡◌, ◌++◌, Option, List, take}
use Rattle.std.specs.List.{AllZip}
use Rattle.proto_link.specs.declared.target.Target.{Target}
use Rattle.scip_model.specs.Conditions.{IsFound}
use Rattle.scip_model.specs.Tables.Listing.{each_from, at_use, unresolved_use_at}
use Rattle.scip_model.specs.Tables.Plans.{Around, Grown, ArePlanned}
use Rattle.scip_model.proofs.use_occurrences.use_occurrences.Given as goal

-- what the uses so far name
abbrev pub invariant-loop-type_use : goal.invariant-loop-type_use
invariant-loop-type_use l = record {
  grown : Grown l.fn.texts l.texts;
  so_far : (found : List (Option Target))
      × AllZip (IsFound l.maker.package.now.files l.maker.source) (take l.type_use-index l.uses) found
      × ((around : Around) → ArePlanned around l.texts l.list.items (each_from (at_use l.maker.package.now.ids
      l.maker.encoding l.maker.text.now l.maker.package.now.files l.maker.choices.now found) 0
      (take l.type_use-index l.uses)))
      × (l.unresolved_uses.items ≡ l.fn.unresolved_uses.items ++ each_from (unresolved_use_at found) 0
      (take l.type_use-index l.uses));
}
