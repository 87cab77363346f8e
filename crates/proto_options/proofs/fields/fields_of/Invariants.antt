use Rattle.std.proofs.Common.{◌≡◌, ◌++◌, drop}
use Rattle.std.specs.List.{flat_map}
use Rattle.proto_options.specs.Fields.{fields_in_item}
use Rattle.proto_options.proofs.fields.fields_of.Given as goal

-- what is found so far, and the fields of the items left, are all
abbrev pub invariant-loop-item : goal.invariant-loop-item
invariant-loop-item l =
    l.fields.items ++ flat_map fields_in_item (drop l.item-index l.item-items) ≡ flat_map fields_in_item l.item-items
