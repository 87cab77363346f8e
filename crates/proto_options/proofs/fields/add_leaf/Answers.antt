use Rattle.std.proofs.Common.{◌∙◌, ◌++◌, List, ap, sym}
use Rattle.std.proofs.lemmas.List.{append-nil}
use Rattle.proto_parse.specs.Parts.{of_leaf}
use Rattle.proto_options.specs.declared.fields.FieldFact.{FieldFact}
use Rattle.proto_options.specs.Fields.{extended_in, fields_by}
use Rattle.proto_options.proofs.FieldLemmas.{no_fields_in_enum}
use Rattle.proto_options.proofs.fields.add_leaf.Goals as goal

pub returns-in-Enum : goal.returns-in-Enum
returns-in-Enum c =
    let fields = c.args.fields.now.items in
    sym
    (ap (λ (found : List FieldFact). fields ++ found)
    (ap (of_leaf extended_in fields_by c.args.extended) c.in-Enum.is
    ∙ no_fields_in_enum c.args.extended c.in-Enum.field-0)
    ∙ append-nil fields)
