use Rattle.std.proofs.Common.{◌∙◌, ◌++◌, None, List, ap, sym}
use Rattle.std.proofs.lemmas.List.{append-nil}
use Rattle.proto_options.specs.declared.fields.FieldFact.{FieldFact}
use Rattle.proto_options.specs.Fields.{fields_in_item}
use Rattle.proto_options.proofs.FieldLemmas.{no_fields_in_enum, no_fields_in_service}
use Rattle.proto_options.proofs.fields.add_item.Goals as goal

pub returns-in-Enum : goal.returns-in-Enum
returns-in-Enum c =
    let fields = c.args.fields.now.items in
    sym
    (ap (λ (found : List FieldFact). fields ++ found)
    (ap fields_in_item c.in-Enum.is ∙ no_fields_in_enum None c.in-Enum.field-0)
    ∙ append-nil fields)

pub returns-in-Service : goal.returns-in-Service
returns-in-Service c =
    let fields = c.args.fields.now.items in
    sym
    (ap (λ (found : List FieldFact). fields ++ found)
    (ap fields_in_item c.in-Service.is ∙ no_fields_in_service None c.in-Service.field-0)
    ∙ append-nil fields)
