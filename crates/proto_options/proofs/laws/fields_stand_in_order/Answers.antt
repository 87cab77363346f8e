use Rattle.proto_parse.specs.Walk.{marks_of_items}
use Rattle.proto_decl.proofs.OutlineOrderLemmas.{names_in_order}
use Rattle.proto_options.proofs.FieldOrderLemmas.{fields_rise}
use Rattle.proto_options.proofs.laws.fields_stand_in_order.Goals as goal

pub returns : goal.returns
returns c = λ lexed file is_lexed derives.
    fields_rise lexed.text file (names_in_order lexed.text file (c.spans_in_order.ensures lexed.text lexed.tokens
    (marks_of_items file) (c.spans_of_tokens.ensures.items lexed.text lexed.tokens file derives)
    is_lexed.tokens_in_order))
