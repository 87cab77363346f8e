use Rattle.proto_decl.specs.Declares.{outlines_of}
use Rattle.proto_decl.proofs.LawDetailLemmas.{one_list_of_details}
use Rattle.proto_decl.proofs.laws.one_list_of_details.Goals as goal

pub returns : goal.returns
returns c = λ lexed file details others is a b.
    one_list_of_details lexed is.tokens_in_order is.comments_in_order (outlines_of lexed.text file) details others a b
