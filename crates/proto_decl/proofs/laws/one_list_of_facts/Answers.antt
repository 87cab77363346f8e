use Rattle.proto_decl.proofs.LawLemmas.{one_facts}
use Rattle.proto_decl.proofs.laws.one_list_of_facts.Goals as goal

pub returns : goal.returns
returns c = λ form number lexed file facts other is a b.
    one_facts form lexed is number file facts other a b
