use Rattle.proto_decl.proofs.LawAncestorLemmas.{declarations-held}
use Rattle.proto_decl.proofs.laws.declarations_stand_in_declarations.Goals as goal

pub returns : goal.returns
returns c = declarations-held
