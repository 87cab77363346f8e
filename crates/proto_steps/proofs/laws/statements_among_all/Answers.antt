use Rattle.proto_grammar.specs.declared.dialect.CustomOptions.TheVariants.{Refuse}
use Rattle.std.proofs.Common.{false}
use Rattle.proto_steps.proofs.AmongLemmas.{among}
use Rattle.proto_steps.proofs.AmongFileLemmas.{file_statements_among, none_free, all_open}
use Rattle.proto_steps.proofs.laws.statements_among_all.Goals as goal

pub returns : goal.returns
returns c = λ levels a b x d. among (file_statements_among (λ t. false) Refuse levels all_open) a b x (none_free a) d
