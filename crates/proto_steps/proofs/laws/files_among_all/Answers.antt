use Rattle.std.proofs.Common.{false, codes}
use Rattle.proto_grammar.specs.declared.dialect.CustomOptions.TheVariants.{Refuse, Skip}
use Rattle.proto_grammar.specs.Terminal.{is_word}
use Rattle.proto_steps.proofs.AmongFileLemmas.{file_among, none_free, all_open}
use Rattle.proto_steps.proofs.laws.files_among_all.Goals as goal

pub returns-clause-refused : goal.returns-clause-refused
returns-clause-refused c = λ levels a b x d. file_among (λ t. false) Refuse levels all_open a b x (none_free a) d

pub returns-clause-skipped : goal.returns-clause-skipped
returns-clause-skipped c = λ levels a b x free d.
    file_among (is_word (codes "extend")) Skip levels (λ e t off. off) a b x free d
