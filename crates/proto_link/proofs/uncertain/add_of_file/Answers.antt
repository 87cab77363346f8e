use Rattle.std.proofs.Common.{List, subst}
use Rattle.proto_decl.specs.declared.uses.Use.{Use}
use Rattle.proto_visibility.proofs.NameLemmas.{on_ok}
use Rattle.proto_link.specs.Tables.Doubts.{Adds, IsDoubted}
use Rattle.proto_link.proofs.DoubtLemmas.{no_facts, of_facts, source_if}
use Rattle.proto_link.proofs.uncertain.add_of_file.Goals as goal

pub returns-in-Some-Some : goal.returns-in-Some-Some
returns-in-Some-Some c =
    let files = c.args.namespace.now in
    let file = c.args.file in
    let behind = c.in-Some-Some.behind in
    let facts = c.in-Some-Some.facts.now in
    let old = c.args.doubted.now.items in
    let new = c.add_doubted.new.doubted.items in
    on_ok c.add_doubted.result c.add_doubted.ensures (λ adds.
    of_facts files file (source_if files file c.is_source.result c.is_source.ensures c.if-not-is_source.false) behind
    c.in-Some-Some.ensures facts c.in-Some-Some.ensures' old new
    (subst (λ (uses : List Use). Adds (IsDoubted files file behind uses) old new) c.uses.ensures adds))

pub returns-in_default : goal.returns-in_default
returns-in_default c = no_facts c.args.namespace.now c.args.file c.args.doubted.now.items c.in_default.ensures'
