use Rattle.std.proofs.Common.{subst, refl, arith}
use Rattle.std.proofs.lemmas.List.{take_all}
use Rattle.std.proofs.lemmas.List.Elements.{All-more}
use Rattle.source_tree.specs.Path.{IsGoodPath}
use Rattle.source_tree.specs.Files.{SourceFile}
use Rattle.source_tree.specs.Trees.{HaveGoodPaths}
use Rattle.source_tree.proofs.tree.first_bad.Goals as goal

pub loop-number-preserved : goal.loop-number-preserved
loop-number-preserved c =
    let files = c.args.files.now in
    let number = c.loop-number.number in
    let file = c.index-files-number.result in
    All-more (λ (f : SourceFile). IsGoodPath f.path) files number file (omega arith) c.loop-number.invariant
    (subst (λ (f : SourceFile). IsGoodPath f.path) c.index-files-number.is (c.if-not-has_good_path.ensures.0 refl))

pub returns : goal.returns
returns c =
    let files = c.args.files.now in
    let number = c.loop-number.number in
    subst HaveGoodPaths (take_all number files (omega arith)) c.loop-number.invariant
