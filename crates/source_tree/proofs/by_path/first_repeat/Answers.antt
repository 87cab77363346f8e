use Rattle.std.proofs.Common.{◌-◌, refl, arith}
use Rattle.std.proofs.lemmas.Bool.{false≢true}
use Rattle.source_tree.proofs.RefusalLemmas.{repeat_here, none_more, none_of_all}
use Rattle.source_tree.proofs.by_path.first_repeat.Goals as goal

pub returns-then-has_path_of : goal.returns-then-has_path_of
returns-then-has_path_of c =
    let number = c.loop-number.number in
    repeat_here c.args.files.now number
    (number - 1) c.index-files-number.result c.index-files-number-in-loop-number.result (omega arith) (omega arith)
    c.index-files-number.is c.index-files-number-in-loop-number.is
    (c.if-has_path_of.ensures.0 refl) c.loop-number.invariant.none

pub loop-number-preserved : goal.loop-number-preserved
loop-number-preserved c =
    let number = c.loop-number.number in
    record {
      begun = omega arith;
      none = none_more c.args.files.now c.requires number
          (number - 1) c.index-files-number.result c.index-files-number-in-loop-number.result (omega arith)
          (omega arith)
          c.index-files-number.is c.index-files-number-in-loop-number.is
          (λ same. false≢true (c.if-has_path_of.ensures.1 same)) c.loop-number.invariant.none;
    }

pub returns : goal.returns
returns c = none_of_all c.args.files.now c.loop-number.number (omega arith) c.loop-number.invariant.none
