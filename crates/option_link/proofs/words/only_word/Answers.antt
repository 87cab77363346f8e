use Rattle.std.proofs.Common.{arith}
use Rattle.option_link.proofs.WordLemmas.{not_one_word, only_word_by}
use Rattle.option_link.proofs.words.only_word.Goals as goal

pub returns-in-empty : goal.returns-in-empty
returns-in-empty c =
    not_one_word c.args.text.now c.args.name.now c.as_slice.result.now c.as_slice.ensures (λ one. omega (arith, one))

pub returns-in-len1 : goal.returns-in-len1
returns-in-len1 c =
    only_word_by c.args.text.now c.args.name.now c.as_slice.result.now c.as_slice.ensures _ c.part_of.result
    (omega arith) c.part_of.ensures

pub returns-in-len2-up : goal.returns-in-len2-up
returns-in-len2-up c =
    not_one_word c.args.text.now c.args.name.now c.as_slice.result.now c.as_slice.ensures (λ one. omega (arith, one))
