use Rattle.std.proofs.Common.{◌≡◌, map, take}
use Rattle.proto_lex.specs.Lexed.{IsPart, part_of}
use Rattle.option_link.proofs.LoopLemmas.{UpTo}
use Rattle.option_link.proofs.WordLemmas.{now}
use Rattle.option_link.proofs.words.words_of.Given as goal

-- the words so far
abbrev pub invariant-loop-span : goal.invariant-loop-span
invariant-loop-span l = record {
  are : map now l.words.items ≡ map (part_of l.text) (take l.span-index l.span-items);
  parts : UpTo (IsPart l.text) l.span-items l.span-index;
}
