use Rattle.std.proofs.Common.{get_or, arith}
use Rattle.std.proofs.lemmas.Option.{slice_get-get_or}
use Rattle.proto_lex.specs.Lexed.{IsPart}
use Rattle.option_link.proofs.LoopLemmas.{one_more}
use Rattle.option_link.proofs.WordLemmas.{no_span, words_more, not_words, words_all}
use Rattle.option_link.proofs.words.words_of.Goals as goal

pub loop-span-preserved : goal.loop-span-preserved
loop-span-preserved c =
    let text = c.args.text.now in
    let spans = c.as_slice-span-items.result.now in
    let index = c.loop-span.span-index in
    let at = slice_get-get_or spans index no_span (omega arith) in
    record {
      are = words_more text spans index (get_or spans index no_span) c.loop-span.words.items
          c.push.new.self.items c.in-Some.word at c.in-Some.ensures.1 c.loop-span.invariant.are
          c.in_ok-push-in-Some.ensures.items;
      parts = one_more (IsPart text) spans index (get_or spans index no_span) at c.in-Some.ensures.0
          c.loop-span.invariant.parts;
    }

pub returns-in-None : goal.returns-in-None
returns-in-None c =
    let spans = c.as_slice-span-items.result.now in
    let index = c.loop-span.span-index in
    not_words c.args.text.now c.args.name.now spans index (get_or spans index no_span) c.as_slice-span-items.ensures
    (slice_get-get_or spans index no_span (omega arith)) c.in-None.ensures

pub returns : goal.returns
returns c =
    words_all c.args.text.now c.args.name.now c.as_slice-span-items.result.now c.loop-span.span-index
    c.loop-span.words.items c.as_slice-span-items.ensures (omega arith) c.loop-span.invariant.parts
    c.loop-span.invariant.are
