use Rattle.std.proofs.Common.{refl, sym, ◌∙◌, arith}
use Rattle.std.proofs.lemmas.Bool.{false≢true}
use Rattle.proto_link.proofs.DoubtLemmas.{none_seen_more, none_seen_all, first_seen, unread_within}
use Rattle.proto_link.proofs.uncertain.first_unread.Goals as goal

pub returns-then-visible : goal.returns-then-visible
returns-then-visible c =
    first_seen c.args.namespace.now c.args.file c.args.unread.now c.requires.unread c.loop-number.number-index _
    (omega arith) refl (c.visible.ensures.0 c.if-visible.true) c.loop-number.invariant

pub loop-number-preserved : goal.loop-number-preserved
loop-number-preserved c =
    none_seen_more c.args.namespace.now c.args.file c.args.unread.now c.loop-number.number-index _ refl
    (λ sees. false≢true (sym c.if-visible.false ∙ c.visible.ensures.1 sees)) c.loop-number.invariant

pub returns : goal.returns
returns c = none_seen_all c.args.namespace.now c.args.file c.args.unread.now c.requires.unread
    c.loop-number.number-index (omega arith) c.loop-number.invariant

pub visible-requires-clause-other : goal.visible-requires-clause-other
visible-requires-clause-other c =
    unread_within c.args.namespace.now c.args.unread.now c.requires.unread c.loop-number.number-index 0
    c.loop-number-test.true
