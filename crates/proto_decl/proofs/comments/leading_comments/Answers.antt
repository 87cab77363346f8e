use Rattle.std.proofs.Common.{arith}
use Rattle.proto_lex.specs.Position.{line_of}
use Rattle.proto_decl.proofs.CommentLeadingLemmas.{found_by_test, found_by_start, front, ends_above}
use Rattle.proto_decl.proofs.comments.leading_comments.Goals as goal

pub returns-then-not-leads-clause-longest : goal.returns-then-not-leads-clause-longest
returns-then-not-leads-clause-longest c =
    let lexed = c.args.lexed.now in
    let line = line_of c.args.lexed.now.text c.args.offset in
    let next = line_of c.args.lexed.now.text c.loop-start.next in
    let above = ends_above lexed line c.comments-comments.ensures.in_order c.loop-start.start
    c.comments_above-end.result next c.comments-comments.result.now c.comments-comments.ensures.value
    c.loop-start.invariant.within c.comments_above-end.ensures.within c.comments_above-end.ensures.parted
    c.loop-start.invariant.run c.loop-start.invariant.next _ c.loop-start-test.true in
    found_by_test lexed line c.comments-comments.ensures.in_order c.loop-start.start c.comments_above-end.result next
    c.comments-comments.result.now c.comments-comments.ensures.value c.loop-start.invariant.within
    c.comments_above-end.ensures.within c.comments_above-end.ensures.parted c.loop-start.invariant.run
    c.loop-start.invariant.next _ c.leads.result c.if-not-leads.true c.loop-start-test.true
    (c.leads.ensures.leads c.args.offset c.requires.free above)

pub loop-start-preserved : goal.loop-start-preserved
loop-start-preserved c =
    let lexed = c.args.lexed.now in
    let line = line_of c.args.lexed.now.text c.args.offset in
    let next = line_of c.args.lexed.now.text c.loop-start.next in
    let above = ends_above lexed line c.comments-comments.ensures.in_order c.loop-start.start
    c.comments_above-end.result next c.comments-comments.result.now c.comments-comments.ensures.value
    c.loop-start.invariant.within c.comments_above-end.ensures.within c.comments_above-end.ensures.parted
    c.loop-start.invariant.run c.loop-start.invariant.next _ c.loop-start-test.true in
    let longer = front lexed line c.comments-comments.ensures.in_order c.loop-start.start c.comments_above-end.result
    next c.comments-comments.result.now c.comments-comments.ensures.value c.loop-start.invariant.within
    c.comments_above-end.ensures.within c.comments_above-end.ensures.parted c.loop-start.invariant.run
    c.loop-start.invariant.next _ c.leads.result c.if-not-leads.false c.loop-start-test.true
    (c.leads.ensures.leads c.args.offset c.requires.free above) in
    record {
      within = omega arith;
      run = longer.0;
      next = longer.1;
      free = c.leads.ensures.behind c.if-not-leads.false;
    }

pub returns-clause-longest : goal.returns-clause-longest
returns-clause-longest c =
    found_by_start c.args.lexed.now (line_of c.args.lexed.now.text c.args.offset) c.comments-comments.ensures.in_order
    c.loop-start.start c.comments_above-end.result (line_of c.args.lexed.now.text c.loop-start.next)
    c.comments-comments.result.now c.comments-comments.ensures.value c.loop-start.invariant.within
    c.comments_above-end.ensures.within c.comments_above-end.ensures.parted c.loop-start.invariant.run
    c.loop-start.invariant.next (omega arith)
