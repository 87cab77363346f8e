use Rattle.std.proofs.Common.{refl, subst}
use Rattle.source_files.specs.WalkSteps.{Meets}
use Rattle.source_files.proofs.WalkLemmas.{met_adds, new_adds}
use Rattle.source_files.proofs.walk.keep_one.Goals as goal

pub returns-in_ok-append-3 : goal.returns-in_ok-append-3
returns-in_ok-append-3 c =
    let old = c.args.walk.now in
    let meets = subst (λ b. Meets old.met.items c.args.found.identity b c.meet_any.new.met.items) c.if-branch.true
    c.in_ok-meet_any.ensures in
    new_adds c.args.found old (record {
      folders = c.append.new.self;
      met = c.meet_any.new.met;
      paths = c.append-then-branch.new.self;
      unread = c.append-then-branch-2.new.self;
    }) meets c.in_ok-append.ensures.items c.in_ok-append-2.ensures.items c.in_ok-append-3.ensures.items

pub returns-else-branch : goal.returns-else-branch
returns-else-branch c =
    let old = c.args.walk.now in
    let meets = subst (λ b. Meets old.met.items c.args.found.identity b c.meet_any.new.met.items) c.if-branch.false
    c.in_ok-meet_any.ensures in
    met_adds c.args.found old
    (record { folders = old.folders; met = c.meet_any.new.met; paths = old.paths; unread = old.unread }) meets refl refl
    refl
