use Rattle.std.proofs.Common.{◌<◌, sym, subst}
use Rattle.proto_visibility.proofs.ReachingLemmas.{reached_from}
use Rattle.proto_visibility.proofs.reaching.reach.Goals as goal

pub begin_linking-requires-clause-begun : goal.begin_linking-requires-clause-begun
begin_linking-requires-clause-begun c = λ number begun.
    subst (λ n. number < n) (sym c.requires.files) (c.requires.begun number begun)

pub returns-clause-reached : goal.returns-clause-reached
returns-clause-reached c = reached_from c.args.options.now c.args.sources.now c.args.table.now
    c.begin_linking.new.search.numbers c.follow_all.new.search.numbers c.in_ok-begin_linking.ensures.begun
    c.in_ok-follow_all.ensures.led
