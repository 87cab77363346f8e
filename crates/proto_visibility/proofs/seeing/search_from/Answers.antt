use Rattle.std.proofs.Common.{ap, arith}
use Rattle.proto_visibility.specs.Tables.Visits.{Found}
use Rattle.proto_visibility.proofs.SeeingLemmas.{seen_from}
use Rattle.proto_visibility.proofs.seeing.search_from.Goals as goal

pub returns-clause-seen : goal.returns-clause-seen
returns-clause-seen c =
    seen_from c.args.table.now c.args.file c.start.new.self.numbers c.begin.new.search.numbers
    c.follow_from.new.search.numbers (ap (λ (f : Found). f.numbers) c.start.ensures) c.in_ok-begin.ensures.begun
    c.in_ok-follow_from.ensures.led

pub follow_from-requires-clause-followed : goal.follow_from-requires-clause-followed
follow_from-requires-clause-followed c = λ index number other h. absurd (omega (arith, h))
