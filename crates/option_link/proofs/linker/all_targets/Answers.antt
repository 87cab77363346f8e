use Rattle.std.proofs.Common.{length, refl, ap, arith}
use Rattle.option_link.proofs.FoundAllLemmas.{found_none, all_doubts, all_targets_by, all_rising, all_gaps}
use Rattle.option_link.proofs.linker.all_targets.Goals as goal

pub loop-number-init : goal.loop-number-init
loop-number-init c =
    let self = c.args.asked in
    let files = self.files.names.now in
    let known = self.files.known.now in
    let file = self.file in
    let text = self.text.now in
    let option = self.option.now in
    found_none files known file text option _ c.in_ok-with_capacity.ensures.items c.in_ok-with_capacity-2.ensures.items
    refl refl

pub find_next-requires-clause-within : goal.find_next-requires-clause-within
find_next-requires-clause-within c = omega (arith, ap length c.as_slice-count.ensures)

pub returns-clause-targets : goal.returns-clause-targets
returns-clause-targets c =
    let self = c.args.asked in
    let files = self.files.names.now in
    let known = self.files.known.now in
    let file = self.file in
    let text = self.text.now in
    let option = self.option.now in
    all_targets_by files known file text option c.loop-number.number (omega
    (arith, ap length c.as_slice-count.ensures))
    c.loop-number.found c.loop-number.invariant c.from_vec.result c.from_vec.ensures

pub returns-clause-rising : goal.returns-clause-rising
returns-clause-rising c =
    let self = c.args.asked in
    let files = self.files.names.now in
    let known = self.files.known.now in
    let file = self.file in
    let text = self.text.now in
    let option = self.option.now in
    all_rising files known file text option c.loop-number.number (omega
    (arith, ap length c.as_slice-count.ensures))
    c.loop-number.found c.loop-number.invariant c.from_vec.result c.from_vec.ensures

pub returns-clause-gap : goal.returns-clause-gap
returns-clause-gap c =
    let self = c.args.asked in
    let files = self.files.names.now in
    let known = self.files.known.now in
    let file = self.file in
    let text = self.text.now in
    let option = self.option.now in
    all_gaps files known file text option c.loop-number.number (omega (arith, ap length c.as_slice-count.ensures))
    c.loop-number.found c.loop-number.invariant

pub returns-clause-uncertain : goal.returns-clause-uncertain
returns-clause-uncertain c =
    let self = c.args.asked in
    let files = self.files.names.now in
    let known = self.files.known.now in
    let file = self.file in
    let text = self.text.now in
    let option = self.option.now in
    all_doubts files known file text option c.loop-number.number (omega (arith, ap length c.as_slice-count.ensures))
    c.loop-number.found c.loop-number.invariant
