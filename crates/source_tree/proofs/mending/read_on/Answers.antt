use Rattle.std.proofs.Common.{◌∙◌, ◌++◌, List, ℕ, ap, sym, arith}
use Rattle.source_tree.proofs.MendingLemmas.{reads_front, reads_one, parted}
use Rattle.source_tree.proofs.mending.read_on.Goals as goal

pub returns-in-empty-clause-on : goal.returns-in-empty-clause-on
returns-in-empty-clause-on c =
    let old = c.args.text.now.items in
    reads_front old c.extend_from_slice.new.self.items c.args.bytes.now c.valid_len.result c.split_at.result.1.now
    c.valid_len.ensures.front
    (c.in_ok-extend_from_slice.ensures.items ∙ ap (λ (t : List ℕ). old ++ t) c.split_at.ensures.front)
    c.split_at.ensures.back

pub returns-in_ok-push-in-len1-up-clause-on : goal.returns-in_ok-push-in-len1-up-clause-on
returns-in_ok-push-in-len1-up-clause-on c =
    let old = c.args.text.now.items in
    let front = c.extend_from_slice.new.self.items in
    let parts = parted c.split_at.result.1.now (omega arith) in
    reads_one old front c.push.new.self.items c.args.bytes.now c.valid_len.result parts.0 _ c.valid_len.ensures.front
    c.valid_len.ensures.whole (sym c.split_at.ensures.back ∙ parts.1)
    (c.in_ok-extend_from_slice.ensures.items ∙ ap (λ (t : List ℕ). old ++ t) c.split_at.ensures.front)
    c.in_ok-push-in-len1-up.ensures.items
