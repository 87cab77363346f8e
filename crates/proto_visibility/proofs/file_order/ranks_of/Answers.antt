use Rattle.std.proofs.Common.{◌<◌, ◌∙◌, get_or, refl, arith}
use Rattle.std.proofs.lemmas.List.{length-set}
use Rattle.proto_visibility.proofs.FileOrderLemmas.{ranked_more, ranked_all}
use Rattle.proto_visibility.proofs.file_order.ranks_of.Goals as goal

pub loop-rank-init : goal.loop-rank-init
loop-rank-init c = record {
  size = c.in_ok-ranks.ensures;
  ranked = λ k number few. absurd (omega (arith, few));
}

pub loop-rank-preserved : goal.loop-rank-preserved
loop-rank-preserved c =
    let files = c.args.files.now in
    let ranks = c.loop-rank.ranks.items in
    let rank = c.loop-rank.rank in
    let number = get_or files rank 0 in
    let below : number < c.args.count = c.requires.below rank 0 (omega arith) in
    let size = length-set ranks number rank in
    record {
      size = size ∙ c.loop-rank.invariant.size;
      ranked = ranked_more files ranks rank number c.requires.distinct (omega arith) refl
          (omega (arith, below, c.loop-rank.invariant.size)) c.loop-rank.invariant.ranked;
    }

pub returns : goal.returns
returns c = ranked_all c.args.files.now c.loop-rank.ranks.items c.args.count c.loop-rank.rank
    c.loop-rank.invariant.size (omega arith) c.requires.all c.loop-rank.invariant.ranked
