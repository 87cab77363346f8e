use Rattle.std.proofs.Common.{◌∙◌, ap, ℕ, List}
use Rattle.scip_site.specs.Repeats.{is_before, is_seen}
use Rattle.scip_site.proofs.RepeatLemmas.{seen_more, repeated_more}
use Rattle.scip_site.proofs.repeats.are_repeated.Goals as goal

pub loop-number-preserved : goal.loop-number-preserved
loop-number-preserved c =
    let documents = c.args.documents.now in
    let number : ℕ = c.loop-number.number in
    let here : List ℕ = c.path_listed.result.now in
    let old = c.loop-number.seen in
    let before = c.loop-number.invariant in
    record {
      seen = λ path.
          seen_more documents path here number (is_seen old path) (is_seen c.see.new.seen path)
          c.path_listed.ensures (c.in_ok-is_repeat.ensures.seen path) (before.seen path);
      repeats =
          repeated_more documents number c.in_ok-is_repeat.is_repeat c.loop-number.repeats.items c.push.new.self.items
          c.in_ok-push.ensures.items
          (c.in_ok-is_repeat.ensures.found ∙ before.seen here
          ∙ ap (λ (p : List ℕ). is_before documents p number) c.path_listed.ensures)
          before.repeats;
    }
