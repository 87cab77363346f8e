use Rattle.std.proofs.Common.{◌∙◌, sym, ap, arith, List, ◌++◌, append_assoc, length-drop}
use Rattle.scip_pages.specs.declared.runs.Run.{Run}
use Rattle.scip_pages.proofs.RunLemmas.{behind, length-behind, runs_next}
use Rattle.scip_pages.proofs.runs.runs_of.Goals as goal

pub overflow_add-more : goal.overflow_add-more
overflow_add-more c =
    omega (
      arith,
      length-behind c.loop-rest.rest.now c.in-len1-up.len_at_least,
      c.run_len-more.ensures.within,
      c.loop-rest.invariant.short,
    )

pub loop-rest-preserved : goal.loop-rest-preserved
loop-rest-preserved c = record {
  cut =
      rw (c.in_ok-push.ensures.items, c.split_at.ensures.back, c.run_len-more.ensures.len)
      (append_assoc c.loop-rest.runs.items _ _
      ∙ ap (λ (l : List Run). c.loop-rest.runs.items ++ l)
      (sym (runs_next c.loop-rest.rest.now _ c.in-len1-up.len_at_least)) ∙ c.loop-rest.invariant.cut);
  short =
      rw c.split_at.ensures.back
      (omega (
        arith,
        length-drop c.run_len-more.result (behind c.loop-rest.rest.now),
        length-behind c.loop-rest.rest.now c.in-len1-up.len_at_least,
        c.loop-rest.invariant.short,
      ));
}
