use Rattle.std.proofs.Common.{ap, sym, map, length, [], ◌∷◌, length-append, arith}
use Rattle.std.specs.String.{string_bytes}
use Rattle.scip_model.proofs.RepeatedNameLemmas.{none-pushed, none-of}
use Rattle.scip_model.proofs.repeated.none_repeated.Goals as goal

pub loop-alloc-preserved : goal.loop-alloc-preserved
loop-alloc-preserved c =
    let items = c.loop-alloc.repeated.items in
    record {
      size = omega (
        arith,
        c.loop-alloc-test.true,
        c.len.ensures,
        ap length c.in_ok-push.ensures.items,
        length-append items (c.new.result ∷ []),
      );
      none = none-of _ _ _ (sym c.in_ok-push.ensures.items)
          (none-pushed (λ its. map string_bytes its.keys) items c.new.result (ap (map string_bytes) c.new.ensures.empty)
          c.loop-alloc.invariant.none);
    }
