use Rattle.std.proofs.Common.{◌∙◌, sym, refl, length, map, arith}
use Rattle.std.specs.String.{string_bytes}
use Rattle.std.proofs.lemmas.List.{length-map}
use Rattle.std.proofs.lemmas.Option.{slice_get_read}
use Rattle.basics.proofs.BoolLemmas.{never}
use Rattle.scip_model.proofs.RepeatedNameLemmas.{one-some, none-more, all-none, nothing-mapped}
use Rattle.scip_model.proofs.repeated.has_some.Goals as goal

pub returns-then-not-is_empty : goal.returns-then-not-is_empty
returns-then-not-is_empty c =
    let items = c.args.repeated.now in
    let index = c.loop-names.names-index in
    let names = c.names-item.result in
    one-some (λ its. map string_bytes its.keys) items index names
    (slice_get_read items (length items) index names refl c.loop-names-test.true c.names-item.is)
    (λ e. never (sym c.if-not-is_empty.true ∙ c.is_empty.ensures.1 (sym (length-map names.keys string_bytes) ∙ e)))

pub loop-names-preserved : goal.loop-names-preserved
loop-names-preserved c =
    let items = c.args.repeated.now in
    let index = c.loop-names.names-index in
    let names = c.names-item.result in
    none-more (λ its. map string_bytes its.keys) items index names
    (slice_get_read items (length items) index names refl c.loop-names-test.true c.names-item.is)
    (nothing-mapped string_bytes names.keys (c.is_empty.ensures.0 c.if-not-is_empty.false)) c.loop-names.invariant

pub returns : goal.returns
returns c =
    all-none (λ its. map string_bytes its.keys) c.args.repeated.now c.loop-names.names-index
    (omega (arith, c.loop-names-test.false)) c.loop-names.invariant
