use Rattle.std.proofs.Common.{◌∙◌, ap, string_bytes}
use Rattle.source_files.specs.Closures.{paths_in}
use Rattle.source_files.proofs.ClosureLemmas.{same_last, same_next}
use Rattle.source_files.proofs.closure.set_of.Goals as goal

pub loop-rest-preserved : goal.loop-rest-preserved
loop-rest-preserved c =
    same_next string_bytes c.args.paths.now c.loop-rest.rest.now _ c.as_str.result.now c.in_ok-put_path.field-0
    (paths_in c.loop-rest.known) _ c.in-len1-up.len_at_least
    (c.as_str.ensures.value ∙ ap string_bytes c.path-item.is) c.loop-rest.invariant c.in_ok-put_path.ensures

pub returns : goal.returns
returns c =
    same_last string_bytes c.args.paths.now c.loop-rest.rest.now (paths_in c.loop-rest.known) c.in_default.len_below
    c.loop-rest.invariant
