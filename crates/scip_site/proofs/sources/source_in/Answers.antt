use Rattle.std.proofs.Common.{◌∙◌, Some, ap}
use Rattle.std.proofs.lemmas.Str.{is_utf8-from_IsUtf8}
use Rattle.scip_site.proofs.SourceLemmas.{other_with, text_with}
use Rattle.scip_site.proofs.sources.source_in.Goals as goal

pub returns-in-Err : goal.returns-in-Err
returns-in-Err c = other_with c.args.path.now c.args.unit c.args.bytes.now c.in-Err.ensures.cases.0

pub returns-in_ok-copy_of-in-Ok-2 : goal.returns-in_ok-copy_of-in-Ok-2
returns-in_ok-copy_of-in-Ok-2 c =
    let bytes = c.args.bytes.now in
    let text_is = c.in_ok-copy_of-in-Ok-2.ensures ∙ c.in-Ok.ensures.cases.0 in
    ap (λ path. Some (record { path = path; unit = c.args.unit; text = c.in_ok-copy_of-in-Ok-2.field-0 }))
    c.in_ok-copy_of-in-Ok.ensures
    ∙ ap (λ text. Some (record { path = c.args.path.now; unit = c.args.unit; text = text })) text_is
    ∙ text_with c.args.path.now c.args.unit bytes (is_utf8-from_IsUtf8 bytes c.in-Ok.ensures.cases.1)
