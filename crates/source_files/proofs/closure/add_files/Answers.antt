use Rattle.std.proofs.Common.{◌∙◌, List, ap, map, string_bytes, subst}
use Rattle.source_files.specs.Closures.{AddsFresh, paths_in, wanted_of}
use Rattle.source_files.specs.Reached.{Import, Told}
use Rattle.source_files.proofs.ClosureLemmas.{goes_first, goes_last, goes_next}
use Rattle.source_files.proofs.closure.add_files.Goals as goal

pub loop-rest-init : goal.loop-rest-init
loop-rest-init c =
    goes_first (λ (told : Told). wanted_of c.args.publicly told.imports) c.args.files.now (paths_in c.args.known.now)
    (map string_bytes c.args.fresh.now.items)

pub loop-rest-preserved : goal.loop-rest-preserved
loop-rest-preserved c =
    goes_next (λ (told : Told). wanted_of c.args.publicly told.imports) c.args.files.now c.loop-rest.rest.now _
    c.file-item.result (paths_in c.args.known.now) (map string_bytes c.args.fresh.now.items)
    (paths_in c.loop-rest.known) (paths_in c.add_imports.new.known) (map string_bytes c.loop-rest.fresh.items)
    (map string_bytes c.add_imports.new.fresh.items) c.in-len1-up.len_at_least c.file-item.is c.loop-rest.invariant
    (subst (λ (imports : List Import). AddsFresh (wanted_of c.args.publicly imports) (paths_in c.loop-rest.known)
    (paths_in c.add_imports.new.known) (map string_bytes c.loop-rest.fresh.items)
    (map string_bytes c.add_imports.new.fresh.items))
    (c.deref.ensures.value ∙ ap (λ (told : Told). told.imports) c.file.view_is) c.in_ok-add_imports.ensures)

pub returns : goal.returns
returns c =
    goes_last (λ (told : Told). wanted_of c.args.publicly told.imports) c.args.files.now c.loop-rest.rest.now
    (paths_in c.args.known.now) (map string_bytes c.args.fresh.now.items) (paths_in c.loop-rest.known)
    (map string_bytes c.loop-rest.fresh.items) c.in_default.len_below c.loop-rest.invariant
