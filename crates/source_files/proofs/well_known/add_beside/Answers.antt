use Rattle.std.proofs.Common.{[], ◌∷◌, map, ap, ◌∙◌, string_bytes}
use Rattle.std.proofs.lemmas.List.{map-append}
use Rattle.source_files.proofs.WellKnownLemmas.{adds_one, adds_none}
use Rattle.source_files.proofs.well_known.add_beside.Goals as goal

pub returns-in_ok-push : goal.returns-in_ok-push
returns-in_ok-push g c =
    adds_one (g.F.FindFiles.finds c.args.files.now) c.args.folder.now (string_bytes c.in_ok-include.include)
    c.in_ok-has.field-0 (map string_bytes c.args.beside.now.items) (map string_bytes c.push.new.self.items)
    c.in_ok-has.ensures c.if-branch.true c.in_ok-include.ensures
    (ap (map string_bytes) c.in_ok-push.ensures.items
    ∙ map-append string_bytes c.args.beside.now.items (c.in_ok-include.include ∷ []))

pub returns-else-branch : goal.returns-else-branch
returns-else-branch g c =
    adds_none (g.F.FindFiles.finds c.args.files.now) c.args.folder.now c.in_ok-has.field-0
    (map string_bytes c.args.beside.now.items) c.in_ok-has.ensures c.if-branch.false
