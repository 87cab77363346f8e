use Rattle.std.proofs.Common.{◌∙◌, ap, List, ℕ, [], map}
use Rattle.std.proofs.lemmas.Result.{IfOk-weaker}
use Rattle.std.specs.Prelude.{Option, codes, unwrap_or}
use Rattle.clap.specs.Words.{found_of}
use Rattle.clap.proofs.WalkLemmas.{raw_values-rows}
use Rattle.command_line.specs.Options.Include.{Folder, folder_of, folders_in}
use Rattle.command_line.proofs.options.include.package_folders_of.Goals as goal

abbrev or_none : Option (List (List ℕ)) → List Folder
or_none texts = folders_in (unwrap_or texts [])

pub returns-in-Some : goal.returns-in-Some
returns-in-Some c =
    let rows = raw_values-rows (found_of c.args.given.now) (codes "include-package") in
    IfOk-weaker c.folders_in.result _ _ (λ v same. same ∙ ap or_none (c.in-Some.ensures ∙ rows)) c.folders_in.ensures

pub returns-in-None : goal.returns-in-None
returns-in-None c =
    let rows = raw_values-rows (found_of c.args.given.now) (codes "include-package") in
    ap (map folder_of) c.new.ensures.items ∙ ap or_none (c.in-None.ensures ∙ rows)
