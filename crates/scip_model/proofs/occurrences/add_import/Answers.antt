use Rattle.std.proofs.Common.{◌∙◌, ap, subst, sym, refl, None, List, ℕ}
use Rattle.proto_visibility.specs.Files.{File}
use Rattle.scip_model.specs.Conditions.{HaveGoodPaths}
use Rattle.scip_symbol.specs.Entities.{OfFile}
use Rattle.scip_model.specs.Named.{text_of}
use Rattle.scip_model.specs.Occurs.{import_role}
use Rattle.scip_model.specs.Packages.{package_of_path}
use Rattle.scip_model.specs.Tables.Listing.{has_path}
use Rattle.scip_model.specs.Tables.Plans.{IsNumberOf}
use Rattle.scip_model.proofs.PlanLemmas.{grown_same, none_if, some_if, planned_added}
use Rattle.scip_model.proofs.occurrences.add_import.Goals as goal

pub has_file-requires : goal.has_file-requires
has_file-requires c = subst HaveGoodPaths (sym c.linker.ensures.files) c.requires.paths

pub returns-then-not-has_file-clause-grown : goal.returns-then-not-has_file-clause-grown
returns-then-not-has_file-clause-grown c = grown_same c.args.texts.now

pub returns-then-not-has_file-clause-added : goal.returns-then-not-has_file-clause-added
returns-then-not-has_file-clause-added c = λ around.
    none_if around (has_path c.args.maker.now.package.now.files c.args.imported.now.path) c.args.texts.now
    c.args.list.now.items _
    (ap (λ (files : List File). has_path files c.args.imported.now.path) (sym c.linker.ensures.files)
    ∙ (sym c.has_file.ensures.found ∙ c.if-not-has_file.true))

pub returns-clause-added : goal.returns-clause-added
returns-clause-added c = λ around.
    let maker = c.args.maker.now in
    let imported = c.args.imported.now in
    let texts = c.file_number.new.texts in
    let number = c.in_ok-number.number in
    let text : List ℕ → List ℕ = λ path. text_of (package_of_path maker.package.now.ids path) (OfFile path) in
    some_if around (has_path maker.package.now.files imported.path) texts c.args.list.now.items c.push.new.self.items _
    (ap (λ (files : List File). has_path files imported.path) (sym c.linker.ensures.files)
    ∙ (sym c.has_file.ensures.found ∙ c.if-not-has_file.false))
    (planned_added around maker.encoding maker.text.now imported.span import_role texts c.args.list.now.items
    c.push.new.self.items c.planned_over.result (text imported.path) number None c.in_ok-push.ensures.items
    c.planned_over.ensures
    (subst (λ (path : List ℕ). IsNumberOf texts (text path) number) c.as_str.ensures c.in_ok-number.ensures.number)
    refl)
