use Rattle.std.proofs.Common.{◌≡◌, ◌∙◌, ◌<◌, List, length, map, sym, subst, arith}
use Rattle.scip_build.specs.Linking.{linked_files, choices_of}
use Rattle.scip_build.specs.Keeping.{is_source}
use Rattle.proto_visibility.specs.Files.{File}
use Rattle.scip_build.specs.Documents.{asked_in, IsToldFor, MayRefuseDocuments}
use Rattle.scip_build.specs.Placing.{kept_at}
use Rattle.scip_build.proofs.BuildsRefusalLemmas.{told_of}
use Rattle.scip_build.proofs.ToldUseLemmas.{place_within}
use Rattle.scip_build.specs.Works.{AreLent}
use Rattle.scip_build.proofs.ReadyLemmas.{are_ready, front_most}
use Rattle.scip_build.proofs.KeptLemmas.{checked_of}
use Rattle.scip_build.proofs.building.make_from.Goals as goal

pub make_parts-requires-clause-few : goal.make_parts-requires-clause-few
make_parts-requires-clause-few g c κs within =
    let count = c.sources_among.ensures in
    let most = front_most is_source c.args.parsed.now in
    let few = c.requires.tree.few in
    omega (arith, count, most, few)

pub make_parts-requires-clause-ready : goal.make_parts-requires-clause-ready
make_parts-requires-clause-ready g c κs within =
    let parsed = c.args.parsed.now in
    let files : c.in_ok-package.package.files ≡ linked_files parsed =
    c.in_ok-package.ensures.files ∙ c.requires.files in
    let chosen : c.new-choices.result ≡ map choices_of parsed = c.new-choices.ensures ∙ c.in_ok-chosen_lists.ensures
    in
    let ready = are_ready c.args.settings.now.duplicates parsed c.requires.tree c.requires.clear in
    rw (files, chosen, c.sources_among.ensures) ready

pub refusal_by-requires : goal.refusal_by-requires
refusal_by-requires g c = λ place same.
    subst (λ (files : List File). place.file < length files) c.in_ok-package.ensures.files
    (place_within c.args.settings.now.faulty c.in_ok-package.package.files c.args.run.now.workers c.in-Err.fault
    c.in-Err.ensures place same)

pub make_parts-requires-clause-options : goal.make_parts-requires-clause-options
make_parts-requires-clause-options g c κs within =
    subst (λ files. AreLent (asked_in c.args.settings.now c.args.parsed.now) files c.args.options)
    (sym c.in_ok-package.ensures.files) c.requires.options

pub returns-in-Err : goal.returns-in-Err
returns-in-Err g c =
    let workers = c.args.run.now.workers in
    let settings = c.args.settings.now in
    let parsed = c.args.parsed.now in
    told_of settings.faulty (asked_in settings parsed) parsed (linked_files parsed) workers c.in-Err.fault
    c.refusal_by.result
    (subst (λ files. MayRefuseDocuments settings.faulty files workers c.in-Err.fault)
    (c.in_ok-package.ensures.files ∙ c.requires.files) c.in-Err.ensures)
    (subst (λ (files : List File). IsToldFor files c.in-Err.fault c.refusal_by.result) c.requires.files
    c.refusal_by.ensures)

pub returns : goal.returns
returns g c =
    checked_of (kept_at c.args.settings.now.at g.F.DocumentForm.is_kept) c.args.parsed.now c.in_ok-package.package
    c.args.settings.now c.args.run.now.workers _
    (c.in_ok-package.ensures.files ∙ c.requires.files) c.in_ok-package.ensures.ids c.in_ok-package.ensures.repeated
    c.requires.clear (c.new-choices.ensures ∙ c.in_ok-chosen_lists.ensures) c.in-Ok.ensures c.without_gaps.result
    c.without_gaps.ensures
