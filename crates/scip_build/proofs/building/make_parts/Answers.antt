use Rattle.std.proofs.Common.{◌∙◌, Some, ap}
use Rattle.scip_build.specs.Made.{gaps_from, names_from, unresolved_from}
use Rattle.scip_build.specs.Placing.{kept_at}
use Rattle.scip_build.specs.Repeating.{with_packages}
use Rattle.scip_build.proofs.KeptLemmas.{parts_of}
use Rattle.scip_build.proofs.building.make_parts.Goals as goal

pub returns : goal.returns
returns g c =
    let sources = c.args.sources.now in
    parts_of (kept_at sources.settings.now.at g.F.DocumentForm.is_kept) sources.parsed.now sources.package.now.files sources.choices.now
    (with_packages sources.settings.now sources.package.now.ids) c.in_ok-made.made.items _ _ _ _ c.in_ok-made.ensures
    c.requires.ready.one_text_each (ap Some c.in_ok-metadata.ensures)
    (c.from_vec.ensures ∙ c.in_ok-documents.ensures) c.in_ok-external_symbols.ensures
    (c.from_vec-2.ensures ∙ (c.in_ok-unresolved_uses.ensures ∙ ap (unresolved_from 0) c.as_slice.ensures.value))
    (c.from_vec-3.ensures ∙ (c.in_ok-option_gaps.ensures ∙ ap (gaps_from 0) c.as_slice-2.ensures.value))
    (c.from_vec-4.ensures ∙ (c.in_ok-uncertain_names.ensures ∙ ap (names_from 0) c.as_slice-3.ensures.value))
