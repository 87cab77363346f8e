use Rattle.std.proofs.Common.{◌≡◌, ◌∙◌, ◌++◌, ℕ, List, ap, arith, get_or, length, map, subst}
use Rattle.scip_records.specs.declared.records.Occurrence.{Occurrence}
use Rattle.scip_query.specs.MoreViews.{site_view}
use Rattle.scip_query.specs.Named.{has_name}
use Rattle.scip_query.specs.Sites.{Site}
use Rattle.scip_query.specs.Tables.Named.{kept_if, kept_in, site_in}
use Rattle.scip_query.specs.Views.{named_view}
use Rattle.scip_query.proofs.NamedLemmas.{pieces_done, pieces_on}
use Rattle.scip_query.proofs.queries.Queries.push_named_in.Goals as goal

pub loop-number-preserved : goal.loop-number-preserved
loop-number-preserved c =
    let occurrences = c.args.named.document.now.occurrences in
    let kept : ℕ × Occurrence → List Site = λ o. kept_if (has_name c.args.self.now c.args.text.now)
    (site_in (named_view c.args.named) o) in
    pieces_on kept c.loop-number.number occurrences c.index-occurrences-number.result
    (map site_view c.loop-number.sites.items) (map site_view c.push_named.new.sites.items)
    (omega (arith, ap length c.as_slice-occurrences.ensures))
    (subst (λ (all : List Occurrence). c.index-occurrences-number.result
    ≡ get_or all c.loop-number.number c.index-occurrences-number.result) c.as_slice-occurrences.ensures
    c.index-occurrences-number.is)
    c.in_ok-push_named.ensures
    ∙ c.loop-number.invariant

pub returns : goal.returns
returns c =
    let kept : ℕ × Occurrence → List Site = λ o. kept_if (has_name c.args.self.now c.args.text.now)
    (site_in (named_view c.args.named) o) in
    pieces_done kept c.loop-number.number c.args.named.document.now.occurrences
    (map site_view c.loop-number.sites.items)
    (map site_view c.args.sites.now.items
    ++ kept_in (has_name c.args.self.now c.args.text.now) (named_view c.args.named))
    (omega (arith, ap length c.as_slice-occurrences.ensures)) c.loop-number.invariant
