use Rattle.std.proofs.Common.{rules}
use Rattle.std.specs.Ordering.{nat_cmp}
use Rattle.std.proofs.lemmas.Fn.{always_returns_same}
use Rattle.scip_query.specs.declared.place.Place.{Place}
use Rattle.scip_query.proofs.RunLemmas.{nondecreasing_rises}
use Rattle.scip_query.proofs.search.places_in.Goals as goal

pub returns : goal.returns
returns c =
    c.run_of.ensures (λ (place : Place). nat_cmp place.document c.args.document)
    (always_returns_same _ _ _ (λ a r f' k. search rules))
    (nondecreasing_rises (λ (place : Place). place.document) c.args.places.now c.requires c.args.document)
