use Rattle.std.proofs.Common.{rules}
use Rattle.std.specs.Ordering.{nat_cmp}
use Rattle.std.proofs.lemmas.Fn.{always_returns_same}
use Rattle.scip_query.specs.declared.place.EntryPlace.{EntryPlace}
use Rattle.scip_query.proofs.RunLemmas.{nondecreasing_rises}
use Rattle.scip_query.proofs.search.entry_places_in.Goals as goal

pub returns : goal.returns
returns c =
    c.run_of.ensures (λ (place : EntryPlace). nat_cmp place.list c.args.list)
    (always_returns_same _ _ _ (λ a r f' k. search rules))
    (nondecreasing_rises (λ (place : EntryPlace). place.list) c.args.places.now c.requires c.args.list)
