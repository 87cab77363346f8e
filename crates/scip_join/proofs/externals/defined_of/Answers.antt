use Rattle.std.proofs.Common.{◌∙◌, List, ℕ, ap, sym, subst}
use denote.Ref.{Bor}
use Rattle.scip_join.specs.Gathered.{symbols_in}
use Rattle.scip_join.specs.Tables.{known_in, texts, AreInOrder}
use Rattle.scip_join.proofs.ExternalLemmas.{exact, names_in_order}
use Rattle.scip_join.proofs.externals.defined_of.Goals as goal

pub known_of-requires : goal.known_of-requires
known_of-requires c =
    subst (λ (l : List (Bor (List ℕ))). AreInOrder l) (sym c.as_slice.ensures.value)
    (names_in_order c.args.entries.now c.in_ok-names.names.items c.in_ok-names.ensures c.requires)

pub returns-clause-exact : goal.returns-clause-exact
returns-clause-exact c =
    let pieces = c.args.pieces.now in
    exact (symbols_in c.args.entries.now) pieces _ _
    (c.in_ok-defined.ensures ∙ ap (λ (l : List (List ℕ)). known_in l pieces)
    (ap texts c.as_slice.ensures.value ∙ c.in_ok-names.ensures))
    c.sort_unstable.ensures.permutation
