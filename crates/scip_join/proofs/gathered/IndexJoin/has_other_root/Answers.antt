use Rattle.std.proofs.Common.{◌∙◌, Option, List, ℕ, ap, ap₂, sym}
use Rattle.scip_join.specs.Gathered.{Gathered}
use Rattle.scip_join.specs.Refused.{root_of}
use Rattle.scip_join.specs.Steps.{are_apart, is_other, is_other_of}
use Rattle.scip_join.proofs.gathered.IndexJoin.has_other_root.Goals as goal

pub returns-in-Some : goal.returns-in-Some
returns-in-Some c =
    let kept = c.self.inside in
    let own = root_of c.args.metadata.now in
    sym (ap (λ (asked : Option (List ℕ)). is_other_of asked kept.count (root_of kept.metadata) own) c.in-Some.is)
    ∙ ap (λ (g : Gathered). is_other g c.args.metadata.now) c.self.view_is

pub returns-in-None : goal.returns-in-None
returns-in-None c =
    let kept = c.self.inside in
    let own = root_of c.args.metadata.now in
    c.are_apart.ensures
    ∙ ap₂ (λ (first other : List ℕ). are_apart kept.count first other) c.root_of.ensures c.root_of-in-None.ensures
    ∙ sym (ap (λ (asked : Option (List ℕ)). is_other_of asked kept.count (root_of kept.metadata) own) c.in-None.is)
    ∙ ap (λ (g : Gathered). is_other g c.args.metadata.now) c.self.view_is
