use Rattle.std.proofs.Common.{⊎_elim, inl, subst, Option}
use Rattle.std.specs.Prelude.{MatchOption, ⊤}
use denote.Ref.{Bor}
use Rattle.basics.proofs.ListLemmas.{in_nothing}
use Rattle.option_link.specs.Linked.{LinkedOptions}
use Rattle.scip_model.specs.Makers.{HasOptions}
use Rattle.scip_model.proofs.PlanLemmas.{grown_same}
use Rattle.scip_model.proofs.option_occurrences.occurrences_if_asked.Goals as goal

pub option_occurrences-requires-clause-options : goal.option_occurrences-requires-clause-options
option_occurrences-requires-clause-options c =
    subst (λ (o : Option (Bor LinkedOptions)). MatchOption o ⊤ (λ linked. HasOptions c.args.maker.now linked.now))
    c.in-Some.is c.requires.options

pub returns-in-Some-clause-planned : goal.returns-in-Some-clause-planned
returns-in-Some-clause-planned c = rw c.in-Some.is c.option_occurrences.ensures.planned

pub returns-in-Some-clause-gaps : goal.returns-in-Some-clause-gaps
returns-in-Some-clause-gaps c = rw c.in-Some.is c.option_occurrences.ensures.gaps

pub returns-in-Some-clause-uncertain : goal.returns-in-Some-clause-uncertain
returns-in-Some-clause-uncertain c = rw c.in-Some.is c.option_occurrences.ensures.uncertain

pub returns-in-None-clause-uncertain : goal.returns-in-None-clause-uncertain
returns-in-None-clause-uncertain c =
    rw (c.in-None.is, c.requires.certain) (λ place. (λ h. absurd (in_nothing place h), λ none. absurd none))

pub returns-in-None-clause-grown : goal.returns-in-None-clause-grown
returns-in-None-clause-grown c = grown_same c.args.texts.now

pub returns-in-None-clause-planned : goal.returns-in-None-clause-planned
returns-in-None-clause-planned c =
    rw (c.in-None.is, c.new.ensures.items)
    (λ around later grown x. (inl, ⊎_elim (λ h. h) (λ none. absurd none)))

pub returns-in-None-clause-gaps : goal.returns-in-None-clause-gaps
returns-in-None-clause-gaps c =
    rw (c.in-None.is, c.requires.empty) (λ span. (λ h. absurd (in_nothing span h), λ none. absurd none))
