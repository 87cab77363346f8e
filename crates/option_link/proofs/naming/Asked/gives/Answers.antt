use Rattle.std.proofs.Common.{MatchOption}
use Rattle.option_link.specs.Contexts.{Leads, NamesIn, PlaceGives}
use Rattle.option_link.specs.Contexts.Leads.{named}
use Rattle.option_link.specs.Found.{LeadsUnnamed}
use Rattle.option_link.specs.Tables.{IsClear}
use Rattle.option_link.specs.declared.contexts.Context.{Context}
use Rattle.option_link.specs.declared.place.DeclaredPlace.{DeclaredPlace}
use Rattle.option_link.proofs.GivingLemmas.{leads_clear, leads_named_to, leads_unnamed, unnamed_leads}
use Rattle.option_link.proofs.LoopLemmas.{ok_as, option_as, some_of, none_of}
use Rattle.option_link.proofs.naming.Asked.gives.Goals as goal

pub returns-in-Some : goal.returns-in-Some
returns-in-Some c =
    let self = c.args.self in
    let files = self.files.names.now in
    let known = self.files.known.now in
    let file = self.file in
    let text = self.text.now in
    let option = self.option.now in
    let number = c.args.number in
    let name = c.args.name.now in
    let outer = c.args.context in
    let place = c.in-Some.place in
    ok_as c.place_gives.result (λ found. MatchOption found
    ((inner : Context) → PlaceGives files known name.role place inner → ⊥) (PlaceGives files known name.role place))
    (λ found. MatchOption c.args.target
    ((at : DeclaredPlace) → NamesIn files known file text option number name outer at → ⊥)
    (NamesIn files known file text option number name outer)
    → MatchOption found ((inner : Context) → Leads files known file text option number name outer inner → ⊥)
    (λ inner. Leads files known file text option number name outer inner × IsClear files inner))
    (λ found told target. (
    let names = some_of _ _ _ c.in-Some.is target in
    option_as found ((inner : Context) → PlaceGives files known name.role place inner → ⊥)
    ((inner : Context) → Leads files known file text option number name outer inner → ⊥)
    (PlaceGives files known name.role place)
    (λ inner. Leads files known file text option number name outer inner × IsClear files inner)
    (λ none inner leads. none inner (leads_named_to files known file text option number name
    outer inner place names leads))
    (λ inner gives. (let leads = named names gives in
    (leads, leads_clear files known file text option number name outer inner leads))) told))
    c.place_gives.ensures

pub returns-in-None : goal.returns-in-None
returns-in-None c =
    let self = c.args.self in
    let files = self.files.names.now in
    let known = self.files.known.now in
    let file = self.file in
    let text = self.text.now in
    let option = self.option.now in
    let number = c.args.number in
    let name = c.args.name.now in
    let outer = c.args.context in
    ok_as c.unnamed_gives.result (λ found. MatchOption found
    ((inner : Context) → LeadsUnnamed files known file text option number name outer inner → ⊥)
    (LeadsUnnamed files known file text option number name outer))
    (λ found. MatchOption c.args.target
    ((at : DeclaredPlace) → NamesIn files known file text option number name outer at → ⊥)
    (NamesIn files known file text option number name outer)
    → MatchOption found ((inner : Context) → Leads files known file text option number name outer inner → ⊥)
    (λ inner. Leads files known file text option number name outer inner × IsClear files inner))
    (λ found told target. (
    let none_named = none_of _ _ c.in-None.is target in
    option_as found ((inner : Context) → LeadsUnnamed files known file text option number name outer inner → ⊥)
    ((inner : Context) → Leads files known file text option number name outer inner → ⊥)
    (LeadsUnnamed files known file text option number name outer)
    (λ inner. Leads files known file text option number name outer inner × IsClear files inner)
    (λ none inner leads. none inner (leads_unnamed files known file text option number name outer inner none_named
    leads))
    (λ inner unnamed. (let leads = unnamed_leads files known file text option number name outer inner none_named unnamed
    in
    (leads, leads_clear files known file text option number name outer inner leads))) told))
    c.unnamed_gives.ensures
