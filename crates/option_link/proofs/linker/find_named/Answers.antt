use Rattle.std.specs.Prelude.{⊤}
use Rattle.std.proofs.Common.{◌≡◌, ℕ, Some, MatchOption, length, ap, sym, ◌∙◌, subst}
use Rattle.std.specs.List.{slice_get}
use Rattle.std.proofs.lemmas.Option.{slice_get_within}
use Rattle.option_link.specs.Contexts.{NamesIn, StandsIn}
use Rattle.option_link.specs.Tables.{IsClear}
use Rattle.option_link.specs.Found.{AreGiven, HasParts}
use Rattle.option_link.specs.declared.contexts.Context.{Context}
use Rattle.option_link.specs.declared.place.DeclaredPlace.{DeclaredPlace}
use Rattle.option_link.proofs.FitLemmas.{has_parts}
use Rattle.option_link.proofs.FoundAllLemmas.{found_more}
use Rattle.option_link.proofs.LoopLemmas.{option_as}
use Rattle.option_link.proofs.linker.find_named.Goals as goal

pub context_of-context-requires-clause-numbered : goal.context_of-context-requires-clause-numbered
context_of-context-requires-clause-numbered c =
    subst (λ (n : ℕ). slice_get c.args.asked.option.now.setting.names n ≡ Some c.args.name.now)
    (sym (ap length c.as_slice.ensures.value ∙ c.requires.found.each)) c.requires.numbered

pub context_of-context-requires-clause-given : goal.context_of-context-requires-clause-given
context_of-context-requires-clause-given c =
    let self = c.args.asked in
    let files = self.files.names.now in
    let known = self.files.known.now in
    let file = self.file in
    let text = self.text.now in
    let option = self.option.now in
    subst (AreGiven files known file text option) (sym c.as_slice.ensures.value) c.requires.found.given

pub target_in-requires-clause-clear : goal.target_in-requires-clause-clear
target_in-requires-clause-clear c =
    let self = c.args.asked in
    let files = self.files.names.now in
    let known = self.files.known.now in
    let file = self.file in
    let text = self.text.now in
    let option = self.option.now in
    let count = length c.as_slice.result.now in
    option_as c.context_of-context.result
    ((context : Context) → StandsIn files known file text option count context → ⊥) ⊤
    (λ context. StandsIn files known file text option count context × IsClear files context) (IsClear files)
    (λ none. tt) (λ context its. its.1) c.context_of-context.ensures

pub doubt_in-requires-clause-file : goal.doubt_in-requires-clause-file
doubt_in-requires-clause-file c =
    slice_get_within c.args.asked.files.names.now c.args.asked.file c.requires.source.file c.requires.source.numbered

pub doubt_in-requires-clause-clear : goal.doubt_in-requires-clause-clear
doubt_in-requires-clause-clear c =
    let self = c.args.asked in
    let files = self.files.names.now in
    let known = self.files.known.now in
    let file = self.file in
    let text = self.text.now in
    let option = self.option.now in
    let count = length c.as_slice.result.now in
    option_as c.context_of-context.result
    ((context : Context) → StandsIn files known file text option count context → ⊥) ⊤
    (λ context. StandsIn files known file text option count context × IsClear files context) (IsClear files)
    (λ none. tt) (λ context its. its.1) c.context_of-context.ensures

pub doubt_in-requires-clause-named : goal.doubt_in-requires-clause-named
doubt_in-requires-clause-named c =
    let self = c.args.asked in
    let files = self.files.names.now in
    let known = self.files.known.now in
    let file = self.file in
    let text = self.text.now in
    let option = self.option.now in
    let number = c.args.number in
    let name = c.args.name.now in
    let context = c.context_of-context.result in
    option_as c.in_ok-target.target
    ((inner : Context) (at : DeclaredPlace) → context ≡ Some inner
    → NamesIn files known file text option number name inner at → ⊥) ⊤
    (λ at. (inner : Context) × (context ≡ Some inner) × NamesIn files known file text option number name inner at)
    (λ at. (inner : Context) × (context ≡ Some inner) × NamesIn files known file text option number name inner at)
    (λ none. tt) (λ at its. its) c.in_ok-target.ensures

pub parts_of-requires : goal.parts_of-requires
parts_of-requires c =
    let self = c.args.asked in
    let files = self.files.names.now in
    let known = self.files.known.now in
    let file = self.file in
    let text = self.text.now in
    let option = self.option.now in
    let number = c.args.number in
    let name = c.args.name.now in
    let behind = c.in_ok-behind.behind in
    let context = c.context_of-context.result in
    option_as c.in_ok-target.target
    ((inner : Context) (at : DeclaredPlace) → context ≡ Some inner
    → NamesIn files known file text option number name inner at → ⊥) ⊤
    (λ at. (inner : Context) × (context ≡ Some inner) × NamesIn files known file text option number name inner at)
    (HasParts files name behind) (λ none. tt)
    (λ at its. subst (λ (n : ℕ). HasParts files name n at) (c.in_ok-behind.ensures its.0 its.1 at its.2)
    (has_parts files c.linked.ensures.origins c.facts_are_filled.ensures.names known file text option number
    name name.role its.0 at its.2)) c.in_ok-target.ensures

pub behind_in-requires-clause-clear : goal.behind_in-requires-clause-clear
behind_in-requires-clause-clear c =
    let self = c.args.asked in
    let files = self.files.names.now in
    let known = self.files.known.now in
    let file = self.file in
    let text = self.text.now in
    let option = self.option.now in
    let count = length c.as_slice.result.now in
    option_as c.context_of-context.result
    ((context : Context) → StandsIn files known file text option count context → ⊥) ⊤
    (λ context. StandsIn files known file text option count context × IsClear files context) (IsClear files)
    (λ none. tt) (λ context its. its.1) c.context_of-context.ensures

pub returns : goal.returns
returns c =
    let self = c.args.asked in
    let files = self.files.names.now in
    let known = self.files.known.now in
    let file = self.file in
    let text = self.text.now in
    let option = self.option.now in
    let number = c.args.number in
    let name = c.args.name.now in
    let context = c.context_of-context.result in
    let target = c.in_ok-target.target in
    let size : length c.as_slice.result.now ≡ number =
    ap length c.as_slice.ensures.value ∙ c.requires.found.each in
    let in_context =
    subst (λ (n : ℕ). MatchOption context ((one : Context) → StandsIn files known file text option n one → ⊥)
    (λ one. StandsIn files known file text option n one × IsClear files one)) size c.context_of-context.ensures in
    let stands = option_as context ((one : Context) → StandsIn files known file text option number one → ⊥)
    ((one : Context) → StandsIn files known file text option number one → ⊥)
    (λ one. StandsIn files known file text option number one × IsClear files one)
    (StandsIn files known file text option number) (λ none. none) (λ one its. its.0) in_context in
    found_more files c.linked.ensures.origins c.linked.ensures.clear.clear known
    self.files.in_order c.facts_in_order.ensures.names c.facts_in_order.ensures.package_name
    c.facts_in_order.ensures.uses c.facts_are_filled.ensures.uses file c.requires.source text option number name
    c.requires.numbered context in_context target c.in_ok-target.ensures c.in_ok-behind.behind c.in_ok-behind.ensures
    c.args.found.now _ c.in_ok-given.given c.in_ok-is.is' c.in_ok-parts.parts c.in_ok-unread.unread c.requires.found
    c.in_ok-parts.ensures c.in_ok-add_target.ensures c.in_ok-push.ensures.items
    (λ outer is. c.in_ok-given.ensures.gives outer is) c.in_ok-given.ensures.none
    (c.in_ok-is.ensures stands) c.first_gap-found.ensures c.in_ok-unread.ensures c.first_doubt-found.ensures
