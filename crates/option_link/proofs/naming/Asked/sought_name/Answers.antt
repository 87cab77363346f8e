use Rattle.std.proofs.Common.{◌<◌, Bool, List, ℕ, IfOk, MatchOption, length, map, sym, subst}
use Rattle.std.specs.Option.{is_some}
use Rattle.std.specs.String.{string_bytes}
use Rattle.option_link.specs.Found.{IsScope, IsSoughtName, LacksSoughtName}
use Rattle.option_link.specs.Lookups.{LooksFor}
use Rattle.option_link.proofs.LoopLemmas.{found_as, some_of, none_of}
use Rattle.option_link.proofs.ExtensionLemmas.{lacks_sought, none_sought, sought_by}
use Rattle.option_link.proofs.WordLemmas.{now}
use Rattle.option_link.proofs.naming.Asked.sought_name.Goals as goal

pub scope_of-scope-requires : goal.scope_of-scope-requires
scope_of-scope-requires c =
    subst (λ (n : List ℕ). 0 < length n) (sym c.as_str.ensures)
    (some_of _ _ _ c.in-Some.is c.in_ok-extended.ensures.some)

pub returns-in-Some : goal.returns-in-Some
returns-in-Some c =
    let self = c.args.self in
    let files = self.files.names.now in
    let option = self.option.now in
    let number = c.args.number in
    let context = c.args.context in
    let dot = is_some c.args.name.now.name.leading_dot in
    let words = map now c.args.words.now in
    let extended = c.in-Some.extended in
    let scope = c.scope_of-scope.result.now in
    let called = some_of _ _ _ c.in-Some.is c.in_ok-extended.ensures.named in
    let is_scope = subst (λ (n : List ℕ). IsScope option number n scope) c.as_str.ensures c.scope_of-scope.ensures in
    let found = subst (λ (d : Bool). IfOk c.full_name_of.result (λ found. MatchOption found
    ((name : List ℕ) → LooksFor files self.file d words scope name → ⊥)
    (λ name. LooksFor files self.file d words scope (string_bytes name)))) c.is_some-has_dot.ensures
    c.full_name_of.ensures in
    found_as c.full_name_of.result ((name : List ℕ) → LooksFor files self.file dot words scope name → ⊥)
    (LacksSoughtName files self.file option number context dot words)
    (λ name. LooksFor files self.file dot words scope (string_bytes name))
    (λ name. IsSoughtName files self.file option number context dot words (string_bytes name))
    (λ none. none_sought files self.file option number context c.requires.clear extended scope called is_scope dot words
    none)
    (λ name is. sought_by files self.file option number context c.requires.clear extended scope called is_scope dot
    words (string_bytes name) is) found

pub returns-in-None : goal.returns-in-None
returns-in-None c =
    let self = c.args.self in
    lacks_sought self.files.names.now self.file self.option.now c.args.number c.args.context
    (is_some c.args.name.now.name.leading_dot) (map now c.args.words.now)
    (none_of _ _ c.in-None.is c.in_ok-extended.ensures.named)
