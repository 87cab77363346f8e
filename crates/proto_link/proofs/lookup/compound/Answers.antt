use Rattle.std.proofs.Common.{List, ℕ, Option, MatchOption, subst}
use Rattle.std.specs.String.{string_bytes}
use denote.Ref.{Bor}
use Rattle.proto_visibility.specs.Knows.{is_aggregate}
use Rattle.proto_link.specs.Resolves.{Innermost}
use Rattle.proto_link.proofs.ResolveLemmas.{compound_by, compound_none}
use Rattle.proto_link.proofs.lookup.compound.Goals as goal

pub returns-in_ok-put_under-in-Some : goal.returns-in_ok-put_under-in-Some
returns-in_ok-put_under-in-Some c =
    let files = c.args.namespace.now in
    let file = c.args.file in
    let first = c.args.first.now in
    let from = c.args.type_use.now.scope in
    let Found : List ℕ → Option (Bor (List ℕ)) → Type 0 =
    λ scope o. MatchOption o ((start : List ℕ) → Innermost files file is_aggregate first scope start → ⊥)
    (λ start. Innermost files file is_aggregate first scope start.now) in
    let there = subst (Found c.as_str-scope.result.now) c.in-Some.is c.in_ok-start.ensures in
    let found = subst (λ scope. Innermost files file is_aggregate first scope c.in-Some.start.now)
    c.as_str-scope.ensures there in
    compound_by files file c.args.type_use.now.is_extended first c.args.words.now from c.in-Some.start.now
    (string_bytes c.put_under.new.text) string_bytes c.if_wanted.result c.in_ok-put_under-in-Some.ensures found
    c.if_wanted.ensures

pub returns-in-None : goal.returns-in-None
returns-in-None c =
    let files = c.args.namespace.now in
    let file = c.args.file in
    let first = c.args.first.now in
    let Found : List ℕ → Option (Bor (List ℕ)) → Type 0 =
    λ scope o. MatchOption o ((start : List ℕ) → Innermost files file is_aggregate first scope start → ⊥)
    (λ start. Innermost files file is_aggregate first scope start.now) in
    let none = subst (Found c.as_str-scope.result.now) c.in-None.is c.in_ok-start.ensures in
    compound_none files file c.args.type_use.now.is_extended first c.args.words.now c.args.type_use.now.scope
    (λ start innermost. subst (λ scope. Innermost files file is_aggregate first scope start → ⊥)
    c.as_str-scope.ensures (none start) innermost)
