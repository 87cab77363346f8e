use Rattle.std.proofs.Common.{List, ℕ, MatchOption, sym, ◌∙◌, subst}
use Rattle.std.specs.List.{Contains}
use Rattle.std.specs.List.Sorted.{IsNonDecreasing}
use Rattle.proto_visibility.specs.declared.names.DeclaredAt.{DeclaredAt}
use Rattle.proto_visibility.specs.Knows.{admits}
use Rattle.proto_visibility.specs.Tables.GivenNames.{IsDeclaring}
use Rattle.proto_visibility.proofs.LookupListedLemmas.{by_package, by_none}
use Rattle.proto_visibility.proofs.lookup.giving_in.Goals as goal

pub shared-requires : goal.shared-requires
shared-requires c = subst IsNonDecreasing (sym c.packaging.ensures) (c.requires c.args.name.now)

pub returns-then-admits_packages : goal.returns-then-admits_packages
returns-then-admits_packages c =
    let role = admits c.args.role in
    let row = c.args.row.now in
    let none = subst (λ (ds : List DeclaredAt). (number : ℕ) → Contains row number → IsDeclaring ds role number → ⊥)
    c.declaring.ensures c.in_default.ensures in
    let both = subst (λ (ns : List ℕ). MatchOption c.shared.result
    ((number : ℕ) → Contains ns number → Contains row number → ⊥)
    (λ number. Contains ns number × Contains row number)) c.packaging.ensures c.shared.ensures in
    by_package c.args.names.now role c.args.name.now row none
    (sym c.admits_packages.ensures ∙ c.if-admits_packages.true) c.shared.result both

pub returns : goal.returns
returns c =
    let role = admits c.args.role in
    let row = c.args.row.now in
    let none = subst (λ (ds : List DeclaredAt). (number : ℕ) → Contains row number → IsDeclaring ds role number → ⊥)
    c.declaring.ensures c.in_default.ensures in
    by_none c.args.names.now role c.args.name.now row none (sym c.admits_packages.ensures ∙ c.if-admits_packages.false)
