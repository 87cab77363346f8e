use Rattle.std.proofs.Common.{◌≡◌, ◌≢◌, ℕ, List, sym, ◌∙◌, subst}
use Rattle.proto_visibility.specs.Files.{File, IsPresent}
use Rattle.proto_visibility.specs.Reaches.{HasOptionsIn}
use Rattle.proto_visibility.proofs.ReachingLemmas.{options_inside}
use Rattle.option_link.proofs.LoopLemmas.{fails}
use Rattle.option_link.proofs.table.DeclarationTable.options_file.Goals as goal

abbrev There : (source file : ℕ) → List File → Type 0
There source file files =
    HasOptionsIn files source file × ((other : ℕ) → HasOptionsIn files source other → other ≡ file)

pub is_present-requires : goal.is_present-requires
is_present-requires c =
    let at = subst (There c.args.source c.in-At.file) c.linker.ensures c.in-At.ensures in
    options_inside at.0

pub returns-then-not-is_present : goal.returns-then-not-is_present
returns-then-not-is_present c = λ file is. (
    let at = subst (There c.args.source c.in-At.file) c.linker.ensures c.in-At.ensures in
    fails c.is_present.result _ c.is_present.ensures c.if-not-is_present.true
    (subst (IsPresent c.args.self.now) (at.1 file is.has) is.present))

pub returns-else-not-is_present : goal.returns-else-not-is_present
returns-else-not-is_present c =
    let at = subst (There c.args.source c.in-At.file) c.linker.ensures c.in-At.ensures in
    record { has = at.0; only = at.1; present = c.is_present.ensures.0 c.if-not-is_present.false }

pub returns-in-Nowhere : goal.returns-in-Nowhere
returns-in-Nowhere c = λ file is. subst (λ (files : List File). (number : ℕ)
    → HasOptionsIn files c.args.source number → ⊥) c.linker.ensures c.in-Nowhere.ensures file is.has

pub returns-in-Several : goal.returns-in-Several
returns-in-Several c = λ file is. (
    let two = subst (λ (files : List File). (one : ℕ) × (other : ℕ) × HasOptionsIn files c.args.source one
    × HasOptionsIn files c.args.source other × (one ≢ other)) c.linker.ensures c.in-Several.ensures in
    two.4 (is.only two.0 two.2 ∙ sym (is.only two.1 two.3)))
