use Rattle.std.proofs.Common.{◌≡◌, ◌↔◌, ℕ, List, sym, subst}
use Rattle.std.specs.List.{Contains}
use Rattle.proto_visibility.specs.Files.{File}
use Rattle.option_link.specs.declared.table.Listed.{Listed}
use Rattle.option_link.specs.Tables.{Lists}
use Rattle.option_link.proofs.TableLemmas.{near_has}
use Rattle.option_link.proofs.table.DeclarationTable.near_by.Goals as goal

pub near-requires : goal.near-requires
near-requires c =
    (subst (Lists c.self.inside.linker.now) (sym c.as_slice.ensures.value) c.self.invariant.lists).sorted

pub returns : goal.returns
returns c =
    let files = c.args.self.now in
    let listed = c.as_slice.result.now in
    let near = c.near.result.now in
    let lists : Lists files listed = subst (Lists files) (sym c.as_slice.ensures.value)
    (subst (λ (fs : List File). Lists fs c.self.inside.listed.items) c.self.view_is c.self.invariant.lists) in
    λ name is. near_has files name listed near lists
    (subst (λ (n : ℕ). (one : Listed) → Contains near one ↔ (Contains listed one × (one.hash64 ≡ n))) is
    c.near.ensures)
