use Rattle.std.proofs.Common.{◌↔◌, ◌<◌, ℕ, List, MatchOption, length, sym, subst}
use Rattle.std.specs.List.{Contains}
use Rattle.proto_visibility.specs.declared.names.DeclaredAt.{DeclaredAt}
use Rattle.proto_visibility.specs.Files.{File}
use Rattle.proto_visibility.specs.Sees.{Sees}
use Rattle.proto_visibility.specs.Knows.{admits, IsOwner}
use Rattle.proto_visibility.specs.Tables.GivenNames.{IsAloneIn}
use Rattle.proto_visibility.proofs.SeeingReachableLemmas.{seen_within}
use Rattle.proto_visibility.proofs.LookupKnownLemmas.{no_owner, owner_unless}
use Rattle.proto_visibility.proofs.namespace.Namespace.owner_of.Goals as goal

pub row-requires : goal.row-requires
row-requires c =
    subst (λ n. c.args.file < n) (sym c.self.invariant.checked.rows_are.one_each)
    (subst (λ (fs : List File). c.args.file < length fs) (sym c.self.view_is) c.requires.file)

pub unless_left_out-requires : goal.unless_left_out-requires
unless_left_out-requires c =
    let sees = c.self.invariant.checked.rows_are.each c.args.file c.row.result c.row.ensures in
    let file_in = subst (λ (fs : List File). c.args.file < length fs) (sym c.self.view_is) c.requires.file in
    seen_within ((sees c.in-Some.owner).0 c.in-Some.ensures.there) file_in

pub returns-in-Some : goal.returns-in-Some
returns-in-Some c =
    let files = c.self.inside.files.now in
    let names = c.self.inside.names in
    let file = c.args.file in
    let name = c.args.name.now in
    let role = c.args.role in
    let row = c.row.result in
    let owner = c.in-Some.owner in
    let sees : (number : ℕ) → Contains row number ↔ Sees files file number =
    c.self.invariant.checked.rows_are.each file row c.row.ensures in
    let file_in = subst (λ (fs : List File). file < length fs) (sym c.self.view_is) c.requires.file in
    let alone = subst (λ (ds : List DeclaredAt). IsAloneIn row ds (admits role) owner) c.declaring.ensures
    c.in-Some.ensures in
    subst (λ (fs : List File). MatchOption c.unless_left_out.result
    ((other : ℕ) → IsOwner fs file (admits role) name other → ⊥) (IsOwner fs file (admits role) name)) c.self.view_is
    (owner_unless files file names c.self.invariant.names_are role name row sees c.requires.declared owner alone
    (seen_within ((sees owner).0 c.in-Some.ensures.there) file_in) c.unless_left_out.result c.unless_left_out.ensures)

pub returns-in-None : goal.returns-in-None
returns-in-None c =
    let files = c.self.inside.files.now in
    let names = c.self.inside.names in
    let file = c.args.file in
    let name = c.args.name.now in
    let role = c.args.role in
    let row = c.row.result in
    let sees : (number : ℕ) → Contains row number ↔ Sees files file number =
    c.self.invariant.checked.rows_are.each file row c.row.ensures in
    let none = subst (λ (ds : List DeclaredAt). (number : ℕ) → IsAloneIn row ds (admits role) number → ⊥)
    c.declaring.ensures c.in-None.ensures in
    subst (λ (fs : List File). (owner : ℕ) → IsOwner fs file (admits role) name owner → ⊥) c.self.view_is
    (no_owner files file names c.self.invariant.names_are role name row sees c.requires.declared none)
