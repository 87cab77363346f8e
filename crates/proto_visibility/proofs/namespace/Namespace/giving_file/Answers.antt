use Rattle.std.proofs.Common.{◌≡◌, ◌↔◌, ℕ, ◌<◌, List, length, sym, subst, MatchOption}
use Rattle.std.specs.List.{Contains}
use Rattle.proto_visibility.specs.Files.{File}
use Rattle.proto_visibility.specs.Sees.{Sees}
use Rattle.proto_visibility.specs.Knows.{KnowsAs, admits, SeesGiving}
use Rattle.proto_visibility.proofs.LookupKnownLemmas.{knows_by}
use Rattle.proto_visibility.proofs.LookupListedLemmas.{found_in_files}
use Rattle.proto_visibility.proofs.namespace.Namespace.giving_file.Goals as goal

pub row-requires : goal.row-requires
row-requires c =
    subst (λ n. c.args.file < n) (sym c.self.invariant.checked.rows_are.one_each)
    (subst (λ (fs : List File). c.args.file < length fs) (sym c.self.view_is) c.requires)

pub returns : goal.returns
returns c =
    let files = c.self.inside.files.now in
    let row = c.row.result in
    let role = admits c.args.role in
    let same : files ≡ c.args.self.now = c.self.view_is in
    let sees : (number : ℕ) → Contains row number ↔ Sees files c.args.file number =
    c.self.invariant.checked.rows_are.each c.args.file row c.row.ensures in
    let found = found_in_files files c.self.inside.names c.self.invariant.names_are c.args.role c.args.name.now row
    c.giving_in.result c.giving_in.ensures in
    subst (λ (fs : List File). MatchOption c.giving_in.result (KnowsAs fs c.args.file role c.args.name.now → ⊥)
    (SeesGiving fs c.args.file role c.args.name.now)) same
    (knows_by files c.args.file role c.args.name.now row sees c.giving_in.result found)
