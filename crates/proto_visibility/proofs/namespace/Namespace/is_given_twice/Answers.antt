use Rattle.std.proofs.Common.{◌↔◌, ◌<◌, ℕ, IsTrue, List, length, sym, subst}
use Rattle.std.specs.List.{Contains}
use Rattle.proto_visibility.specs.declared.names.DeclaredAt.{DeclaredAt}
use Rattle.proto_visibility.specs.Files.{File}
use Rattle.proto_visibility.specs.Sees.{Sees}
use Rattle.proto_visibility.specs.Knows.{admits, IsGivenTwice}
use Rattle.proto_visibility.specs.Tables.GivenNames.{AreOfFiles, AreTwoDeclaring}
use Rattle.proto_visibility.proofs.LookupTwiceLemmas.{of_files, twice_iff}
use Rattle.proto_visibility.proofs.namespace.Namespace.is_given_twice.Goals as goal

pub row-requires : goal.row-requires
row-requires c =
    subst (λ n. c.args.file < n) (sym c.self.invariant.checked.rows_are.one_each)
    (subst (λ (fs : List File). c.args.file < length fs) (sym c.self.view_is) c.requires.file)

pub are_two_declaring-requires : goal.are_two_declaring-requires
are_two_declaring-requires c =
    let files = c.self.inside.files.now in
    let names = c.self.inside.names in
    let row = c.row.result in
    let sees : (number : ℕ) → Contains row number ↔ Sees files c.args.file number =
    c.self.invariant.checked.rows_are.each c.args.file row c.row.ensures in
    subst (AreOfFiles files) (sym c.declaring-declared.ensures)
    (of_files files c.args.file names c.self.invariant.names_are c.args.role c.args.name.now row sees c.requires.declared)

pub returns : goal.returns
returns c =
    let files = c.self.inside.files.now in
    let names = c.self.inside.names in
    let file = c.args.file in
    let name = c.args.name.now in
    let role = c.args.role in
    let row = c.row.result in
    let answer = c.are_two_declaring.result in
    let sees : (number : ℕ) → Contains row number ↔ Sees files file number =
    c.self.invariant.checked.rows_are.each file row c.row.ensures in
    let told = subst (λ (ds : List DeclaredAt). IsTrue answer ↔ AreTwoDeclaring files row ds (admits role))
    c.declaring-declared.ensures c.are_two_declaring.ensures in
    subst (λ (fs : List File). IsTrue answer ↔ IsGivenTwice fs file (admits role) name) c.self.view_is
    (twice_iff files file names c.self.invariant.names_are role name row sees c.requires.declared answer told)
