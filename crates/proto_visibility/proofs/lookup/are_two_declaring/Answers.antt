use Rattle.std.proofs.Common.{◌↔◌, IsTrue, sym, subst}
use Rattle.std.proofs.lemmas.Bool.{false≢true}
use Rattle.proto_visibility.specs.Knows.{admits}
use Rattle.proto_visibility.specs.Tables.GivenNames.{AreTwoDeclaring}
use Rattle.proto_visibility.proofs.LookupTwiceLemmas.{none_two, two_iff}
use Rattle.proto_visibility.proofs.lookup.are_two_declaring.Goals as goal

pub returns-in-Some : goal.returns-in-Some
returns-in-Some c =
    subst (λ r. IsTrue r ↔ AreTwoDeclaring c.args.files.now c.args.row.now c.args.declared.now (admits c.args.role))
    (sym c.is_some.ensures)
    (two_iff c.args.files.now c.args.row.now c.args.declared.now (admits c.args.role) c.in-Some.first c.in-Some.ensures
    c.declaring_beside-in-Some.result c.declaring_beside-in-Some.ensures)

pub returns-in-None : goal.returns-in-None
returns-in-None c = (
  λ t. absurd (false≢true t),
  λ two. absurd (none_two c.args.files.now c.args.row.now c.args.declared.now (admits c.args.role)
      c.in-None.ensures two),
)
