use Rattle.std.proofs.Common.{◌↔◌, IsTrue, sym, subst}
use Rattle.proto_visibility.specs.Files.{IsPresent}
use Rattle.proto_visibility.proofs.LookupTwiceLemmas.{present_iff}
use Rattle.proto_visibility.proofs.files.is_present.Goals as goal

pub returns : goal.returns
returns c =
    subst (λ r. IsTrue r ↔ IsPresent c.args.files.now c.args.number) (sym c.is_some.ensures)
    (present_iff c.args.files.now c.args.number c.requires c.unless_left_out.result c.unless_left_out.ensures)
