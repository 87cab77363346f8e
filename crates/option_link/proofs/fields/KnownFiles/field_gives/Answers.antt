use Rattle.std.proofs.Common.{subst}
use Rattle.option_link.specs.KnownFields.{IsGivenBy}
use Rattle.option_link.specs.declared.place.DeclaredPlace.{DeclaredPlace}
use Rattle.option_link.proofs.KnownFieldLemmas.{known_as}
use Rattle.option_link.proofs.fields.KnownFiles.field_gives.Goals as goal

pub returns-in-Some : goal.returns-in-Some
returns-in-Some c =
    let self = c.args.self in
    let one = c.in-Some.one in
    let its = c.in-Some.ensures in
    subst (λ (field : DeclaredPlace). IsGivenBy self.names.now self.known.now field one.gives) its.1
    (known_as one self.same_files self.same_known its.0).gives
