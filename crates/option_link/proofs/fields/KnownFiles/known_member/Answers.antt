use Rattle.std.proofs.lemmas.Option.{IfSome_then}
use Rattle.option_link.proofs.KnownFieldLemmas.{known_as, member_by}
use Rattle.option_link.proofs.fields.KnownFiles.known_member.Goals as goal

pub returns-in-Some : goal.returns-in-Some
returns-in-Some c =
    let self = c.args.self in
    let one = c.in-Some.one in
    let its = c.in-Some.ensures in
    IfSome_then c.if_called.result c.if_called.ensures (λ found same.
    member_by self.names.now self.known.now one c.args.message c.args.word.now found
    (known_as one self.same_files self.same_known its.0) its.1 same.0 same.1 same.2 same.3)
