use Rattle.std.proofs.Common.{List, ℕ, subst}
use Rattle.std.specs.List.{Contains}
use Rattle.proto_visibility.specs.Knows.IsEntityOf.{packaged}
use Rattle.proto_visibility.proofs.lookup.entity_in.Goals as goal

pub returns-then-stands_among : goal.returns-then-stands_among
returns-then-stands_among c =
    packaged (c.requires.names.packaged c.args.name.now
    (subst (λ (ns : List ℕ). Contains ns c.args.number) c.packaging.ensures
    (c.stands_among.ensures.0 c.if-stands_among.true)))
