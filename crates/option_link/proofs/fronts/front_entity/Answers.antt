use Rattle.std.proofs.Common.{ap, length, refl, arith}
use Rattle.proto_visibility.specs.Knows.IsEntityOf.{packaged}
use Rattle.option_link.proofs.FrontLemmas.{front_declared, front_packaged}
use Rattle.option_link.proofs.fronts.front_entity.Goals as goal

pub returns-then-count-package_name : goal.returns-then-count-package_name
returns-then-count-package_name c =
    packaged (c.requires.short (omega (arith, c.if-count-package_name.true, ap length c.package_name.ensures)))

pub returns-in-Some : goal.returns-in-Some
returns-in-Some c =
    front_declared c.args.table.now c.args.file c.args.facts.now c.args.front.now c.args.count c.in-Some.index
    c.requires.has c.in-Some.ensures

pub returns-in-None : goal.returns-in-None
returns-in-None c =
    front_packaged c.args.table.now c.args.file c.args.facts.now c.args.front.now c.args.front.now c.args.count refl
    c.requires.has c.in-None.ensures c.requires.entity
