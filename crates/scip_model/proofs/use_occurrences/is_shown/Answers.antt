use Rattle.std.proofs.Common.{subst}
use Rattle.scip_model.specs.Tables.Listing.{IsNameable}
use Rattle.proto_visibility.specs.declared.lookup.Entity.{Entity}
use Rattle.scip_model.proofs.use_occurrences.is_shown.Goals as goal

pub of-requires : goal.of-requires
of-requires c =
    let there = subst (λ (part : Entity). IsNameable c.args.maker.now.package.now.files c.requires.nameable.0 part) c.in-Declared.is
    c.requires.nameable.1 in
    c.requires.chosen c.in-Declared.file c.in-Declared.index there.0 there.1 there.2
