use Rattle.std.proofs.Common.{◌≡◌, refl}
use Rattle.option_link.specs.Lookups.{admits}
use Rattle.option_link.specs.Tables.{IsSought}
use Rattle.option_link.proofs.LoopLemmas.{not_iff}
use Rattle.option_link.proofs.table.DeclarationTable.is_of_owner.Goals as goal

pub returns-then-place-owner : goal.returns-then-place-owner
returns-then-place-owner c = (λ t at. c.if-place-owner.true, λ h. refl)

pub returns : goal.returns
returns c =
    not_iff c.is_sought.result
    (IsSought c.args.self.now c.args.file (admits c.args.sought) c.args.name.now c.args.place)
    (c.args.place.file ≡ c.args.owner) c.is_sought.ensures c.if-place-owner.false
