use Rattle.std.proofs.Common.{ℕ, ◌∙◌, ap, subst}
use Rattle.proto_decl.specs.Names.{hash64}
use Rattle.option_link.specs.Marks.{AddsMark}
use Rattle.option_link.proofs.packages.add_name.Goals as goal

pub returns : goal.returns
returns c =
    subst (λ (n : ℕ). AddsMark n c.args.marks.now.items c.mark.new.marks.items) (c.hash64.ensures
    ∙ ap hash64 c.whole.ensures) c.mark.ensures
