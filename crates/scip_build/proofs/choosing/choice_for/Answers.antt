use Rattle.std.proofs.Common.{ap, subst, ◌∙◌}
use Rattle.proto_decl.specs.Values.{Seen}
use Rattle.index_hooks.specs.declared.choice.Choice.{Choice}
use Rattle.scip_build.specs.ParsedFiles.{seen_of}
use Rattle.scip_build.proofs.choosing.choice_for.Goals as goal

pub returns : goal.returns
returns g c =
    let allows : Seen → Choice → Type 0 = g.C.Chooses.allows c.args.chooser.now in
    let For : Seen → Type 0 = λ seen. allows seen c.choose.result in
    subst For (c.view.ensures ∙ ap seen_of c.in_ok-named.ensures) c.choose.ensures
