use Rattle.std.proofs.Common.{◌∙◌, map, string_bytes, subst, sym}
use Rattle.std.proofs.lemmas.Bool.{false≢true}
use Rattle.globs.specs.Exclusions.{IsExcluded}
use Rattle.source_files.proofs.ExclusionLemmas.{adds_one, adds_none}
use Rattle.source_files.proofs.excluding.keep_one.Goals as goal

pub returns-then-branch : goal.returns-then-branch
returns-then-branch g c =
    let patterns = map string_bytes c.args.patterns.now in
    adds_none g.N.Named.name_of patterns c.args.folder.now c.args.one c.args.left.now.items
    (subst (IsExcluded patterns c.args.folder.now) c.name.ensures (c.in_ok-is_excluded.ensures.0 c.if-branch.true))

pub returns : goal.returns
returns g c =
    let patterns = map string_bytes c.args.patterns.now in
    adds_one g.N.Named.name_of patterns c.args.folder.now c.args.one c.args.left.now.items _
    (λ is. false≢true (sym c.if-branch.false
    ∙ c.in_ok-is_excluded.ensures.1 (subst (IsExcluded patterns c.args.folder.now) (sym c.name.ensures) is)))
    c.in_ok-push.ensures.items
