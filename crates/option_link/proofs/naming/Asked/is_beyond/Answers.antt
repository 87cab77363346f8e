use Rattle.std.proofs.Common.{◌<◌, ◌↔◌, List, IfOk, IsTrue, length, sym, ◌∙◌, subst}
use Rattle.proto_visibility.specs.Files.{File}
use Rattle.proto_link.specs.Uncertain.{IsBeyondPackage}
use Rattle.option_link.proofs.DoubtLemmas.{IsBeyond, beyond_braces, beyond_part}
use Rattle.option_link.proofs.LoopLemmas.{ok_as}
use Rattle.option_link.proofs.naming.Asked.is_beyond.Goals as goal

pub is_beyond_package-requires : goal.is_beyond_package-requires
is_beyond_package-requires c =
    subst (λ (fs : List File). c.args.self.file < length fs) (sym c.linker.ensures) c.requires

pub returns-then-is_in_braces : goal.returns-then-is_in_braces
returns-then-is_in_braces c =
    let self = c.args.self in
    let way = beyond_braces self.files.names.now self.file self.option.now c.args.number c.args.scope.now
    c.args.start.now (sym c.is_in_braces.ensures ∙ c.if-is_in_braces.true) in (
      λ is. way.0 (c.is_farther_out.ensures.0 is),
      λ beyond. c.is_farther_out.ensures.1 (way.1 beyond),
    )

pub returns : goal.returns
returns c =
    let self = c.args.self in
    let files = self.files.names.now in
    let scope = c.args.scope.now in
    let start = c.args.start.now in
    let way = beyond_part files self.file self.option.now c.args.number scope start
    (sym c.is_in_braces.ensures ∙ c.if-is_in_braces.false) in
    ok_as c.is_beyond_package.result (λ is. IsTrue is ↔ IsBeyondPackage files self.file start)
    (λ is. IsTrue is ↔ IsBeyond files self.file self.option.now c.args.number scope start)
    (λ is so. (λ t. way.0 (so.0 t), λ beyond. so.1 (way.1 beyond)))
    (subst (λ (fs : List File). IfOk c.is_beyond_package.result (λ is. IsTrue is ↔ IsBeyondPackage fs self.file start))
    c.linker.ensures c.is_beyond_package.ensures)
