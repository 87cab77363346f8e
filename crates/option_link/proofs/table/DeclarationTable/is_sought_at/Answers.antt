use Rattle.std.proofs.Common.{◌↔◌, ◌<◌, IsTrue, List, length, sym, ◌∙◌, subst}
use Rattle.proto_visibility.specs.Files.{File}
use Rattle.proto_visibility.specs.Sees.{Sees}
use Rattle.option_link.specs.Lookups.{admits}
use Rattle.option_link.proofs.LoopLemmas.{never_so}
use Rattle.option_link.proofs.SoughtLemmas.{not_kind, of_kind}
use Rattle.option_link.proofs.TableLemmas.{within_files}
use Rattle.option_link.proofs.table.DeclarationTable.is_sought_at.Goals as goal

pub returns-then-not-admits : goal.returns-then-not-admits
returns-then-not-admits c =
    never_so _ (not_kind c.args.self.now c.args.file (admits c.args.sought) c.args.place c.in-Some.declaration.now
    c.in-Some.ensures.stands c.kind.result c.kind.ensures (sym c.admits.ensures ∙ c.if-not-admits.true))

pub visible-requires-clause-file : goal.visible-requires-clause-file
visible-requires-clause-file c =
    subst (λ (files : List File). c.args.file < length files) (sym c.linker.ensures) c.requires

pub visible-requires-clause-other : goal.visible-requires-clause-other
visible-requires-clause-other c =
    subst (λ (files : List File). c.args.place.file < length files) (sym c.linker.ensures)
    (within_files c.args.self.now c.args.place c.in-Some.declaration.now c.in-Some.ensures.stands)

pub returns-else-not-admits : goal.returns-else-not-admits
returns-else-not-admits c =
    of_kind c.args.self.now c.args.file (admits c.args.sought) c.args.place c.in-Some.declaration.now
    c.in-Some.ensures.stands c.kind.result c.kind.ensures c.visible.result
    (sym c.admits.ensures ∙ c.if-not-admits.false)
    (subst (λ (files : List File). IsTrue c.visible.result ↔ Sees files c.args.file c.args.place.file) c.linker.ensures
    c.visible.ensures)

pub returns-in-None : goal.returns-in-None
returns-in-None c = never_so _ (λ at. c.in-None.ensures.stands at.declaration at.stands)
