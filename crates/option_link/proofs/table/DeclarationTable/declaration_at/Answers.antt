use Rattle.std.proofs.Common.{List, MatchOption, subst}
use Rattle.proto_decl.specs.declared.declaration.Declaration.{Declaration}
use Rattle.proto_visibility.specs.Files.{File}
use Rattle.option_link.specs.Places.{Stands}
use Rattle.option_link.proofs.table.DeclarationTable.declaration_at.Goals as goal

pub returns-clause-stands : goal.returns-clause-stands
returns-clause-stands c =
    subst (λ (files : List File). MatchOption c.declaration_in.result
    ((declaration : Declaration) → Stands files c.args.place declaration → ⊥)
    (λ declaration. Stands files c.args.place declaration.now)) c.linker.ensures c.declaration_in.ensures.stands
