use Rattle.std.specs.String.{string_bytes}
use Rattle.std.proofs.Common.{◌≡◌, List, map, subst}
use Rattle.scip_records.specs.declared.records.Index.{Index}
use Rattle.scip_join.specs.Gathered.{gathered}
use Rattle.scip_join.specs.Refused.{MayRefuse}
use Rattle.scip_join.specs.declared.join_fault.JoinFault.{JoinFault}
use Rattle.programs.proofs.IndexFileLemmas.{has_twice}
use Rattle.programs.proofs.index_files.join_files.Goals as goal

pub returns-in-Err-Twice-clause-stops : goal.returns-in-Err-Twice-clause-stops
returns-in-Err-Twice-clause-stops g c =
    let found = c.in-Err-Twice in
    let kept = c.in_ok-join.join in
    has_twice (g.F.ReadFiles.gives c.args.files.now) c.args.choices (map string_bytes c.args.paths.now) kept found.two
    c.in_ok-join.ensures.added
    (subst (λ (fault : JoinFault). (indexes : List Index) → kept ≡ gathered kept.choices indexes
    → MayRefuse kept.choices indexes fault) found.field-0-is found.ensures.refused)
