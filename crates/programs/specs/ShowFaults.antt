-- Why the documents of an index aren't all shown: what is said about it, and the exit status. (Texts and statuses are
-- this project's own.)
use Rattle.std.specs.Prelude.{Bool, ℕ, List, [], codes}
use Rattle.scip_site.specs.ShowFaults.{name_of}
use Rattle.scip_site.specs.declared.show_fault.ShowFault.{ShowFault}
use Rattle.scip_site.specs.declared.show_fault.ShowFault.TheVariants.{Write, Memory}
use Rattle.protoscip.specs.Lines.{plain_line}
use Rattle.protoscip.specs.Statuses.{memory_status, stream_status}
use Rattle.programs.specs.FaultTexts.{FaultText, explained, said}

abbrev pub text_of : ShowFault → FaultText
text_of Write = said (name_of Write) (codes "\nonly a first part could be written") stream_status
text_of Memory = said (name_of Memory) [] memory_status

-- its line, explained if that is asked for
abbrev pub told : (explain : Bool) → ShowFault → List ℕ
told explain fault = explained explain (plain_line (text_of fault).name) (text_of fault).explanation

abbrev pub status_of : ShowFault → ℕ
status_of fault = (text_of fault).status
