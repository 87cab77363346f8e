-- Why the pages of an index aren't all made: what is said about it, and the exit status. (Texts and statuses are this
-- project's own.)
use Rattle.std.specs.Prelude.{Bool, ℕ, List, codes}
use Rattle.scip_site.specs.SiteFaults.{name_of}
use Rattle.scip_site.specs.declared.show_fault.ShowFault.TheVariants.{Write, Memory}
use Rattle.scip_site.specs.declared.site_fault.SiteFault.{SiteFault}
use Rattle.scip_site.specs.declared.site_fault.SiteFault.TheVariants.{Show, NothingThere}
use Rattle.protoscip.specs.Lines.{plain_line}
use Rattle.protoscip.specs.Statuses.{stream_status}
use Rattle.programs.specs.FaultTexts.{FaultText, explained, said}
use Rattle.programs.specs.ShowFaults.{text_of as show_text}

abbrev pub text_of : SiteFault → FaultText
text_of (Show Write) =
    said (name_of (Show Write)) (codes "\nnot all pages could be written, so none is left") stream_status
text_of (Show Memory) = show_text Memory
text_of NothingThere =
    said (name_of NothingThere) (codes "\nno document has its source below ROOT") stream_status

-- its line, explained if that is asked for
abbrev pub told : (explain : Bool) → SiteFault → List ℕ
told explain fault = explained explain (plain_line (text_of fault).name) (text_of fault).explanation

abbrev pub status_of : SiteFault → ℕ
status_of fault = (text_of fault).status
