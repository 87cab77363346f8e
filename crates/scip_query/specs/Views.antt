-- The code's documents and subjects as those of the definitions.
use Rattle.scip_query.specs.Sites.{Numbered}
use Rattle.scip_query.specs.OccurrenceAt
use Rattle.scip_query.specs.declared.queries.Named.{Named}
use Rattle.scip_query.specs.declared.queries.Subject.{Subject}

abbrev pub named_view : Named → Numbered
named_view n = record { number = n.number; document = n.document.now }

abbrev pub subject_view : Subject → OccurrenceAt.Subject
subject_view s = record { asked = named_view s.asked; symbol = s.symbol.now }
