use Rattle.diagnostics.proofs.wording.+push_listed.Given as goal

abbrev pub decreases-push_listed : goal.decreases-push_listed
decreases-push_listed l = l.room
