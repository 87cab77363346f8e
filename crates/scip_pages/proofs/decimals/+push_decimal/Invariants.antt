use Rattle.scip_pages.proofs.decimals.+push_decimal.Given as goal

-- the number itself
abbrev pub decreases-push_decimal : goal.decreases-push_decimal
decreases-push_decimal l = l.number
