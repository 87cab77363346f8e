-- No number of a log is a float
mod SarifFloatLemmas
-- One name more: those so far, and the new ones of the others
mod SarifNameLemmas
