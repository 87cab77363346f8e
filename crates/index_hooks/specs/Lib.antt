-- what comes of adding a filter or a rule
pub mod Adding
-- how faults are printed
pub mod FaultTexts
-- which kinds a set has
pub mod HasKind
-- full names under one another
pub mod IsUnder
-- which choices promises allow
pub mod MayChoose
-- the one choice of promises that allow one answer each
pub mod OneChoice
-- what contracts see of a filter or of a rule
pub mod Promised
-- which answers the ready promises allow
pub mod ReadyPromises
-- whose turn it is to be asked
pub mod Turns
