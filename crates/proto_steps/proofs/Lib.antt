-- The laws of all steps
pub mod TurnLemmas
pub mod StepLaws
pub mod FirstLemmas
pub mod FinishLemmas
pub mod FrontLemmas
pub mod EndLemmas
pub mod EndFileLemmas
pub mod ExplainLemmas
pub mod ExplainLoopLemmas
pub mod ExplainPartLemmas
pub mod ExplainFileLemmas
pub mod MoveLemmas
pub mod SteadyLemmas
pub mod SteadyFieldLemmas
pub mod SteadyFileLemmas
-- Dialects
pub mod AmongLemmas
pub mod AmongFileLemmas
-- Loops of the parser
pub mod LoopLemmas
-- The grammar beside the parser's functions on tokens
pub mod AgreeLemmas
pub mod AgreeFieldLemmas
pub mod ChoiceLemmas
pub mod EnumLemmas
pub mod FileLemmas
pub mod JoinedLemmas
pub mod MessageLemmas
pub mod ServiceLemmas
