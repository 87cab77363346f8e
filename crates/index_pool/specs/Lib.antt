-- how many workers, and numbers that come once
pub mod Workers
pub mod Once
-- the core machine
pub mod CoreMachine
pub mod CoreFields
-- lanes
pub mod Ticket
pub mod Lane
pub mod LaneEnds
pub mod StolenCases
-- lanes as the core machine
pub mod CoreLanes
pub mod LaneRuns
-- what a phase answers
pub mod Phase
-- what no public contract names
pub mod Tables
