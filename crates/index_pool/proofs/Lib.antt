-- Each file is named after the spec or source that it serves.
-- The private fields of the core machine: what a change of one worker does to the state, and that what they keep stays
mod CoreFieldsLemmas
-- In every state to which events lead, the core machine shows lanes
mod CoreLanesLemmas
-- Each possible event keeps the core machine sound
mod CoreMachineLemmas
-- The laws of the core machine's runs
mod CoreMachineRunLemmas
-- The results, put into the order of their inputs
mod InOrderLemmas
-- One number more that was taken from a lane, and one result more
mod LaneEndTakenLemmas
-- What the ends of a lane show, step after step
mod LaneEndsLemmas
-- Each step at a deque keeps the lane's rule
mod LaneLemmas
-- The numbers that a lane is given
mod LaneNumbersLemmas
-- A lane gives its numbers in order
mod LaneOrderLemmas
-- Running deques make runs of the core machine
mod LaneRunsLemmas
-- The recursion over the workers' threads
mod LevelsLemmas
-- Sums over the numbers below a bound, and how often a number stands in a list
mod OnceLemmas
-- Lists of results: their weights, and what the job may give
mod PhaseStepResultLemmas
