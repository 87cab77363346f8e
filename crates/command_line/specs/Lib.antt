-- what a command line asks for
pub mod Asks
pub mod Requests
-- what is asked in one line
pub mod Verbs
-- the programs, their arguments and options, and what these are given
pub mod Program
pub mod Values
-- what arguments and options of each kind are, as the rules of the crate `clap` see them
pub mod Arguments
-- what the programs are told by their options: a file for each, with its words, its rule and what it says
pub mod Options
