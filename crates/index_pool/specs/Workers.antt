-- How many workers and inputs a phase has.
use Rattle.std.specs.Prelude.{ℕ}

-- the most: the promise's own number, with which the proofs compare the code's constant
abbrev pub most_workers : ℕ
most_workers = 16

-- and the most inputs, likewise
abbrev pub most_inputs : ℕ
most_inputs = 65536
