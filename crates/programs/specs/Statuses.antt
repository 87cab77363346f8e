-- The exit statuses that a program stops with, besides those of a run's faults. If all goes well, it is 0. (This
-- project's own.)
use Rattle.std.specs.Prelude.{ℕ}

-- the command line is refused
abbrev pub command_line_status : ℕ
command_line_status = 2

-- nothing is found
abbrev pub nothing_status : ℕ
nothing_status = 1

-- a file holds no index
abbrev pub index_status : ℕ
index_status = 5
