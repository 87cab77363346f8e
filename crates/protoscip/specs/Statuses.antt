-- The exit statuses of a program that stops for a fault of a run. (This project's own.)
use Rattle.std.specs.Prelude.{ℕ}

-- the sources are refused
abbrev pub sources_status : ℕ
sources_status = 1

-- reading or writing fails, or the index would be too large
abbrev pub stream_status : ℕ
stream_status = 3

-- memory ran out, or a thread could not be started
abbrev pub memory_status : ℕ
memory_status = 4
