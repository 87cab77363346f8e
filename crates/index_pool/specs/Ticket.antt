-- What a ticket shows.
use Rattle.std.specs.Prelude.{ℕ}
use Rattle.index_pool.specs.declared.lanes.ticket.Ticket.{Ticket}

-- the number of the input that it lets run
abbrev pub number_of : Ticket → ℕ
number_of t = t.number
