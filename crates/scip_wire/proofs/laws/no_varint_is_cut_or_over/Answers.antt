use Rattle.scip_wire.proofs.TenthByteLemmas.{to_tenth_byte, from_tenth_byte}
use Rattle.scip_wire.proofs.laws.no_varint_is_cut_or_over.Goals as goal

pub returns-clause-found : goal.returns-clause-found
returns-clause-found c = λ start bytes fault b n. to_tenth_byte b n

pub returns-clause-only : goal.returns-clause-only
returns-clause-only c = λ start bytes fault n. from_tenth_byte n
