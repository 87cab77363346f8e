use Rattle.std.proofs.Common.{◌≡◌, take, count_by}
use Rattle.proto_decl.proofs.NameComponentLemmas.{is_dot}
use Rattle.option_link.proofs.fronts.count_components.Given as goal

abbrev pub invariant-loop-byte : goal.invariant-loop-byte
invariant-loop-byte l = l.dots ≡ count_by is_dot (take l.byte-index l.byte-items)
