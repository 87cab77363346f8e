use Rattle.std.proofs.Common.{List, ℕ, ap, length, arith}
use Rattle.std.specs.String.{string_bytes}
use Rattle.scip_model.proofs.OwnTextJoinedLemmas.{parts_count}
use Rattle.scip_model.proofs.own_symbols.JoinedTexts.len.Goals as goal

pub returns-clause-count : goal.returns-clause-count
returns-clause-count c =
    omega (
      arith,
      c.len.ensures,
      c.self.inside.ends.ok.0,
      parts_count (string_bytes c.self.inside.joined) 0 c.self.inside.ends.items,
      ap (λ (parts : List (List ℕ)). length parts) c.self.view_is,
    )
