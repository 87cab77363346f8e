use Rattle.std.proofs.Common.{◌≡◌, List, ℕ, map, nat_cmp, subst}
use Rattle.std.specs.String.{string_bytes}
use Rattle.std.specs.Cmp.Lexicographic.{slice_cmp}
use Rattle.scip_model.specs.Tables.Plans.{text_at}
use Rattle.scip_model.proofs.symbol_table.SymbolTable.compare.Goals as goal

pub returns-in-Some : goal.returns-in-Some
returns-in-Some c =
    subst (λ (texts : List (List ℕ)).
    c.in-Some.order ≡ slice_cmp nat_cmp (text_at texts c.args.a) (text_at texts c.args.b)) c.self.view_is
    (c.in-Some.ensures (map string_bytes c.self.inside.others.keys))
