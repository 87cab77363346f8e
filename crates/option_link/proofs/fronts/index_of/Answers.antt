use Rattle.std.proofs.Common.{ℕ, List, refl, subst, sym}
use Rattle.option_link.specs.Places.{place_at}
use Rattle.option_link.specs.Tables.{HasName}
use Rattle.option_link.proofs.fronts.index_of.Goals as goal

pub returns-in-Some : goal.returns-in-Some
returns-in-Some c =
    let files = c.args.table.now in
    let place = c.in-Some.place in
    subst (λ (n : List ℕ). HasName files n (place_at c.args.file place.index)) c.whole-name.ensures
    (subst (λ (n : ℕ). HasName files c.whole-name.result (place_at n place.index)) c.in-Some.ensures.0
    c.in-Some.ensures.1)

pub returns-in-None : goal.returns-in-None
returns-in-None c = λ index has. c.in-None.ensures (place_at c.args.file index)
    (subst (λ (n : List ℕ). HasName c.args.table.now n (place_at c.args.file index))
    (sym c.whole-name.ensures) has) refl
