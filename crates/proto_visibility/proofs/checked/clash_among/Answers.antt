use Rattle.std.proofs.Common.{IfOk, MatchOption, sym, subst}
use Rattle.proto_visibility.specs.declared.clash.Duplicates.{Duplicates}
use Rattle.proto_visibility.specs.Clashes.{Clash, NoClash}
use Rattle.proto_visibility.proofs.checked.clash_among.Goals as goal

pub returns-in-Refuse : goal.returns-in-Refuse
returns-in-Refuse c =
    let files = c.args.files.now in
    subst (λ (d : Duplicates). IfOk c.first_of_all.result (λ clash. MatchOption clash (NoClash d files)
    (λ places. Clash d files places.0 places.1))) (sym c.in-Refuse.is) c.first_of_all.ensures

pub returns-in-Keep : goal.returns-in-Keep
returns-in-Keep c =
    let files = c.args.files.now in
    subst (λ (d : Duplicates). IfOk c.first_own_clash.result (λ clash. MatchOption clash (NoClash d files)
    (λ places. Clash d files places.0 places.1))) (sym c.in-Keep.is) c.first_own_clash.ensures
