use Rattle.std.proofs.Common.{◌∙◌, Bool, List, [], ◌∷◌, ℕ, ap, inl, refl, subst}
use Rattle.std.proofs.lemmas.List.{map-append}
use Rattle.std.specs.Borrow.{Bor}
use Rattle.diagnostics.specs.Hints.{CouldStand}
use Rattle.diagnostics.proofs.HintLemmas.{texts}
use Rattle.diagnostics.proofs.hints.add_of_kind.Goals as goal

pub returns-then-branch : goal.returns-then-branch
returns-then-branch c =
    let Could : Bool → Type 0 =
    CouldStand c.args.place.now.dialect c.args.place.now.front.now c.args.general.now in (
      c.args.general.now ∷ [],
      inl (subst Could c.if-branch.true c.in_ok-could_stand.ensures, refl),
      ap texts c.in_ok-push.ensures.items
          ∙ map-append (λ (s : Bor (List ℕ)). s.now) c.args.found.now.items (c.args.general ∷ []),
    )
