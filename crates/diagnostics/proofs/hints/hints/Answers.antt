use Rattle.diagnostics.specs.Hints.{CouldStand}
use Rattle.diagnostics.proofs.HintLemmas.{all_kinds, texts}
use Rattle.diagnostics.proofs.hints.hints.Goals as goal

pub returns : goal.returns
returns c =
    all_kinds (CouldStand c.args.place.now.dialect c.args.place.now.front.now) (texts c.add.new.found.items)
    (texts c.add_of_kind.new.found.items) (texts c.add_of_kind-2.new.found.items)
    (texts c.add_of_kind-3.new.found.items) (rw (c.new-found.ensures.items, c.signs.ensures) at c.in_ok-add.ensures)
    (rw (c.number.ensures, c.whole_numbers.ensures) at c.in_ok-add_of_kind.ensures)
    (rw (c.literal.ensures, c.versions.ensures) at c.in_ok-add_of_kind-2.ensures)
    (rw (c.name.ensures, c.words.ensures) at c.in_ok-add_of_kind-3.ensures)
