use Rattle.std.specs.String.{string_bytes}
use Rattle.std.proofs.Common.{◌≡◌, refl, subst, List, ℕ, Bool, true, false}
use Rattle.std.specs.Prelude.{IfOk}
use Rattle.streams.specs.Writers.{writing}
use Rattle.programs.specs.Paging.{taken, unasked, free, taken_told}
use Rattle.programs.proofs.MessageLemmas.{told}
use Rattle.programs.proofs.paging.pages.Goals as goal

pub returns-in-Ok-true : goal.returns-in-Ok-true
returns-in-Ok-true g c =
    let frees = g.F.EmptyFolders.frees c.args.host.now.files.now in
    let answered = subst (λ (said : Bool). frees c.as_str-out.result.now said) c.in-Ok-true.field-0-test
    c.in-Ok-true.ensures in
    free (subst (λ (path : List ℕ). frees path true) c.as_str-out.ensures.value answered) c.read_and_make.ensures

pub returns-in-Ok-false : goal.returns-in-Ok-false
returns-in-Ok-false g c =
    let frees = g.F.EmptyFolders.frees c.args.host.now.files.now in
    let explain = c.args.options.now.explain in
    let out = string_bytes c.args.options.now.out in
    let answered = subst (λ (said : Bool). frees c.as_str-out.result.now said) c.in-Ok-false.field-0-test
    c.in-Ok-false.ensures in
    taken (subst (λ (path : List ℕ). frees path false) c.as_str-out.ensures.value answered) refl
    (told (writing g.M.Sink c.args.messages.now c.report.new.messages) c.report.result _ _
    string_bytes c.taken_text-text.result (taken_told explain out) refl
    (subst (λ (path : List ℕ). IfOk c.taken_text-text.result (λ text. string_bytes text ≡ taken_told explain path))
    c.as_str-out.ensures.value c.taken_text-text.ensures) c.report.ensures)

pub returns-in-Err : goal.returns-in-Err
returns-in-Err g c = unasked refl c.report-in-Err.ensures
