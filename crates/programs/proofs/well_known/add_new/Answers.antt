use Rattle.std.proofs.Common.{◌∙◌, ℕ, Bool, List, ap, refl, string_bytes, sym}
use Rattle.std.specs.List.{list_any}
use Rattle.std.specs.Str.{bytes_eq}
use Rattle.programs.specs.WellKnown.{adds, stays}
use Rattle.programs.proofs.WellKnownLemmas.{any_made}
use Rattle.programs.proofs.well_known.add_new.Goals as goal

pub returns-then-is_among : goal.returns-then-is_among
returns-then-is_among c =
    let is_it : List ℕ → Bool = λ one. bytes_eq one c.args.folder.now in
    stays (sym (c.is_among.ensures ∙ ap (list_any (λ one. is_it (string_bytes one))) c.as_slice.ensures.value
    ∙ any_made is_it string_bytes c.in_ok-folders.folders.items ∙ ap (list_any is_it) c.in_ok-folders.ensures)
    ∙ c.if-is_among.true) refl

pub returns : goal.returns
returns c =
    let is_it : List ℕ → Bool = λ one. bytes_eq one c.args.folder.now in
    adds (sym (c.is_among.ensures ∙ ap (list_any (λ one. is_it (string_bytes one))) c.as_slice.ensures.value
    ∙ any_made is_it string_bytes c.in_ok-folders.folders.items ∙ ap (list_any is_it) c.in_ok-folders.ensures)
    ∙ c.if-is_among.false) c.in_ok-add_folder.ensures
