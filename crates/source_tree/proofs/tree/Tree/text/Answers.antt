use Rattle.std.proofs.Common.{◌≡◌, ◌∙◌, ◌⊎◌, inl, inr, Some, None, List, refl, ap, sym, subst, length, arith}
use Rattle.std.specs.List.{slice_get}
use Rattle.std.specs.Option.{option_map}
use Rattle.std.proofs.lemmas.Option.{slice_get_read, slice_get_past}
use Rattle.source_tree.specs.Files.{TreeFile}
use Rattle.source_tree.specs.Marks.{files_of}
use Rattle.source_tree.proofs.MendedTreeLemmas.{length-with_texts, same_at, text_kept, text_held}
use Rattle.source_tree.proofs.tree.Tree.text.Goals as goal

pub returns-in-Some-Some : goal.returns-in-Some-Some
returns-in-Some-Some c =
    let files = files_of c.self.inside.sources.items c.self.inside.included.items in
    let texts = c.self.inside.texts.items in
    let size = ap length c.self.view_is in
    let plain = length-with_texts texts files in
    let number = c.args.number in
    let Is : List TreeFile → Type 0 = λ files. option_map (λ (file : TreeFile). file.text) (slice_get files number)
    ≡ Some c.as_slice.result.now in
    subst Is c.self.view_is (text_kept texts files number c.as_slice.result.now
    (rw (← c.deref.ensures.value) (slice_get_read c.deref.result.now (length c.deref.result.now) number c.in-Some-Some.field-0.now refl c.in-Some-Some.ensures.lookup.3.0 c.in-Some-Some.ensures.lookup.1 ∙ ap Some (c.in-Some-Some.field-0-is ∙ ap Some (sym c.as_slice.ensures))))
    (omega arith))

pub returns-in-Some-None : goal.returns-in-Some-None
returns-in-Some-None c =
    let sources = c.self.inside.sources.items in
    let included = c.self.inside.included.items in
    let files = files_of sources included in
    let texts = c.self.inside.texts.items in
    let number = c.args.number in
    let Is : List TreeFile → Type 0 = λ files. option_map (λ (file : TreeFile). file.text) (slice_get files number)
    ≡ Some c.bytes.result.now in
    let none : (slice_get texts number ≡ None) ⊎ (slice_get texts number ≡ Some None) =
    inr (rw (← c.deref.ensures.value) (slice_get_read c.deref.result.now (length c.deref.result.now) c.args.number c.in-Some-None.field-0.now refl c.in-Some-None.ensures.lookup.3.0 c.in-Some-None.ensures.lookup.1 ∙ ap Some c.in-Some-None.field-0-is)) in
    subst Is c.self.view_is
    (text_held texts sources included number none
    ∙ (sym (same_at (λ (file : TreeFile). file.bytes) (λ text file. refl) texts files number)
    ∙ (ap (λ files. option_map (λ (file : TreeFile). file.bytes) (slice_get files number)) c.self.view_is
    ∙ c.bytes.ensures)))

pub returns-in-None : goal.returns-in-None
returns-in-None c =
    let sources = c.self.inside.sources.items in
    let included = c.self.inside.included.items in
    let files = files_of sources included in
    let texts = c.self.inside.texts.items in
    let number = c.args.number in
    let Is : List TreeFile → Type 0 = λ files. option_map (λ (file : TreeFile). file.text) (slice_get files number)
    ≡ Some c.bytes-in-None.result.now in
    let none : (slice_get texts number ≡ None) ⊎ (slice_get texts number ≡ Some None) =
    inl (rw (← c.deref.ensures.value) (slice_get_past c.deref.result.now c.args.number c.in-None.ensures.lookup.3)) in
    subst Is c.self.view_is
    (text_held texts sources included number none
    ∙ (sym (same_at (λ (file : TreeFile). file.bytes) (λ text file. refl) texts files number)
    ∙ (ap (λ files. option_map (λ (file : TreeFile). file.bytes) (slice_get files number)) c.self.view_is
    ∙ c.bytes-in-None.ensures)))
