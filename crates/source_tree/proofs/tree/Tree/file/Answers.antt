use Rattle.std.proofs.Common.{ℕ, ◌≡◌, ◌∙◌, ◌-◌, ◌+◌, Some, List, refl, ap, subst, length, arith}
use Rattle.std.specs.List.{slice_get}
use Rattle.std.specs.Option.{option_map}
use Rattle.std.proofs.lemmas.Option.{slice_get_read}
use Rattle.source_tree.specs.Files.{SourceFile, TreeFile}
use Rattle.source_tree.specs.Marks.{files_of}
use Rattle.source_tree.proofs.FilePlaceLemmas.{length-files, source_at, included_at}
use Rattle.source_tree.proofs.MendedTreeLemmas.{length-with_texts, same_at}
use Rattle.source_tree.proofs.tree.Tree.file.Goals as goal

abbrev held : TreeFile → SourceFile
held file = record { path = file.path; bytes = file.bytes; is_unread = file.is_unread }

pub index-requires : goal.index-requires
index-requires c =
    let sources = c.self.inside.sources.items in
    let included = c.self.inside.included.items in
    let size = ap length c.self.view_is in
    let whole = length-files sources included in
    let plain = length-with_texts c.self.inside.texts.items (files_of sources included) in
    let past = c.in-None.ensures.lookup.3 in
    let all = c.deref.ensures.len in
    omega arith

pub returns-in-Some : goal.returns-in-Some
returns-in-Some c =
    let sources = c.self.inside.sources.items in
    let included = c.self.inside.included.items in
    let number = c.args.number in
    let Is : List TreeFile → Type 0 = λ files. option_map held (slice_get files number) ≡ Some c.in-Some.source.now in
    subst Is c.self.view_is
    (same_at held (λ text file. refl) c.self.inside.texts.items (files_of sources included) number
    ∙ ap (option_map held) (source_at sources included number c.in-Some.source.now
    (rw (← c.deref.ensures.value) (slice_get_read c.deref.result.now (length c.deref.result.now) number c.in-Some.source.now refl c.in-Some.ensures.lookup.3.0 c.in-Some.ensures.lookup.1))))

pub returns-in-None : goal.returns-in-None
returns-in-None c =
    let sources = c.self.inside.sources.items in
    let included = c.self.inside.included.items in
    let number = c.args.number in
    let size = ap length c.self.view_is in
    let whole = length-files sources included in
    let plain = length-with_texts c.self.inside.texts.items (files_of sources included) in
    let past = c.in-None.ensures.lookup.3 in
    let all = c.deref.ensures.len in
    let count : c.args.number ≡ length c.self.inside.sources.items + (c.args.number - c.len.result) = omega arith in
    let Is : List TreeFile → Type 0 = λ files. option_map held (slice_get files number) ≡ Some c.index.result.now in
    subst Is c.self.view_is
    (same_at held (λ text file. refl) c.self.inside.texts.items (files_of sources included) number
    ∙ (ap (λ (n : ℕ). option_map held (slice_get (files_of sources included) n)) count
    ∙ ap (option_map held) (included_at sources included (number - c.len.result) c.index.result.now
    (slice_get_read included (length included) (number - c.len.result) c.index.result.now refl (omega arith)
    c.index.ensures))))
