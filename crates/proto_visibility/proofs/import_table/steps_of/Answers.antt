use Rattle.std.proofs.Common.{◌≡◌, ◌≤◌, ◌<◌, ◌+◌, ◌++◌, ◌∷◌, [], Some, length, ap, ◌∙◌, sym, subst, refl, arith}
use Rattle.std.specs.List.{slice_get}
use Rattle.std.proofs.lemmas.Option.{slice_get_read}
use Rattle.std.proofs.lemmas.List.{length_push}
use Rattle.proto_visibility.specs.Tables.ImportTables.{number_in}
use Rattle.proto_visibility.proofs.ImportTableLemmas.{AreStepsUpTo, steps_by_kind, steps_more, is_table}
use Rattle.proto_visibility.proofs.import_table.steps_of.Goals as goal

pub loop-file-preserved : goal.loop-file-preserved
loop-file-preserved c =
    let files = c.args.files.now in
    let file = c.file-item.result in
    let number = c.loop-file.file-index in
    let table = c.loop-file.table.items in
    let steps = c.in_ok-steps_of_file.field-0 in
    let within : number < length files = omega arith in
    let stands : slice_get files number ≡ Some file =
    slice_get_read files (length files) number file refl within c.file-item.is in
    let items : c.push_reserved.new.self.items ≡ table ++ steps ∷ [] = c.push_reserved.ensures.items in
    let here = steps_by_kind
    (number_in c.args.numbers.now) file steps c.in_ok-steps_of_file.ensures.public
    c.in_ok-steps_of_file.ensures.plain in
    record {
      count = ap length items ∙ (length_push table steps ∙ ap (λ n. n + 1) c.loop-file.invariant.count);
      room = subst (λ n. length files ≤ n) (sym c.push_reserved.ensures.capacity) c.loop-file.invariant.room;
      each = subst (λ t. AreStepsUpTo (number_in c.args.numbers.now) files t (number + 1)) (sym items)
          (steps_more (number_in c.args.numbers.now) files table number file steps c.loop-file.invariant.count stands
          here c.loop-file.invariant.each);
    }

pub returns : goal.returns
returns c =
    is_table c.args.files.now c.loop-file.table.items (number_in c.args.numbers.now) c.requires
    (omega (arith, c.loop-file.invariant.count))
    (λ k file steps h. c.loop-file.invariant.each k file steps (omega arith))
