use Rattle.std.proofs.Common.{◌≡◌, ◌≤◌, ◌<◌, ◌+◌, ℕ, List, [], ◌∷◌, ◌++◌, length, Some, ap, sym, ◌∙◌, subst, arith}
use Rattle.std.specs.List.{Contains, slice_get}
use Rattle.std.proofs.lemmas.List.{length_push}
use Rattle.proto_visibility.specs.declared.import_table.Steps.{Steps}
use Rattle.proto_visibility.specs.Tables.Leading.{IsSeen}
use Rattle.proto_visibility.specs.Tables.Rows.{files_at}
use Rattle.proto_visibility.proofs.SeeingLemmas.{IsRowOf, rows_more, rows_placed}
use Rattle.proto_visibility.proofs.seeing.seen_rows.Goals as goal

pub seen_from-requires-clause-all : goal.seen_from-requires-clause-all
seen_from-requires-clause-all c = λ number few.
    subst (λ (order : List ℕ). Contains order number) (sym c.in_ok-led.ensures.order)
    (c.requires.all number (subst (λ (table : List Steps). number < length table) c.in_ok-led.ensures.table few))

pub loop-file-preserved : goal.loop-file-preserved
loop-file-preserved c =
    let table = c.args.table.now in
    let order = c.args.order.now in
    let row = c.in_ok-seen_from.field-0 in
    let rows = c.loop-file.rows.items in
    let items : c.push_reserved.new.self.items ≡ rows ++ row ∷ [] = c.push_reserved.ensures.items in
    let row_of : IsRowOf table c.loop-file.file (files_at order row) =
    subst (λ (t : List Steps). IsSeen t order row c.loop-file.file) c.in_ok-led.ensures.table
    (subst (λ (o : List ℕ). IsSeen c.in_ok-led.led.table.now o row c.loop-file.file) c.in_ok-led.ensures.order
    c.in_ok-seen_from.ensures.seen) in
    record {
      count = ap length items ∙ (length_push rows row ∙ ap (λ n. n + 1) c.loop-file.invariant.count);
      files = c.in_ok-seen_from.ensures.files ∙ c.loop-file.invariant.files;
      room = subst (λ n. length table ≤ n) (sym c.push_reserved.ensures.capacity) c.loop-file.invariant.room;
      each = subst (λ xs. (file : ℕ) (one : List ℕ) → slice_get xs file ≡ Some one
          → IsRowOf table file (files_at order one)) (sym items)
          (rows_more (λ file one. IsRowOf table file (files_at order one)) rows row
          (subst (λ n. IsRowOf table n (files_at order row)) (sym c.loop-file.invariant.count) row_of)
          c.loop-file.invariant.each);
    }

pub returns : goal.returns
returns c = rows_placed c.args.table.now c.args.order.now c.loop-file.rows.items
    (omega (arith, c.loop-file.invariant.count)) c.loop-file.invariant.each
