use Rattle.std.proofs.Common.{◌==◌, ◌≤◌, ◌+◌, ◌∷◌, [], List, ℕ, arith, length, lit<, map, refl, subst, sym}
use Rattle.std.specs.Borrow.{Bor}
use Rattle.std.specs.List.{slice_split}
use Rattle.std.proofs.lemmas.Iterator.Consumers.{YieldsList-at, YieldsList-end, YieldsList-so_far, YieldsList-turn}
use Rattle.std.proofs.lemmas.Iterator.Splits.{YieldsList-from_str_split}
use Rattle.std.proofs.lemmas.List.{length-map, map-append}
use Rattle.std.proofs.lemmas.Result.{err_from_is_err_and}
use Rattle.source_files.specs.SourceLists.{AreNamed, lines_of}
use Rattle.source_files.proofs.SourceListLemmas.{SoFar, few_lines, next_line, next_refused, nothing_named, nothing_seen}
use Rattle.source_files.proofs.source_list.paths_in.Goals as goal

pub loop-line-init : goal.loop-line-init
loop-line-init c = record {
  so_far = nothing_named 0 c.new-paths.result.items refl c.new-paths.ensures.items;
  seen = nothing_seen c.new-seen.result c.new-paths.result.items c.new-seen.ensures.empty c.new-paths.ensures.items;
}

-- there are fewer lines than bytes, but for one

pub overflow_add-number : goal.overflow_add-number
overflow_add-number c =
    let road = YieldsList-at c.into_iter-line-iterator.ensures.into_iter_gives (YieldsList-from_str_split 10
    c.args.text.now (lit< tt) c.split-line-items.ensures.text c.split-line-items.ensures.has_more
    c.split-line-items.ensures.pattern) in
    let turn = YieldsList-turn road c.loop-line.yielded c.loop-line.line-iterator c.loop-line.yielded_by c.next.result
    c.next.new.self c.in-Some.line c.in-Some.is c.next.ensures.steps in
    let few : length (slice_split (λ byte. byte == 10) c.args.text.now) ≤ length c.args.text.now + 1 =
    few_lines c.args.text.now in
    omega (
      arith,
      turn.0,
      few,
      c.requires,
      c.loop-line.invariant.so_far.0,
      length-map c.loop-line.yielded (λ (line : Bor (List ℕ)). line.now),
    )

pub loop-line-preserved : goal.loop-line-preserved
loop-line-preserved c =
    let shown : Bor (List ℕ) → List ℕ = λ line. line.now in
    let before = map shown c.loop-line.yielded in
    record {
      so_far = subst (λ (lines : List (List ℕ)). SoFar lines (c.loop-line.number + 1) c.add_line.new.paths.items)
          (sym (map-append shown c.loop-line.yielded (c.in-Some.line ∷ [])))
          (next_line before c.in-Some.line.now c.loop-line.number c.loop-line.paths.items c.add_line.new.paths.items
          c.loop-line.invariant.so_far c.in_ok-add_line.ensures.added);
      seen = c.in_ok-add_line.ensures.seen;
    }

pub returns-in_err-add_line : goal.returns-in_err-add_line
returns-in_err-add_line c =
    let road = YieldsList-at c.into_iter-line-iterator.ensures.into_iter_gives (YieldsList-from_str_split 10
    c.args.text.now (lit< tt) c.split-line-items.ensures.text c.split-line-items.ensures.has_more
    c.split-line-items.ensures.pattern) in
    let turn = YieldsList-turn road c.loop-line.yielded c.loop-line.line-iterator c.loop-line.yielded_by c.next.result
    c.next.new.self c.in-Some.line c.in-Some.is c.next.ensures.steps in
    let p = err_from_is_err_and c.from_residual.result c.from_residual.ensures.1 in
    rw (p.1, p.2) (next_refused (lines_of c.args.text.now)
    (map (λ (line : Bor (List ℕ)). line.now) c.loop-line.yielded) (length c.loop-line.yielded) c.in-Some.line.now
    c.loop-line.number c.loop-line.paths.items c.in_err-add_line.field-0.0
    (YieldsList-so_far road c.loop-line.yielded c.loop-line.line-iterator c.loop-line.yielded_by) turn.0 turn.1
    c.loop-line.invariant.so_far c.in_err-add_line.ensures.refused)

pub returns : goal.returns
returns c =
    let road = YieldsList-at c.into_iter-line-iterator.ensures.into_iter_gives (YieldsList-from_str_split 10
    c.args.text.now (lit< tt) c.split-line-items.ensures.text c.split-line-items.ensures.has_more
    c.split-line-items.ensures.pattern) in
    subst (λ (lines : List (List ℕ)). AreNamed lines c.loop-line.paths.items)
    (YieldsList-end road c.loop-line.yielded c.loop-line.line-iterator c.loop-line.yielded_by c.next.result
    c.next.new.self c.in-None.is c.next.ensures.steps).0
    c.loop-line.invariant.so_far.1
