use Rattle.std.proofs.Common.{◌∙◌, rules}
use Rattle.std.proofs.lemmas.Str.Pattern.{split_parts, strip_prefix_char}
use Rattle.std.specs.String.{string_bytes}
use Rattle.scip_symbol.proofs.ReadingUndoubledLemmas.{loop-next, loop-end, loop-none}
use Rattle.scip_symbol.proofs.reader.read_undoubled.Goals as goal

pub marks-preserved : goal.marks-preserved
marks-preserved c =
    let m = c.args.mark in
    let cut = rw c.in-Some.is at
    (split_parts m c.marks.rest.now c.split_once.result c.split_once.ensures.cases c.requires) in
    let goes = rw c.in-Some-strip_prefix.is at
    (strip_prefix_char m c.in-Some.behind.now c.strip_prefix.result c.strip_prefix.ensures.cases c.requires) in (
      loop-next m (string_bytes c.marks.word) c.marks.rest.now _ c.marks.invariant.0 c.in-Some.front.now
          c.in-Some.behind.now c.in-Some-strip_prefix.more.now _ _ _
          cut.0 cut.1 goes c.in_ok-push_str.ensures.bytes c.in_ok-push-in-Some-strip_prefix.ensures.bytes
          (c.in_ok-push-in-Some-strip_prefix.ensures.ascii c.requires),
      search rules,
    )

pub returns-in-None : goal.returns-in-None
returns-in-None c =
    let m = c.args.mark in
    let cut = rw c.in-Some.is at
    (split_parts m c.marks.rest.now c.split_once.result c.split_once.ensures.cases c.requires) in
    let ends = rw c.in-None.is at
    (strip_prefix_char m c.in-Some.behind.now c.strip_prefix.result c.strip_prefix.ensures.cases c.requires) in
    loop-end m (string_bytes c.marks.word) c.marks.rest.now _ c.marks.invariant.0 c.in-Some.front.now
    c.in-Some.behind.now _
    cut.0 cut.1 ends (c.from_string.ensures ∙ c.in_ok-push_str.ensures.bytes)

pub returns : goal.returns
returns c =
    let m = c.args.mark in
    let none = rw c.in_default.is at
    (split_parts m c.marks.rest.now c.split_once.result c.split_once.ensures.cases c.requires) in
    loop-none m (string_bytes c.marks.word) c.marks.rest.now _ c.marks.invariant.0 none
