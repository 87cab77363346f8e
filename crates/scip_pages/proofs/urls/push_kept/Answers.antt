use Rattle.std.proofs.Common.{arith, length-drop}
use Rattle.scip_pages.specs.Urls.{is_kept, encoded_byte}
use Rattle.scip_pages.proofs.PlainLemmas.{front_and_behind}
use Rattle.scip_pages.proofs.UrlLemmas.{kept_byte}
use Rattle.scip_pages.proofs.urls.push_kept.Goals as goal

pub returns-clause-path : goal.returns-clause-path
returns-clause-path c =
    rw (c.in_ok-extend_from_slice.ensures.items, c.split_at.ensures.front, c.split_at.ensures.back)
    (front_and_behind encoded_byte is_kept kept_byte c.args.url.now.items c.args.path.now c.kept_len.result
    c.kept_len.ensures.len)

pub returns-clause-within : goal.returns-clause-within
returns-clause-within c =
    rw c.split_at.ensures.back (omega (arith, length-drop c.kept_len.result c.args.path.now))
