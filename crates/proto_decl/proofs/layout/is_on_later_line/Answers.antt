use Rattle.std.proofs.Common.{◌∙◌, sym, refl, arith}
use Rattle.std.proofs.lemmas.Bool.{false≢true}
use Rattle.proto_decl.proofs.LayoutLineEndLemmas.{later_by_lines}
use Rattle.proto_decl.proofs.LayoutNextStartLemmas.{seen, unseen}
use Rattle.proto_decl.proofs.layout.is_on_later_line.Goals as goal

pub returns-then-is_some : goal.returns-then-is_some
returns-then-is_some c =
    let later = seen c.args.lexed.now.text c.text-text.result.now c.text-text.ensures c.args.from c.min-near.result
    c.args.upto (omega (arith, c.min-near.ensures)) c.next_start.result c.next_start.ensures
    (sym c.is_some.ensures ∙ c.if-is_some.true) in
    ((λ e. later), (λ less. refl))

pub returns-then-near-upto : goal.returns-then-near-upto
returns-then-near-upto c =
    let not_later = unseen c.args.lexed.now.text c.text-text.result.now c.text-text.ensures c.args.from
    c.min-near.result c.args.upto (omega (arith, c.min-near.ensures)) c.next_start.result c.next_start.ensures
    (sym c.is_some.ensures ∙ c.if-is_some.false) (omega arith) in
    ((λ e. absurd (false≢true e)), (λ less. absurd (not_later less)))

pub returns : goal.returns
returns c =
    later_by_lines c.args.lexed.now.text c.text-text.result.now c.args.from c.args.upto c.line.result c.line-2.result
    c.text-text.ensures c.line.ensures c.line-2.ensures
