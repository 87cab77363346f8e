use Rattle.std.proofs.Common.{◌∙◌, ap, refl}
use Rattle.std.proofs.lemmas.Result.{err_from_is_err_and}
use Rattle.proto_lex.specs.Lexed.{Lexed}
use Rattle.proto_lex.specs.Reading.{Pieces, pieces_of}
use Rattle.proto_lex.proofs.FaultFound.{given_fault, only_memory}
use Rattle.proto_lex.proofs.LexedLemmas.{is_lexed}
use Rattle.proto_lex.proofs.LexesLemmas.{lexes_found, lexes_exact}
use Rattle.proto_lex.proofs.ReadingTestLemmas.{same_ok}
use Rattle.proto_lex.proofs.lexer.lex_with.Goals as goal

pub returns-in_err-found-clause-accepted : goal.returns-in_err-found-clause-accepted
returns-in_err-found-clause-accepted c = λ tokens comments d.
    let p = err_from_is_err_and c.from_residual.result c.from_residual.ensures.1 in
    let read = ap (pieces_of c.args.hashes) (c.as_bytes.ensures.value ∙ c.as_str.ensures.same) ∙ lexes_exact d in
    let memory = only_memory _ _ _ c.in_err-found.ensures read in
    rw (p.1, p.2, memory) refl

pub returns-in_err-found-clause-fault : goal.returns-in_err-found-clause-fault
returns-in_err-found-clause-fault c =
    let p = err_from_is_err_and c.from_residual.result c.from_residual.ensures.1 in
    let same = c.as_bytes.ensures.value ∙ c.as_str.ensures.same in
    rw (p.1, p.2, ← same) (given_fault _ _ _ c.in_err-found.ensures)

pub new-requires : goal.new-requires
new-requires c = is_lexed c.as_str.ensures.is_text.utf8
    (lexes_found _ _ _ (rw (c.as_bytes.ensures.value, c.as_str.ensures.same) at c.in_ok-found.ensures))

pub returns-clause-found : goal.returns-clause-found
returns-clause-found c =
    rw c.new.ensures
    (lexes_found _ _ _ (rw (c.as_bytes.ensures.value, c.as_str.ensures.same) at c.in_ok-found.ensures))

pub returns-clause-only : goal.returns-clause-only
returns-clause-only c = λ tokens comments d.
    let read = ap (pieces_of c.args.hashes) (c.as_bytes.ensures.value ∙ c.as_str.ensures.same) ∙ lexes_exact d in
    let same = same_ok _ _ _ c.in_ok-found.ensures read in
    rw c.new.ensures (ap (λ (l : Pieces). let r : Lexed =
    record { text = c.args.text.now; tokens = l.tokens; comments = l.comments } in r) same)
