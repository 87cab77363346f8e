use Rattle.std.proofs.Common.{false, Bool, List, ℕ, IfOk, map, sym, subst, arith}
use Rattle.std.specs.String.{string_bytes}
use Rattle.option_link.specs.Lookups.{LooksFor}
use Rattle.option_link.proofs.LookupLemmas.{Answers, absolute_by, no_words, several_of}
use Rattle.option_link.proofs.WordLemmas.{now, one_of}
use Rattle.option_link.proofs.table.DeclarationTable.full_name_of.Goals as goal

pub returns-then-has_dot : goal.returns-then-has_dot
returns-then-has_dot c =
    let files = c.args.self.now in
    let words = map now c.args.words.now in
    let scope = c.args.scope.now in
    let name = string_bytes c.in_ok-name.name in
    subst (λ (dot : Bool). LooksFor files c.args.file dot words scope name) (sym c.if-has_dot.true)
    (absolute_by files c.args.file scope words name c.in_ok-name.ensures)

pub returns-in-empty : goal.returns-in-empty
returns-in-empty c =
    no_words c.args.self.now c.args.file c.args.scope.now c.args.has_dot c.args.words.now
    c.if-has_dot.false (omega arith)

pub returns-in-len1 : goal.returns-in-len1
returns-in-len1 c =
    let files = c.args.self.now in
    let file = c.args.file in
    let scope = c.args.scope.now in
    let are = one_of c.args.words.now _ (omega arith) in
    subst (λ (dot : Bool). IfOk c.one_word.result (λ found. Answers files file string_bytes scope found dot
    (map now c.args.words.now))) (sym c.if-has_dot.false)
    (subst (λ (words : List (List ℕ)). IfOk c.one_word.result
    (λ found. Answers files file string_bytes scope found false words)) (sym are) c.one_word.ensures)

pub several_words-requires-clause-words : goal.several_words-requires-clause-words
several_words-requires-clause-words c = several_of c.args.words.now _ (omega arith)

pub returns-in-len2-up : goal.returns-in-len2-up
returns-in-len2-up c =
    let files = c.args.self.now in
    let scope = c.args.scope.now in
    subst (λ (dot : Bool). IfOk c.several_words.result (λ found. Answers files c.args.file string_bytes scope found dot
    (map now c.args.words.now))) (sym c.if-has_dot.false) c.several_words.ensures
