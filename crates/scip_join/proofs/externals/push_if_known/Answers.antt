use Rattle.std.proofs.Common.{◌≡◌, ◌∙◌, ◌++◌, ◌∷◌, [], true, false, ap, sym, append-nil, List, ℕ}
use denote.Ref.{Bor}
use Rattle.std.proofs.lemmas.Bool.{cond-true, cond-false}
use Rattle.std.proofs.lemmas.List.{map-append}
use Rattle.scip_join.specs.Tables.{is_among, texts}
use Rattle.scip_join.proofs.externals.push_if_known.Goals as goal

pub returns-then-not-is_among : goal.returns-then-not-is_among
returns-then-not-is_among c =
    let symbol = c.args.symbol.now in
    let known = texts c.args.known.now.items in
    let names = texts c.args.names.now in
    let fails : is_among names symbol ≡ false = sym (c.is_among.ensures c.requires) ∙ c.if-not-is_among.true in
    sym (append-nil known)
    ∙ ap (λ (l : List (List ℕ)). known ++ l) (sym (cond-false (is_among names symbol) (symbol ∷ []) [] fails))

pub returns : goal.returns
returns c =
    let symbol = c.args.symbol.now in
    let known = c.args.known.now.items in
    let names = texts c.args.names.now in
    let holds : is_among names symbol ≡ true = sym (c.is_among.ensures c.requires) ∙ c.if-not-is_among.false in
    ap texts c.in_ok-push.ensures.items ∙ map-append (λ (text : Bor (List ℕ)). text.now) known (c.args.symbol ∷ [])
    ∙ ap (λ (l : List (List ℕ)). texts known ++ l)
    (sym (cond-true (is_among names symbol) (symbol ∷ []) [] holds))
