-- Words joined by dots, one by one.
use Rattle.std.proofs.Common.{◌≡◌, ℕ, ◌+◌, ◌-◌, ◌<◌, ◌≤◌, List, [], ◌∷◌, ◌++◌, length, map, take, drop, get_or}
use Rattle.std.proofs.Common.{Result, IfOk}
use Rattle.std.proofs.Common.{refl, ap, sym, ◌∙◌, subst, append_assoc, arith}
use Rattle.std.proofs.lemmas.List.{map-append, take_all, take_more}
use denote.Ref.{Bor}
use Rattle.proto_decl.specs.Names.{qualified, dotted}
use Rattle.proto_decl.proofs.CommentTextLemmas.{join_with_byte-push}
use Rattle.option_link.proofs.WordLemmas.{now}

-- what is written behind a name in a scope is written behind the name
qualified_more : (scope name more : List ℕ) → qualified scope name ++ more ≡ qualified scope (name ++ more)
qualified_more [] name more = refl
qualified_more (byte ∷ scope) name more = append_assoc (byte ∷ scope) (46 ∷ name) more

pub joined_more : (scope first : List ℕ) (others : List (Bor (List ℕ))) (index : ℕ) (d : Bor (List ℕ))
    (old mid new : List ℕ) → index < length others → old ≡ qualified scope (dotted (first ∷ map now (take index others)))
    → mid ≡ old ++ 46 ∷ [] → new ≡ mid ++ (get_or others index d).now
    → new ≡ qualified scope (dotted (first ∷ map now (take (index + 1) others)))
joined_more scope first others index d old mid new within so_far dot pushed =
    let x = (get_or others index d).now in
    let more : map now (take (index + 1) others) ≡ map now (take index others) ++ x ∷ [] =
    ap (map now) (take_more others index d within) ∙ map-append now (take index others) (get_or others index d ∷ []) in
    pushed ∙ (ap (λ t. t ++ x) dot ∙ (append_assoc old (46 ∷ []) x
    ∙ (ap (λ t. t ++ 46 ∷ x) so_far
    ∙ (qualified_more scope (dotted (first ∷ map now (take index others))) (46 ∷ x)
    ∙ ap (qualified scope) (sym (join_with_byte-push 46 first x (map now (take index others)))
    ∙ ap (λ ws. dotted (first ∷ ws)) (sym more))))))

pub joined_none : (words : List (Bor (List ℕ))) → length words < 1 → [] ≡ dotted (map now words)
joined_none [] few = refl
joined_none (w ∷ ws) few = absurd (omega (arith, few))

joined_some : (words : List (Bor (List ℕ))) (d : Bor (List ℕ)) → 1 ≤ length words
    → dotted ((get_or words 0 d).now ∷ map now (take (length words - 1) (drop 1 words))) ≡ dotted (map now words)
joined_some [] d some = absurd (omega (arith, some))
joined_some (w ∷ ws) d some =
    ap (λ xs. dotted (w.now ∷ map now xs)) (take_all (length (w ∷ ws) - 1) ws (omega arith))

-- a text in a scope of this name is one of the other that is the same

pub qualified_as : {S E : Type 0} (bytes : S → List ℕ) (scope name other : List ℕ) (result : Result S E)
    → name ≡ other → IfOk result (λ text. bytes text ≡ qualified scope name)
    → IfOk result (λ text. bytes text ≡ qualified scope other)
qualified_as bytes scope name other result same h =
    subst (λ (n : List ℕ). IfOk result (λ text. bytes text ≡ qualified scope n)) same h

-- a text of a first word and the others is one of all of them
pub joined_by : {S E : Type 0} (bytes : S → List ℕ) (scope : List ℕ) (words : List (Bor (List ℕ)))
    (d : Bor (List ℕ)) (result : Result S E) → 1 ≤ length words → IfOk result (λ text. bytes text
    ≡ qualified scope (dotted ((get_or words 0 d).now ∷ map now (take (length words - 1) (drop 1 words)))))
    → IfOk result (λ text. bytes text ≡ qualified scope (dotted (map now words)))
joined_by bytes scope words d result some h = qualified_as bytes scope
    (dotted ((get_or words 0 d).now ∷ map now (take (length words - 1) (drop 1 words)))) (dotted (map now words)) result
    (joined_some words d some) h
