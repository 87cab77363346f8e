-- What a loop keeps, and what is so where it ends. The test is given with the call that made it, and what is pushed by
-- an equation, so that a search finds both.
use Rattle.std.proofs.Common.{◌≡◌, ◌<◌, Bool, true, false, Result, Ok, Err, Option, option_to_list, List, ◌++◌}
use Rattle.std.proofs.Common.{length, refl, sym, ap, ◌∙◌}
use Rattle.std.proofs.lemmas.Bool.{lt-ltb}
use Rattle.proto_grammar.specs.declared.dialect.CustomOptions.{CustomOptions}
use Rattle.proto_grammar.specs.declared.fault.SyntaxFault.{SyntaxFault}
use Rattle.proto_grammar.specs.Gives.{Fails}
use Rattle.proto_grammar.specs.Lexeme.{Lexeme, Place}
use Rattle.proto_grammar.specs.Terminal.{first_is}
use Rattle.proto_grammar.proofs.RepetitionUntilLemmas.{Fails-of}
use Rattle.proto_steps.specs.Step.{Step, While, adding, passing, run}
use Rattle.proto_steps.proofs.TurnLemmas.{first_turn}

-- ---- any loop, by its first turn

turned : {S : Type 0} (goes : Lexeme → Bool) (step : S → Step S) (s t : S) (place after : Place)
    → first_is goes place.left ≡ true → run (step s) place ≡ Ok (t, after) → length after.left < length place.left
    → run (While goes step s) place ≡ run (While goes step t) after
unfolding run
turned goes step s t place after go e less =
    rw (first_turn goes (λ u. run (step u)) s place, go, e, lt-ltb _ _ less) refl

broken : {S : Type 0} (goes : Lexeme → Bool) (step : S → Step S) (s : S) (place : Place) (fault : SyntaxFault)
    → first_is goes place.left ≡ true → run (step s) place ≡ Err fault → run (While goes step s) place ≡ Err fault
unfolding run
broken goes step s place fault go e = rw (first_turn goes (λ u. run (step u)) s place, go, e) refl

over : {S : Type 0} (goes : Lexeme → Bool) (step : S → Step S) (s : S) (place : Place)
    → first_is goes place.left ≡ false → run (While goes step s) place ≡ Ok (s, place)
unfolding run
over goes step s place ended = rw (first_turn goes (λ u. run (step u)) s place, ended) refl

pub is_over : {S : Type 0} (goes : Lexeme → Bool) (step : S → Step S) (s : S) (place : Place)
    (total : Result (S × Place) SyntaxFault) (test : Bool) → test ≡ first_is goes place.left → test ≡ false
    → run (While goes step s) place ≡ total → total ≡ Ok (s, place)
is_over goes step s place total test is ended so_far = sym so_far ∙ over goes step s place (sym is ∙ ended)

-- ---- a loop that keeps what it reads

added : {A : Type 0} (item : Step (Option A)) (list : List A) (place after : Place) (x : Option A)
    → run item place ≡ Ok (x, after) → run (adding item list) place ≡ Ok (list ++ option_to_list x, after)
unfolding run
added item list place after x e = rw e refl

none_added : {A : Type 0} (item : Step (Option A)) (list : List A) (place : Place) (fault : SyntaxFault)
    → run item place ≡ Err fault → run (adding item list) place ≡ Err fault
unfolding run
none_added item list place fault e = rw e refl

pub adds_on : {A : Type 0} (goes : Lexeme → Bool) (item : Step (Option A)) (list now : List A)
    (place after : Place) (x : Option A) (total : Result (List A × Place) SyntaxFault) (test : Bool)
    → now ≡ list ++ option_to_list x → test ≡ first_is goes place.left → test ≡ true → run item place ≡ Ok (x, after)
    → length after.left < length place.left → run (While goes (adding item) list) place ≡ total
    → run (While goes (adding item) now) after ≡ total
adds_on goes item list now place after x total test pushed is goes_on e less so_far =
    ap (λ z. run (While goes (adding item) z) after) pushed
    ∙ sym (turned goes (adding item) list (list ++ option_to_list x) place after (sym is ∙ goes_on)
    (added item list place after x e) less) ∙ so_far

pub adding_stops : {A : Type 0} (goes : Lexeme → Bool) (item : Step (Option A)) (list : List A) (place : Place)
    (total : Result (List A × Place) SyntaxFault) (custom : CustomOptions) (fault : SyntaxFault) (test : Bool)
    → test ≡ first_is goes place.left → test ≡ true → Fails custom fault (run item place)
    → run (While goes (adding item) list) place ≡ total → Fails custom fault total
adding_stops goes item list place total custom fault test is goes_on fails so_far =
    Fails-of custom fault (run item place) total
    (λ met none. sym so_far
    ∙ broken goes (adding item) list place met (sym is ∙ goes_on) (none_added item list place met none)) fails

-- ---- a loop that keeps nothing

pub passes_on : (goes : Lexeme → Bool) (item : Step (Unit {0})) (place after : Place)
    (total : Result (Unit {0} × Place) SyntaxFault) (test : Bool) → test ≡ first_is goes place.left → test ≡ true
    → run item place ≡ Ok (tt, after) → length after.left < length place.left
    → run (While goes (passing item) tt) place ≡ total → run (While goes (passing item) tt) after ≡ total
passes_on goes item place after total test is goes_on e less so_far =
    sym (turned goes (passing item) tt tt place after (sym is ∙ goes_on) e less) ∙ so_far

pub passing_stops : (goes : Lexeme → Bool) (item : Step (Unit {0})) (place : Place)
    (total : Result (Unit {0} × Place) SyntaxFault) (custom : CustomOptions) (fault : SyntaxFault) (test : Bool)
    → test ≡ first_is goes place.left → test ≡ true → Fails custom fault (run item place)
    → run (While goes (passing item) tt) place ≡ total → Fails custom fault total
passing_stops goes item place total custom fault test is goes_on fails so_far =
    Fails-of custom fault (run item place) total
    (λ met none. sym so_far ∙ broken goes (passing item) tt place met (sym is ∙ goes_on) none) fails

-- ---- a loop that changes what it has

pub steps_on : {S : Type 0} (goes : Lexeme → Bool) (step : S → Step S) (s t : S) (place after : Place)
    (total : Result (S × Place) SyntaxFault) (test : Bool) → test ≡ first_is goes place.left → test ≡ true
    → run (step s) place ≡ Ok (t, after) → length after.left < length place.left
    → run (While goes step s) place ≡ total → run (While goes step t) after ≡ total
steps_on goes step s t place after total test is goes_on e less so_far =
    sym (turned goes step s t place after (sym is ∙ goes_on) e less) ∙ so_far

pub stepping_stops : {S : Type 0} (goes : Lexeme → Bool) (step : S → Step S) (s : S) (place : Place)
    (total : Result (S × Place) SyntaxFault) (custom : CustomOptions) (fault : SyntaxFault) (test : Bool)
    → test ≡ first_is goes place.left → test ≡ true → Fails custom fault (run (step s) place)
    → run (While goes step s) place ≡ total → Fails custom fault total
stepping_stops goes step s place total custom fault test is goes_on fails so_far =
    Fails-of custom fault (run (step s) place) total
    (λ met none. sym so_far ∙ broken goes step s place met (sym is ∙ goes_on) none) fails
