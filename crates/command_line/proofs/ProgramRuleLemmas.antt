-- What adding an argument makes of a program.
use Rattle.std.proofs.Common.{◌≡◌, ◌∙◌, ◌||◌, ◌&&◌, Bool, List, [], ◌∷◌, ◌++◌, map, true, false, not, ap, ap₂, sym}
use Rattle.std.proofs.Common.{is_some, refl}
use Rattle.std.proofs.lemmas.List.{map-append}
use Rattle.clap.specs.Walk.{is_empty}
use Rattle.clap.specs.Words.{AddsArg, AddsInTurn, Rule, app_of, rule_of}
use Rattle.clap.specs.declared.builder.arg.Arg.{Arg}
use Rattle.clap.specs.declared.builder.command.Command.{Command}
use Rattle.clap.specs.declared.builder.command.Command.TheViews.{out-Command}
use Rattle.clap.proofs.WalkLemmas.{both}
use Rattle.command_line.specs.Program.{are_simple, with_rules}

right : (a b : Bool) → (a && b) ≡ true → b ≡ true
right a b all = (both a b all).1

no_more : (b : Bool) → not b ≡ true → b ≡ false
no_more true e = absurd cc
no_more false e = refl

-- a simple argument isn't global
not_global : (arg : Arg) → (rule_of arg).is_simple ≡ true → arg.global ≡ false
not_global arg simple =
    no_more arg.global
    (right (not arg.last) _
    (right (not arg.require_equals) _
    (right (not arg.allow_negative_numbers) _
    (right (not arg.allow_hyphen_values) _
    (right (not (is_some arg.terminator)) _
    (right (not (is_some arg.val_delim)) _
    (right (is_empty arg.groups.items) _
    (right (is_empty arg.default_vals_ifs.items) _ (right (is_empty arg.overrides.items) _ simple)))))))))

-- their rules are the last, in their order
pub all_added : (old : Command) (args : List Arg) (new : Command) → AddsInTurn AddsArg old args new
    → are_simple (map rule_of args) ≡ true → app_of new ≡ with_rules (app_of old) (map rule_of args)
all_added old [] new same simple = ap app_of (sym same)
all_added old (arg ∷ args) new adds simple =
    let parts = both _ _ simple in
    all_added adds.0 args new adds.2 parts.1
    ∙ ap (λ a. with_rules a (map rule_of args)) (adds.1.shape (not_global arg parts.0))

-- no argument becomes global
pub stay_local : (old : Command) (args : List Arg) (new : Command) → AddsInTurn AddsArg old args new
    → are_simple (map rule_of args) ≡ true → (out-Command old).has_globals ≡ false
    → (out-Command new).has_globals ≡ false
stay_local old [] new same simple none = ap (λ c. (out-Command c).has_globals) (sym same) ∙ none
stay_local old (arg ∷ args) new adds simple none =
    let parts = both _ _ simple in
    stay_local adds.0 args new adds.2 parts.1
    (adds.1.globals ∙ ap₂ (λ a b. a || b) none (not_global arg parts.0))

-- arguments behind others
pub rules_more : (old more new : List Arg) {rules : List Rule} → new ≡ old ++ more → map rule_of more ≡ rules
    → map rule_of new ≡ map rule_of old ++ rules
rules_more old more new is of =
    ap (map rule_of) is ∙ map-append rule_of old more ∙ ap (λ l. map rule_of old ++ l) of
