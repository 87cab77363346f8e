use Rattle.std.proofs.Common.{◌≡◌, ◌∙◌, ◌++◌, ◌∷◌, [], ℕ, false, List, ap, map, string_bytes, subst, sym}
use Rattle.std.proofs.lemmas.List.{map-append}
use Rattle.std.specs.Borrow.{Bor}
use Rattle.std.specs.Option.{option_map}
use Rattle.std.specs.Str.{bytes_eq}
use Rattle.fault_reports.specs.Findings.{Found}
use Rattle.programs.specs.Missing.{left_out_sentence}
use Rattle.programs.proofs.MissingLemmas.{missing_is}
use Rattle.programs.proofs.missing.push_missing.Goals as goal

pub returns-in_ok-push : goal.returns-in_ok-push
returns-in_ok-push c =
    let found = c.args.finding.now in
    let paths = c.args.paths.now.items in
    let before = map string_bytes paths in
    let other = subst (λ (message : List ℕ). bytes_eq message left_out_sentence ≡ false)
    (ap (λ (f : Found). f.message) c.finding.view_is) (sym c.is_left_out.ensures ∙ c.if-is_left_out.false) in
    let literals = sym (ap (λ (f : Found). f.imported) c.finding.view_is)
    ∙ ap (option_map (λ (l : Bor (List ℕ)). l.now)) c.in-Some.is in
    ap (map string_bytes) c.in_ok-push.ensures.items
    ∙ map-append string_bytes paths (c.in_ok-path.path ∷ [])
    ∙ ap (λ (path : List ℕ). before ++ path ∷ []) c.in_ok-path.ensures
    ∙ ap (λ (l : List (List ℕ)). before ++ l) (sym (missing_is found c.in-Some.literals.now other literals))
