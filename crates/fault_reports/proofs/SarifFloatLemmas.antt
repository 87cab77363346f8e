-- No number of a log is a float.
use Rattle.std.proofs.Common.{◌≡◌, ◌||◌, ℕ, false, List, [], ◌∷◌, map, Option, Some, None, ap, ap₂, refl}
use Rattle.serde_json.specs.View.{items_of}
use Rattle.serde_json.specs.Written.{has_float, items_have_float, members_have_float}
use Rattle.fault_reports.specs.declared.finding.FindingKind.{FindingKind}
use Rattle.fault_reports.specs.declared.finding.Point.{Point}
use Rattle.fault_reports.specs.Findings.{Found, FoundPlace, end_of, start_of}
use Rattle.fault_reports.specs.Sarif.{locations_value, log_value, new_names, region_members, related_value, result_value}
use Rattle.fault_reports.specs.Sarif.{rule_value}

of_region : (start end : Option Point) → members_have_float (region_members start end) ≡ false
of_region None end = refl
of_region (Some start) None = refl
of_region (Some start) (Some end) = refl

of_locations : (place : Option FoundPlace) → has_float (locations_value place) ≡ false
of_locations None = refl
of_locations (Some place) = ap (λ b. (b || false) || false) (of_region (start_of place) (end_of place))

of_related : (kind : FindingKind) (place : Option FoundPlace) → has_float (related_value kind place) ≡ false
of_related kind None = refl
of_related kind (Some place) = ap (λ b. (b || false) || false) (of_region (start_of place) (end_of place))

of_result : (found : Found) → has_float (result_value found) ≡ false
of_result found = ap₂ (λ a b. a || (b || false)) (of_locations found.place) (of_related found.kind found.first)

of_results : (findings : List Found) → items_have_float (items_of (map result_value findings)) ≡ false
of_results [] = refl
of_results (found ∷ findings) = ap₂ (λ a b. a || b) (of_result found) (of_results findings)

of_rules : (findings : List Found) (names : List (List ℕ))
    → items_have_float (items_of (map (rule_value findings) names)) ≡ false
of_rules findings [] = refl
of_rules findings (name ∷ names) = of_rules findings names

pub of_log : (findings : List Found) → has_float (log_value findings) ≡ false
of_log findings =
    ap₂ (λ a b. ((a || (((b || false) || false) || false)) || false) || false) (of_results findings)
    (of_rules findings (new_names [] (map (λ (found : Found). found.name) findings)))
