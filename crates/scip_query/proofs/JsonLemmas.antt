-- Answers in JSON have no floats, and are read back.
use Rattle.std.proofs.Common.{◌≡◌, ◌≤◌, ◌||◌, ℕ, ℤ, pos, negsuc, false, List, [], ◌∷◌, map, ap, ap₂, refl, arith}
use Rattle.scip_records.specs.declared.records.SymbolInformation.{SymbolInformation}
use Rattle.serde_json.specs.Data.{Data, depth, items_depth, string}
use Rattle.serde_json.specs.Find.{is_float, of_integer}
use Rattle.serde_json.specs.Read.{max_depth}
use Rattle.serde_json.specs.View.{items_of}
use Rattle.serde_json.specs.Written.{has_float, items_have_float}
use Rattle.scip_query.specs.Sites.{Site}
use Rattle.scip_query.specs.Outline.{Outlined}
use Rattle.scip_query.specs.Finding.{Found}
use Rattle.scip_query.specs.Answers.{Answer, Sites, Texts, Entries, Outlines, Finds, Misses}
use Rattle.scip_query.specs.JsonAnswers.{answer_value, entry_value, found_value, miss_value, outlined_value, site_value}
use Rattle.scip_query.specs.declared.miss.Miss.{Miss}
use Rattle.scip_query.specs.declared.miss.Miss.TheVariants.{NoDocument, NothingThere}

pub of_whole : (z : ℤ) → is_float (of_integer z) ≡ false
of_whole (pos n) = refl
of_whole (negsuc n) = refl

pub of_list : {X : Type 0} (value : X → Data) → ((x : X) → has_float (value x) ≡ false) → (xs : List X)
    → items_have_float (items_of (map value xs)) ≡ false
of_list value none [] = refl
of_list value none (x ∷ xs) = ap₂ (λ a b. a || b) (none x) (of_list value none xs)

of_site : (site : Site) → has_float (site_value site) ≡ false
of_site site = ap (λ b. b || false) (of_whole site.occurrence.symbol_roles)

of_found : (found : Found) → has_float (found_value found) ≡ false
of_found found = ap (λ b. b || false) (of_whole found.occurrence.symbol_roles)

pub of_entry : (entry : SymbolInformation) → has_float (entry_value entry) ≡ false
of_entry entry = ap (λ b. b || false) (of_list string (λ text. refl) entry.documentation)

of_miss : (miss : Miss) → has_float (miss_value miss) ≡ false
of_miss NoDocument = refl
of_miss NothingThere = refl

pub of_answer : (answer : Answer) → has_float (answer_value answer) ≡ false
of_answer (Sites sites) = ap (λ b. b || false) (of_list site_value of_site sites)
of_answer (Texts texts) = ap (λ b. b || false) (of_list string (λ text. refl) texts)
of_answer (Entries entries) = ap (λ b. b || false) (of_list entry_value of_entry entries)
of_answer (Outlines outline) = ap (λ b. b || false) (of_list outlined_value (λ (o : Outlined). refl) outline)
of_answer (Finds found) = ap (λ b. b || false) (of_list found_value of_found found)
of_answer (Misses miss) = of_miss miss

-- ---- they don't nest deep

pub deep : {X : Type 0} (value : X → Data) (n : ℕ) → ((x : X) → depth (value x) ≤ n) → (xs : List X)
    → items_depth (items_of (map value xs)) ≤ n
deep value n few [] = omega arith
deep value n few (x ∷ xs) = omega (arith, few x, deep value n few xs)

pub deep_entry : (entry : SymbolInformation) → depth (entry_value entry) ≤ 2
deep_entry entry = omega (arith, deep string 0 (λ text. omega arith) entry.documentation)

pub shallow : (answer : Answer) → depth (answer_value answer) ≤ max_depth
shallow (Sites sites) = omega (arith, deep site_value 2 (λ (site : Site). omega arith) sites)
shallow (Texts texts) = omega (arith, deep string 0 (λ text. omega arith) texts)
shallow (Entries entries) = omega (arith, deep entry_value 2 deep_entry entries)
shallow (Outlines outline) = omega (arith, deep outlined_value 2 (λ (o : Outlined). omega arith) outline)
shallow (Finds found) = omega (arith, deep found_value 2 (λ (f : Found). omega arith) found)
shallow (Misses NoDocument) = omega arith
shallow (Misses NothingThere) = omega arith
