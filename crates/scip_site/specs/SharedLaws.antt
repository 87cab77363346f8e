-- Laws of the style sheet and the script: words that they have, and words that they don't have.
use Rattle.std.specs.Prelude.{ℕ, ◌≡◌, Bool, true, false, ◌||◌, List, [], ◌∷◌, codes, nat_eq}
use Rattle.std.specs.List.{AllByRecursion, starts_with}
use Rattle.scip_site.specs.declared.styles.TheConstants.{STYLE, SEARCH}

-- whether a word is somewhere in a text
abbrev pub has_word : (text word : List ℕ) → Bool
has_word [] word = false
has_word (b ∷ text) word = starts_with nat_eq (b ∷ text) word || has_word text word

abbrev pub HasAll : (words : List (List ℕ)) → (text : List ℕ) → Type 0
HasAll words text = AllByRecursion (λ (word : List ℕ). has_word text word ≡ true) words

abbrev pub HasNone : (words : List (List ℕ)) → (text : List ℕ) → Type 0
HasNone words text = AllByRecursion (λ (word : List ℕ). has_word text word ≡ false) words

-- The style sheet asks for the system's light or dark setting and for the window's width.
-- (Media Queries: `prefers-color-scheme`, `width`; CSS Color Adjustment: `color-scheme`)
abbrev pub StyleAsks : Type 0
StyleAsks =
    HasAll
    (codes "color-scheme: light dark"
    ∷ (codes "@media (prefers-color-scheme: dark)" ∷ (codes "@media (max-width:" ∷ [])))
    STYLE.now

-- It names no other file. (CSS Values and Units: `url()`, `src()`; CSS Images: `image()`; CSS Cascading and
-- Inheritance: `@import`)
abbrev pub StyleIsAlone : Type 0
StyleIsAlone =
    HasNone (codes "url" ∷ (codes "src" ∷ (codes "image" ∷ (codes "@import" ∷ [])))) STYLE.now

-- The script asks nobody for anything. (Fetch Standard; XMLHttpRequest, WebSockets Standards; ECMAScript, "Imports";
-- HTML Standard, "Server-sent events", "Web workers"; Beacon)
abbrev pub ScriptIsAlone : Type 0
ScriptIsAlone =
    HasNone
    (codes "fetch"
    ∷ (codes "Request"
    ∷ (codes "Socket"
    ∷ (codes "Source"
    ∷ (codes "Beacon" ∷ (codes "Worker" ∷ (codes "import" ∷ (codes "src" ∷ (codes "http" ∷ [])))))))))
    SEARCH.now

-- It makes no marks or scripts of texts. (HTML Standard, "Dynamic markup insertion"; ECMAScript, `eval`, `Function`)
abbrev pub ScriptMakesNoMarks : Type 0
ScriptMakesNoMarks =
    HasNone (codes "HTML" ∷ (codes "write" ∷ (codes "Parser" ∷ (codes "eval" ∷ (codes "Function" ∷ []))))) SEARCH.now
