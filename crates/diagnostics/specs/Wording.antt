-- How hints are told. (The texts are this project's own.)
use Rattle.std.specs.Prelude.{ℕ, List, [], ◌∷◌, ◌++◌, Option, Some, None, bytes_eq, codes, drop, map, take}
use Rattle.std.specs.Prelude.{if◌then◌else◌}
use Rattle.diagnostics.specs.Candidates.{capital_name, literal, name, number, whole_number}

-- what is said of candidates that stand for others of their kind
abbrev pub phrase : (spelling : List ℕ) → Option (List ℕ)
phrase spelling =
    if bytes_eq spelling name then Some (codes "a name")
    else if bytes_eq spelling capital_name then Some (codes "a name that begins with a capital letter")
    else if bytes_eq spelling number then Some (codes "a number")
    else if bytes_eq spelling whole_number then Some (codes "a whole number")
    else if bytes_eq spelling literal then Some (codes "a string")
    else None

-- the others are quoted
abbrev pub phrased : Option (List ℕ) → (spelling : List ℕ) → List ℕ
phrased (Some words) spelling = words
phrased None spelling = codes "`" ++ spelling ++ codes "`"

abbrev pub shown : (spelling : List ℕ) → List ℕ
shown spelling = phrased (phrase spelling) spelling

-- the first of them, so many at most; and "others", if there are more
abbrev pub others : List (List ℕ) → List (List ℕ)
others [] = []
others (one ∷ more) = codes "others" ∷ []

abbrev pub items : (most : ℕ) → List (List ℕ) → List (List ℕ)
items most hints = map shown (take most hints) ++ others (drop most hints)

-- with commas between them, and "or" before the last
abbrev pub joined : List (List ℕ) → List ℕ
joined [] = []
joined (last ∷ []) = last
joined (item ∷ last ∷ []) = item ++ codes " or " ++ last
joined (item ∷ next ∷ third ∷ more) = item ++ codes ", " ++ joined (next ∷ third ∷ more)

-- how many a sentence tells at most (this project's own choice)
abbrev pub max_told : ℕ
max_told = 9

-- what a sentence goes on with
abbrev pub hints_text : List (List ℕ) → List ℕ
hints_text [] = []
hints_text (first ∷ more) = codes ": " ++ joined (items max_told (first ∷ more))
