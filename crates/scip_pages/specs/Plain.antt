-- What a page's code shows: its text, without its marks, and with its references undone.
-- (HTML Standard, 13.2.5 "Tokenization", of pages whose marks have no `>` but the one that ends them)
use Rattle.std.specs.Prelude.{ℕ, ◌+◌, ◌-◌, ◌==◌, not, ◌||◌, cond, List, [], ◌∷◌, ◌++◌, length, Option, None, Some}
use Rattle.std.specs.Prelude.{nat_eq}
use Rattle.std.specs.List.{find, prefix_len, starts_with}
use Rattle.scip_pages.specs.Escapes.{Reference, references}

-- the reference that begins after a `&`, if one does
abbrev pub reference_behind : List ℕ → Option Reference
reference_behind behind = find (λ (r : Reference). starts_with nat_eq behind r.name) references

-- A mark runs from its `<` to the first `>`. How much of it comes after the `<`.
abbrev pub mark_len : List ℕ → ℕ
mark_len behind = prefix_len (λ b. not (b == 62)) behind + 1

-- a `&` that begins no reference stands for itself
abbrev pub byte_referred : Option Reference → ℕ
byte_referred None = 38
byte_referred (Some r) = r.byte

abbrev pub name_len : Option Reference → ℕ
name_len None = 0
name_len (Some r) = length r.name

-- What a byte shows, with what comes after it: a `<` or a NUL, nothing; a `&`, what its reference stands for; another
-- byte, itself. (13.2.6.4.7 "The 'in body' insertion mode")
abbrev pub shown_at : ℕ → List ℕ → List ℕ
shown_at byte behind = cond ((byte == 60) || (byte == 0)) []
    (cond (byte == 38) (byte_referred (reference_behind behind) ∷ []) (byte ∷ []))

-- How many of the bytes after it belong to the same mark or reference.
abbrev pub more_at : ℕ → List ℕ → ℕ
more_at byte behind = cond (byte == 60) (mark_len behind) (cond (byte == 38) (name_len (reference_behind behind)) 0)

-- What is shown after this many bytes that belong to a mark or reference.
abbrev pub plain_behind : ℕ → List ℕ → List ℕ
plain_behind n [] = []
plain_behind n (byte ∷ behind) =
    cond (n == 0) (shown_at byte behind) [] ++ plain_behind (cond (n == 0) (more_at byte behind) (n - 1)) behind

abbrev pub plain : List ℕ → List ℕ
plain code = plain_behind 0 code
