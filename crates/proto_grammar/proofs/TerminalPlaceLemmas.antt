-- The tokens from a place on, and places that are behind others.
use Rattle.std.proofs.Common.{◌≡◌, ℕ, zero, suc, ◌+◌, Bool, false, List, [], ◌∷◌, ◌++◌, drop, slice_get, option_map}
use Rattle.std.proofs.Common.{Some, length, get_or, ◌<◌, ◌≤◌, ◌-◌, IfSome, refl, sym, ◌∙◌, ap, add-one, length-drop}
use Rattle.std.proofs.Common.{None, arith}
use Rattle.std.proofs.lemmas.Option.{slice_get-get_or}
use Rattle.std.specs.Option.{option_map_or}
use Rattle.proto_lex.specs.declared.token.Token.{Token}
use Rattle.proto_lex.specs.declared.token.TokenKind.TheVariants.{Dot}
use Rattle.proto_lex.specs.Lexed.{part_of}
use Rattle.proto_grammar.specs.Lexeme.{Lexeme, is_dot_first, lexemes_of, Place, place_of}
use Rattle.proto_grammar.specs.Terminal.{is_kind, of_kind, first, first_is, others, behind}

others-drop-by : (tokens : List Lexeme) (place : ℕ) → others (drop place tokens) ≡ drop (suc place) tokens
others-drop-by [] zero = refl
others-drop-by [] (suc place) = refl
others-drop-by (t ∷ rest) zero = refl
others-drop-by (t ∷ rest) (suc place) = others-drop-by rest place

-- what `get` gives where something is there
pub slice_get-got : {A : Type 0} (xs : List A) (place : ℕ) (x : A) → place < length xs → x ≡ get_or xs place x
    → slice_get xs place ≡ Some x
slice_get-got xs place x inside there = slice_get-get_or xs place x inside ∙ ap Some (sym there)

-- the tokens behind the place
pub others_drop : (tokens : List Lexeme) (place : ℕ) → others (drop place tokens) ≡ drop (place + 1) tokens
others_drop tokens place = rw add-one (others-drop-by tokens place)

-- behind the last token there is none
pub others_past : (text : List ℕ) (tokens : List Token) (place : ℕ) → length tokens ≤ place
    → others (drop place (lexemes_of text tokens)) ≡ drop place (lexemes_of text tokens)
others_past text [] zero past = refl
others_past text [] (suc place) past = refl
others_past text (t ∷ rest) zero past = absurd (omega arith)
others_past text (t ∷ rest) (suc place) past = others_past text rest place (omega arith)

-- as many are left as there are tokens from the place on
length-lexemes_of : (text : List ℕ) (tokens : List Token) → length (lexemes_of text tokens) ≡ length tokens
length-lexemes_of text [] = refl
length-lexemes_of text (t ∷ rest) = ap suc (length-lexemes_of text rest)

pub length_left : (text : List ℕ) (tokens : List Token) (place : ℕ)
    → length (drop place (lexemes_of text tokens)) ≡ length tokens - place
length_left text tokens place =
    length-drop place (lexemes_of text tokens) ∙ ap (λ n. n - place) (length-lexemes_of text tokens)

-- whether a `.` is at the place
dot-by : (text : List ℕ) (tokens : List Token) (place : ℕ)
    → option_map_or (λ (t : Token). is_kind Dot t.kind) (slice_get tokens place) false
    ≡ first_is (of_kind Dot) (drop place (lexemes_of text tokens))
dot-by text [] zero = refl
dot-by text [] (suc place) = refl
dot-by text (t ∷ rest) zero = refl
dot-by text (t ∷ rest) (suc place) = dot-by text rest place

pub first-dot : (text : List ℕ) (tokens : List Token) (place : ℕ) (dot : Bool)
    → dot ≡ option_map_or (λ (t : Token). is_kind Dot t.kind) (slice_get tokens place) false
    → dot ≡ first_is (of_kind Dot) (drop place (lexemes_of text tokens))
first-dot text tokens place dot e = e ∙ dot-by text tokens place

-- the token at the place, with its spelling
dot-first : (text : List ℕ) (tokens : List Token)
    → is_dot_first tokens ≡ first_is (of_kind Dot) (lexemes_of text tokens)
dot-first text [] = refl
dot-first text (t ∷ rest) = refl

abbrev with_dot : List ℕ → Bool → Token → Lexeme
with_dot text dotted t =
    record { kind = t.kind; spelling = part_of text t.span; span = t.span; dotted = dotted }

first-by : (text : List ℕ) (tokens : List Token) (place : ℕ) (t : Token) → slice_get tokens place ≡ Some t
    → first (drop place (lexemes_of text tokens))
    ≡ Some (with_dot text (first_is (of_kind Dot) (others (drop place (lexemes_of text tokens)))) t)
first-by text [] zero t here = cc
first-by text [] (suc place) t here = cc
first-by text (u ∷ rest) zero t here =
    ap (option_map (λ (v : Token). with_dot text (is_dot_first rest) v)) here
    ∙ ap (λ (d : Bool). Some (with_dot text d t)) (dot-first text rest)
first-by text (u ∷ rest) (suc place) t here = first-by text rest place t here

pub first-lexemes_of : (text : List ℕ) (tokens : List Token) (place : ℕ) (t : Token) (spelling : List ℕ)
    (dotted : Bool) → slice_get tokens place ≡ Some t
    → IfSome (slice_get tokens place) (λ u. spelling ≡ part_of text u.span)
    → dotted ≡ first_is (of_kind Dot) (others (drop place (lexemes_of text tokens)))
    → first (drop place (lexemes_of text tokens))
    ≡ Some (record { kind = t.kind; spelling = spelling; span = t.span; dotted = dotted })
first-lexemes_of text tokens place t spelling dotted here spelled dot =
    let same : spelling ≡ part_of text t.span = rw here at spelled in
    rw (same, dot) (first-by text tokens place t here)

-- where no token is there is none with a spelling
pub first-none : (text : List ℕ) (tokens : List Token) (place : ℕ) → slice_get tokens place ≡ None
    → first (drop place (lexemes_of text tokens)) ≡ None
first-none text [] zero none = refl
first-none text [] (suc place) none = refl
first-none text (t ∷ rest) zero none = cc
first-none text (t ∷ rest) (suc place) none = first-none text rest place none

-- the offset of the token at the place, or else where the text ends
offset-by : (text : List ℕ) (tokens : List Token) (place otherwise : ℕ)
    → option_map_or (λ (t : Token). t.span.start) (slice_get tokens place) otherwise
    ≡ option_map_or (λ (t : Lexeme). t.span.start) (first (drop place (lexemes_of text tokens))) otherwise
offset-by text [] zero otherwise = refl
offset-by text [] (suc place) otherwise = refl
offset-by text (t ∷ rest) zero otherwise = refl
offset-by text (t ∷ rest) (suc place) otherwise = offset-by text rest place otherwise

pub first-offset : (text : List ℕ) (tokens : List Token) (place n : ℕ)
    → n ≡ option_map_or (λ (t : Token). t.span.start) (slice_get tokens place) (length text)
    → n ≡ option_map_or (λ (t : Lexeme). t.span.start) (first (drop place (lexemes_of text tokens))) (length text)
first-offset text tokens place n e = e ∙ offset-by text tokens place (length text)

-- one place is behind another: some tokens are passed
abbrev pub Behind : Place → Place → Type 0
Behind p q = (tokens : List Lexeme) × (p.left ≡ tokens ++ q.left) × (q.end ≡ p.end)

one_by : (left : List Lexeme) (end : ℕ) → Behind (place_of end left) (behind (place_of end left))
one_by [] end = ([], refl, refl)
one_by (t ∷ left) end = (t ∷ [], refl, refl)

pub behind_one : (p : Place) → Behind p (behind p)
behind_one p = one_by p.left p.end
