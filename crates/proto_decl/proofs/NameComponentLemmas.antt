-- The components of a plain name, which has no dot, and of one behind a scope; the prefixes that they make.
use Rattle.std.proofs.Common.{◌≡◌, ◌∙◌, ap, refl, ℕ, ◌<◌, ◌≤◌, ◌==◌, Bool, true, false, not, cond}
use Rattle.std.proofs.Common.{List, [], ◌∷◌, ◌++◌, length, take, arith}
use Rattle.std.specs.List.{All, list_all, onto_first}
use Rattle.std.proofs.lemmas.List.{take-append-le, take_all}
use Rattle.std.proofs.lemmas.List.Elements.{All-nil, All-cons}
use Rattle.std.proofs.lemmas.List.Splits.{slice_split_none, length-slice_split, join_with_byte-slice_split}
use Rattle.proto_decl.specs.Names.{dotted, components_of, prefix_of}
use Rattle.basics.proofs.BoolLemmas.{first_no}

abbrev pub is_dot : ℕ → Bool
is_dot byte = byte == 46

abbrev pub IsPlain : List ℕ → Type 0
IsPlain name = All (λ byte. is_dot byte ≡ false) name

pub is_plain : (name : List ℕ) → list_all (λ byte. not (byte == 46)) name ≡ true → IsPlain name
is_plain [] e = All-nil (λ (byte : ℕ). is_dot byte ≡ false)
is_plain (byte ∷ name) e =
    let p = first_no (is_dot byte) (list_all (λ b. not (b == 46)) name) e in
    All-cons (λ (b : ℕ). is_dot b ≡ false) byte name p.0 (is_plain name p.1)

pub of_plain : (name : List ℕ) → IsPlain name → components_of name ≡ name ∷ []
of_plain name plain = slice_split_none is_dot name plain

onto_more : (byte : ℕ) (parts : List (List ℕ)) (last : List ℕ) → 0 < length parts
    → onto_first byte (parts ++ last ∷ []) ≡ onto_first byte parts ++ last ∷ []
onto_more byte [] last some = absurd (omega (arith, some))
onto_more byte (part ∷ parts) last some = refl

one_more : (t : Bool) (byte : ℕ) (parts : List (List ℕ)) (last : List ℕ) → 0 < length parts
    → cond t ([] ∷ (parts ++ last ∷ [])) (onto_first byte (parts ++ last ∷ []))
    ≡ cond t ([] ∷ parts) (onto_first byte parts) ++ last ∷ []
one_more true byte parts last some = refl
one_more false byte parts last some = onto_more byte parts last some

components_some : (name : List ℕ) → 0 < length (components_of name)
components_some name = omega (arith, length-slice_split is_dot name)

pub of_behind : (scope name : List ℕ) → IsPlain name
    → components_of (scope ++ 46 ∷ name) ≡ components_of scope ++ name ∷ []
of_behind [] name plain = ap (λ (parts : List (List ℕ)). [] ∷ parts) (of_plain name plain)
of_behind (byte ∷ scope) name plain =
    rw (of_behind scope name plain) (one_more (is_dot byte) byte (components_of scope) name (components_some scope))

pub whole_prefix : (name : List ℕ) (count : ℕ) → count ≡ length (components_of name) → prefix_of name count ≡ name
whole_prefix name count all =
    ap dotted (take_all count (components_of name) (omega (arith, all))) ∙ join_with_byte-slice_split 46 name

pub prefix_of_scope : (scope name : List ℕ) (count : ℕ) → IsPlain name → count ≤ length (components_of scope)
    → prefix_of (scope ++ 46 ∷ name) count ≡ prefix_of scope count
prefix_of_scope scope name count plain le =
    ap (λ parts. dotted (take count parts)) (of_behind scope name plain)
    ∙ ap dotted (take-append-le count (components_of scope) (name ∷ []) le)
