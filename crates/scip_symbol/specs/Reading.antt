-- What the reader's private functions give. Public contracts speak of `SpellsSymbol` and `IsLongestPrefix`.
use Rattle.std.specs.Prelude.{ℕ, zero, suc, ◌+◌, Bool, true, false, cond, Option, Some, None, Result, Ok, Err, List, []}
use Rattle.std.specs.Prelude.{◌∷◌, length, take, drop, codes, nat_eq, bytes_eq}
use Rattle.std.specs.List.{prefix_len}
use Rattle.scip_symbol.specs.Names.{is_identifier_character, space, backtick}
use Rattle.scip_symbol.specs.SpellsSymbol.{descriptor}
use Rattle.scip_symbol.specs.declared.symbol.Suffix.{Suffix}
use Rattle.scip_symbol.specs.declared.symbol.Suffix.TheVariants as suffix
use Rattle.scip_symbol.specs.declared.symbol.Descriptor.{Descriptor}
use Rattle.scip_symbol.specs.declared.symbol.SymbolParts.{SymbolParts}
use Rattle.scip_symbol.specs.declared.symbol.SymbolParts.TheVariants.{Local, Global}

-- what is read, or how many bytes are left at the place where the reader stops
abbrev pub Read : Type 0 → Type 0
Read A = Result A ℕ

-- a value and the text after it
abbrev pub Front : Type 0 → Type 0
Front A = Read (A × List ℕ)

infixl 10 ◌>>=◌
abbrev pub ◌>>=◌ : {A B : Type 0} → Read A → (A → Read B) → Read B
Ok x >>= next = next x
Err left >>= next = Err left

-- a choice by whether something is there
abbrev pub choose : {A B : Type 0} → Option A → B → (A → B) → B
choose None otherwise next = otherwise
choose (Some x) otherwise next = next x

-- the text after a prefix
abbrev pub after : (front text : List ℕ) → Option (List ℕ)
after [] text = Some text
after (c ∷ front) [] = None
after (c ∷ front) (b ∷ text) = cond (nat_eq b c) (after front text) None

unfoldable pub expect_at : (front text : List ℕ) → Read (List ℕ)
expect_at front text = choose (after front text) (Err (length text)) (λ rest. Ok rest)

-- a text up to a mark that isn't doubled, with the doubled ones before it, and what comes after it
abbrev pub onto : ℕ → Front (List ℕ) → Front (List ℕ)
onto b (Ok (word, rest)) = Ok (b ∷ word, rest)
onto b (Err left) = Err left

unfoldable pub undoubled_at : (mark : ℕ) → (after_mark : Bool) → List ℕ → Front (List ℕ)
undoubled_at mark false [] = Err 0
undoubled_at mark true [] = Ok ([], [])
undoubled_at mark false (b ∷ text) =
    cond (nat_eq b mark) (undoubled_at mark true text) (onto b (undoubled_at mark false text))
undoubled_at mark true (b ∷ text) = cond (nat_eq b mark) (onto mark (undoubled_at mark false text)) (Ok ([], b ∷ text))

-- the identifier characters at the front
abbrev pub run_len : List ℕ → ℕ
run_len = prefix_len is_identifier_character

abbrev pub run_at : List ℕ → List ℕ × List ℕ
run_at text = (take (run_len text) text, drop (run_len text) text)

-- a word that isn't empty
abbrev pub some_at : List ℕ × List ℕ → Front (List ℕ)
some_at ([], rest) = Err (length rest)
some_at (b ∷ word, rest) = Ok (b ∷ word, rest)

unfoldable pub simple_at : List ℕ → Front (List ℕ)
simple_at text = some_at (run_at text)

unfoldable pub name_at : List ℕ → Front (List ℕ)
name_at text = choose (after (codes "`") text) (simple_at text)
    (λ inside. undoubled_at backtick false inside >>= some_at)

-- such a run, and the signs that close a method after it
abbrev pub closed_at : List ℕ × List ℕ → Front (List ℕ)
closed_at run = expect_at (codes ")") run.1 >>= λ rest. expect_at (codes ".") rest >>= λ behind. Ok (run.0, behind)

unfoldable pub disambiguator_at : List ℕ → Front (List ℕ)
disambiguator_at text = closed_at (run_at text)

unfoldable pub suffix_at : List ℕ → Front Suffix
suffix_at text =
    choose (after (codes "/") text) (
    choose (after (codes "#") text) (
    choose (after (codes ".") text) (
    choose (after (codes ":") text) (
    choose (after (codes "!") text) (
    expect_at (codes "(") text >>= λ rest. disambiguator_at rest >>= λ x. Ok (suffix.Method x.0, x.1))
    (λ rest. Ok (suffix.Macro, rest)))
    (λ rest. Ok (suffix.Meta, rest)))
    (λ rest. Ok (suffix.Term, rest)))
    (λ rest. Ok (suffix.«Type», rest)))
    (λ rest. Ok (suffix.Namespace, rest))

-- a name in brackets, after the opening one
unfoldable pub enclosed_at : Suffix → (closing text : List ℕ) → Front Descriptor
enclosed_at s closing text = name_at text >>= λ x. expect_at closing x.1 >>= λ rest. Ok (descriptor x.0 s, rest)

unfoldable pub descriptor_at : List ℕ → Front Descriptor
descriptor_at text =
    choose (after (codes "[") text) (
    choose (after (codes "(") text) (
    name_at text >>= λ x. suffix_at x.1 >>= λ y. Ok (descriptor x.0 y.0, y.1))
    (enclosed_at suffix.Parameter (codes ")")))
    (enclosed_at suffix.TypeParameter (codes "]"))

abbrev pub led : Descriptor → Read (List Descriptor) → Read (List Descriptor)
led d (Ok others) = Ok (d ∷ others)
led d (Err left) = Err left

abbrev pub last_or_led : Descriptor → List ℕ → Read (List Descriptor) → Read (List Descriptor)
last_or_led d [] others = Ok (d ∷ [])
last_or_led d (b ∷ rest) others = led d others

-- one descriptor or more, up to the end; each takes a byte at least, so that as many steps as there are bytes will do
unfoldable pub descriptors_within : ℕ → List ℕ → Read (List Descriptor)
descriptors_within zero text = Err (length text)
descriptors_within (suc steps) text = descriptor_at text >>= λ x. last_or_led x.0 x.1 (descriptors_within steps x.1)

unfoldable pub descriptors_at : List ℕ → Read (List Descriptor)
descriptors_at text = descriptors_within (length text + 1) text

unfoldable pub spaced_at : List ℕ → Front (List ℕ)
spaced_at text = choose (after (codes " ") text) (undoubled_at space false text) (λ _. Err (length text))

abbrev pub part_of : List ℕ → List ℕ
part_of word = cond (bytes_eq word (codes ".")) [] word

unfoldable pub part_at : List ℕ → Front (List ℕ)
part_at text = spaced_at text >>= λ x. Ok (part_of x.0, x.1)

unfoldable pub global_at : List ℕ → Read SymbolParts
global_at text =
    spaced_at text >>= λ s. part_at s.1 >>= λ m. part_at m.1 >>= λ n. part_at n.1 >>= λ v. descriptors_at v.1 >>= λ ds.
    Ok (Global (record { scheme = s.0; manager = m.0; name = n.0; version = v.0; descriptors = ds }))

abbrev pub local_of : List ℕ × List ℕ → Read SymbolParts
local_of (name, []) = Ok (Local name)
local_of (name, b ∷ rest) = Err (length (b ∷ rest))

unfoldable pub local_at : List ℕ → Read SymbolParts
local_at text = expect_at (codes " ") text >>= λ rest. simple_at rest >>= local_of

unfoldable pub symbol_at : List ℕ → Read SymbolParts
symbol_at text = choose (after (codes "local") text) (global_at text) local_at
