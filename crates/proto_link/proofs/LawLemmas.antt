-- Proofs of the laws.
use Rattle.std.proofs.Common.{◌≡◌, inl, inr, ℕ, Bool, List, ◌∷◌, refl, ap, subst}
use Rattle.std.proofs.lemmas.Bool.{cases_order}
use Rattle.proto_decl.specs.Names.{qualified, dotted}
use Rattle.proto_decl.proofs.ScopeLemmas.{one_around}
use Rattle.proto_visibility.specs.Files.{File}
use Rattle.proto_visibility.specs.Knows.{NameKind}
use Rattle.proto_link.specs.Resolves.{Innermost, ResolvesIn}
use Rattle.proto_link.specs.Resolves.Innermost.{here, farther}
use Rattle.proto_link.specs.Resolves.ResolvesIn.{absolute, single, extended, compound}
use Rattle.proto_link.specs.Laws.{OneNameAUse, OneBrokenFile}

pub one_scope : {files : List File} {file : ℕ} {admits : NameKind → Bool} {word from a b : List ℕ}
    → Innermost files file admits word from a → Innermost files file admits word from b → a ≡ b
one_scope (here k) (here l) = refl
one_scope (here k) (farther absent is m) = absurd (absent k)
one_scope (farther absent is m) (here l) = absurd (absent l)
one_scope {files} {file} {admits} {word} {a = a} (farther absent is m) (farther none also n) =
    one_scope (subst (λ (outer : List ℕ). Innermost files file admits word outer a) (one_around is also) m) n

one_name : {files : List File} {file : ℕ} {is_extended has_dot : Bool} {words : List (List ℕ)} {from a b : List ℕ}
    → ResolvesIn files file is_extended has_dot words from a → ResolvesIn files file is_extended has_dot words from b
    → a ≡ b
one_name (absolute k) (absolute l) = refl
one_name (single {word = word} m) (single n) = ap (λ scope. qualified scope word) (one_scope m n)
one_name (extended {word = word} m k) (extended n l) = ap (λ scope. qualified scope word) (one_scope m n)
one_name (compound {first = first} {second = second} {others = others} m k) (compound n l) =
    ap (λ scope. qualified scope (dotted (first ∷ (second ∷ others)))) (one_scope m n)

pub one_name_a_use : OneNameAUse
one_name_a_use files file type_use name other first second = one_name first second

pub one_broken_file : OneBrokenFile
one_broken_file files number other first second = elim (cases_order number other) [
  | inl same ↦ same
  | inr apart ↦ elim apart [
    | inl less ↦ absurd (second.least number first.unread less)
    | inr more ↦ absurd
        (first.least other second.unread more)
  ]
]
