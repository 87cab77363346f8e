-- Tokens have at most one fault, and none if they derive a tree.
use Rattle.std.proofs.Common.{◌≡◌, ℕ, true, false, cond, List, [], ◌∷◌, ◌++◌, refl, sym, ◌∙◌, ap, subst, codes}
use Rattle.std.proofs.Common.{append_assoc}
use Rattle.proto_lex.specs.declared.token.TokenKind.{TokenKind}
use Rattle.proto_lex.specs.declared.token.TokenKind.TheVariants.{Identifier, StringLiteral, OpenBrace, OpenParenthesis}
use Rattle.proto_grammar.specs.declared.fault.SyntaxFault.{SyntaxFault}
use Rattle.proto_grammar.specs.declared.fault.SyntaxFault.TheVariants.{NotProto3, CustomOption, Aggregate, Extend}
use Rattle.proto_grammar.specs.declared.fault.SyntaxFault.TheVariants.{TwoPackages, ImportEscape, TooDeep, Grammar}
use Rattle.proto_grammar.specs.declared.dialect.CustomOptions.TheVariants.{Refuse, Skip}
use Rattle.proto_grammar.specs.declared.dialect.Dialect.{Dialect}
use Rattle.proto_grammar.specs.declared.dialect.Dialect.TheVariants.{Proto3}
use Rattle.proto_grammar.specs.declared.tree.File.{File}
use Rattle.proto_grammar.specs.Lexeme.{Lexeme, place_of}
use Rattle.proto_grammar.specs.Terminal.{is_kind, of_kind, is_word, offset_at}
use Rattle.proto_grammar.specs.Syntax.{custom_in}
use Rattle.proto_parse.specs.Faults.{is_of_custom_options}
use Rattle.proto_steps.specs.Limits.{max_message_depth}
use Rattle.proto_steps.specs.Step.{Refused}
use Rattle.proto_steps.specs.Grammar.Definitions.{syntax}
use Rattle.proto_steps.proofs.StepLaws.{one_fault as one_syntax_fault}
use Rattle.proto_parse.specs.Derives.{DerivesWithin}
use Rattle.proto_parse.specs.Refused.{GoesOn, IsWrong, NamesNoVersion, WouldGoOn, IsRefused, group_start}
use Rattle.proto_parse.specs.Refused.WouldGoOn.{custom_option, aggregate, extend, two_packages, import_escape, too_deep}
use Rattle.proto_parse.specs.Refused.WouldGoOn.{group_too_deep}
use Rattle.proto_parse.specs.Refused.IsRefused.{not_proto3, would_go_on, wrong, missing}
use Rattle.proto_grammar.proofs.TerminalTokenLemmas.{other_kind, other_word, word_kind}
use Rattle.proto_parse.proofs.RefusedSyntaxLemmas.{unnamed_told, named_by_syntax, syntax_of}

-- ---- what goes on

-- two lists that are one: their first items, and what is behind these
pub heads : {A : Type 0} {x y : A} {xs ys : List A} → x ∷ xs ≡ y ∷ ys → x ≡ y
heads e = cc

pub tails : {A : Type 0} {x y : A} {xs ys : List A} → x ∷ xs ≡ y ∷ ys → xs ≡ ys
tails e = cc

-- a front of a front that goes on goes on
goes_further : (levels : ℕ) (dialect : Dialect) (front : List Lexeme) (t : Lexeme) (m : List Lexeme)
    → GoesOn levels dialect (front ++ t ∷ m) → GoesOn levels dialect (front ++ t ∷ [])
goes_further levels dialect front t m on = record {
  more = m ++ on.more;
  tree = on.tree;
  is_file = subst (λ all. DerivesWithin levels dialect all on.tree)
      (append_assoc front (t ∷ m) on.more ∙ sym (append_assoc front (t ∷ []) (m ++ on.more))) on.is_file;
}

-- two places in one list
ordered : {P : Type 0} (f : List Lexeme) (t : Lexeme) (b g : List Lexeme) (u : Lexeme) (c : List Lexeme)
    → f ++ t ∷ b ≡ g ++ u ∷ c
    → (f ≡ g → t ≡ u → b ≡ c → P)
    → ((m : List Lexeme) → g ≡ f ++ t ∷ m → b ≡ m ++ u ∷ c → P)
    → ((m : List Lexeme) → f ≡ g ++ u ∷ m → c ≡ m ++ t ∷ b → P)
    → P
ordered [] t b [] u c e same before after = same refl (heads e) (tails e)
ordered [] t b (x ∷ g) u c e same before after =
    before g (ap (λ y. y ∷ g) (sym (heads e))) (tails e)
ordered (x ∷ f) t b [] u c e same before after =
    after f (ap (λ y. y ∷ f) (heads e)) (sym (tails e))
ordered (x ∷ f) t b (y ∷ g) u c e same before after =
    let head = heads e in
    ordered f t b g u c (tails e)
    (λ p q r. same (ap (λ z. z ∷ f) head ∙ ap (λ l. y ∷ l) p) q r)
    (λ m p r. before m (ap (λ z. z ∷ g) (sym head) ∙ ap (λ l. x ∷ l) p) r)
    (λ m p r. after m (ap (λ z. z ∷ f) head ∙ ap (λ l. y ∷ l) p) r)

-- only one token is wrong
not_both : (dialect : Dialect) (f : List Lexeme) (t : Lexeme) (g : List Lexeme) (u : Lexeme) (m : List Lexeme)
    → IsWrong dialect f t → IsWrong dialect g u → g ≡ f ++ t ∷ m → ⊥
not_both dialect f t g u m v w p =
    v.here (goes_further max_message_depth dialect f t m
    (subst (λ front. GoesOn max_message_depth dialect front) p w.before))

wrong_once : {P : Type 0} (dialect : Dialect) (f : List Lexeme) (t : Lexeme) (b g : List Lexeme) (u : Lexeme)
    (c : List Lexeme) → IsWrong dialect f t → IsWrong dialect g u → f ++ t ∷ b ≡ g ++ u ∷ c
    → (f ≡ g → t ≡ u → b ≡ c → P) → P
wrong_once dialect f t b g u c v w e same =
    ordered f t b g u c e same
    (λ m p r. absurd (not_both dialect f t g u m v w p))
    (λ m p r. absurd (not_both dialect g u f t m w v p))

-- where all tokens go on, none is wrong
none_wrong : (dialect : Dialect) (tokens f : List Lexeme) (t : Lexeme) (b : List Lexeme)
    → GoesOn max_message_depth dialect tokens → tokens ≡ f ++ t ∷ b → IsWrong dialect f t → ⊥
none_wrong dialect tokens f t b on e w =
    w.here (goes_further max_message_depth dialect f t b
    (subst (λ all. GoesOn max_message_depth dialect all) e on))

-- ---- versions

-- the fault of a version that isn't accepted, at the tokens
told_at : {dialect : Dialect} {tokens f a : List Lexeme} (end : ℕ) → tokens ≡ f ++ a → NamesNoVersion dialect f a
    → (l : List Lexeme) × Refused (syntax dialect) end tokens (NotProto3 (offset_at (place_of end a))) l
told_at {dialect} {a = a} end e n =
    let told = unnamed_told n end in
    (told.0, subst (λ z. Refused (syntax dialect) end z (NotProto3 (offset_at (place_of end a))) told.0) (sym e) told.1)

version_once : {dialect : Dialect} {tokens f a g b : List Lexeme} (end : ℕ) → tokens ≡ f ++ a
    → NamesNoVersion dialect f a → tokens ≡ g ++ b → NamesNoVersion dialect g b
    → NotProto3 (offset_at (place_of end a)) ≡ NotProto3 (offset_at (place_of end b))
version_once {dialect} {tokens} {a = a} {b = b} end e n e' n' =
    let told = told_at end e n in
    let second = told_at end e' n' in
    one_syntax_fault (syntax dialect) end tokens told.0 second.0 (NotProto3 (offset_at (place_of end a)))
    (NotProto3 (offset_at (place_of end b))) told.1 second.1

-- ---- kinds

-- which fault it is, by the token
abbrev kind_of : List Lexeme → Lexeme → SyntaxFault
kind_of front t =
    cond (of_kind OpenParenthesis t) (CustomOption t.span.start)
    (cond (of_kind OpenBrace t) (Aggregate t.span.start)
    (cond (of_kind StringLiteral t) (ImportEscape t.span.start)
    (cond (is_word (codes "extend") t) (Extend t.span.start)
    (cond (is_word (codes "package") t) (TwoPackages t.span.start)
    (cond (is_word (codes "message") t) (TooDeep t.span.start)
    (TooDeep (group_start front t)))))))

word_no : (word : List ℕ) (kind : TokenKind) (t : Lexeme) → is_kind kind Identifier ≡ false → is_word word t ≡ true
    → of_kind kind t ≡ false
word_no word kind t differs is = other_kind Identifier kind t differs (word_kind word t is)

kind_is : (dialect : Dialect) (front : List Lexeme) (t : Lexeme) {fault : SyntaxFault}
    → WouldGoOn dialect front t fault → fault ≡ kind_of front t
kind_is dialect front t (custom_option d is on) = rw is refl
kind_is dialect front t (aggregate d is on) = rw (other_kind OpenBrace OpenParenthesis t refl is, is) refl
kind_is dialect front t (import_escape plain is escaped p on) =
    rw (
      other_kind StringLiteral OpenParenthesis t refl is,
      other_kind StringLiteral OpenBrace t refl is,
      is,
    ) refl
kind_is dialect front t (extend d is on) =
    rw (
      word_no (codes "extend") OpenParenthesis t refl is,
      word_no (codes "extend") OpenBrace t refl is,
      word_no (codes "extend") StringLiteral t refl is,
      is,
    ) refl
kind_is dialect front t (two_packages tree is d some) =
    rw (
      word_no (codes "package") OpenParenthesis t refl is,
      word_no (codes "package") OpenBrace t refl is,
      word_no (codes "package") StringLiteral t refl is,
      other_word (codes "package") (codes "extend") t refl is,
      is,
    ) refl
kind_is dialect front t (too_deep is on) =
    rw (
      word_no (codes "message") OpenParenthesis t refl is,
      word_no (codes "message") OpenBrace t refl is,
      word_no (codes "message") StringLiteral t refl is,
      other_word (codes "message") (codes "extend") t refl is,
      other_word (codes "message") (codes "package") t refl is,
      is,
    ) refl
kind_is dialect front t (group_too_deep is on) =
    rw (
      word_no (codes "group") OpenParenthesis t refl is,
      word_no (codes "group") OpenBrace t refl is,
      word_no (codes "group") StringLiteral t refl is,
      other_word (codes "group") (codes "extend") t refl is,
      other_word (codes "group") (codes "package") t refl is,
      other_word (codes "group") (codes "message") t refl is,
    ) refl

kind_once : (dialect : Dialect) (f : List Lexeme) (t : Lexeme) (g : List Lexeme) (u : Lexeme)
    {fault second : SyntaxFault} → WouldGoOn dialect f t fault → WouldGoOn dialect g u second → f ≡ g → t ≡ u
    → fault ≡ second
kind_once dialect f t g u v w p q =
    kind_is dialect f t v ∙ ap (λ x. kind_of x t) p ∙ ap (λ y. kind_of g y) q ∙ sym (kind_is dialect g u w)

moved : (dialect : Dialect) (f : List Lexeme) (t : Lexeme) (g : List Lexeme) (u : Lexeme)
    {fault : SyntaxFault} → WouldGoOn dialect f t fault → f ≡ g → t ≡ u → WouldGoOn dialect g u fault
moved dialect f t g u {fault} v p q =
    subst (λ x. WouldGoOn dialect g x fault) q (subst (λ x. WouldGoOn dialect x t fault) p v)

-- ---- the laws

pub one_fault : {dialect : Dialect} {tokens : List Lexeme} {end : ℕ} {fault second : SyntaxFault}
    → IsRefused dialect tokens end fault → IsRefused dialect tokens end second → fault ≡ second
one_fault {end = end} (not_proto3 e n) (not_proto3 e' n') = version_once end e n e' n'
one_fault (not_proto3 e n) (would_go_on b v e' w g) = absurd (v _ _ e n)
one_fault (not_proto3 e n) (wrong b v e' w none) = absurd (v _ _ e n)
one_fault (not_proto3 e n) (missing v on none) = absurd (v _ _ e n)
one_fault (would_go_on b v e w g) (not_proto3 e' n) = absurd (v _ _ e' n)
one_fault (wrong b v e w none) (not_proto3 e' n) = absurd (v _ _ e' n)
one_fault (missing v on none) (not_proto3 e n) = absurd (v _ _ e n)
one_fault {dialect} (would_go_on {front = f} {t = t} b v e w g)
    (would_go_on {front = h} {t = u} c v' e' w' g') =
    wrong_once dialect f t b h u c w w' (sym e ∙ e') (λ p q r. kind_once dialect f t h u g g' p q)
one_fault {dialect} {fault = fault} (would_go_on {front = f} {t = t} b v e w g)
    (wrong {front = h} {t = u} c v' e' w' none) =
    wrong_once dialect f t b h u c w w' (sym e ∙ e') (λ p q r. absurd (none fault (moved dialect f t h u g p q)))
one_fault {dialect} {second = fault} (wrong {front = h} {t = u} c v e w none)
    (would_go_on {front = f} {t = t} b v' e' w' g) =
    wrong_once dialect f t b h u c w' w (sym e' ∙ e) (λ p q r. absurd (none fault (moved dialect f t h u g p q)))
one_fault {dialect} (wrong {front = f} {t = t} b v e w none)
    (wrong {front = h} {t = u} c v' e' w' none') =
    wrong_once dialect f t b h u c w w' (sym e ∙ e') (λ p q r. ap (λ (t : Lexeme). Grammar t.span.start) q)
one_fault {dialect} {tokens} (missing v on none) (would_go_on {front = f} {t = t} b v' e w g) =
    absurd (none_wrong dialect tokens f t b on e w)
one_fault {dialect} {tokens} (missing v on none) (wrong {front = f} {t = t} b v' e w none') =
    absurd (none_wrong dialect tokens f t b on e w)
one_fault {dialect} {tokens} (would_go_on {front = f} {t = t} b v e w g) (missing v' on none) =
    absurd (none_wrong dialect tokens f t b on e w)
one_fault {dialect} {tokens} (wrong {front = f} {t = t} b v e w none') (missing v' on none) =
    absurd (none_wrong dialect tokens f t b on e w)
one_fault (missing v on none) (missing v' on' none') = refl

-- a file begins with each of its fronts
begins : (dialect : Dialect) (tokens f : List Lexeme) (t : Lexeme) (b : List Lexeme) (tree : File)
    → DerivesWithin max_message_depth dialect tokens tree → tokens ≡ f ++ t ∷ b → GoesOn max_message_depth dialect
    (f ++ t ∷ [])
begins dialect tokens f t b tree d e = record {
  more = b;
  tree = tree;
  is_file = subst (λ all. DerivesWithin max_message_depth dialect all tree) (e ∙ sym (append_assoc f (t ∷ []) b)) d;
}

pub no_fault : {dialect : Dialect} {tokens : List Lexeme} {end : ℕ} {fault : SyntaxFault} (tree : File)
    → DerivesWithin max_message_depth dialect tokens tree → IsRefused dialect tokens end fault → ⊥
no_fault {dialect} {tokens} tree d (not_proto3 e n) =
    let s = syntax_of max_message_depth dialect tokens tree d in named_by_syntax dialect tokens s.1 s.0 s.2 _ _ e n
no_fault {dialect} {tokens} tree d (would_go_on {front = f} {t = t} b v e w g) =
    w.here (begins dialect tokens f t b tree d e)
no_fault {dialect} {tokens} tree d (wrong {front = f} {t = t} b v e w none) =
    w.here (begins dialect tokens f t b tree d e)
no_fault tree d (missing v on none) = none tree d

-- ---- where custom options are read past

never_refused : {dialect : Dialect} → custom_in dialect ≡ Skip → dialect ≡ Proto3 Refuse → true ≡ false
never_refused skips is = let same : Refuse ≡ Skip = sym (ap custom_in is) ∙ skips in cc

no_option : {dialect : Dialect} {front : List Lexeme} {t : Lexeme} {fault : SyntaxFault}
    → custom_in dialect ≡ Skip → WouldGoOn dialect front t fault → is_of_custom_options fault ≡ false
no_option skips (custom_option is k on) = never_refused skips is
no_option skips (aggregate is k on) = never_refused skips is
no_option skips (extend is k on) = never_refused skips is
no_option skips (two_packages tree is d some) = refl
no_option skips (import_escape plain is escaped p on) = refl
no_option skips (too_deep is on) = refl
no_option skips (group_too_deep is on) = refl

pub no_option_fault : {dialect : Dialect} {tokens : List Lexeme} {end : ℕ} {fault : SyntaxFault}
    → custom_in dialect ≡ Skip → IsRefused dialect tokens end fault → is_of_custom_options fault ≡ false
no_option_fault skips (not_proto3 e n) = refl
no_option_fault skips (would_go_on b v e w g) = no_option skips g
no_option_fault skips (wrong b v e w none) = refl
no_option_fault skips (missing v on none) = refl
