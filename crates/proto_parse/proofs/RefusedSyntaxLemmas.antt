-- The fault of a syntax statement that isn't read.
use Rattle.std.proofs.Common.{◌≡◌, ℕ, suc, ◌<◌, Bool, true, false, ◌&&◌, List, [], ◌∷◌, ◌++◌, ◌⊎◌, inl, inr, refl, sym}
use Rattle.std.proofs.Common.{ap, subst, subst₂, ◌∙◌, length, append_assoc, bytes_eq, codes}
use Rattle.std.proofs.lemmas.Bool.{lt-ltb}
use Rattle.std.proofs.lemmas.List.{append-nil}
use Rattle.std.proofs.lemmas.Slice.Eq.{bytes_eq-Decides}
use Rattle.proto_lex.specs.declared.span.Span.{Span}
use Rattle.proto_lex.specs.declared.token.TokenKind.TheVariants.{StringLiteral, Semicolon, Equals}
use Rattle.proto_grammar.specs.declared.fault.SyntaxFault.{SyntaxFault}
use Rattle.proto_grammar.specs.declared.fault.SyntaxFault.TheVariants.{NotProto3, Grammar}
use Rattle.proto_grammar.specs.declared.dialect.CustomOptions.TheVariants.{Refuse, Skip}
use Rattle.proto_grammar.specs.declared.dialect.Dialect.{Dialect}
use Rattle.proto_grammar.specs.declared.dialect.Dialect.TheVariants.{Proto3, All}
use Rattle.proto_grammar.specs.declared.dialect.Syntax.{Syntax}
use Rattle.proto_grammar.specs.declared.dialect.Syntax.TheVariants as grammar
use Rattle.proto_grammar.specs.declared.tree.File.{File}
use Rattle.proto_grammar.specs.Lexeme.{Lexeme, place_of}
use Rattle.proto_grammar.specs.Syntax.{proto3_in, is_all}
use Rattle.proto_grammar.specs.Terminal.{first_is, of_kind, is_word, offset_at}
use Rattle.proto_grammar.proofs.TerminalTokenLemmas.{other_kind, next_other_word}
use Rattle.proto_steps.specs.Limits.{max_message_depth}
use Rattle.proto_steps.specs.Step.{Step, Done, when, Derives, Refused, Breaks, wrong_at, ◌>>=◌}
use Rattle.proto_steps.specs.Step.Turns.{ended}
use Rattle.proto_steps.specs.Step.Breaks.{here, idle, later}
use Rattle.proto_steps.specs.Terminals.{like}
use Rattle.proto_steps.specs.Grammar.Definitions.{content, more_contents, accepted, spelled, version, syntax_statement}
use Rattle.proto_steps.specs.Grammar.Definitions.{syntax, empty_file, file_statements, file}
use Rattle.proto_steps.proofs.TurnLemmas.{by_bool, either}
use Rattle.proto_steps.proofs.StepLaws.{not_both, one_fault}
use Rattle.proto_steps.proofs.FirstLemmas.{like_front, like_first, first_fault}
use Rattle.proto_steps.proofs.MoveLemmas.{moves}
use Rattle.proto_steps.proofs.AmongFileLemmas.{syntax_among}
use Rattle.proto_steps.proofs.EndLemmas.{cut}
use Rattle.proto_steps.proofs.EndFileLemmas.{syntax_statement_ends}
use Rattle.proto_steps.proofs.ExplainLemmas.{IsLiteral, plain_literal}
use Rattle.proto_parse.specs.Derives.{DerivesWithin}
use Rattle.proto_parse.specs.Refused.{GoesOn, NamesNoVersion, NamesAVersion, WouldGoOn, IsRefused}
use Rattle.proto_parse.specs.Refused.NamesNoVersion.{no_statement, edition, other}
use Rattle.proto_parse.specs.Refused.WouldGoOn.{custom_option, aggregate, extend, two_packages, import_escape, too_deep}
use Rattle.proto_parse.specs.Refused.WouldGoOn.{group_too_deep}
use Rattle.proto_parse.specs.Refused.IsRefused.{not_proto3, wrong, missing}
use Rattle.proto_parse.proofs.SyntaxFrontLemmas.{literal_first, version_any, version_over}

-- ---- a version that isn't accepted is told

when_no : {A : Type 0} (b : Bool) (p q : Step A) (end : ℕ) (a l : List Lexeme) (e : SyntaxFault) → b ≡ false
    → Refused q end a e l → Refused (when b p q) end a e l
when_no true p q end a l e off r = absurd (let never : true ≡ false = off in cc)
when_no false p q end a l e off r = r

differs : (text word : List ℕ) → (text ≡ word → ⊥) → bytes_eq text word ≡ false
differs text word never =
    by_bool (bytes_eq text word) (λ is. absurd (never ((bytes_eq-Decides text word).0 is))) (λ off. off)

not_proto2 : (dialect : Dialect) (text : List ℕ) → (dialect ≡ All → text ≡ codes "proto2" → ⊥)
    → (bytes_eq text (codes "proto2") && is_all dialect) ≡ false
not_proto2 (Proto3 custom) text never =
    by_bool (bytes_eq text (codes "proto2")) (λ is. rw is refl) (λ off. rw off refl)
not_proto2 All text never = rw (differs text (codes "proto2") (never refl)) refl

-- the fault of a version that isn't accepted
abbrev Told : Dialect → (end : ℕ) → List Lexeme → List Lexeme → Type 0
Told dialect end tokens a =
    (l : List Lexeme) × Refused (syntax dialect) end tokens (NotProto3 (offset_at (place_of end a))) l

pub unnamed_told : {dialect : Dialect} {f a : List Lexeme} → NamesNoVersion dialect f a → (end : ℕ)
    → Told dialect end (f ++ a) a
unfolding syntax syntax_statement version spelled accepted content more_contents
unnamed_told (no_statement {a = a} off) end = (
  a,
  inr (
    off,
    by_bool (first_is (is_word (codes "edition")) a) (λ is. inl (is, (refl, refl)))
        (λ off_edition. inr (off_edition, (refl, refl))),
  ),
)
unnamed_told (edition {a = a} is) end =
    (a, inr (next_other_word (codes "edition") (codes "syntax") a refl is, inl (is, (refl, refl))))
unnamed_told (other {dialect} {keyword = k} {equals = q} {a = a} {text = text} b ke qe d no3 no2) end =
    let first = d.2 in (
      b,
      inl (
        ke,
        inr (
          k.span,
          q ∷ a,
          (k, refl, ke, refl),
          inr (
            q.span,
            a,
            (q, refl, qe, refl),
            inl (inr (
              first.0,
              first.1,
              first.2,
              inr (
                d.0,
                d.1,
                first,
                inr (
                  text,
                  b,
                  d.3,
                  when_no (bytes_eq text (codes "proto3")) _ _ end b b _ (differs text (codes "proto3") no3)
                      (when_no (bytes_eq text (codes "proto2") && is_all dialect) _ _ end b b _
                      (not_proto2 dialect text no2)
                      (refl, ap (λ z. NotProto3 (offset_at (place_of end z))) first.2)),
                ),
              ),
            )),
          ),
        ),
      ),
    )

-- so it isn't another fault
pub named_by_fault : (dialect : Dialect) (end : ℕ) (tokens l : List Lexeme) (e : SyntaxFault) → e ≡ wrong_at end l
    → Refused (syntax dialect) end tokens e l → NamesAVersion dialect tokens
named_by_fault dialect end tokens l e same r front behind whole names =
    let told = unnamed_told names end in
    let faults : NotProto3 (offset_at (place_of end behind)) ≡ e =
    one_fault (syntax dialect) end tokens told.0 l (NotProto3 (offset_at (place_of end behind))) e
    (subst (λ z. Refused (syntax dialect) end z (NotProto3 (offset_at (place_of end behind))) told.0) (sym whole)
    told.1) r in
    let never : NotProto3 (offset_at (place_of end behind)) ≡ Grammar (offset_at (place_of end l)) =
    faults ∙ same in
    cc

-- and what is read names one
pub named_by_syntax : (dialect : Dialect) (a b : List Lexeme) (x : Syntax) → Derives (syntax dialect) a x b
    → NamesAVersion dialect a
named_by_syntax dialect a b x d front behind whole names =
    let told = unnamed_told names 0 in
    not_both (syntax dialect) 0 a b told.0 x (NotProto3 (offset_at (place_of 0 behind))) d
    (subst (λ z. Refused (syntax dialect) 0 z (NotProto3 (offset_at (place_of 0 behind))) told.0) (sym whole) told.1)

-- ---- a statement that is cut

-- a file has its syntax statement
pub syntax_of : (levels : ℕ) (dialect : Dialect) (a : List Lexeme) (tree : File) → DerivesWithin levels dialect a tree
    → (x : Syntax) × (b : List Lexeme) × Derives (syntax dialect) a x b
unfolding file
syntax_of levels dialect a tree d = (d.0, d.1, d.2)

-- a statement that is whole in front of other tokens
whole_statement : (dialect : Dialect) (f l b : List Lexeme) (x : Syntax) → first_is (is_word (codes "syntax")) f ≡ true
    → Derives (syntax dialect) f x b → Derives (syntax dialect) (f ++ l) x (b ++ l)
unfolding syntax
whole_statement dialect f l b x is (inl d) =
    let k = cut (syntax_statement dialect) (syntax_statement_ends dialect) f b x d.1 in
    let whole : f ++ l ≡ k.front ++ k.last ∷ (b ++ l) =
    ap (λ z. z ++ l) k.whole ∙ append_assoc k.front (k.last ∷ b) l in
    subst (λ z. Derives (syntax dialect) z x (b ++ l)) (sym whole)
    (inl (
      sym (like_first k.last b (b ++ l) (is_word (codes "syntax")) (like_front k.last b (b ++ l) k.front))
          ∙ ap (first_is (is_word (codes "syntax"))) (sym k.whole) ∙ d.0,
      k.before_any (b ++ l),
    ))
whole_statement dialect f l b x is (inr d) = absurd (let never : true ≡ false = sym is ∙ d.0 in cc)

module _ (dialect : Dialect) (end : ℕ) (tokens l : List Lexeme) (e : SyntaxFault)
    (r : Refused (syntax dialect) end tokens e l) (same : e ≡ wrong_at end l) (f : List Lexeme)
    (whole : tokens ≡ f ++ l) (begins : first_is (is_word (codes "syntax")) f ≡ true) (more : List Lexeme)
    (finished : DerivesWithin max_message_depth dialect (f ++ more) empty_file)
    (swap : (t : Lexeme) (b : List Lexeme) → l ≡ t ∷ b → IsLiteral t → (u : Lexeme) (c : List Lexeme) → IsLiteral u
    → (x : SyntaxFault) × (m : List Lexeme) × Refused (syntax dialect) end (f ++ u ∷ c) x m) where
  cut_goes_on : GoesOn max_message_depth dialect f
  cut_goes_on = record { more = more; tree = empty_file; is_file = finished }

  -- nothing that begins so has a statement
  no_statement_at : (t : Lexeme) (b c m : List Lexeme) (x : Syntax) → l ≡ t ∷ b
      → Derives (syntax dialect) (f ++ t ∷ c) x m → ⊥
  no_statement_at t b c m x at d =
      first_fault (syntax dialect) end f t b c e
      (subst₂ (λ z w. Refused (syntax dialect) end z e w) (whole ∙ ap (λ z. f ++ z) at) at r) x m d

  no_statement_alone : (tree : File) → DerivesWithin max_message_depth dialect f tree → ⊥
  no_statement_alone tree d =
      let s = syntax_of max_message_depth dialect f tree d in
      not_both (syntax dialect) end tokens (s.1 ++ l) l s.0 e
      (subst (λ z. Derives (syntax dialect) z s.0 (s.1 ++ l)) (sym whole)
      (whole_statement dialect f l s.1 s.0 begins s.2))
      r

  on_by : (levels : ℕ) (t : Lexeme) (b : List Lexeme) → l ≡ t ∷ b → GoesOn levels dialect (f ++ t ∷ []) → ⊥
  on_by levels t b at g =
      let s = syntax_of levels dialect ((f ++ t ∷ []) ++ g.more) g.tree g.is_file in
      no_statement_at t b g.more s.1 s.0 at
      (subst (λ z. Derives (syntax dialect) z s.0 s.1) (append_assoc f (t ∷ []) g.more) s.2)

  skipped_by : dialect ≡ Proto3 Refuse → (t : Lexeme) (b : List Lexeme) → l ≡ t ∷ b
      → GoesOn max_message_depth (Proto3 Skip) (f ++ t ∷ []) → ⊥
  skipped_by only t b at g =
      let s = syntax_of max_message_depth (Proto3 Skip) ((f ++ t ∷ []) ++ g.more) g.tree g.is_file in
      let refusing = (syntax_among Skip (Proto3 Refuse) ((f ++ t ∷ []) ++ g.more) s.1 s.0 s.2).1 in
      no_statement_at t b g.more s.1 (grammar.Proto3 Refuse) at
      (subst₂ (λ z w. Derives (syntax w) z (grammar.Proto3 Refuse) s.1) (append_assoc f (t ∷ []) g.more) (sym only)
      refusing)

  literal_by : (t : Lexeme) (b : List Lexeme) → l ≡ t ∷ b → IsLiteral t → (u : Lexeme) → IsLiteral u
      → GoesOn max_message_depth dialect (f ++ u ∷ []) → ⊥
  literal_by t b at is u lit_u g =
      let s = syntax_of max_message_depth dialect ((f ++ u ∷ []) ++ g.more) g.tree g.is_file in
      let q = swap t b at is u g.more lit_u in
      not_both (syntax dialect) end (f ++ u ∷ g.more) s.1 q.1 s.0 q.0
      (subst (λ z. Derives (syntax dialect) z s.0 s.1) (append_assoc f (u ∷ []) g.more) s.2) q.2

  none_would : (t : Lexeme) (b : List Lexeme) → l ≡ t ∷ b → (x : SyntaxFault) → WouldGoOn dialect f t x → ⊥
  none_would t b at x (custom_option only is g) = skipped_by only t b at g
  none_would t b at x (aggregate only is g) = skipped_by only t b at g
  none_would t b at x (extend only is g) = skipped_by only t b at g
  none_would t b at x (two_packages tree is d some) = no_statement_alone tree d
  none_would t b at x (import_escape u is escaped plain g) =
      literal_by t b at is u (plain_literal u plain) g
  none_would t b at x (too_deep is g) = on_by (suc max_message_depth) t b at g
  none_would t b at x (group_too_deep is g) = on_by (suc max_message_depth) t b at g

  named : NamesAVersion dialect tokens
  named = named_by_fault dialect end tokens l e same r

  cut_by : (m : List Lexeme) → l ≡ m → IsRefused dialect tokens end e
  cut_by [] at =
      subst (λ x. IsRefused dialect tokens end x) (sym (same ∙ ap (λ z. wrong_at end z) at))
      (missing named
      (subst (λ z. GoesOn max_message_depth dialect z)
      (sym (whole ∙ ap (λ z. f ++ z) at ∙ append-nil f)) cut_goes_on)
      (λ tree d.
      let s = syntax_of max_message_depth dialect tokens tree d in
      not_both (syntax dialect) end tokens s.1 l s.0 e s.2 r))
  cut_by (t ∷ b) at =
      subst (λ x. IsRefused dialect tokens end x) (sym (same ∙ ap (λ z. wrong_at end z) at))
      (wrong {front = f} {t = t} b named (whole ∙ ap (λ z. f ++ z) at)
      (record { before = cut_goes_on; here = on_by max_message_depth t b at }) (none_would t b at))

  pub cut_refused : IsRefused dialect tokens end e
  cut_refused = cut_by l refl

-- ---- the fault of a statement

proto3_literal : Lexeme
proto3_literal = like StringLiteral (codes "\"proto3\"")

-- a statement and nothing behind it is a file
closed_file : (dialect : Dialect) (k q : Lexeme) (g : List Lexeme) (x : Syntax) → is_word (codes "syntax") k ≡ true
    → of_kind Equals q ≡ true → Derives (version dialect) (g ++ like Semicolon [] ∷ []) x (like Semicolon [] ∷ [])
    → DerivesWithin max_message_depth dialect (k ∷ (q ∷ (g ++ like Semicolon [] ∷ []))) empty_file
unfolding file syntax syntax_statement file_statements
closed_file dialect k q g x ke qe d =
    let semicolon = like Semicolon [] in (
      x,
      [],
      inl (
        ke,
        (
          k.span,
          q ∷ (g ++ semicolon ∷ []),
          (k, refl, ke, refl),
          (
            q.span,
            g ++ semicolon ∷ [],
            (q, refl, qe, refl),
            (x, semicolon ∷ [], d, (semicolon.span, [], (semicolon, refl, refl, refl), (refl, refl))),
          ),
        ),
      ),
      ended refl,
    )

proto3_read : (dialect : Dialect)
    → Derives (version dialect) (proto3_literal ∷ (like Semicolon [] ∷ [])) (proto3_in dialect) (like Semicolon [] ∷ [])
unfolding version spelled accepted content more_contents proto3_literal
proto3_read dialect =
    let rest = like Semicolon [] ∷ [] in (
      proto3_literal,
      rest,
      refl,
      (
        codes "proto3",
        rest,
        (
          proto3_literal,
          rest,
          refl,
          (proto3_literal.span, rest, (proto3_literal, refl, refl, refl), (refl, refl)),
        ),
        (codes "proto3", rest, ended refl, (refl, refl)),
      ),
    )

content_refused : (end : ℕ) (a l : List Lexeme) (e : SyntaxFault) → Refused content end a e l
    → (literal_first a ≡ false) × (l ≡ a) × (e ≡ wrong_at end a)
unfolding content
content_refused end a l e (inl r) =
    (ap literal_first r.0, r.1 ∙ sym r.0, r.2 ∙ ap (λ z. wrong_at end z) (sym r.0))
content_refused end a l e (inr (t, rest, text, inl r)) = r
content_refused end a l e (inr (t, rest, text, inr r)) = absurd r.3

content_moves : (a b : List Lexeme) (x : List ℕ) → Derives content a x b → length b < length a
unfolding content
content_moves a b x d = moves content (λ t. inl tt) a b x d

-- more literals are never refused
more_never : (end : ℕ) {s : List ℕ} {a l : List Lexeme} {e : SyntaxFault}
    → Breaks (of_kind StringLiteral) (λ v. Derives (content >>= λ more. Done (v ++ more)))
    (λ v c. Refused (content >>= λ more. Done (v ++ more)) end c) end s a e l → ⊥
more_never end (here {a = a} {l = l} {e = e} go (inl r)) =
    let never : true ≡ false = sym go ∙ (content_refused end a l e r).0 in cc
more_never end (here go (inr r)) = r.3
more_never end (idle {a = a} {b = b} go one no_less) =
    let less = content_moves a one.1 one.0 one.2 in
    let shorter : length b < length a = subst (λ z. length z < length a) (sym one.3.1) less in
    let never : true ≡ false = sym (lt-ltb _ _ shorter) ∙ no_less in cc
more_never end (later go one less r) = more_never end r

refused_when : {A : Type 0} (b : Bool) (p q : Step A) (end : ℕ) (a l : List Lexeme) (e : SyntaxFault)
    → Refused (when b p q) end a e l → ((b ≡ true) × Refused p end a e l) ⊎ ((b ≡ false) × Refused q end a e l)
refused_when true p q end a l e r = inl (refl, r)
refused_when false p q end a l e r = inr (refl, r)

is_same : (text : List ℕ) (word : List ℕ) → bytes_eq text word ≡ false → text ≡ word → ⊥
is_same text word off same =
    let never : true ≡ false = sym ((bytes_eq-Decides text word).1 same) ∙ off in cc

-- what isn't accepted is another version
accepted_refused : (dialect : Dialect) (first : Span) (text : List ℕ) (end : ℕ) (a l : List Lexeme) (e : SyntaxFault)
    → Refused (accepted dialect first text) end a e l
    → (text ≡ codes "proto3" → ⊥) × (dialect ≡ All → text ≡ codes "proto2" → ⊥) × (e ≡ NotProto3 first.start)
unfolding accepted
accepted_refused dialect first text end a l e r =
    either (refused_when (bytes_eq text (codes "proto3")) _ _ end a l e r) (λ s. absurd s.1)
    (λ s.
    either (refused_when (bytes_eq text (codes "proto2") && is_all dialect) _ _ end a l e s.1) (λ q. absurd q.1)
    (λ q. (
      is_same text (codes "proto3") s.0,
      λ only same.
          let off : (bytes_eq text (codes "proto2") && true) ≡ false =
          subst (λ d. (bytes_eq text (codes "proto2") && is_all d) ≡ false) only q.0 in
          let is : bytes_eq text (codes "proto2") ≡ true = (bytes_eq-Decides text (codes "proto2")).1 same in
          let never : true ≡ false = sym (ap (λ z. z && true) is) ∙ off in
          cc,
      q.1.1,
    )))

-- at a literal where none can be
not_literal : {P : Type 0} (a : List Lexeme) (t : Lexeme) (b : List Lexeme) → literal_first a ≡ false → a ≡ t ∷ b
    → IsLiteral t → P
not_literal a t b off at is =
    absurd (let never : true ≡ false = sym is ∙ ap literal_first (sym at) ∙ off in cc)

-- no literal is behind the word
at_word : (dialect : Dialect) (end : ℕ) (k : Lexeme) → is_word (codes "syntax") k ≡ true → (u : Lexeme)
    (c : List Lexeme) → IsLiteral u
    → (x : SyntaxFault) × (m : List Lexeme) × Refused (syntax dialect) end (k ∷ (u ∷ c)) x m
unfolding syntax syntax_statement
at_word dialect end k ke u c lit_u = (
  wrong_at end (u ∷ c),
  u ∷ c,
  inl (
    ke,
    inr (k.span, u ∷ c, (k, refl, ke, refl), inl (other_kind StringLiteral Equals u refl lit_u, refl, refl)),
  ),
)

module _ (dialect : Dialect) (end : ℕ) (tokens : List Lexeme) (l : List Lexeme) (e : SyntaxFault)
    (r : Refused (syntax dialect) end tokens e l) (k : Lexeme) (ke : is_word (codes "syntax") k ≡ true)
    (a : List Lexeme) (text : tokens ≡ k ∷ a) where
  -- behind the word
  word_refused : first_is (of_kind Equals) a ≡ false → l ≡ a → e ≡ wrong_at end a → IsRefused dialect tokens end e
  word_refused off at same =
      cut_refused dialect end tokens l e r (same ∙ ap (λ z. wrong_at end z) (sym at)) (k ∷ [])
      (text ∙ ap (λ z. k ∷ z) (sym at)) ke (like Equals [] ∷ (proto3_literal ∷ (like Semicolon [] ∷ [])))
      (closed_file dialect k (like Equals []) (proto3_literal ∷ []) (proto3_in dialect) ke refl (proto3_read dialect))
      (λ t b here is u c lit_u. at_word dialect end k ke u c lit_u)

  module _ (q : Lexeme) (qe : of_kind Equals q ≡ true) (b : List Lexeme) (rest : a ≡ q ∷ b) where
    whole : tokens ≡ k ∷ (q ∷ b)
    whole = text ∙ ap (λ z. k ∷ z) rest

    -- behind `=`, where no literal is next
    equals_refused : literal_first b ≡ false → l ≡ b → e ≡ wrong_at end b → IsRefused dialect tokens end e
    equals_refused off at same =
        cut_refused dialect end tokens l e r (same ∙ ap (λ z. wrong_at end z) (sym at)) (k ∷ (q ∷ []))
        (whole ∙ ap (λ z. k ∷ (q ∷ z)) (sym at)) ke (proto3_literal ∷ (like Semicolon [] ∷ []))
        (closed_file dialect k q (proto3_literal ∷ []) (proto3_in dialect) ke qe (proto3_read dialect))
        (λ t c here is u d lit_u. not_literal b t c off (sym at ∙ here) is)

    -- behind the literals, where no `;` is next
    literals_refused : (x : Syntax) (c : List Lexeme) → Derives (version dialect) b x c → l ≡ c → e ≡ wrong_at end c
        → IsRefused dialect tokens end e
    literals_refused x c d at same =
        let lits = version_any dialect b c x d in
        cut_refused dialect end tokens l e r (same ∙ ap (λ z. wrong_at end z) (sym at)) (k ∷ (q ∷ lits.0))
        (whole ∙ ap (λ z. k ∷ (q ∷ z)) (lits.1 ∙ ap (λ z. lits.0 ++ z) (sym at))) ke (like Semicolon [] ∷ [])
        (closed_file dialect k q lits.0 x ke qe (lits.2 (like Semicolon [] ∷ []) refl))
        (λ t m here is u n lit_u. not_literal c t m (version_over dialect b c x d) (sym at ∙ here) is)

    -- another version
    other_refused : (t : Lexeme) (y : List Lexeme) (begin text : List ℕ) (c d m : List Lexeme) → b ≡ t ∷ y
        → Derives content b begin c → Derives (more_contents begin) c text d
        → Refused (accepted dialect t.span text) end d e m → IsRefused dialect tokens end e
    other_refused t y begin text c d m first one more r =
        let not = accepted_refused dialect t.span text end d m e r in
        subst (λ x. IsRefused dialect tokens end x)
        (sym (not.2 ∙ ap (λ z. NotProto3 (offset_at (place_of end z))) (sym first)))
        (not_proto3 {front = k ∷ (q ∷ [])} whole (other d ke qe (begin, c, one, more) not.0 not.1))

    equals_by : Refused (version dialect) end b e l → IsRefused dialect tokens end e
    unfolding version spelled more_contents
    equals_by (inl none) =
        equals_refused (ap literal_first none.0) (none.1 ∙ sym none.0)
        (none.2 ∙ ap (λ z. wrong_at end z) (sym none.0))
    equals_by (inr (t, y, first, inl c)) =
        let off = content_refused end b l e c in equals_refused off.0 off.1 off.2
    equals_by (inr (t, y, first, inr (begin, c, one, inl m))) = absurd (more_never end m)
    equals_by (inr (t, y, first, inr (begin, c, one, inr (text, d, more, n)))) =
        other_refused t y begin text c d l first one more n

-- the fault of a text's beginning
pub syntax_refused : (dialect : Dialect) (end : ℕ) (tokens l : List Lexeme) (e : SyntaxFault)
    → Refused (syntax dialect) end tokens e l → IsRefused dialect tokens end e
unfolding syntax syntax_statement
syntax_refused dialect end tokens l e (inl (is, inl r)) =
    absurd (let never : true ≡ false = sym is ∙ r.0 in cc)
syntax_refused dialect end tokens l e (inl (is, inr (s, a, k, inl r))) =
    word_refused dialect end tokens l e (inl (is, inr (s, a, k, inl r))) k.0 k.2 a k.1 r.0 r.1 r.2
syntax_refused dialect end tokens l e (inl (is, inr (s, a, k, inr (u, b, q, inl r)))) =
    equals_by dialect end tokens l e (inl (is, inr (s, a, k, inr (u, b, q, inl r)))) k.0 k.2 a k.1 q.0 q.2 b q.1 r
syntax_refused dialect end tokens l e (inl (is, inr (s, a, k, inr (u, b, q, inr (x, c, v, inl r))))) =
    literals_refused dialect end tokens l e (inl (is, inr (s, a, k, inr (u, b, q, inr (x, c, v, inl r))))) k.0 k.2 a k.1
    q.0 q.2 b q.1 x c v r.1 r.2
syntax_refused dialect end tokens l e (inl (is, inr (s, a, k, inr (u, b, q, inr (x, c, v, inr r))))) = absurd r.3
syntax_refused (Proto3 custom) end tokens l e (inr (off, inl r)) =
    subst (λ x. IsRefused (Proto3 custom) tokens end x) (sym r.1.1) (not_proto3 {front = []} refl (no_statement off))
syntax_refused (Proto3 custom) end tokens l e (inr (off, inr r)) =
    subst (λ x. IsRefused (Proto3 custom) tokens end x) (sym r.1.1) (not_proto3 {front = []} refl (no_statement off))
syntax_refused All end tokens l e (inr (off, inl r)) =
    subst (λ x. IsRefused All tokens end x) (sym r.1.1) (not_proto3 {front = []} refl (edition r.0))
syntax_refused All end tokens l e (inr (off, inr r)) = absurd r.1
