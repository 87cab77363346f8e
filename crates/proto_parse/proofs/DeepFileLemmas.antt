-- A level more, production by production.
use Rattle.std.proofs.Common.{◌≡◌, ℕ, zero, suc, Bool, true, false, Option, None, List, [], ◌∷◌, ◌++◌, ◌⊎◌, inl, inr}
use Rattle.std.proofs.Common.{refl, sym, ap, subst, subst₂, ◌∙◌, codes}
use Rattle.std.specs.Prelude.{is_some}
use Rattle.std.proofs.lemmas.Bool.{and_parts}
use Rattle.std.proofs.lemmas.List.{append_cancel_right}
use Rattle.proto_lex.specs.declared.span.Span.{Span}
use Rattle.proto_lex.specs.declared.token.TokenKind.TheVariants.{Identifier}
use Rattle.proto_grammar.specs.declared.dialect.CustomOptions.{CustomOptions}
use Rattle.proto_grammar.specs.declared.dialect.CustomOptions.TheVariants.{Refuse, Skip}
use Rattle.proto_grammar.specs.declared.dialect.Syntax.{Syntax}
use Rattle.proto_grammar.specs.declared.dialect.Syntax.TheVariants.{Proto3, Extended, Proto2}
use Rattle.proto_grammar.specs.declared.fault.SyntaxFault.{SyntaxFault}
use Rattle.proto_grammar.specs.declared.fault.SyntaxFault.TheVariants.{Extend, TwoPackages, TooDeep}
use Rattle.proto_grammar.specs.declared.tree.Label.{Label}
use Rattle.proto_grammar.specs.declared.tree.Item.{Item}
use Rattle.proto_grammar.specs.declared.tree.File.{File}
use Rattle.proto_grammar.specs.Lexeme.{Lexeme, place_of}
use Rattle.proto_grammar.specs.Tree.{BlockTree}
use Rattle.proto_grammar.specs.Terminal.{first_is, is_word, is_group_word, offset_at}
use Rattle.proto_grammar.specs.Syntax.{custom_of, is_proto2}
use Rattle.proto_grammar.proofs.TerminalTokenLemmas.{other_word}
use Rattle.proto_steps.specs.Step.{Step, Done, Never, Then, If, when, Derives, Refused, ◌>>=◌}
use Rattle.proto_steps.specs.Terminals.{like, an_ident, word}
use Rattle.proto_steps.specs.Grammar.Parts.{label, required, group_head}
use Rattle.proto_steps.specs.Grammar.Definitions.{empty, heading, Inside, braced, group, labelled, member, oneof_member}
use Rattle.proto_steps.specs.Grammar.Definitions.{oneof_item, oneof, extend_item, extend, passed_extend}
use Rattle.proto_steps.specs.Grammar.Definitions.{extend_statement, message, message_item, inside, only_package}
use Rattle.proto_steps.specs.Grammar.Definitions.{file_statement, file_statements}
use Rattle.proto_steps.specs.Grammar.Definitions.Inside.{NoLevel, Level}
use Rattle.proto_steps.proofs.StepLaws.{taken}
use Rattle.proto_steps.proofs.FirstLemmas.{stays}
use Rattle.proto_steps.proofs.EndLemmas.{Ends, keeps_front}
use Rattle.proto_steps.proofs.EndFileLemmas.{EndsInside, heading_ends, group_head_ends, oneof_item_ends}
use Rattle.proto_steps.proofs.EndFileLemmas.{extend_item_ends, message_item_ends, inside_ends, file_statement_ends}
use Rattle.proto_steps.proofs.EndFileLemmas.{open_ends}
use Rattle.proto_steps.proofs.ExplainLemmas.{Reaches, take, never, split_at, whole_text, no_front, first_same, yes, no}
use Rattle.proto_steps.proofs.ExplainLoopLemmas.{next_carried, behind_token, behind_first}
use Rattle.proto_steps.proofs.ExplainPartLemmas.{named_type_told, option_told, typed_told, label_told, group_head_told}
use Rattle.proto_steps.proofs.ExplainPartLemmas.{reserved_told, heading_told, enum_told, service_told}
use Rattle.proto_steps.proofs.ExplainFileLemmas.{map_item_tells, ranges_tell, passed_skipped_told, import_told}
use Rattle.proto_steps.proofs.ExplainFileLemmas.{package_told}
use Rattle.proto_parse.specs.Refused.{is_label}
use Rattle.proto_parse.proofs.DeepLemmas.{begun, own, Depth, Deepens, DeepensAt, deep_moved, flat_shallow, flat}
use Rattle.proto_parse.proofs.DeepLemmas.{deep_either, no_more, then_ends, then_shut, deep_many, from_first, deep_peek}
use Rattle.proto_parse.proofs.DeepLemmas.Depth.{message_deep, group_deep, shallow}

-- ---- single steps

deep_done : {start : Lexeme → ℕ} {early : Bool} {A : Type 0} {v : A} → Deepens start early (Done v) (Done v)
deep_done = record { deeper = λ a b x d. d; at_token = λ end f t b e r. absurd r }

-- what is done with a value changes nothing
last : {start : Lexeme → ℕ} {early : Bool} {A B : Type 0} {p r : Step A} {make : A → B} → Deepens start early p r
    → Deepens start early (Then p (λ x. Done (make x))) (Then r (λ x. Done (make x)))
last h = then_shut h (λ x. deep_done)

-- ---- labels

-- a step of one word and no more takes this word
word_takes : (spelling : List ℕ) {A : Type 0} (v x : A) (m l : List Lexeme)
    → Derives (word spelling >>= λ keyword. Done v) (m ++ l) x l
    → (t : Lexeme) × (m ≡ t ∷ []) × (is_word spelling t ≡ true)
word_takes spelling v x m l d = (
  d.2.0,
  append_cancel_right m (d.2.0 ∷ []) l (d.2.1 ∙ ap (λ z. d.2.0 ∷ z) (sym d.3.1)),
  d.2.2,
)

abbrev TakesLabel : List Lexeme → Type 0
TakesLabel m = (m ≡ []) ⊎ ((t : Lexeme) × (m ≡ t ∷ []) × (is_label t ≡ true))

label_takes : (syntax : Syntax) (m l : List Lexeme) (x : Option Label) → Derives (label syntax) (m ++ l) x l
    → TakesLabel m
unfolding label required
label_takes syntax m l x (inl d) =
    let k = word_takes (codes "repeated") _ x m l d.1 in inr (k.0, k.1, rw k.2 refl)
label_takes syntax m l x (inr (off, inl d)) =
    let k = word_takes (codes "optional") _ x m l d.1 in
    inr (k.0, k.1, rw (other_word (codes "optional") (codes "repeated") k.0 refl k.2, k.2) refl)
label_takes (Proto3 custom) m l x (inr (off, inr d)) = inl (no_front m l d.1.1)
label_takes Extended m l x (inr (off, inr d)) = inl (no_front m l d.1.1)
label_takes Proto2 m l x (inr (off, inr d)) =
    let k = word_takes (codes "required") _ x m l d.1 in
    inr (
      k.0,
      k.1,
      rw (
        other_word (codes "required") (codes "repeated") k.0 refl k.2,
        other_word (codes "required") (codes "optional") k.0 refl k.2,
        k.2,
      )
          refl,
    )

-- ---- what is inside of one more message or group

pub record Deeper (syntax : Syntax) (inside other : Inside) : Type 1 where
  pub labelled_deepens : (first : Span) (kind : Option Label)
      → Deepens (λ t. first.start) true (labelled syntax inside first kind) (labelled syntax other first kind)
  pub message_deepens : {B : Type 0} {make : BlockTree → B} {q s : Step B} → Deepens own true q s
      → Deepens own true (If (is_word (codes "message")) (Then (message inside) (λ x. Done (make x))) q)
      (If (is_word (codes "message")) (Then (message other) (λ x. Done (make x))) s)

-- a ban at its token
ban_deepens : {start : Lexeme → ℕ} {A B : Type 0} {test : Lexeme → Bool} {make : ℕ → SyntaxFault} {k : A → Step B}
    {q r s : Step B}
    → ((end : ℕ) (t : Lexeme) (b : List Lexeme) (e : SyntaxFault) → test t ≡ true → e ≡ make t.span.start
    → Depth start true r end [] t b e)
    → Deepens start true q s → Deepens start true (If test (Then (Never make) k) q) (If test r s)
ban_deepens {start} {A} {B} {test} {make} {k} {q} {r} {s} ban h = record { deeper = deeper; at_token = token }
  where
    deeper : (a b : List Lexeme) (x : B) → Derives (If test (Then (Never make) k) q) a x b → Derives (If test r s) a x b
    deeper a b x (inl d) = absurd d.1.2
    deeper a b x (inr d) = inr (d.0, h.deeper a b x d.1)

    at_first : (end : ℕ) (f : List Lexeme) (t : Lexeme) (b : List Lexeme) (e : SyntaxFault) → f ≡ []
        → first_is test (f ++ t ∷ b) ≡ true → Depth start true r end [] t b e
        → Depth start true (If test r s) end f t b e
    at_first end [] t b e none is o =
        deep_moved r (If test r s) end [] [] t b e (λ z o. refl) (λ z o. o) (λ z. z)
        (λ c. yes test r s end (t ∷ c) is) o
    at_first end (v ∷ f) t b e none is o = absurd (let never : v ∷ f ≡ [] = none in cc)

    token : (end : ℕ) (f : List Lexeme) (t : Lexeme) (b : List Lexeme) (e : SyntaxFault)
        → Refused (If test (Then (Never make) k) q) end (f ++ t ∷ b) e (t ∷ b)
        → Depth start true (If test r s) end f t b e
    token end f t b e (inl (is, inl d)) =
        let none = no_front f (t ∷ b) d.0 in
        let here : test t ≡ true = subst (λ z. first_is test z ≡ true) (sym d.0) is in
        at_first end f t b e none is
        (ban end t b e here (d.1 ∙ ap (λ z. make (offset_at (place_of end z))) (sym d.0)))
    token end f t b e (inl (is, inr d)) = absurd d.2
    token end f t b e (inr d) =
        deep_moved s (If test r s) end [] f t b e (λ z o. refl) (λ z o. o) (λ z. z)
        (λ c. no test r s end (f ++ t ∷ c) (first_same test f t c b ∙ d.0)) (h.at_token end f t b e d.1)

-- ---- members

module _ (syntax : Syntax) (inside other : Inside) (nested : Deeper syntax inside other) (v : Lexeme) where
  abbrev p : Step Item
  p = label syntax >>= λ kind. labelled syntax inside v.span kind

  abbrev r : Step Item
  r = label syntax >>= λ kind. labelled syntax other v.span kind

  begins : (m n : List Lexeme) (t : Lexeme) (b rest : List Lexeme) → n ≡ [] → TakesLabel m
      → (m ++ n) ++ t ∷ b ≡ v ∷ rest → begun own m t ≡ v.span.start
  begins m n t b rest none (inl empty) text =
      let whole : t ∷ b ≡ v ∷ rest =
      sym (ap (λ z. (z ++ n) ++ t ∷ b) empty ∙ ap (λ z. z ++ t ∷ b) none) ∙ text in
      let same : t ≡ v = cc in
      ap (λ z. begun own z t) empty ∙ ap (λ (w : Lexeme). w.span.start) same
  begins m n t b rest none (inr (w, one, is)) text =
      let whole : w ∷ (n ++ t ∷ b) ≡ v ∷ rest = sym (ap (λ z. (z ++ n) ++ t ∷ b) one) ∙ text in
      let same : w ≡ v = cc in
      let start : begun own (w ∷ []) t ≡ w.span.start = rw is refl in
      ap (λ z. begun own z t) one ∙ start ∙ ap (λ (z : Lexeme). z.span.start) same

  label_token : (end : ℕ) (f : List Lexeme) (t : Lexeme) (b : List Lexeme) (e : SyntaxFault) (rest : List Lexeme)
      → f ++ t ∷ b ≡ v ∷ rest → Refused p end (f ++ t ∷ b) e (t ∷ b) → Depth own true r end f t b e
  label_token end f t b e rest text (inl d) =
      shallow (flat_shallow (label_told {deep = false} {custom = Skip} syntax) end f t b e d) (inl d)
  label_token end f t b e rest text (inr d) =
      split_at f (t ∷ b) d.1 (taken (label syntax) (f ++ t ∷ b) d.1 d.0 d.2)
      (stays (labelled syntax inside v.span d.0) end d.1 e (t ∷ b) d.3)
      (λ m n parts behind.
      let first = subst₂ (λ z w. Derives (label syntax) z d.0 w) (whole_text f m n (t ∷ b) parts) behind d.2 in
      let next = subst (λ z. Refused (labelled syntax inside v.span d.0) end z e (t ∷ b)) behind d.3 in
      let all : (m ++ n) ++ t ∷ b ≡ v ∷ rest = ap (λ z. z ++ t ∷ b) (sym parts) ∙ text in
      subst (λ z. Depth own true r end z t b e) (sym parts)
      (deep_moved (labelled syntax other v.span d.0) r end m n t b e
      (λ none o. begins m n t b rest none (label_takes syntax m (n ++ t ∷ b) d.0 first) all) (λ none o. refl)
      (no_more m n)
      (λ c.
      next_carried (label syntax) (λ kind. labelled syntax other v.span kind) end d.0 m n (t ∷ c)
      (keeps_front (label syntax) m n t b c d.0 first))
      ((nested.labelled_deepens v.span d.0).at_token end n t b e next)))

  label_deepens : DeepensAt v true p r
  label_deepens = record {
    deeper = λ a b x d. (d.0, d.1, d.2, (nested.labelled_deepens v.span d.0).deeper d.1 b x d.3);
    at_token = label_token;
  }

member_deepens : (syntax : Syntax) (inside other : Inside) → Deeper syntax inside other
    → Deepens own true (member syntax inside) (member syntax other)
unfolding member
member_deepens syntax inside other nested = deep_peek (λ v. label_deepens syntax inside other nested v)

oneof_member_deepens : (syntax : Syntax) (inside other : Inside) → Deeper syntax inside other
    → Deepens own true (oneof_member syntax inside) (oneof_member syntax other)
unfolding oneof_member
oneof_member_deepens syntax inside other nested = deep_peek (λ v. from_first (nested.labelled_deepens v.span None))

-- ---- statements

empty_deepens : {A : Type 0} → Deepens own true (empty {A = A}) (empty {A = A})
empty_deepens = last (flat {custom = Skip} (take (λ t u. refl)))

braced_deepens : (item other : Step (Option Item)) → Ends item → Deepens own true item other
    → Deepens own true (braced item) (braced other)
unfolding braced
braced_deepens item other ends h =
    then_shut (deep_many (λ items. inr (ends, λ x. tt)) (λ items. last h))
    (λ items. last (flat {custom = Skip} (take (λ t u. refl))))

oneof_item_deepens : (syntax : Syntax) (inside other : Inside) → Deeper syntax inside other
    → Deepens own true (oneof_item syntax inside) (oneof_item syntax other)
unfolding oneof_item
oneof_item_deepens syntax inside other nested =
    deep_either empty_deepens
    (deep_either (last (flat (option_told {deep = false} (custom_of syntax))))
    (last (oneof_member_deepens syntax inside other nested)))

oneof_deepens : (syntax : Syntax) (inside other : Inside) → EndsInside inside → Deeper syntax inside other
    → Deepens own true (oneof syntax inside) (oneof syntax other)
unfolding oneof
oneof_deepens syntax inside other ends nested =
    then_ends (heading_ends (codes "oneof")) (flat (heading_told {deep = false} {custom = Skip} (codes "oneof")))
    (λ declared.
    last
    (braced_deepens (oneof_item syntax inside) (oneof_item syntax other) (oneof_item_ends syntax inside ends)
    (oneof_item_deepens syntax inside other nested)))

extend_item_deepens : (syntax : Syntax) (inside other : Inside) → Deeper syntax inside other
    → Deepens own true (extend_item syntax inside) (extend_item syntax other)
unfolding extend_item
extend_item_deepens syntax inside other nested =
    deep_either empty_deepens (last (member_deepens syntax inside other nested))

extend_deepens : {early : Bool} (syntax : Syntax) (inside other : Inside) → EndsInside inside
    → Deeper syntax inside other → Deepens own early (extend syntax inside) (extend syntax other)
unfolding extend
extend_deepens syntax inside other ends nested =
    then_shut (flat {custom = Skip} (take (λ t u. refl)))
    (λ keyword.
    then_shut (flat (named_type_told {deep = false} {custom = Skip}))
    (λ extended.
    then_ends open_ends (flat {custom = Skip} (take (λ t u. refl)))
    (λ brace.
    last
    (braced_deepens (extend_item syntax inside) (extend_item syntax other) (extend_item_ends syntax inside ends)
    (extend_item_deepens syntax inside other nested)))))

-- one that is read past has no message in it
passed_deepens : (custom : CustomOptions) → Deepens own true (passed_extend custom) (passed_extend custom)
unfolding passed_extend
passed_deepens Refuse = record {
  deeper = λ a b x d. d;
  at_token =
      λ end f t b e r.
      shallow
      (λ at same. let never : Extend (offset_at (place_of end (f ++ t ∷ b))) ≡ TooDeep at = sym r.1 ∙ same in cc) r;
}
passed_deepens Skip = flat (passed_skipped_told {deep = false})

extend_statement_deepens : (syntax : Syntax) (inside other : Inside) → EndsInside inside → Deeper syntax inside other
    → Deepens own true (extend_statement syntax inside) (extend_statement syntax other)
unfolding extend_statement
extend_statement_deepens (Proto3 custom) inside other ends nested = last (passed_deepens custom)
extend_statement_deepens Extended inside other ends nested = last (extend_deepens Extended inside other ends nested)
extend_statement_deepens Proto2 inside other ends nested = last (extend_deepens Proto2 inside other ends nested)

message_item_deepens : (syntax : Syntax) (inside other : Inside) → EndsInside inside → Deeper syntax inside other
    → Deepens own true (message_item syntax inside) (message_item syntax other)
unfolding message_item
message_item_deepens syntax inside other ends nested =
    deep_either empty_deepens
    (nested.message_deepens
    (deep_either (last (flat (enum_told {deep = false} (custom_of syntax))))
    (deep_either (last (flat (option_told {deep = false} (custom_of syntax))))
    (deep_either (last (oneof_deepens syntax inside other ends nested))
    (deep_either (last (flat (map_item_tells {deep = false} syntax)))
    (deep_either (last (flat (reserved_told {deep = false} {custom = Skip} false)))
    (deep_either (last (extend_statement_deepens syntax inside other ends nested))
    (deep_either (flat (ranges_tell {deep = false} syntax)) (last (member_deepens syntax inside other nested))))))))))

-- ---- levels

-- where none was left, one is
module _ (syntax : Syntax) (inner : Step (List Item)) where
  group_reaches : (custom : CustomOptions) (first : Span) (kind : Option Label) (end : ℕ) (t : Lexeme)
      → is_word (codes "group") t ≡ true → Reaches (group custom (Level inner) first kind) end (t ∷ [])
  unfolding group group_head
  group_reaches custom first kind end t is =
      behind_first (group_head custom first kind) _ end (t ∷ [])
      (behind_token (record { is = is_word (codes "group"); example = like Identifier (codes "group") }) _
      (like Identifier (codes "A")) (λ x. refl) end t is)

  message_reaches : (end : ℕ) (t : Lexeme) → is_word (codes "message") t ≡ true
      → Reaches (message (Level inner)) end (t ∷ [])
  unfolding message heading
  message_reaches end t is =
      behind_first (heading (codes "message")) _ end (t ∷ [])
      (behind_token (record { is = is_word (codes "message"); example = like Identifier (codes "message") }) _ an_ident
      (λ x. refl) end t is)

  first_deepens : Deeper syntax NoLevel (Level inner)
  unfolding labelled group message
  first_deepens = record {
    labelled_deepens =
        λ first kind.
        ban_deepens
        (λ end t b e is same.
        let named = and_parts (is_proto2 syntax) (is_group_word t) is in
        let spelled : is_word (codes "group") t ≡ true = (and_parts (is_word (codes "group") t) _ named.1).0 in
        group_deep spelled (λ z. refl) same
        (behind_first (group (custom_of syntax) (Level inner) first kind) _ end (t ∷ [])
        (group_reaches (custom_of syntax) first kind end t spelled)))
        (last (flat (typed_told {deep = false} (custom_of syntax) first kind)));
    message_deepens =
        λ h.
        ban_deepens
        (λ end t b e is same.
        message_deep is same
        (behind_first (message (Level inner)) _ end (t ∷ []) (message_reaches end t is))) h;
  }

-- where one was left, one more is
next_deepens : (syntax : Syntax) (item other : Step (Option Item)) → Ends item → Deepens own true item other
    → Deeper syntax (Level (braced item)) (Level (braced other))
unfolding labelled group message
next_deepens syntax item other ends h =
    let inner = braced_deepens item other ends h in
    record {
      labelled_deepens =
          λ first kind.
          deep_either
          (last
          (then_ends (group_head_ends (custom_of syntax) first kind)
          (flat (group_head_told {deep = false} (custom_of syntax) first kind)) (λ before. last inner)))
          (last (flat (typed_told {deep = false} (custom_of syntax) first kind)));
      message_deepens =
          λ k.
          deep_either
          (last
          (then_ends (heading_ends (codes "message"))
          (flat (heading_told {deep = false} {custom = Skip} (codes "message"))) (λ declared. last inner)))
          k;
    }

inside_deepens : (syntax : Syntax) (levels : ℕ) → Deeper syntax (inside syntax levels) (inside syntax (suc levels))
unfolding inside
inside_deepens syntax zero = first_deepens syntax (braced (message_item syntax (inside syntax zero)))
inside_deepens syntax (suc levels) =
    next_deepens syntax (message_item syntax (inside syntax levels)) (message_item syntax (inside syntax (suc levels)))
    (message_item_ends syntax (inside syntax levels) (inside_ends syntax levels))
    (message_item_deepens syntax (inside syntax levels) (inside syntax (suc levels)) (inside_ends syntax levels)
    (inside_deepens syntax levels))

-- ---- files

-- a second package isn't too deep
when_deepens : {A : Type 0} (b : Bool) (p : Step A) → Deepens own true p p
    → Deepens own true (when b (Never TwoPackages) p) (when b (Never TwoPackages) p)
when_deepens true p h = record {
  deeper = λ a b x d. d;
  at_token =
      λ end f t b e r.
      shallow
      (λ at same.
      let never : TwoPackages (offset_at (place_of end (f ++ t ∷ b))) ≡ TooDeep at = sym r.1 ∙ same in cc) r;
}
when_deepens false p h = h

only_package_deepens : (file : File) → Deepens own true (only_package file) (only_package file)
unfolding only_package
only_package_deepens file =
    when_deepens (is_some file.package_name) _ (last (flat (package_told {deep = false} {custom = Skip})))

statement_deepens : (levels : ℕ) (syntax : Syntax) (file : File)
    → Deepens own true (file_statement levels syntax file) (file_statement (suc levels) syntax file)
unfolding file_statement
statement_deepens levels syntax file =
    let nested = inside_deepens syntax levels in
    let ends = inside_ends syntax levels in
    deep_either (last (flat {custom = Skip} (take (λ t u. refl))))
    (deep_either (last (flat (import_told {deep = false} {custom = Skip})))
    (deep_either (only_package_deepens file)
    (deep_either (last (flat (option_told {deep = false} (custom_of syntax))))
    (nested.message_deepens
    (deep_either (last (flat (enum_told {deep = false} (custom_of syntax))))
    (deep_either (last (flat (service_told {deep = false} (custom_of syntax))))
    (deep_either
    (last (extend_statement_deepens syntax (inside syntax levels) (inside syntax (suc levels)) ends nested))
    (flat {custom = Skip} never))))))))

pub statements_deepen : (levels : ℕ) (syntax : Syntax)
    → Deepens own true (file_statements levels syntax) (file_statements (suc levels) syntax)
unfolding file_statements
statements_deepen levels syntax =
    deep_many (λ file. file_statement_ends levels syntax file) (λ file. statement_deepens levels syntax file)
