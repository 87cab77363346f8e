-- The fault that is met is the one that the tokens have.
use Rattle.std.proofs.Common.{◌≡◌, ◌⊎◌, inl, inr, ℕ, suc, Bool, true, false, ◌&&◌, not, List, [], ◌∷◌, ◌++◌, length}
use Rattle.std.proofs.Common.{Result, Ok, Err, IfErr, refl, sym, ap, subst, subst₂, ◌∙◌, append_assoc, codes}
use Rattle.std.specs.Prelude.{is_some, IfOk, MatchResult}
use Rattle.std.proofs.lemmas.Bool.{and_parts}
use Rattle.std.proofs.lemmas.List.{append-nil, append_cancel_right}
use Rattle.proto_lex.specs.declared.token.Token.{Token}
use Rattle.proto_lex.specs.declared.token.TokenKind.TheVariants.{StringLiteral}
use Rattle.proto_grammar.specs.declared.fault.SyntaxFault.{SyntaxFault}
use Rattle.proto_grammar.specs.declared.fault.SyntaxFault.TheVariants.{TwoPackages, ImportEscape, TooDeep, Grammar}
use Rattle.proto_grammar.specs.declared.fault.SyntaxFault.TheVariants as variant
use Rattle.proto_grammar.specs.Gives.{Fails, Gives}
use Rattle.proto_grammar.specs.declared.dialect.CustomOptions.TheVariants.{Refuse, Skip}
use Rattle.proto_grammar.specs.declared.dialect.Dialect.{Dialect}
use Rattle.proto_grammar.specs.declared.dialect.Dialect.TheVariants.{Proto3, All}
use Rattle.proto_grammar.specs.declared.dialect.Syntax.{Syntax}
use Rattle.proto_grammar.specs.declared.dialect.Syntax.TheVariants as grammar
use Rattle.proto_grammar.specs.declared.tree.File.{File}
use Rattle.proto_grammar.specs.Lexeme.{Lexeme, Place, lexemes_of, start_of}
use Rattle.proto_grammar.specs.Syntax.{custom_of, custom_in}
use Rattle.proto_grammar.specs.Terminal.{first_is, of_kind, is_word, is_plain_literal}
use Rattle.proto_grammar.proofs.TerminalTokenLemmas.{kind_no_word}
use Rattle.proto_steps.specs.Limits.{max_message_depth}
use Rattle.proto_steps.specs.Step.{While, run, Derives, Refused, Turns, Breaks}
use Rattle.proto_steps.specs.Step.Turns.{ended, turn}
use Rattle.proto_steps.specs.Step.Breaks.{here, idle, later}
use Rattle.proto_steps.specs.Terminals.{a_literal, is_token, is_escaped}
use Rattle.proto_steps.specs.Lawful.{GoesOn as StepGoesOn}
use Rattle.proto_steps.specs.Grammar.Definitions.{syntax, empty_file, file_statement, file_statements, file}
use Rattle.proto_steps.proofs.StepLaws.{refused, found, read, only_one, not_both, one_fault}
use Rattle.proto_steps.proofs.FirstLemmas.{first_fault, stays}
use Rattle.proto_steps.proofs.FinishLemmas.{finish}
use Rattle.proto_steps.proofs.FrontLemmas.{goes_on}
use Rattle.proto_steps.proofs.SteadyFileLemmas.{file_statements_steady}
use Rattle.proto_steps.proofs.FileLemmas.{syntax_by_custom}
use Rattle.proto_steps.proofs.AmongFileLemmas.{syntax_among}
use Rattle.proto_steps.proofs.ExplainLemmas.{Reaches, Outcome, OptionBan, IsLiteral, plain_literal}
use Rattle.proto_steps.proofs.ExplainLemmas.Outcome.{misplaced, opened, escape, also}
use Rattle.proto_steps.proofs.ExplainLemmas.Reaches.{whole as all_read, short}
use Rattle.proto_steps.proofs.ExplainLemmas.OptionBan.{custom_option as custom_ban, aggregate as aggregate_ban}
use Rattle.proto_steps.proofs.ExplainLemmas.OptionBan.{extend as extend_ban}
use Rattle.proto_steps.proofs.ExplainFileLemmas.{SecondPackage, skipping, statements_tell, second_refused}
use Rattle.proto_parse.specs.Derives.{Derives as DerivesFile, DerivesWithin}
use Rattle.proto_parse.specs.Refused.{GoesOn, IsWrong, NamesAVersion, WouldGoOn, IsRefused, HasFault, group_start}
use Rattle.proto_parse.specs.Refused.WouldGoOn.{custom_option, aggregate, extend, two_packages, import_escape, too_deep}
use Rattle.proto_parse.specs.Refused.WouldGoOn.{group_too_deep}
use Rattle.proto_parse.specs.Refused.IsRefused.{would_go_on, wrong, missing}
use Rattle.proto_parse.proofs.DeepLemmas.{begun, own, start_behind, Depth, Shallow}
use Rattle.proto_parse.proofs.DeepLemmas.Depth.{message_deep, group_deep, shallow}
use Rattle.proto_parse.proofs.DeepFileLemmas.{statements_deepen}
use Rattle.proto_parse.proofs.SyntaxFrontLemmas.{Allows, Front, syntax_front}
use Rattle.proto_parse.proofs.RefusedSyntaxLemmas.{named_by_syntax, syntax_refused}

-- what reaches the end goes on
reaches_on : (levels : ℕ) (x : Syntax) (end : ℕ) (a : List Lexeme) → Reaches (file_statements levels x) end a
    → StepGoesOn (file_statements levels x) a
unfolding file_statements
reaches_on levels x end a (all_read y d) =
    ([], y, subst (λ z. Derives (file_statements levels x) z y []) (sym (append-nil a)) d)
reaches_on levels x end a (short y r) =
    let g = finish (file_statements levels x) (file_statements_steady levels x) end a y (λ z. tt) r in
    (g.0 ∷ (g.1 ++ []), g.2, g.4 [] tt)

-- what may be in front of any token may be in front of a token that is no word
allows_first : (start f : List Lexeme) (t : Lexeme) (b c : List Lexeme) → Allows start (f ++ t ∷ b)
    → Allows start (f ++ t ∷ c)
allows_first [] [] t b c allows = allows
allows_first [] (v ∷ f) t b c allows = allows
allows_first (v ∷ start) f t b c allows = tt

allows_literal : (start f : List Lexeme) (t u : Lexeme) (b c : List Lexeme) → Allows start (f ++ t ∷ b) → IsLiteral u
    → Allows start (f ++ u ∷ c)
allows_literal [] [] t u b c allows is =
    (kind_no_word StringLiteral (codes "syntax") u refl is, kind_no_word StringLiteral (codes "edition") u refl is)
allows_literal [] (v ∷ f) t u b c allows is = allows
allows_literal (v ∷ start) f t u b c allows is = tt

allows_nothing : (start : List Lexeme) → Allows start []
allows_nothing [] = (refl, refl)
allows_nothing (v ∷ start) = tt

-- where the statements begin
module _ (dialect : Dialect) (x : Syntax) (tokens body : List Lexeme) (d : Derives (syntax dialect) tokens x body)
    (front : Front dialect x tokens body) where
  -- a file, by its statements
  file_of : (levels : ℕ) (c : List Lexeme) (tree : File) → Allows front.start c
      → Derives (file_statements levels x) c tree [] → DerivesWithin levels dialect (front.start ++ c) tree
  unfolding file
  file_of levels c tree allows s = (x, c, front.opens c allows, s)

  goes_of : (levels : ℕ) (f more : List Lexeme) (tree : File) → Allows front.start (f ++ more)
      → Derives (file_statements levels x) (f ++ more) tree [] → GoesOn levels dialect (front.start ++ f)
  goes_of levels f more tree allows s = record {
    more = more;
    tree = tree;
    is_file = subst (λ z. DerivesWithin levels dialect z tree) (sym (append_assoc front.start f more))
        (file_of levels (f ++ more) tree allows s);
  }

  -- with a token behind the front
  goes_with : (levels : ℕ) (f : List Lexeme) (t : Lexeme) → ((c : List Lexeme) → Allows front.start (f ++ t ∷ c))
      → StepGoesOn (file_statements levels x) (f ++ t ∷ []) → GoesOn levels dialect ((front.start ++ f) ++ t ∷ [])
  goes_with levels f t allows g =
      subst (λ z. GoesOn levels dialect z) (sym (append_assoc front.start f (t ∷ [])))
      (goes_of levels (f ++ t ∷ []) g.0 g.1
      (subst (λ z. Allows front.start z) (sym (append_assoc f (t ∷ []) g.0)) (allows g.0)) g.2)

  -- the fault of the statements is one of the file
  refused_of : (levels end : ℕ) (c l : List Lexeme) (e : SyntaxFault) → Allows front.start c
      → Refused (file_statements levels x) end c e l → Refused (file levels dialect) end (front.start ++ c) e l
  unfolding file
  refused_of levels end c l e allows r = inr (x, c, front.opens c allows, r)

  -- nothing goes on with a token that is refused
  stops_at : (levels end : ℕ) (f : List Lexeme) (t : Lexeme) (b : List Lexeme) (e : SyntaxFault)
      → Allows front.start (f ++ t ∷ b) → Refused (file_statements levels x) end (f ++ t ∷ b) e (t ∷ b)
      → GoesOn levels dialect ((front.start ++ f) ++ t ∷ []) → ⊥
  stops_at levels end f t b e allows r g =
      first_fault (file levels dialect) end (front.start ++ f) t b g.more e
      (subst (λ z. Refused (file levels dialect) end z e (t ∷ b)) (sym (append_assoc front.start f (t ∷ b)))
      (refused_of levels end (f ++ t ∷ b) (t ∷ b) e allows r)) g.tree []
      (subst (λ z. DerivesWithin levels dialect z g.tree) (append_assoc (front.start ++ f) (t ∷ []) g.more) g.is_file)

  none_derives : (end : ℕ) (c l : List Lexeme) (e : SyntaxFault) → Allows front.start c
      → Refused (file_statements max_message_depth x) end c e l → (tree : File)
      → DerivesWithin max_message_depth dialect (front.start ++ c) tree → ⊥
  none_derives end c l e allows r tree s =
      not_both (file max_message_depth dialect) end (front.start ++ c) [] l tree e s
      (refused_of max_message_depth end c l e allows r)

-- where custom options are refused
refusing : (dialect : Dialect) (a b : List Lexeme) (x : Syntax) → Derives (syntax dialect) a x b
    → dialect ≡ Proto3 Refuse → (x ≡ grammar.Proto3 Refuse) × Derives (syntax (Proto3 Skip)) a (grammar.Proto3 Skip) b
refusing dialect a b x d only =
    syntax_among Refuse (Proto3 Skip) a b x (subst (λ z. Derives (syntax z) a x b) only d)

refuses : (dialect : Dialect) → custom_in dialect ≡ Refuse → dialect ≡ Proto3 Refuse
refuses (Proto3 custom) e = ap Proto3 e
refuses All e = absurd (let never : Skip ≡ Refuse = e in cc)

-- what is in front of a token of the body
allows_front : (start f : List Lexeme) (t : Lexeme) (b : List Lexeme) → Allows start (f ++ t ∷ b) → Allows start f
allows_front [] [] t b allows = (refl, refl)
allows_front [] (v ∷ f) t b allows = allows
allows_front (v ∷ start) f t b allows = tt

allows_more : (start : List Lexeme) (v : Lexeme) (f c m : List Lexeme) → Allows start (v ∷ (f ++ c))
    → Allows start (v ∷ (f ++ m))
allows_more [] v f c m allows = allows
allows_more (w ∷ start) v f c m allows = tt

not_plain : (b : Bool) → not b ≡ true → b ≡ false
not_plain true e = absurd (let never : false ≡ true = e in cc)
not_plain false e = refl

grammar_shallow : {e : SyntaxFault} {n : ℕ} → e ≡ Grammar n → Shallow e
grammar_shallow {n = n} same at deep = let never : Grammar n ≡ TooDeep at = sym same ∙ deep in cc

-- a fault of the statements has a token in front of it
some_body : (levels : ℕ) (x : Syntax) (end : ℕ) (body : List Lexeme) (e : SyntaxFault)
    → Refused (file_statements levels x) end body e [] → body ≡ [] → ⊥
unfolding file_statements
some_body levels x end body e r none = some_next r none
  where
    some_next : {s : File} {a l : List Lexeme} {y : SyntaxFault}
        {One : File → List Lexeme → File → List Lexeme → Type 0}
        {Fault : File → List Lexeme → SyntaxFault → List Lexeme → Type 0} → Breaks is_token One Fault end s a y l
        → a ≡ [] → ⊥
    some_next (here {a = a} go q) at = let never : false ≡ true = ap (first_is is_token) (sym at) ∙ go in cc
    some_next (idle {a = a} go one no_less) at =
        let never : false ≡ true = ap (first_is is_token) (sym at) ∙ go in cc
    some_next (later {a = a} go one less q) at =
        let never : false ≡ true = ap (first_is is_token) (sym at) ∙ go in cc

allows_end : (start body more : List Lexeme) → (body ≡ [] → ⊥) → Allows start body → Allows start (body ++ more)
allows_end [] [] more some allows = absurd (some refl)
allows_end [] (v ∷ body) more some allows = allows
allows_end (v ∷ start) body more some allows = tt

-- behind the last statement nothing is left
no_token : (a : List Lexeme) → first_is is_token a ≡ false → a ≡ []
no_token [] over = refl
no_token (t ∷ rest) over = absurd (let never : true ≡ false = over in cc)

turns_leave_none : {S : Type 0} {One : S → List Lexeme → S → List Lexeme → Type 0} {s t : S} {a b : List Lexeme}
    → Turns is_token One s a t b → b ≡ []
turns_leave_none (ended {a = a} over) = no_token a over
turns_leave_none (turn go one less rest) = turns_leave_none rest

file_leaves_none : (levels : ℕ) (dialect : Dialect) (a b : List Lexeme) (x : File)
    → Derives (file levels dialect) a x b → b ≡ []
unfolding file file_statements
file_leaves_none levels dialect a b x d = turns_leave_none d.3

-- ---- a fault at a token

module _ (dialect : Dialect) (x : Syntax) (tokens body : List Lexeme) (d : Derives (syntax dialect) tokens x body)
    (end : ℕ) (f : List Lexeme) (t : Lexeme) (b : List Lexeme) (e : SyntaxFault) (text : body ≡ f ++ t ∷ b)
    (r : Refused (file_statements max_message_depth x) end (f ++ t ∷ b) e (t ∷ b)) where
  front : Front dialect x tokens body
  front = syntax_front dialect tokens body x d

  abbrev ahead : List Lexeme
  ahead = front.start ++ f

  allows : Allows front.start (f ++ t ∷ b)
  allows = subst (λ z. Allows front.start z) text front.allows

  named : NamesAVersion dialect tokens
  named = named_by_syntax dialect tokens body x d

  whole : tokens ≡ ahead ++ t ∷ b
  whole = front.whole ∙ ap (λ z. front.start ++ z) text ∙ sym (append_assoc front.start f (t ∷ b))

  before_by : (g : List Lexeme) → f ≡ g → GoesOn max_message_depth dialect ahead
  unfolding file_statements
  before_by [] none =
      subst (λ z. GoesOn max_message_depth dialect (front.start ++ z)) (sym none)
      (goes_of dialect x tokens body d front max_message_depth [] [] empty_file (allows_nothing front.start)
      (ended refl))
  before_by (v ∷ g) some =
      let refused = subst (λ z. Refused (file_statements max_message_depth x) end (z ++ t ∷ b) e (t ∷ b)) some r in
      let on = goes_on (file_statements max_message_depth x) (file_statements_steady max_message_depth x) tt end (v ∷ g)
      (t ∷ b) e refused in
      subst (λ z. GoesOn max_message_depth dialect (front.start ++ z)) (sym some)
      (goes_of dialect x tokens body d front max_message_depth (v ∷ g) on.0 on.1
      (allows_more front.start v g (t ∷ b) on.0 (subst (λ z. Allows front.start (z ++ t ∷ b)) some allows)) on.2)

  is_wrong : IsWrong dialect ahead t
  is_wrong = record {
    before = before_by f refl;
    here = stops_at dialect x tokens body d front max_message_depth end f t b e allows r;
  }

  would : (y : SyntaxFault) → e ≡ y → WouldGoOn dialect ahead t y → IsRefused dialect tokens end e
  would y same w =
      subst (λ z. IsRefused dialect tokens end z) (sym same) (would_go_on b named whole is_wrong w)

  -- ---- if custom options were read past

  module _ (only : dialect ≡ Proto3 Refuse) where
    known : x ≡ grammar.Proto3 Refuse
    known = (refusing dialect tokens body x d only).0

    skipped : Derives (syntax (Proto3 Skip)) tokens (grammar.Proto3 Skip) body
    skipped = (refusing dialect tokens body x d only).1

    other_front : Front (Proto3 Skip) (grammar.Proto3 Skip) tokens body
    other_front = syntax_front (Proto3 Skip) tokens body (grammar.Proto3 Skip) skipped

    same_front : other_front.start ≡ front.start
    same_front = append_cancel_right other_front.start front.start body (sym other_front.whole ∙ front.whole)

    options_go : Reaches (file_statements max_message_depth (skipping x)) end (f ++ t ∷ [])
        → GoesOn max_message_depth (Proto3 Skip) (ahead ++ t ∷ [])
    options_go reach =
        subst (λ z. GoesOn max_message_depth (Proto3 Skip) ((z ++ f) ++ t ∷ [])) same_front
        (goes_with (Proto3 Skip) (grammar.Proto3 Skip) tokens body skipped other_front max_message_depth f t
        (λ c.
        allows_first other_front.start f t b c (subst (λ z. Allows other_front.start z) text other_front.allows))
        (reaches_on max_message_depth (grammar.Proto3 Skip) end (f ++ t ∷ [])
        (subst (λ z. Reaches (file_statements max_message_depth (skipping z)) end (f ++ t ∷ [])) known reach)))

    options_stop : Refused (file_statements max_message_depth (skipping x)) end (f ++ t ∷ b) e (t ∷ b)
        → GoesOn max_message_depth (Proto3 Skip) (ahead ++ t ∷ []) → ⊥
    options_stop refused g =
        stops_at (Proto3 Skip) (grammar.Proto3 Skip) tokens body skipped other_front max_message_depth end f t b e
        (subst (λ z. Allows other_front.start z) text other_front.allows)
        (subst (λ z. Refused (file_statements max_message_depth (skipping z)) end (f ++ t ∷ b) e (t ∷ b)) known refused)
        (subst (λ z. GoesOn max_message_depth (Proto3 Skip) ((z ++ f) ++ t ∷ [])) (sym same_front) g)

  -- ---- if one more level were left

  depth : Depth own true (file_statements (suc max_message_depth) x) end f t b e
  depth = (statements_deepen max_message_depth x).at_token end f t b e r

  levels_go : Reaches (file_statements (suc max_message_depth) x) end (f ++ t ∷ [])
      → GoesOn (suc max_message_depth) dialect (ahead ++ t ∷ [])
  levels_go reach =
      goes_with dialect x tokens body d front (suc max_message_depth) f t
      (λ c. allows_first front.start f t b c allows)
      (reaches_on (suc max_message_depth) x end (f ++ t ∷ []) reach)

  levels_stop : Shallow e → GoesOn (suc max_message_depth) dialect (ahead ++ t ∷ []) → ⊥
  levels_stop no_level g = by_depth depth
    where
      by_depth : Depth own true (file_statements (suc max_message_depth) x) end f t b e → ⊥
      by_depth (message_deep is same reach) = no_level t.span.start same
      by_depth (group_deep is opens same reach) = no_level (begun own f t) same
      by_depth (shallow still refused) =
          stops_at dialect x tokens body d front (suc max_message_depth) end f t b e allows refused g

  begun_front : (g : List Lexeme) → begun own g t ≡ group_start (front.start ++ g) t
  begun_front [] = sym (ap (λ z. group_start z t) (append-nil front.start) ∙ front.quiet t)
  begun_front (v ∷ g) = sym (start_behind front.start v g t)

  deep_refused : (at : ℕ) → e ≡ TooDeep at → IsRefused dialect tokens end e
  deep_refused at deep = by_depth depth
    where
      by_depth : Depth own true (file_statements (suc max_message_depth) x) end f t b e → IsRefused dialect tokens end e
      by_depth (message_deep is same reach) = would (TooDeep t.span.start) same (too_deep is (levels_go reach))
      by_depth (group_deep is opens same reach) =
          would (TooDeep (group_start ahead t)) (same ∙ ap TooDeep (begun_front f))
          (group_too_deep is (levels_go reach))
      by_depth (shallow still refused) = absurd (still at deep)

  -- ---- a second package

  second_refused_by : (tree : File) → is_word (codes "package") t ≡ true → is_some tree.package_name ≡ true
      → Derives (file_statements max_message_depth x) f tree []
      → Refused (file_statements max_message_depth x) end (f ++ t ∷ b) (TwoPackages t.span.start) (t ∷ b)
  unfolding file_statements
  second_refused_by tree is some s =
      second_refused max_message_depth x empty_file tree end f t b is some s refl refl

  statements_of : (tree : File) → DerivesWithin max_message_depth dialect ahead tree
      → Derives (file_statements max_message_depth x) f tree []
  unfolding file
  statements_of tree s =
      let mine = front.opens f (allows_front front.start f t b allows) in
      let same = only_one (syntax dialect) ahead s.1 f s.0 x s.2 mine in
      subst₂ (λ z w. Derives (file_statements max_message_depth z) w tree []) same.0 same.1 s.3

  as_statements : (tree : File)
      → Derives (While is_token (file_statement max_message_depth x) empty_file) f tree []
      → Derives (file_statements max_message_depth x) f tree []
  unfolding file_statements
  as_statements tree s = s

  option_refused : (y : SyntaxFault) → e ≡ y → OptionBan t y → dialect ≡ Proto3 Refuse
      → GoesOn max_message_depth (Proto3 Skip) (ahead ++ t ∷ []) → IsRefused dialect tokens end e
  option_refused y same (custom_ban is) only g =
      would (variant.CustomOption t.span.start) same (custom_option only is g)
  option_refused y same (aggregate_ban is) only g =
      would (variant.Aggregate t.span.start) same (aggregate only is g)
  option_refused y same (extend_ban is) only g =
      would (variant.Extend t.span.start) same (extend only is g)

  -- ---- by what it is of

  abbrev Of : Type 0
  Of =
      Outcome (custom_of x) (SecondPackage max_message_depth x empty_file) (file_statements max_message_depth x)
      (file_statements max_message_depth (skipping x)) end f t b e

  none_would : e ≡ Grammar t.span.start
      → Refused (file_statements max_message_depth (skipping x)) end (f ++ t ∷ b) e (t ∷ b)
      → (is_escaped t ≡ true → (u : Lexeme) (c : List Lexeme) → IsLiteral u
      → (y : SyntaxFault) × Refused (file_statements max_message_depth x) end (f ++ u ∷ c) y (u ∷ c))
      → (y : SyntaxFault) → WouldGoOn dialect ahead t y → ⊥
  none_would same past shut y (custom_option only is g) = options_stop only past g
  none_would same past shut y (aggregate only is g) = options_stop only past g
  none_would same past shut y (extend only is g) = options_stop only past g
  none_would same past shut y (two_packages tree is s some) =
      let twice : TwoPackages t.span.start ≡ e =
      one_fault (file_statements max_message_depth x) end (f ++ t ∷ b) (t ∷ b) (t ∷ b) (TwoPackages t.span.start) e
      (second_refused_by tree is some (statements_of tree s)) r in
      let never : TwoPackages t.span.start ≡ Grammar t.span.start = twice ∙ same in
      cc
  none_would same past shut y (import_escape u is escaped plain g) =
      let esc : is_escaped t ≡ true =
      ap (λ z. of_kind StringLiteral t && not z) escaped ∙ ap (λ z. z && true) is in
      let k = shut esc u g.more (plain_literal u plain) in
      none_derives dialect x tokens body d front end (f ++ u ∷ g.more) (u ∷ g.more) k.0
      (allows_literal front.start f t u b g.more allows (plain_literal u plain)) k.1 g.tree
      (subst (λ z. DerivesWithin max_message_depth dialect z g.tree)
      (append_assoc ahead (u ∷ []) g.more ∙ append_assoc front.start f (u ∷ g.more)) g.is_file)
  none_would same past shut y (too_deep is g) = levels_stop (grammar_shallow same) g
  none_would same past shut y (group_too_deep is g) = levels_stop (grammar_shallow same) g

  by_outcome : Of → IsRefused dialect tokens end e
  by_outcome (misplaced same past shut) =
      subst (λ z. IsRefused dialect tokens end z) (sym same)
      (wrong b named whole is_wrong (none_would same past shut))
  by_outcome (opened refuse ban reach) =
      let only = refuses dialect (sym (syntax_by_custom dialect tokens body x d) ∙ refuse) in
      option_refused e refl ban only (options_go only reach)
  by_outcome (escape esc same reach) =
      let literal = and_parts (of_kind StringLiteral t) _ esc in
      would (ImportEscape t.span.start) same
      (import_escape a_literal literal.0 (not_plain (is_plain_literal t) literal.1) refl
      (goes_with dialect x tokens body d front max_message_depth f a_literal
      (λ c. allows_literal front.start f t a_literal b c allows refl)
      (reaches_on max_message_depth x end (f ++ a_literal ∷ []) (reach a_literal refl))))
  by_outcome (also (inl deep)) = deep_refused deep.1 deep.2
  by_outcome (also (inr second)) =
      would (TwoPackages t.span.start) second.1
      (two_packages second.2 second.0
      (file_of dialect x tokens body d front max_message_depth f second.2 (allows_front front.start f t b allows)
      (as_statements second.2 second.3)) second.4)

  pub token_refused : IsRefused dialect tokens end e
  token_refused = by_outcome ((statements_tell max_message_depth x).at_token end f t b e refl r)

-- ---- the fault of a file

pub file_refused : (dialect : Dialect) (end : ℕ) (tokens l : List Lexeme) (e : SyntaxFault)
    → Refused (file max_message_depth dialect) end tokens e l → IsRefused dialect tokens end e
unfolding file
file_refused dialect end tokens l e (inl r) = syntax_refused dialect end tokens l e r
file_refused dialect end tokens [] e (inr (x, body, d, r)) =
    let front = syntax_front dialect tokens body x d in
    let tell = statements_tell max_message_depth x in
    let on = reaches_on max_message_depth x end body (short e r) in
    let goes = goes_of dialect x tokens body d front max_message_depth body on.0 on.1
    (allows_end front.start body on.0 (some_body max_message_depth x end body e r) front.allows) on.2 in
    subst (λ z. IsRefused dialect tokens end z) (sym (tell.missing end body e refl r))
    (missing (named_by_syntax dialect tokens body x d)
    (subst (λ z. GoesOn max_message_depth dialect z) (sym front.whole) goes)
    (λ tree s.
    none_derives dialect x tokens body d front end body [] e front.allows r tree
    (subst (λ z. DerivesWithin max_message_depth dialect z tree) front.whole s)))
file_refused dialect end tokens (t ∷ b) e (inr (x, body, d, r)) =
    let s = stays (file_statements max_message_depth x) end body e (t ∷ b) r in
    token_refused dialect x tokens body d end s.0 t b e s.1
    (subst (λ z. Refused (file_statements max_message_depth x) end z e (t ∷ b)) s.1 r)

-- ---- of what the parser gives

-- what is left behind a file is nothing
pub file_read : (dialect : Dialect) (place : Place) (x : File × Place)
    → run (file max_message_depth dialect) place ≡ Ok x → DerivesWithin max_message_depth dialect place.left x.0
file_read dialect place x e =
    let d = found (file max_message_depth dialect) place x e in
    subst (λ z. Derives (file max_message_depth dialect) place.left x.0 z)
    (file_leaves_none max_message_depth dialect place.left x.1.left x.0 d) d

-- what is read, or else a fault
pub tree_or_fault : (dialect : Dialect) (text : List ℕ) (tokens : List Token)
    → ((tree : File) × DerivesFile dialect text tokens tree)
    ⊎ ((fault : SyntaxFault) × HasFault dialect text tokens fault)
tree_or_fault dialect text tokens = by_result (run (file max_message_depth dialect) (start_of text tokens)) refl
  where
    by_result : (o : Result (File × Place) SyntaxFault)
        → run (file max_message_depth dialect) (start_of text tokens) ≡ o
        → ((tree : File) × DerivesFile dialect text tokens tree)
        ⊎ ((fault : SyntaxFault) × HasFault dialect text tokens fault)
    by_result (Ok y) e = inl (y.0, file_read dialect (start_of text tokens) y e)
    by_result (Err y) e =
        let m = refused (file max_message_depth dialect) (start_of text tokens) y e in
        inr (y, file_refused dialect (length text) (lexemes_of text tokens) m.0 y m.1)

-- tokens derive at most one tree
pub same_tree : (dialect : Dialect) (a : List Lexeme) (tree second : File)
    → DerivesWithin max_message_depth dialect a tree → DerivesWithin max_message_depth dialect a second → tree ≡ second
same_tree dialect a tree second d e = (only_one (file max_message_depth dialect) a [] [] tree second d e).0

pub given_found : (dialect : Dialect) (place rest : Place) (result : Result File SyntaxFault)
    → Gives (custom_in dialect) (λ z. z) rest result (run (file max_message_depth dialect) place)
    → IfOk result (λ tree. DerivesWithin max_message_depth dialect place.left tree)
given_found dialect place rest (Ok tree) gives = file_read dialect place (tree, rest) gives
given_found dialect place rest (Err fault) gives = tt

only_memory : (dialect : Dialect) (place : Place) (tree : File) (fault : SyntaxFault)
    → Fails (custom_in dialect) fault (run (file max_message_depth dialect) place)
    → DerivesWithin max_message_depth dialect place.left tree → fault ≡ variant.Memory
only_memory dialect place tree variant.Memory fails d = refl
only_memory dialect place tree fault fails d =
    let reads = read (file max_message_depth dialect) place.end place.left [] tree d in cc

pub given_exact : (dialect : Dialect) (place rest : Place) (result : Result File SyntaxFault)
    → Gives (custom_in dialect) (λ z. z) rest result (run (file max_message_depth dialect) place)
    → (tree : File) → DerivesWithin max_message_depth dialect place.left tree
    → MatchResult result (λ read. read ≡ tree) (λ fault. fault ≡ variant.Memory)
given_exact dialect place rest (Ok second) gives tree d =
    sym (same_tree dialect place.left tree second d (file_read dialect place (second, rest) gives))
given_exact dialect place rest (Err fault) gives tree d = only_memory dialect place tree fault gives d

met : (dialect : Dialect) (place : Place) (e : SyntaxFault) → run (file max_message_depth dialect) place ≡ Err e
    → IsRefused dialect place.left place.end e
met dialect place e same =
    let m = refused (file max_message_depth dialect) place e same in
    file_refused dialect place.end place.left m.0 e m.1

pub given_refused : (dialect : Dialect) (place rest : Place) (result : Result File SyntaxFault)
    → Gives (custom_in dialect) (λ z. z) rest result (run (file max_message_depth dialect) place)
    → IfErr result (λ fault. (fault ≡ variant.Memory) ⊎ IsRefused dialect place.left place.end fault)
given_refused dialect place rest (Ok tree) gives = tt
given_refused dialect place rest (Err (variant.CustomOption at)) gives = inr (met dialect place _ gives.1)
given_refused dialect place rest (Err (variant.Aggregate at)) gives = inr (met dialect place _ gives.1)
given_refused dialect place rest (Err (variant.Extend at)) gives = inr (met dialect place _ gives.1)
given_refused dialect place rest (Err variant.Memory) gives = inl refl
given_refused dialect place rest (Err fault) gives = inr (met dialect place fault gives)
