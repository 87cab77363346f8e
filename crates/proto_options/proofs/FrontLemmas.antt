-- What is in front of the token that tells where a statement's options are: nothing in it is taken for that token.
use Rattle.std.proofs.Common.{◌≡◌, ℕ, Bool, true, false, ◌||◌, Ok, Option, List, ◌∷◌, refl, ◌∙◌}
use Rattle.std.proofs.Common.{◌==◌, not, codes, bytes_eq}
use Rattle.std.specs.List.{list_any}
use Rattle.proto_lex.specs.Ascii as ascii
use Rattle.std.proofs.lemmas.Bool.{and_parts}
use Rattle.proto_lex.specs.declared.span.Span.{Span}
use Rattle.proto_lex.specs.declared.token.TokenKind.{TokenKind}
use Rattle.proto_lex.specs.declared.token.TokenKind.TheVariants.{Identifier, Integer, StringLiteral, Dot, Comma, Minus}
use Rattle.proto_lex.specs.declared.token.TokenKind.TheVariants.{Less, Greater, OpenParenthesis}
use Rattle.proto_lex.specs.declared.token.TokenKind.TheVariants.{CloseParenthesis}
use Rattle.proto_grammar.specs.declared.dialect.Syntax.{Syntax}
use Rattle.proto_grammar.specs.declared.tree.FieldType.{FieldType}
use Rattle.proto_grammar.specs.declared.tree.ImportKind.{ImportKind}
use Rattle.proto_grammar.specs.declared.tree.Label.{Label}
use Rattle.proto_grammar.specs.declared.tree.TypeName.{TypeName}
use Rattle.proto_grammar.specs.Lexeme.{Lexeme, place_of}
use Rattle.proto_grammar.specs.Terminal.{is_kind, first_is, of_kind, is_word, is_key, is_scalar, is_group_name}
use Rattle.proto_grammar.specs.Terminal.{is_plain_literal, is_capitalized, key_words, scalar_words, not_next}
use Rattle.proto_grammar.specs.Grammar.Repetition.{One, Until, Adds, Passes}
use Rattle.proto_grammar.specs.Grammar.Repetition.One.{one}
use Rattle.proto_grammar.specs.Grammar.Repetition.Until.{done, more}
use Rattle.proto_grammar.specs.Grammar.Repetition.Adds.{adds}
use Rattle.proto_grammar.specs.Grammar.Repetition.Passes.{passes}
use Rattle.proto_grammar.specs.Grammar.Names.{IsName, IsDotName, IsTypeName, IsType}
use Rattle.proto_grammar.specs.Grammar.Names.IsName.{name}
use Rattle.proto_grammar.specs.Grammar.Names.IsDotName.{dot_name}
use Rattle.proto_grammar.specs.Grammar.Names.IsTypeName.{rooted, plain}
use Rattle.proto_grammar.specs.Grammar.Names.IsType.{scalar, named as named_type}
use Rattle.proto_grammar.specs.Grammar.Fields.{IsLabel}
use Rattle.proto_grammar.specs.Grammar.Fields.IsLabel.{repeated, optional, required, no_label}
use Rattle.proto_grammar.specs.Grammar.Options.{IsStrings, IsLiteral}
use Rattle.proto_grammar.specs.Grammar.Options.IsStrings.{strings}
use Rattle.proto_grammar.specs.Grammar.Options.IsLiteral.{literal}
use Rattle.proto_grammar.specs.Grammar.Reserved.{IsInteger, IsRangeEnd, IsRange, IsReservedItem, IsCommaItem}
use Rattle.proto_grammar.specs.Grammar.Reserved.IsInteger.{plain as plain_integer, minus}
use Rattle.proto_grammar.specs.Grammar.Reserved.IsRangeEnd.{number as end_number, max}
use Rattle.proto_grammar.specs.Grammar.Reserved.IsRange.{single, range}
use Rattle.proto_grammar.specs.Grammar.Reserved.IsReservedItem.{name as reserved_name, number as reserved_number}
use Rattle.proto_grammar.specs.Grammar.Reserved.IsCommaItem.{comma_item}
use Rattle.proto_parse.specs.Grammar.Files.{SpellsJoined, IsImportKind, IsPathLiteral}
use Rattle.proto_parse.specs.Grammar.Files.SpellsJoined.{none as none_joined, some as some_joined}
use Rattle.proto_parse.specs.Grammar.Files.IsImportKind.{weak, public, neither}
use Rattle.proto_parse.specs.Grammar.Files.IsPathLiteral.{path_literal}
use Rattle.proto_parse.specs.Grammar.Services.{IsStream, IsMethodType}
use Rattle.proto_parse.specs.Grammar.Services.IsStream.{stream, no_stream}
use Rattle.proto_parse.specs.Grammar.Services.IsMethodType.{method_type}
use Rattle.proto_grammar.proofs.TerminalTokenLemmas.{other_kind, word_kind}
use Rattle.proto_options.specs.Reading.Statements.{one_token_at, is_either, names_from, name_before_at}
use Rattle.proto_options.proofs.NameLemmas.{name_done}

-- No token of two kinds is from the first tokens on to the second ones, in a text that ends here.
pub record Clear (kind other : TokenKind) (end : ℕ) (a b : List Lexeme) : Type 0 where
  pub passed : (taken : Lexeme) → (last : Lexeme)
      × (names_from kind other taken (place_of end a) ≡ names_from kind other last (place_of end b))

-- Nor behind the first token, and there is one.
pub record Begins (kind other : TokenKind) (end : ℕ) (a b : List Lexeme) : Type 0 where
  pub last : Lexeme
  pub begun : name_before_at kind other (place_of end a) ≡ names_from kind other last (place_of end b)

-- The kinds that are looked for, and where the text ends.
module _ (kind other : TokenKind) (end : ℕ) where
  -- neither is this kind
  abbrev pub Free : TokenKind → Type 0
  Free of = (is_kind kind of ≡ false) × (is_kind other of ≡ false)

  passes_by : (of : TokenKind) → Free of → (t : Lexeme) → of_kind of t ≡ true → is_either kind other t ≡ false
  passes_by of free t is = rw (other_kind of kind t free.0 is, other_kind of other t free.1 is) refl

  one_more : (t : Lexeme) (rest : List Lexeme) (taken : Lexeme) → is_either kind other t ≡ false
      → names_from kind other taken (place_of end (t ∷ rest)) ≡ names_from kind other t (place_of end rest)
  unfolding names_from
  one_more t rest taken isnt = rw isnt refl

  clear_here : {a : List Lexeme} → Clear kind other end a a
  clear_here = record { passed = λ taken. (taken, refl) }

  clear_one : {test : Lexeme → Bool} → ((t : Lexeme) → test t ≡ true → is_either kind other t ≡ false)
      → {a b : List Lexeme} {span : Span} → One test a span b → Clear kind other end a b
  clear_one isnt (one {t} {rest} is) = record { passed = λ taken. (t, one_more t rest taken (isnt t is)) }

  pub clear_then : {a b c : List Lexeme} → Clear kind other end a b → Clear kind other end b c
      → Clear kind other end a c
  clear_then front back = record {
    passed = λ taken.
        let x = front.passed taken in
        let y = back.passed x.0 in
        (y.0, x.1 ∙ y.1);
  }

  pub begins_one : {test : Lexeme → Bool} {a b : List Lexeme} {span : Span} → One test a span b
      → Begins kind other end a b
  unfolding name_before_at one_token_at
  begins_one (one {t} is) = record { last = t; begun = refl }

  pub begins_then : {a b c : List Lexeme} → Begins kind other end a b → Clear kind other end b c
      → Begins kind other end a c
  begins_then front back =
      let y = back.passed front.last in
      record { last = y.0; begun = front.begun ∙ y.1 }

  until_clear : {S : Type 0} {ends : List Lexeme → Bool} {Step : S → List Lexeme → S → List Lexeme → Type 0}
      → ((s t : S) (a b : List Lexeme) → Step s a t b → Clear kind other end a b)
      → {s t : S} {a b : List Lexeme} → Until ends Step s a t b → Clear kind other end a b
  until_clear each (done ended) = clear_here
  until_clear each (more {s} {t} {u} {a} {b} further first others) =
      clear_then (each s t a b first) (until_clear each others)

  -- ---- where a token that is looked for is next

  -- a name is in front of it
  pub name_before : {t : Lexeme} {a c : List Lexeme} → Begins kind other end a (t ∷ c)
      → is_either kind other t ≡ false → (first_is (of_kind kind) c || first_is (of_kind other) c) ≡ true
      → name_before_at kind other (place_of end a) ≡ Ok (t, place_of end c)
  name_before {t} {a} {c} front isnt is =
      front.begun ∙ one_more t c front.last isnt ∙ name_done kind other t (place_of end c) is

  pub first_before : {t : Lexeme} {c : List Lexeme}
      → (first_is (of_kind kind) c || first_is (of_kind other) c) ≡ true
      → name_before_at kind other (place_of end (t ∷ c)) ≡ Ok (t, place_of end c)
  unfolding name_before_at one_token_at
  first_before {t} {c} is = name_done kind other t (place_of end c) is

  -- any token is
  pub some_before : {a c : List Lexeme} → Begins kind other end a c
      → (first_is (of_kind kind) c || first_is (of_kind other) c) ≡ true
      → (t : Lexeme) × (name_before_at kind other (place_of end a) ≡ Ok (t, place_of end c))
  some_before {a} {c} front is = (front.last, front.begun ∙ name_done kind other front.last (place_of end c) is)

  -- ---- single tokens

  pub kind_clear : (of : TokenKind) → Free of → {a b : List Lexeme} {span : Span} → One (of_kind of) a span b
      → Clear kind other end a b
  kind_clear of free o = clear_one (passes_by of free) o

  -- words are none of the kinds
  module _ (free_word : Free Identifier) where
    pub word_passes : (t : Lexeme) → of_kind Identifier t ≡ true → is_either kind other t ≡ false
    word_passes t is = passes_by Identifier free_word t is

    pub word_clear : (word : List ℕ) → {a b : List Lexeme} {span : Span} → One (is_word word) a span b
        → Clear kind other end a b
    word_clear word o = clear_one (λ t is. word_passes t (word_kind word t is)) o

    pub group_name_passes : (t : Lexeme) → is_group_name t ≡ true → is_either kind other t ≡ false
    group_name_passes t is = word_passes t (and_parts (is_kind Identifier t.kind) (is_capitalized t.spelling) is).0

    key_clear : {a b : List Lexeme} {span : Span} → One is_key a span b → Clear kind other end a b
    key_clear o =
        clear_one
        (λ t is. word_passes t (and_parts (is_kind Identifier t.kind) (list_any (bytes_eq t.spelling) key_words) is).0)
        o

    scalar_clear : {a b : List Lexeme} {span : Span} → One is_scalar a span b → Clear kind other end a b
    scalar_clear o =
        clear_one
        (λ t is. word_passes t (and_parts (is_kind Identifier t.kind) (list_any (bytes_eq t.spelling) scalar_words)
        is).0) o

    -- ---- names and types
    module _ (free_dot : Free Dot) where
      dot_name_clear : (s t : List Span) (a b : List Lexeme) → Adds IsDotName s a t b → Clear kind other end a b
      dot_name_clear s t a b (adds (dot_name d n)) =
          clear_then (kind_clear Dot free_dot d) (kind_clear Identifier free_word n)

      pub name_clear : {a b : List Lexeme} {x : List Span} → IsName a x b → Clear kind other end a b
      name_clear (name t u) = clear_then (kind_clear Identifier free_word t) (until_clear dot_name_clear u)

      pub type_name_clear : {a b : List Lexeme} {x : TypeName} → IsTypeName a x b → Clear kind other end a b
      type_name_clear (rooted d n) = clear_then (kind_clear Dot free_dot d) (name_clear n)
      type_name_clear (plain n) = name_clear n

      pub type_clear : {a b : List Lexeme} {x : FieldType} → IsType a x b → Clear kind other end a b
      type_clear (scalar is w) = scalar_clear w
      type_clear (named_type isnt n) = type_name_clear n

      name_begins : {a b : List Lexeme} {x : List Span} → IsName a x b → Begins kind other end a b
      name_begins (name t u) = begins_then (begins_one t) (until_clear dot_name_clear u)

      pub type_begins : {a b : List Lexeme} {x : FieldType} → IsType a x b → Begins kind other end a b
      type_begins (scalar is w) = begins_one w
      type_begins (named_type isnt (rooted d n)) = begins_then (begins_one d) (name_clear n)
      type_begins (named_type isnt (plain n)) = name_begins n

      -- ---- methods
      module _ (free_open : Free OpenParenthesis) (free_close : Free CloseParenthesis) where
        stream_clear : {a b : List Lexeme} → IsStream a b → Clear kind other end a b
        stream_clear (stream w) = word_clear (codes "stream") w
        stream_clear (no_stream isnt) = clear_here

        pub method_type_clear : {a b : List Lexeme} {x : TypeName} → IsMethodType a x b → Clear kind other end a b
        method_type_clear (method_type o s isnt n c) =
            clear_then (kind_clear OpenParenthesis free_open o)
            (clear_then (stream_clear s)
            (clear_then (type_name_clear n) (kind_clear CloseParenthesis free_close c)))

      -- ---- maps
      module _ (free_less : Free Less) (free_greater : Free Greater) (free_comma : Free Comma) where
        pub map_type_clear : {a b c d e f : List Lexeme} {less key comma greater : Span} {value : FieldType}
            → One (of_kind Less) a less b → One is_key b key c → One (of_kind Comma) c comma d → IsType d value e
            → One (of_kind Greater) e greater f → Clear kind other end a f
        map_type_clear l k c v g =
            clear_then (kind_clear Less free_less l)
            (clear_then (key_clear k)
            (clear_then (kind_clear Comma free_comma c)
            (clear_then (type_clear v) (kind_clear Greater free_greater g))))

    -- a label, or none: what begins behind it begins in front of it
    pub label_begins : {syntax : Syntax} {a b : List Lexeme} {x : Option Label} → IsLabel syntax a x b
        → (c : List Lexeme) → Begins kind other end b c → Clear kind other end b c → Begins kind other end a c
    label_begins (repeated w) c begins clear = begins_then (begins_one w) clear
    label_begins (optional w) c begins clear = begins_then (begins_one w) clear
    label_begins (required w) c begins clear = begins_then (begins_one w) clear
    label_begins (no_label p q r) c begins clear = begins

    -- ---- reserved statements and extension ranges
    module _ (free_integer : Free Integer) (free_minus : Free Minus) (free_comma : Free Comma) where
      integer_clear : {negative : Bool} {a b : List Lexeme} → IsInteger negative a b → Clear kind other end a b
      integer_clear (plain_integer n) = kind_clear Integer free_integer n
      integer_clear (minus m n) = clear_then (kind_clear Minus free_minus m) (kind_clear Integer free_integer n)

      range_end_clear : {negative : Bool} {a b : List Lexeme} → IsRangeEnd negative a b → Clear kind other end a b
      range_end_clear (end_number n) = integer_clear n
      range_end_clear (max w) = word_clear (codes "max") w

      pub range_clear : {negative : Bool} {a b : List Lexeme} → IsRange negative a b → Clear kind other end a b
      range_clear (single n isnt) = integer_clear n
      range_clear (range n w e) =
          clear_then (integer_clear n) (clear_then (word_clear (codes "to") w) (range_end_clear e))

      module _ (free_text : Free StringLiteral) where
        literal_clear : (s t : Unit {0}) (a b : List Lexeme) → Passes IsLiteral s a t b → Clear kind other end a b
        literal_clear s t a b (passes (literal x)) = kind_clear StringLiteral free_text x

        strings_clear : {a b : List Lexeme} → IsStrings a b → Clear kind other end a b
        strings_clear (strings (literal x) u) =
            clear_then (kind_clear StringLiteral free_text x) (until_clear literal_clear u)

        pub item_clear : {negative names : Bool} {a b : List Lexeme} → IsReservedItem negative names a b
            → Clear kind other end a b
        item_clear (reserved_name s) = strings_clear s
        item_clear (reserved_number r) = range_clear r

        comma_item_clear : (negative names : Bool) (s t : Unit {0}) (a b : List Lexeme)
            → Passes (IsCommaItem negative names) s a t b → Clear kind other end a b
        comma_item_clear negative names s t a b (passes (comma_item c i)) =
            clear_then (kind_clear Comma free_comma c) (item_clear i)

        pub comma_items_clear : {negative names : Bool} {s t : Unit {0}} {a b : List Lexeme}
            → Until (not_next Comma) (Passes (IsCommaItem negative names)) s a t b → Clear kind other end a b
        comma_items_clear {negative} {names} u = until_clear (comma_item_clear negative names) u

  -- ---- imports and the syntax statement
  module _ (free_text : Free StringLiteral) where
    plain_literal_clear : {a b : List Lexeme} {span : Span} → One is_plain_literal a span b → Clear kind other end a b
    plain_literal_clear o =
        clear_one
        (λ t is. passes_by StringLiteral free_text t
        (and_parts (of_kind StringLiteral t) (not (list_any (λ byte. byte == ascii.backslash) t.spelling)) is).0) o

    path_literal_clear : (s t : List Span) (a b : List Lexeme) → Adds IsPathLiteral s a t b → Clear kind other end a b
    path_literal_clear s t a b (adds (path_literal l)) = plain_literal_clear l

    pub literals_clear : {s t : List Span} {a b c : List Lexeme} {span : Span} → One is_plain_literal a span b
        → Until (not_next StringLiteral) (Adds IsPathLiteral) s b t c → Clear kind other end a c
    literals_clear l u = clear_then (plain_literal_clear l) (until_clear path_literal_clear u)

    pub joined_clear : {a b : List Lexeme} {text : List ℕ} → SpellsJoined a text b → Clear kind other end a b
    joined_clear (none_joined none) = clear_here
    joined_clear (some_joined {t} {rest} is others) =
        clear_then (kind_clear StringLiteral free_text (one {t = t} {rest = rest} is)) (joined_clear others)

  pub import_kind_clear : Free Identifier → {a b : List Lexeme} {x : ImportKind} → IsImportKind a x b
      → Clear kind other end a b
  import_kind_clear free (weak w) = word_clear free (codes "weak") w
  import_kind_clear free (public w) = word_clear free (codes "public") w
  import_kind_clear free (neither p q) = clear_here
