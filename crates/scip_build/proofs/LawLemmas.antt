-- Proofs of the laws.
use Rattle.std.proofs.Common.{◌≡◌, ◌∙◌, ◌⊎◌, inl, inr, ℕ, ◌<◌, ◌≤◌, Bool, true, false, List, length, ap, refl, sym}
use Rattle.std.proofs.Common.{subst, true≢false}
use Rattle.std.proofs.Common.{arith}
use Rattle.std.specs.Str.{IsUtf8, IsValidUpTo}
use Rattle.std.proofs.lemmas.List.{take_all}
use Rattle.std.proofs.lemmas.Bool.{cases_order}
use Rattle.proto_lex.specs.Text.{IsText, IsNoText, max_text_length}
use Rattle.proto_lex.specs.Lexed.{Lexed}
use Rattle.proto_parse.specs.Syntax.{hashes_in}
use Rattle.proto_lex.specs.LexLaws.{OneTokens, OneComments, OneFirstFault, NoFaultWhereItLexes}
use Rattle.proto_lex.specs.declared.fault.LexFault.{LexFault}
use Rattle.proto_lex.specs.declared.fault.LexFault.TheVariants.{TooLong, NotUtf8, BadByte, OpenString, OpenComment}
use Rattle.proto_lex.specs.declared.fault.LexFault.TheVariants.{BadEscape, BadNumber, Memory}
use Rattle.proto_lex.specs.declared.token.Token.{Token}
use Rattle.proto_decl.specs.declared.form.FactForm.{FactForm}
use Rattle.proto_parse.specs.dialect.Dialect.{Dialect}
use Rattle.proto_parse.specs.dialect.Dialect.TheVariants.{All}
use Rattle.proto_parse.specs.tree.File.{File}
use Rattle.proto_parse.specs.fault.SyntaxFault.{SyntaxFault}
use Rattle.proto_parse.specs.Derives.{Derives}
use Rattle.proto_parse.specs.Refused.{HasFault}
use Rattle.proto_decl.specs.Facts.{Facts, AreFactsOf}
use Rattle.proto_decl.specs.Laws.{OneFacts}
use Rattle.proto_options.specs.Fields.{fields_in}
use Rattle.proto_options.specs.Messages.{messages_in}
use Rattle.proto_options.specs.Laws.{OneListOfOptions}
use Rattle.proto_options.specs.Options.{AreOptionsOf}
use Rattle.scip_build.specs.declared.fault.FileFault.{FileFault}
use Rattle.scip_build.specs.declared.fault.FileFault.TheVariants.{Unread, Lex, Syntax}
use Rattle.scip_build.specs.Parsed.{form_by, HasLexing, AreFactsIn, IsUnlexed, IsUnparsed, IsUnreadable}
use Rattle.source_tree.specs.Files.{TreeFile}
use Rattle.scip_build.specs.ParsedFiles.{IsFirstFaulty}
use Rattle.scip_build.specs.Laws.{OneListOfFacts, NoFactsWhereUnreadable, LexedWhereUnparsed, OneFileFault}
use Rattle.scip_build.specs.Laws.{OneBesideAFile, OneFirstFaulty}

abbrev pub OneTree : Type 0
OneTree = (dialect : Dialect) (text : List ℕ) (tokens : List Token) (file other : File)
    → Derives dialect text tokens file → Derives dialect text tokens other → file ≡ other

abbrev pub OneSyntaxFault : Type 0
OneSyntaxFault = (dialect : Dialect) (text : List ℕ) (tokens : List Token) (fault other : SyntaxFault)
    → HasFault dialect text tokens fault → HasFault dialect text tokens other → fault ≡ other

abbrev pub NoFaultWhereItDerives : Type 0
NoFaultWhereItDerives = (dialect : Dialect) (text : List ℕ) (tokens : List Token) (file : File) (fault : SyntaxFault)
    → Derives dialect text tokens file → HasFault dialect text tokens fault → ⊥

-- a text isn't called none
text_is_text : (bytes : List ℕ) (fault : LexFault) → IsText bytes → IsNoText bytes fault → ⊥
text_is_text bytes TooLong text wrong = omega (arith, text.short, wrong)
text_is_text bytes (NotUtf8 offset) text wrong =
    wrong.1.longest (length bytes) wrong.1.short
    (subst IsUtf8 (sym (take_all (length bytes) bytes (omega arith))) text.utf8)
text_is_text bytes (BadByte offset) text wrong = absurd wrong
text_is_text bytes (OpenString offset) text wrong = absurd wrong
text_is_text bytes (OpenComment offset) text wrong = absurd wrong
text_is_text bytes (BadEscape offset) text wrong = absurd wrong
text_is_text bytes (BadNumber offset) text wrong = absurd wrong
text_is_text bytes Memory text wrong = absurd wrong

-- of the fronts of bytes that are UTF-8 one is the longest
one_offset : (bytes : List ℕ) (a b : ℕ) → IsValidUpTo bytes a → IsValidUpTo bytes b → a ≡ b
one_offset bytes a b first second = elim (cases_order a b) [
  | inl same ↦ same
  | inr apart ↦ elim apart [
    | inl less ↦ absurd (first.longest b less second.front)
    | inr more ↦ absurd (second.longest a more first.front)
  ]
]

-- bytes are no text for one reason
abbrev IsReason : List ℕ → LexFault → Type 0
IsReason bytes fault = ((fault ≡ TooLong) × (max_text_length < length bytes))
    ⊎ ((offset : ℕ) × (fault ≡ NotUtf8 offset) × (length bytes ≤ max_text_length) × IsValidUpTo bytes offset)

reason : (bytes : List ℕ) (fault : LexFault) → IsNoText bytes fault → IsReason bytes fault
reason bytes TooLong is = inl (refl, is)
reason bytes (NotUtf8 offset) is = inr (offset, refl, is.0, is.1)
reason bytes (BadByte offset) is = absurd is
reason bytes (OpenString offset) is = absurd is
reason bytes (OpenComment offset) is = absurd is
reason bytes (BadEscape offset) is = absurd is
reason bytes (BadNumber offset) is = absurd is
reason bytes Memory is = absurd is

one_reason : (bytes : List ℕ) (fault other : LexFault) → IsReason bytes fault → IsReason bytes other → fault ≡ other
one_reason bytes fault other (inl a) (inl b) = a.0 ∙ sym b.0
one_reason bytes fault other (inl a) (inr b) = absurd (omega (arith, a.1, b.2))
one_reason bytes fault other (inr a) (inl b) = absurd (omega (arith, b.1, a.2))
one_reason bytes fault other (inr a) (inr b) = a.1 ∙ (ap NotUtf8 (one_offset bytes a.0 b.0 a.3 b.3) ∙ sym b.1)

one_unlexed : OneFirstFault → (dialect : Dialect) (bytes : List ℕ) (fault other : LexFault)
    → IsUnlexed dialect bytes fault → IsUnlexed dialect bytes other → fault ≡ other
one_unlexed one dialect bytes fault other (inl a) (inl b) =
    one_reason bytes fault other (reason bytes fault a) (reason bytes other b)
one_unlexed one dialect bytes fault other (inl a) (inr b) = absurd (text_is_text bytes fault b.0 a)
one_unlexed one dialect bytes fault other (inr a) (inl b) = absurd (text_is_text bytes other a.0 b)
one_unlexed one dialect bytes fault other (inr a) (inr b) = one (hashes_in dialect) bytes fault other a.1 b.1

module _ (one_tokens : OneTokens) (one_comments : OneComments) where
  -- a file has one lexing
  same_lexing : (dialect : Dialect) (bytes : List ℕ) (lexed other : Lexed) → HasLexing dialect bytes lexed
      → HasLexing dialect bytes other → lexed ≡ other
  same_lexing dialect bytes lexed other a b =
      let same_text : lexed.text ≡ other.text = a.of_bytes ∙ sym b.of_bytes in
      let tokens : lexed.tokens ≡ other.tokens =
      one_tokens (hashes_in dialect) bytes lexed.tokens other.tokens lexed.comments other.comments a.lexes b.lexes in
      let comments : lexed.comments ≡ other.comments =
      one_comments (hashes_in dialect) bytes lexed.tokens other.tokens lexed.comments other.comments a.lexes b.lexes in
      λ i. record { text = same_text i; tokens = tokens i; comments = comments i }

  pub one_list_of_facts : OneTree → OneFacts → OneListOfFacts
  one_list_of_facts one_tree one_facts dialect form number bytes facts other a b =
      let Here : Lexed → Type 0 =
      λ lexed. Derives dialect lexed.text lexed.tokens b.tree
      × AreFactsOf (form_by dialect form) number lexed b.tree other in
      let moved : Here a.lexed =
      subst Here (sym (same_lexing dialect bytes a.lexed b.lexed a.lexing b.lexing)) (b.derives, b.of_tree) in
      let trees : a.tree ≡ b.tree = one_tree dialect a.lexed.text a.lexed.tokens a.tree b.tree a.derives moved.0 in
      let Of : File → Type 0 = λ tree. AreFactsOf (form_by dialect form) number a.lexed tree other in
      one_facts (form_by dialect form) number a.lexed a.tree facts other a.lexing.is_lexed a.of_tree
      (subst Of (sym trees) moved.1)

  -- what is known beside them is one, too
  pub one_beside : OneTree → OneListOfOptions → OneBesideAFile
  one_beside one_tree one_options bytes is_included beside other a b =
      let Here : Lexed → Type 0 = λ lexed. Derives All lexed.text lexed.tokens b.tree
      × (is_included ≡ false → AreOptionsOf All lexed b.tree other.options)
      × (other.messages ≡ messages_in lexed b.tree) in
      let moved : Here a.lexed =
      subst Here (sym (same_lexing All bytes a.lexed b.lexed a.lexing b.lexing)) (b.derives, b.of_source, b.messages) in
      let trees : a.tree ≡ b.tree = one_tree All a.lexed.text a.lexed.tokens a.tree b.tree a.derives moved.0 in
      let fields : beside.fields ≡ other.fields = a.fields ∙ (ap fields_in trees ∙ sym b.fields) in
      let Of : File → Type 0 = λ tree. AreOptionsOf All a.lexed tree other.options in
      let options : beside.options ≡ other.options = by is_included refl
      (λ source. one_options a.lexed a.tree beside.options other.options (a.of_source source)
      (subst Of (sym trees) (moved.1 source)))
      (λ included. a.of_included included ∙ sym (b.of_included included)) in
      let messages : beside.messages ≡ other.messages =
      a.messages ∙ (ap (messages_in a.lexed) trees ∙ sym moved.2) in
      λ i. record { options = options i; fields = fields i; messages = messages i }
    where
      by : (flag : Bool) → is_included ≡ flag → (is_included ≡ false → beside.options ≡ other.options)
          → (is_included ≡ true → beside.options ≡ other.options) → beside.options ≡ other.options
      by false is source included = source is
      by true is source included = included is

  -- so two faults of one file are one
  pub one_file_fault : OneFirstFault → OneSyntaxFault → LexedWhereUnparsed → OneFileFault
  one_file_fault one one_syntax apart dialect is_unread bytes Unread Unread is also = refl
  one_file_fault one one_syntax apart dialect is_unread bytes Unread (Lex other) is also =
      absurd (true≢false (sym is ∙ also.0))
  one_file_fault one one_syntax apart dialect is_unread bytes Unread (Syntax other) is also =
      absurd (true≢false (sym is ∙ also.0))
  one_file_fault one one_syntax apart dialect is_unread bytes (Lex fault) Unread is also =
      absurd (true≢false (sym also ∙ is.0))
  one_file_fault one one_syntax apart dialect is_unread bytes (Syntax fault) Unread is also =
      absurd (true≢false (sym also ∙ is.0))
  one_file_fault one one_syntax apart dialect is_unread bytes (Lex fault) (Lex other) is also =
      ap Lex (one_unlexed one dialect bytes fault other is.1 also.1)
  one_file_fault one one_syntax apart dialect is_unread bytes (Lex fault) (Syntax other) is also =
      absurd (apart dialect bytes fault other also.1 is.1)
  one_file_fault one one_syntax apart dialect is_unread bytes (Syntax fault) (Lex other) is also =
      absurd (apart dialect bytes other fault is.1 also.1)
  one_file_fault one one_syntax apart dialect is_unread bytes (Syntax fault) (Syntax other) is also =
      let first = is.1 in
      let second = also.1 in
      let Here : Lexed → Type 0 = λ lexed. HasFault dialect lexed.text lexed.tokens other in
      let same = same_lexing dialect bytes first.lexed second.lexed first.lexing second.lexing in
      ap Syntax (one_syntax dialect first.lexed.text first.lexed.tokens fault other first.has_fault
      (subst Here (sym same) second.has_fault))

  module _ (no_fault : NoFaultWhereItLexes) (no_syntax_fault : NoFaultWhereItDerives) where
    -- tokens of a file that derive a tree have no fault
    parsed_is_parsed : (dialect : Dialect) (form : FactForm) (number : ℕ) (bytes : List ℕ) (facts : Facts)
        (fault : SyntaxFault)
        → AreFactsIn dialect form number bytes facts → IsUnparsed dialect bytes fault → ⊥
    parsed_is_parsed dialect form number bytes facts fault has un =
        let Here : Lexed → Type 0 = λ lexed. HasFault dialect lexed.text lexed.tokens fault in
        let same = same_lexing dialect bytes has.lexed un.lexed has.lexing un.lexing in
        no_syntax_fault dialect has.lexed.text has.lexed.tokens has.tree fault has.derives
        (subst Here (sym same) un.has_fault)

    -- a file with a lexing isn't said to have none
    lexed_is_lexed : (dialect : Dialect) (bytes : List ℕ) (lexed : Lexed) (fault : LexFault)
        → HasLexing dialect bytes lexed → IsUnlexed dialect bytes fault → ⊥
    lexed_is_lexed dialect bytes lexed fault has (inl wrong) = text_is_text bytes fault has.text wrong
    lexed_is_lexed dialect bytes lexed fault has (inr first) =
        no_fault (hashes_in dialect) bytes lexed.tokens lexed.comments fault has.lexes first.1

    pub no_facts_where_unreadable : NoFactsWhereUnreadable
    no_facts_where_unreadable dialect form number bytes facts Unread has un = absurd (true≢false (sym un))
    no_facts_where_unreadable dialect form number bytes facts (Lex fault) has un =
        lexed_is_lexed dialect bytes has.lexed fault has.lexing un.1
    no_facts_where_unreadable dialect form number bytes facts (Syntax fault) has un =
        parsed_is_parsed dialect form number bytes facts fault has un.1

    pub lexed_where_unparsed : LexedWhereUnparsed
    lexed_where_unparsed dialect bytes lexing parsing un =
        lexed_is_lexed dialect bytes un.lexed lexing un.lexing

module _ (no_facts : NoFactsWhereUnreadable) where
  -- no source before the first faulty one is faulty
  not_before : (dialect : Dialect) (files : List TreeFile) (number other : ℕ) (fault another : FileFault)
      → IsFirstFaulty dialect files number fault → IsFirstFaulty dialect files other another → number < other → ⊥
  not_before dialect files number other fault another first second less =
      let has = second.before number first.file less first.numbered first.faulty.source in
      no_facts dialect has.0 number first.file.text has.1 fault has.2
      (subst (λ flag. IsUnreadable dialect flag first.file.text fault) has.3 first.faulty.unreadable)

  pub one_first_faulty : OneFirstFaulty
  one_first_faulty dialect files number other fault another first second = elim (cases_order number other) [
    | inl same ↦ same
    | inr apart ↦ elim apart [
      | inl less ↦ absurd (not_before dialect files number other fault another first second less)
      | inr more ↦ absurd (not_before dialect files other number another fault second first more)
    ]
  ]
