-- A spelled message is what its bytes decode to.
use Rattle.std.proofs.Common.{◌≡◌, ℕ, ◌^◌, ◌<◌, ◌≤◌, Bool, true, false, cond, nat_eq, List, [], ◌∷◌}
use Rattle.std.proofs.Common.{◌++◌, map, length, Option, Some, None, refl, sym, ◌∙◌, subst, arith, append-nil}
use Rattle.std.proofs.Common.{All, IfSome, IsUtf8}
use Rattle.std.specs.List.{flat_map}
use Rattle.std.proofs.lemmas.List.Elements.{All-head, All-tail}
use Rattle.scip_wire.proofs.SpellingRefLemmas.{info_signature}
use Rattle.scip_wire.proofs.SpelledPartLemmas.{Rises, same_number_of, payloads_in, known_behind, front_le, behind_le}
use Rattle.scip_wire.proofs.SpelledPartLemmas.{text_part, texts_part, int_part, message_part, messages_part}
use Rattle.scip_wire.proofs.SpelledPartLemmas.{range_part, bytes_part}
use Rattle.scip_records.specs.Range.{RangeNumbers, IsRange, max_range_number}
use Rattle.scip_records.specs.declared.records.Index.{Index}
use Rattle.scip_records.specs.declared.records.Metadata.{Metadata}
use Rattle.scip_records.specs.declared.records.ToolInfo.{ToolInfo}
use Rattle.scip_records.specs.declared.records.Document.{Document}
use Rattle.scip_records.specs.declared.records.Occurrence.{Occurrence}
use Rattle.scip_records.specs.declared.records.SymbolInformation.{SymbolInformation}
use Rattle.scip_records.specs.declared.details.Signature.{Signature}
use Rattle.scip_records.specs.Details.{no_signature}
use Rattle.scip_wire.specs.Fields.{Payload, Delimited, Field}
use Rattle.scip_wire.specs.Decodes.{payloads, Joined, none, next, absent, only, GivesMessage, message, OneMessage}
use Rattle.scip_wire.specs.Decodes.{GivesText, GivesDetail, readable, IsLast}
use Rattle.scip_wire.specs.Decodes.{IsSignature, IsInfo, IsToolInfo, IsMetadata, IsDocument, Decodes}
use Rattle.scip_wire.specs.Decodes.{low_32_bits, ArePacked}
use Rattle.scip_wire.specs.Decodes.{none as no_number, next as next_number, GivesNumbers, packed, AreRangeNumbers}
use Rattle.scip_wire.specs.Decodes.{on_one_line, over_lines, AreNoRange, AreEnclosing, absent as no_range, enclosing}
use Rattle.scip_wire.specs.Decodes.{HoldsOccurrence, GivesOccurrence, occurrence}
use Rattle.scip_wire.specs.Spelling.{varint, bytes_of, bytes_field}
use Rattle.scip_wire.specs.Spelling.{in_64_bits, repeated_message_fields, optional_message_fields}
use Rattle.scip_wire.specs.Spelling.{range_numbers, optional_range_fields, occurrence_fields}
use Rattle.scip_wire.specs.Spelling.{signature_fields, info_fields, document_fields, tool_info_fields}
use Rattle.scip_wire.specs.Spelling.{metadata_fields, index_fields, spelling_of, max_index_len}
use Rattle.scip_wire.specs.Saturated.{fields_len}
use Rattle.scip_wire.specs.WellFormed.{IsFitOccurrence, IsFitSignature, IsFitInfo, IsFitDocument, IsFitToolInfo}
use Rattle.scip_wire.specs.WellFormed.{IsFitMetadata}
use Rattle.scip_wire.specs.WellFormed.{IsWellFormed}
use Rattle.scip_wire.specs.Reading.{range_at}
use Rattle.scip_wire.proofs.DecodesLemmas.{none_of_nothing, no_range_found}
use Rattle.scip_wire.proofs.SaturatedLemmas.{fields_len_more, message_le}
use Rattle.scip_wire.proofs.FieldSpelledLemmas.{varint_is, fields_are}
use Rattle.scip_wire.proofs.DecodesSpelledPayloadLemmas.{same_text, same_texts, same_int, same_messages}
use Rattle.scip_wire.proofs.DecodesSpelledPayloadLemmas.{text_given, texts_given, int_given}
use Rattle.scip_wire.proofs.DecodesSpelledPayloadLemmas.{text_payloads}
use Rattle.scip_wire.proofs.DecodesSpelledPayloadLemmas.{number_payloads}

-- ---- messages inside messages

messages_given : {A : Type 0} (Gives : Payload → List A → Type 0) (Fit : A → Type 0) (fields : A → List Field) (k : ℕ)
    → ((x : A) → Fit x → fields_len (fields x) < 2 ^ 64 → Gives (Delimited (bytes_of (fields x))) (x ∷ []))
    → (xs : List A) → All Fit xs → fields_len (repeated_message_fields k fields xs) < 2 ^ 64
    → Joined Gives (map (λ x. Delimited (bytes_of (fields x))) xs) xs
messages_given Gives Fit fields k given [] fit short = none
messages_given Gives Fit fields k given (x ∷ xs) fit short =
    let split = fields_len_more (bytes_field k (bytes_of (fields x))) (repeated_message_fields k fields xs) in
    let own = message_le k (bytes_of (fields x)) in
    next (given x (All-head Fit x xs fit) (omega (arith, split, own)))
    (messages_given Gives Fit fields k given xs (All-tail Fit x xs fit) (omega (arith, split)))

message_given : {A : Type 0} (Is : List ℕ → A → Type 0) (Fit : A → Type 0) (fields : A → List Field) (n k : ℕ)
    → ((x : A) → Fit x → fields_len (fields x) < 2 ^ 64 → Is (bytes_of (fields x)) x) → nat_eq k n ≡ true
    → (o : Option A) → IfSome o Fit → fields_len (optional_message_fields k fields o) < 2 ^ 64
    → OneMessage Is n (optional_message_fields k fields o) o
message_given Is Fit fields n k given same None fit short = absent none
message_given Is Fit fields n k given same (Some x) fit short =
    only (rw same (next (message (given x fit (omega (arith, message_le k (bytes_of (fields x)))))) none))

-- ---- the messages of `scip.proto`

signature_is : (s : Signature) → IsFitSignature s → fields_len (signature_fields s) < 2 ^ 64
    → IsSignature (bytes_of (signature_fields s)) s
signature_is s fit short =
    let first = text_part 4 (omega arith) (omega arith) s.language in
    let others = text_part 5 (omega arith) (omega arith) s.text ∷ [] in
    let rising : Rises 4 others = (omega arith, tt) in
    let in_language : payloads 4 (signature_fields s) ≡ text_payloads s.language =
    payloads_in 4 first others rising ∙ same_text 4 s.language refl in
    let in_text : payloads 5 (signature_fields s) ≡ text_payloads s.text =
    payloads_in 5 first others rising ∙ same_text 5 s.text refl in
    record {
      fields = signature_fields s;
      has_fields = fields_are (signature_fields s) (known_behind first.fields others first.known) short;
      language = rw in_language (text_given s.language fit.language);
      text = rw in_text (text_given s.text fit.text);
    }

-- one without bytes is the one that isn't there
signature_given : (s : Signature) (bytes : List ℕ) → IsSignature bytes s
    → IsLast no_signature (Joined (GivesDetail (GivesMessage IsSignature)) (text_payloads bytes)) s
signature_given s [] is = record { values = []; are_values = none; is_last = none_of_nothing s is }
signature_given s (b ∷ bs) is =
    record { values = s ∷ []; are_values = next (readable (message is)) none; is_last = refl }

-- what all can read can be read as details
all_readable : {A : Type 0} {Gives : Payload → List A → Type 0} {ps : List Payload} {xs : List A}
    → Joined Gives ps xs → Joined (GivesDetail Gives) ps xs
all_readable none = none
all_readable (next given others) = next (readable given) (all_readable others)

enclosing_symbol_given : (t : List ℕ) → IsUtf8 t → IsLast [] (Joined (GivesDetail GivesText) (text_payloads t)) t
enclosing_symbol_given t utf8 =
    let given = text_given t utf8 in
    record { values = given.values; are_values = all_readable given.are_values; is_last = given.is_last }

pub info_is : (i : SymbolInformation) → IsFitInfo i → fields_len (info_fields i) < 2 ^ 64
    → IsInfo (bytes_of (info_fields i)) i
info_is i fit short =
    let signature = i.details.signature in
    let inside = bytes_of (signature_fields signature) in
    let first = text_part 1 (omega arith) (omega arith) i.symbol in
    let others = texts_part 3 (omega arith) (omega arith) i.documentation
    ∷ int_part 5 (omega arith) (omega arith) i.details.kind fit.details.kind
    ∷ text_part 6 (omega arith) (omega arith) i.display_name
    ∷ text_part 7 (omega arith) (omega arith) inside
    ∷ text_part 8 (omega arith) (omega arith) i.details.enclosing_symbol ∷ [] in
    let rising : Rises 1 others = (omega arith, (omega arith, (omega arith, (omega arith, (omega arith, tt))))) in
    let in_symbol : payloads 1 (info_fields i) ≡ text_payloads i.symbol =
    payloads_in 1 first others rising ∙ same_text 1 i.symbol refl in
    let in_documentation : payloads 3 (info_fields i) ≡ map Delimited i.documentation =
    payloads_in 3 first others rising ∙ same_texts 3 i.documentation refl in
    let in_kind : payloads 5 (info_fields i) ≡ number_payloads (in_64_bits i.details.kind) =
    payloads_in 5 first others rising ∙ same_int 5 i.details.kind refl in
    let in_display_name : payloads 6 (info_fields i) ≡ text_payloads i.display_name =
    payloads_in 6 first others rising ∙ same_text 6 i.display_name refl in
    let in_signature : payloads 7 (info_fields i) ≡ text_payloads inside =
    payloads_in 7 first others rising ∙ same_text 7 inside refl in
    let in_enclosing : payloads 8 (info_fields i) ≡ text_payloads i.details.enclosing_symbol =
    payloads_in 8 first others rising ∙ same_text 8 i.details.enclosing_symbol refl in
    record {
      fields = info_fields i;
      has_fields = fields_are (info_fields i) (known_behind first.fields others first.known) short;
      symbol = rw in_symbol (text_given i.symbol fit.symbol);
      documentation = rw in_documentation (texts_given i.documentation fit.documentation);
      kind = rw in_kind (int_given i.details.kind fit.details.kind);
      display_name = rw in_display_name (text_given i.display_name fit.display_name);
      signature = rw in_signature
          (signature_given signature inside (signature_is signature fit.details.signature (info_signature i short)));
      enclosing_symbol = rw in_enclosing
          (enclosing_symbol_given i.details.enclosing_symbol fit.details.enclosing_symbol);
    }

tool_info_is : (t : ToolInfo) → IsFitToolInfo t → fields_len (tool_info_fields t) < 2 ^ 64
    → IsToolInfo (bytes_of (tool_info_fields t)) t
tool_info_is t fit short =
    let first = text_part 1 (omega arith) (omega arith) t.name in
    let others = text_part 2 (omega arith) (omega arith) t.version
    ∷ texts_part 3 (omega arith) (omega arith) t.arguments ∷ [] in
    let rising : Rises 1 others = (omega arith, (omega arith, tt)) in
    let in_name : payloads 1 (tool_info_fields t) ≡ text_payloads t.name =
    payloads_in 1 first others rising ∙ same_text 1 t.name refl in
    let in_version : payloads 2 (tool_info_fields t) ≡ text_payloads t.version =
    payloads_in 2 first others rising ∙ same_text 2 t.version refl in
    let in_arguments : payloads 3 (tool_info_fields t) ≡ map Delimited t.arguments =
    payloads_in 3 first others rising ∙ same_texts 3 t.arguments refl in
    record {
      fields = tool_info_fields t;
      has_fields = fields_are (tool_info_fields t) (known_behind first.fields others first.known) short;
      name = rw in_name (text_given t.name fit.name);
      version = rw in_version (text_given t.version fit.version);
      arguments = rw in_arguments (texts_given t.arguments fit.arguments);
    }

metadata_is : (m : Metadata) → IsFitMetadata m → fields_len (metadata_fields m) < 2 ^ 64
    → IsMetadata (bytes_of (metadata_fields m)) m
metadata_is m fit short =
    let first = int_part 1 (omega arith) (omega arith) m.version fit.version in
    let others = message_part tool_info_fields 2 (omega arith) (omega arith) m.tool_info
    ∷ text_part 3 (omega arith) (omega arith) m.project_root
    ∷ int_part 4 (omega arith) (omega arith) m.text_document_encoding fit.text_document_encoding ∷ [] in
    let rising : Rises 1 others = (omega arith, (omega arith, (omega arith, tt))) in
    let in_version : payloads 1 (metadata_fields m) ≡ number_payloads (in_64_bits m.version) =
    payloads_in 1 first others rising ∙ same_int 1 m.version refl in
    let in_tool_info : payloads 2 (metadata_fields m)
    ≡ payloads 2 (optional_message_fields 2 tool_info_fields m.tool_info) = payloads_in 2 first others rising in
    let in_project_root : payloads 3 (metadata_fields m) ≡ text_payloads m.project_root =
    payloads_in 3 first others rising ∙ same_text 3 m.project_root refl in
    let in_encoding : payloads 4 (metadata_fields m) ≡ number_payloads (in_64_bits m.text_document_encoding) =
    payloads_in 4 first others rising ∙ same_int 4 m.text_document_encoding refl in
    let tool_info_short : fields_len (optional_message_fields 2 tool_info_fields m.tool_info) < 2 ^ 64 =
    omega (arith, short, behind_le 2 first.fields others) in
    record {
      fields = metadata_fields m;
      has_fields = fields_are (metadata_fields m) (known_behind first.fields others first.known) short;
      version = rw in_version (int_given m.version fit.version);
      tool_info = rw in_tool_info
          (message_given IsToolInfo IsFitToolInfo tool_info_fields 2 2 tool_info_is refl m.tool_info fit.tool_info
          tool_info_short);
      project_root = rw in_project_root (text_given m.project_root fit.project_root);
      text_document_encoding = rw in_encoding (int_given m.text_document_encoding fit.text_document_encoding);
    }

-- ---- occurrences

packed_more : (n : ℕ) (ns : List ℕ) → n ≤ max_range_number → ArePacked (flat_map varint ns) ns
    → ArePacked (flat_map varint (n ∷ ns)) (n ∷ ns)
packed_more n ns small rest =
    let low : low_32_bits n ≡ n = omega arith in
    subst (λ m. ArePacked (varint n ++ flat_map varint ns) (m ∷ ns)) low
    (next_number (varint_is n (flat_map varint ns) (omega arith)) rest)

range_packed : (r : RangeNumbers) → IsRange r → ArePacked (flat_map varint (range_numbers r)) (range_numbers r)
range_packed r fits =
    let last = packed_more r.end_column [] fits.end_column no_number in
    elim (nat_eq r.start_line r.end_line) as
    (λ b. let ns = cond b (r.start_line ∷ r.start_column ∷ r.end_column ∷ [])
    (r.start_line ∷ r.start_column ∷ r.end_line ∷ r.end_column ∷ []) in ArePacked (flat_map varint ns) ns) [
      | true ↦ packed_more _ _ fits.start_line (packed_more _ _ fits.start_column last)
      | false ↦ packed_more _ _ fits.start_line (packed_more _ _ fits.start_column (packed_more _ _ fits.end_line last))
    ]

range_of : (r : RangeNumbers) (b : Bool) → nat_eq r.start_line r.end_line ≡ b
    → AreRangeNumbers (cond b (r.start_line ∷ r.start_column ∷ r.end_column ∷ [])
    (r.start_line ∷ r.start_column ∷ r.end_line ∷ r.end_column ∷ [])) r
range_of r true e =
    subst (λ line. AreRangeNumbers (r.start_line ∷ r.start_column ∷ r.end_column ∷ [])
    (record {
      start_line = r.start_line;
      start_column = r.start_column;
      end_line = line;
      end_column = r.end_column;
    }))
    (same_number_of r.start_line r.end_line e) on_one_line
range_of r false e = over_lines

are_range : (r : RangeNumbers) → AreRangeNumbers (range_numbers r) r
are_range r = range_of r (nat_eq r.start_line r.end_line) refl

-- the numbers of a range in its record
range_given : (r : RangeNumbers) → IsRange r
    → Joined GivesNumbers (Delimited (flat_map varint (range_numbers r)) ∷ []) (range_numbers r)
range_given r fits =
    subst (Joined GivesNumbers (Delimited (flat_map varint (range_numbers r)) ∷ [])) (append-nil (range_numbers r))
    (next (packed (range_packed r fits)) none)

-- of one that may be absent
abbrev numbers_around : Option RangeNumbers → List ℕ
numbers_around None = []
numbers_around (Some r) = range_numbers r

-- no numbers are no range
none_of_no_numbers : AreNoRange []
unfolding range_at
none_of_no_numbers = no_range_found [] refl

around_given : (o : Option RangeNumbers) → IfSome o IsRange
    → (Joined GivesNumbers (payloads 7 (optional_range_fields 7 o)) (numbers_around o))
    × (AreEnclosing (numbers_around o) o)
around_given None fits = (none, no_range none_of_no_numbers)
around_given (Some r) fits = (range_given r fits, enclosing (are_range r) fits)

occurrence_is : (o : Occurrence) → IsFitOccurrence o → fields_len (occurrence_fields o) < 2 ^ 64
    → GivesOccurrence (Delimited (bytes_of (occurrence_fields o))) (o ∷ [])
occurrence_is o fit short =
    let numbers = range_numbers o.range in
    let around = around_given o.enclosing_range fit.enclosing_range in
    let first = bytes_part 1 (omega arith) (omega arith) (flat_map varint numbers) in
    let others = text_part 2 (omega arith) (omega arith) o.symbol
    ∷ int_part 3 (omega arith) (omega arith) o.symbol_roles fit.symbol_roles
    ∷ range_part 7 (omega arith) (omega arith) o.enclosing_range ∷ [] in
    let rising : Rises 1 others = (omega arith, (omega arith, (omega arith, tt))) in
    let in_range : payloads 1 (occurrence_fields o) ≡ Delimited (flat_map varint numbers) ∷ [] =
    payloads_in 1 first others rising in
    let in_symbol : payloads 2 (occurrence_fields o) ≡ text_payloads o.symbol =
    payloads_in 2 first others rising ∙ same_text 2 o.symbol refl in
    let in_roles : payloads 3 (occurrence_fields o) ≡ number_payloads (in_64_bits o.symbol_roles) =
    payloads_in 3 first others rising ∙ same_int 3 o.symbol_roles refl in
    let in_around : payloads 7 (occurrence_fields o) ≡ payloads 7 (optional_range_fields 7 o.enclosing_range) =
    payloads_in 7 first others rising in
    let holds : HoldsOccurrence (bytes_of (occurrence_fields o)) numbers o.symbol o.symbol_roles
    (numbers_around o.enclosing_range) = record {
      fields = occurrence_fields o;
      has_fields = fields_are (occurrence_fields o) (known_behind first.fields others first.known) short;
      range = subst (λ ps. Joined GivesNumbers ps numbers) (sym in_range) (range_given o.range fit.range);
      symbol_text = rw in_symbol (text_given o.symbol fit.symbol);
      symbol_roles = rw in_roles (int_given o.symbol_roles fit.symbol_roles);
      enclosing_range = all_readable
          (subst (λ ps. Joined GivesNumbers ps (numbers_around o.enclosing_range)) (sym in_around) around.0);
    } in
    occurrence holds (are_range o.range) fit.range around.1

-- ---- documents

document_is : (d : Document) → IsFitDocument d → fields_len (document_fields d) < 2 ^ 64
    → IsDocument (bytes_of (document_fields d)) d
document_is d fit short =
    let first = text_part 1 (omega arith) (omega arith) d.relative_path in
    let others = messages_part occurrence_fields 2 (omega arith) (omega arith) d.occurrences
    ∷ messages_part info_fields 3 (omega arith) (omega arith) d.symbols
    ∷ text_part 4 (omega arith) (omega arith) d.language
    ∷ int_part 6 (omega arith) (omega arith) d.position_encoding fit.position_encoding ∷ [] in
    let rising : Rises 1 others = (omega arith, (omega arith, (omega arith, (omega arith, tt)))) in
    let in_path : payloads 1 (document_fields d) ≡ text_payloads d.relative_path =
    payloads_in 1 first others rising ∙ same_text 1 d.relative_path refl in
    let in_occurrences : payloads 2 (document_fields d)
    ≡ map (λ o. Delimited (bytes_of (occurrence_fields o))) d.occurrences =
    payloads_in 2 first others rising ∙ same_messages occurrence_fields 2 d.occurrences refl in
    let in_symbols : payloads 3 (document_fields d) ≡ map (λ i. Delimited (bytes_of (info_fields i))) d.symbols =
    payloads_in 3 first others rising ∙ same_messages info_fields 3 d.symbols refl in
    let in_language : payloads 4 (document_fields d) ≡ text_payloads d.language =
    payloads_in 4 first others rising ∙ same_text 4 d.language refl in
    let in_encoding : payloads 6 (document_fields d) ≡ number_payloads (in_64_bits d.position_encoding) =
    payloads_in 6 first others rising ∙ same_int 6 d.position_encoding refl in
    let occurrences_short : fields_len (repeated_message_fields 2 occurrence_fields d.occurrences) < 2 ^ 64 =
    omega (arith, short, behind_le 2 first.fields others) in
    let symbols_short : fields_len (repeated_message_fields 3 info_fields d.symbols) < 2 ^ 64 =
    omega (arith, short, behind_le 3 first.fields others) in
    record {
      fields = document_fields d;
      has_fields = fields_are (document_fields d) (known_behind first.fields others first.known) short;
      relative_path = rw in_path (text_given d.relative_path fit.relative_path);
      occurrences = rw in_occurrences
          (messages_given GivesOccurrence IsFitOccurrence occurrence_fields 2 occurrence_is d.occurrences
          fit.occurrences occurrences_short);
      symbols = rw in_symbols (messages_given (GivesMessage IsInfo) IsFitInfo info_fields 3
          (λ i fit short. message (info_is i fit short)) d.symbols fit.symbols symbols_short);
      language = rw in_language (text_given d.language fit.language);
      position_encoding = rw in_encoding (int_given d.position_encoding fit.position_encoding);
    }

-- ---- the index

pub spelling_decodes : (i : Index) → IsWellFormed i → length (spelling_of i) ≤ max_index_len → Decodes (spelling_of i) i
spelling_decodes i fit short =
    let first = message_part metadata_fields 1 (omega arith) (omega arith) i.metadata in
    let others = messages_part document_fields 2 (omega arith) (omega arith) i.documents
    ∷ messages_part info_fields 3 (omega arith) (omega arith) i.external_symbols ∷ [] in
    let rising : Rises 1 others = (omega arith, (omega arith, tt)) in
    let in_metadata : payloads 1 (index_fields i) ≡ payloads 1 (optional_message_fields 1 metadata_fields i.metadata) =
    payloads_in 1 first others rising in
    let in_documents : payloads 2 (index_fields i) ≡ map (λ d. Delimited (bytes_of (document_fields d))) i.documents =
    payloads_in 2 first others rising ∙ same_messages document_fields 2 i.documents refl in
    let in_symbols : payloads 3 (index_fields i) ≡ map (λ s. Delimited (bytes_of (info_fields s))) i.external_symbols =
    payloads_in 3 first others rising ∙ same_messages info_fields 3 i.external_symbols refl in
    let metadata_short : fields_len (optional_message_fields 1 metadata_fields i.metadata) < 2 ^ 64 =
    omega (arith, short, front_le first.fields others) in
    let documents_short : fields_len (repeated_message_fields 2 document_fields i.documents) < 2 ^ 64 =
    omega (arith, short, behind_le 2 first.fields others) in
    let symbols_short : fields_len (repeated_message_fields 3 info_fields i.external_symbols) < 2 ^ 64 =
    omega (arith, short, behind_le 3 first.fields others) in
    record {
      fields = index_fields i;
      has_fields = fields_are (index_fields i) (known_behind first.fields others first.known) (omega arith);
      metadata = rw in_metadata
          (message_given IsMetadata IsFitMetadata metadata_fields 1 1 metadata_is refl i.metadata fit.metadata
          metadata_short);
      documents = rw in_documents
          (messages_given (GivesMessage IsDocument) IsFitDocument document_fields 2
          (λ d fit short. message (document_is d fit short)) i.documents fit.documents documents_short);
      external_symbols = rw in_symbols
          (messages_given (GivesMessage IsInfo) IsFitInfo info_fields 3
          (λ s fit short. message (info_is s fit short)) i.external_symbols fit.external_symbols symbols_short);
    }
