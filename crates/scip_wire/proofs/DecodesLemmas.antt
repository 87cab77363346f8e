-- What the reader computes of each message is what its bytes decode to, and nothing else is.
use Rattle.std.proofs.Common.{◌≡◌, refl, ap, sym, ◌∙◌, subst, ℕ, zero, suc, ℤ, ◌<◌, List, [], ◌∷◌, ◌++◌, length, Option}
use Rattle.std.proofs.Common.{Some, None, Result, Ok, Err, arith}
use Rattle.std.proofs.lemmas.Option.{same_Some, none-some}
use Rattle.std.specs.Prelude.{SomeIff, IfOk, MatchResult}
use Rattle.std.proofs.lemmas.Bool.{le-leb, leb-true, cond-true, cond-false}
use Rattle.std.proofs.lemmas.List.{append-nil, append_assoc}
use Rattle.scip_records.specs.Range.{RangeNumbers, IsRange, max_range_number}
use Rattle.scip_records.specs.declared.records.Index.{Index}
use Rattle.scip_records.specs.declared.records.Metadata.{Metadata}
use Rattle.scip_records.specs.declared.records.ToolInfo.{ToolInfo}
use Rattle.scip_records.specs.declared.records.Document.{Document}
use Rattle.scip_records.specs.declared.records.Occurrence.{Occurrence}
use Rattle.scip_records.specs.declared.records.SymbolInformation.{SymbolInformation}
use Rattle.scip_records.specs.declared.details.Signature.{Signature}
use Rattle.scip_records.specs.Details.{no_signature}
use Rattle.scip_wire.specs.declared.wire_fault.WireFault.{WireFault}
use Rattle.scip_wire.specs.declared.wire_fault.WireFault.TheVariants.{Memory}
use Rattle.scip_wire.specs.declared.read.occurrence.OccurrenceParts.{OccurrenceParts}
use Rattle.scip_wire.specs.Fields.{Payload, Varint, Fixed64, Delimited, Fixed32, max_varint_len}
use Rattle.scip_wire.specs.Decodes.{low_32_bits, ArePacked, GivesNumbers, one, packed, AreRangeNumbers, on_one_line}
use Rattle.scip_wire.specs.Decodes.{over_lines, AreNoRange, AreEnclosing, enclosing, HoldsOccurrence}
use Rattle.scip_wire.specs.Decodes.{GivesText, GivesMessage, GivesDetail, GivesOccurrence}
use Rattle.scip_wire.specs.Decodes.{occurrence, without_range, IsSignature, IsInfo}
use Rattle.scip_wire.specs.Decodes.{IsToolInfo, IsMetadata, IsDocument, Decodes}
use Rattle.scip_wire.specs.Gives.{Gives}
use Rattle.scip_wire.specs.Reading.{◌>>=◌, fold_in, fold_at, field_at, varint_at, add_more, signature_step, signature_at}
use Rattle.scip_wire.specs.Reading.{info_step, no_info, info_at, text_at, message_in, detail_in}
use Rattle.scip_wire.specs.Reading.{tool_info_step, no_tool_info, tool_info_at, metadata_step, no_metadata, metadata_at}
use Rattle.scip_wire.specs.Reading.{packed_step, packed_at, numbers_in, fits, checked_range, range_at, occurrence_step}
use Rattle.scip_wire.specs.Reading.{no_parts, parts_at, occurrence_of, occurrence_at, occurrence_in, document_step}
use Rattle.scip_wire.specs.Reading.{no_document, document_at, index_step, no_index, index_at}
use Rattle.scip_wire.proofs.ReadingOptionLemmas.{bind_some, bind_at, guard_some, split, bind_same, bind_assoc}
use Rattle.scip_wire.proofs.GivesLemmas.{is_memory}
use Rattle.scip_wire.proofs.FieldLemmas.{varint_found, varint_exact, varint_falls}
use Rattle.scip_wire.proofs.ReadingFoldLemmas.{fold_done, fold_goes_on, fields_found, fields_exact, both_found}
use Rattle.scip_wire.proofs.ReadingFoldLemmas.{both_exact}
use Rattle.scip_wire.proofs.ReadingFoldLemmas.{parted_found, parted_exact}
use Rattle.scip_wire.proofs.DecodesColumnLemmas.{text_found, text_exact, texts_found, texts_exact, number_found}
use Rattle.scip_wire.proofs.DecodesColumnLemmas.{number_exact}
use Rattle.scip_wire.proofs.DecodesColumnLemmas.{repeated_found, repeated_exact, messages_found, messages_exact}
use Rattle.scip_wire.proofs.DecodesColumnLemmas.{one_message_found, one_message_exact, text_in_found, text_in_exact}
use Rattle.scip_wire.proofs.DecodesColumnLemmas.{message_in_found, message_in_exact, detail_found, detail_exact}
use Rattle.scip_wire.proofs.DecodesColumnLemmas.{last_detail_found, last_detail_exact}

-- ---- signatures

pub signature_found : (bytes : List ℕ) (s : Signature) → signature_at bytes ≡ Some s → IsSignature bytes s
unfolding signature_at signature_step
signature_found bytes s e =
    let f = fields_found signature_step bytes no_signature s e in
    let a = both_found _ _ f.0 _ _ (parted_found _ _ _ (λ t. refl) f.0 no_signature s f.2) in
    record {
      fields = f.0;
      has_fields = f.1;
      language = text_found 4 f.0 s.language a.0;
      text = text_found 5 f.0 s.text a.1;
    }

pub signature_exact : (bytes : List ℕ) (s : Signature) → IsSignature bytes s → signature_at bytes ≡ Some s
unfolding signature_at signature_step
signature_exact bytes s d =
    fields_exact signature_step d.has_fields no_signature s
    (parted_exact _ _ _ (λ t. refl) (λ s. refl) d.fields no_signature s
    (both_exact _ _ d.fields _ _ _ _ (text_exact 4 d.fields s.language d.language)
    (text_exact 5 d.fields s.text d.text)))

signature_in_found : (payload : Payload) (xs : List Signature) → message_in signature_at payload ≡ Some xs
    → GivesMessage IsSignature payload xs
signature_in_found = message_in_found signature_at IsSignature signature_found

signature_in_exact : (payload : Payload) (xs : List Signature) → GivesMessage IsSignature payload xs
    → message_in signature_at payload ≡ Some xs
signature_in_exact = message_in_exact signature_at IsSignature signature_exact

-- a document without bytes is no signature
pub none_of_nothing : (s : Signature) → IsSignature [] s → s ≡ no_signature
unfolding signature_at
none_of_nothing s is =
    same_Some s no_signature (sym (signature_exact [] s is) ∙ fold_done field_at signature_step no_signature)

-- ---- symbol information

pub info_found : (bytes : List ℕ) (i : SymbolInformation) → info_at bytes ≡ Some i → IsInfo bytes i
unfolding info_at info_step
info_found bytes i e =
    let f = fields_found info_step bytes no_info i e in
    let a = both_found _ _ f.0 _ _ (parted_found _ _ _ (λ t. refl) f.0 no_info i f.2) in
    let b = both_found _ _ f.0 _ _ a.1 in
    let c = both_found _ _ f.0 _ _ b.1 in
    let g = both_found _ _ f.0 _ _ c.1 in
    let h = both_found _ _ f.0 _ _ g.1 in
    record {
      fields = f.0;
      has_fields = f.1;
      symbol = text_found 1 f.0 i.symbol a.0;
      documentation = texts_found 3 f.0 i.documentation b.0;
      kind = number_found 5 f.0 i.details.kind c.0;
      display_name = text_found 6 f.0 i.display_name g.0;
      signature = last_detail_found (message_in signature_at) (GivesMessage IsSignature) signature_in_found
          signature_in_exact 7 f.0 no_signature i.details.signature h.0;
      enclosing_symbol = last_detail_found (message_in text_at) GivesText text_in_found text_in_exact 8 f.0 []
          i.details.enclosing_symbol h.1;
    }

pub info_exact : (bytes : List ℕ) (i : SymbolInformation) → IsInfo bytes i → info_at bytes ≡ Some i
unfolding info_at info_step
info_exact bytes i d =
    fields_exact info_step d.has_fields no_info i (parted_exact _ _ _ (λ t. refl) (λ s. refl) d.fields no_info i
    (both_exact _ _ d.fields _ _ _ _ (text_exact 1 d.fields i.symbol d.symbol)
    (both_exact _ _ d.fields _ _ _ _ (texts_exact 3 d.fields i.documentation d.documentation)
    (both_exact _ _ d.fields _ _ _ _ (number_exact 5 d.fields i.details.kind d.kind)
    (both_exact _ _ d.fields _ _ _ _ (text_exact 6 d.fields i.display_name d.display_name)
    (both_exact _ _ d.fields _ _ _ _
    (last_detail_exact (message_in signature_at) (GivesMessage IsSignature) signature_in_found signature_in_exact 7
    d.fields no_signature i.details.signature d.signature)
    (last_detail_exact (message_in text_at) GivesText text_in_found text_in_exact 8 d.fields []
    i.details.enclosing_symbol d.enclosing_symbol)))))))

-- ---- tool information

pub tool_info_found : (bytes : List ℕ) (t : ToolInfo) → tool_info_at bytes ≡ Some t → IsToolInfo bytes t
unfolding tool_info_at tool_info_step
tool_info_found bytes t e =
    let f = fields_found tool_info_step bytes no_tool_info t e in
    let a = both_found _ _ f.0 _ _ (parted_found _ _ _ (λ t. refl) f.0 no_tool_info t f.2) in
    let b = both_found _ _ f.0 _ _ a.1 in
    record {
      fields = f.0;
      has_fields = f.1;
      name = text_found 1 f.0 t.name a.0;
      version = text_found 2 f.0 t.version b.0;
      arguments = texts_found 3 f.0 t.arguments b.1;
    }

pub tool_info_exact : (bytes : List ℕ) (t : ToolInfo) → IsToolInfo bytes t → tool_info_at bytes ≡ Some t
unfolding tool_info_at tool_info_step
tool_info_exact bytes t d =
    fields_exact tool_info_step d.has_fields no_tool_info t
    (parted_exact _ _ _ (λ t. refl) (λ s. refl) d.fields no_tool_info t
    (both_exact _ _ d.fields _ _ _ _ (text_exact 1 d.fields t.name d.name)
    (both_exact _ _ d.fields _ _ _ _ (text_exact 2 d.fields t.version d.version)
    (texts_exact 3 d.fields t.arguments d.arguments))))

-- ---- metadata

pub metadata_found : (bytes : List ℕ) (m : Metadata) → metadata_at bytes ≡ Some m → IsMetadata bytes m
unfolding metadata_at metadata_step
metadata_found bytes m e =
    let f = fields_found metadata_step bytes no_metadata m e in
    let a = both_found _ _ f.0 _ _ (parted_found _ _ _ (λ t. refl) f.0 no_metadata m f.2) in
    let b = both_found _ _ f.0 _ _ a.1 in
    let c = both_found _ _ f.0 _ _ b.1 in
    record {
      fields = f.0;
      has_fields = f.1;
      version = number_found 1 f.0 m.version a.0;
      tool_info = one_message_found tool_info_at IsToolInfo tool_info_found tool_info_exact 2 f.0 m.tool_info b.0;
      project_root = text_found 3 f.0 m.project_root c.0;
      text_document_encoding = number_found 4 f.0 m.text_document_encoding c.1;
    }

pub metadata_exact : (bytes : List ℕ) (m : Metadata) → IsMetadata bytes m → metadata_at bytes ≡ Some m
unfolding metadata_at metadata_step
metadata_exact bytes m d =
    fields_exact metadata_step d.has_fields no_metadata m
    (parted_exact _ _ _ (λ t. refl) (λ s. refl) d.fields no_metadata m
    (both_exact _ _ d.fields _ _ _ _ (number_exact 1 d.fields m.version d.version)
    (both_exact _ _ d.fields _ _ _ _
    (one_message_exact tool_info_at IsToolInfo tool_info_found tool_info_exact 2 d.fields m.tool_info d.tool_info)
    (both_exact _ _ d.fields _ _ _ _ (text_exact 3 d.fields m.project_root d.project_root)
    (number_exact 4 d.fields m.text_document_encoding d.text_document_encoding)))))

-- ---- the numbers of a range

pub varint_shortens : (bytes : List ℕ) (x : ℕ × List ℕ) → varint_at max_varint_len bytes ≡ Some x
    → length x.1 < length bytes
varint_shortens bytes x e = varint_falls (varint_found max_varint_len bytes x e)

packed_in_found : (bound : ℕ) (bytes s t : List ℕ)
    → fold_in (varint_at max_varint_len) packed_step bound bytes s ≡ Some t
    → (ns : List ℕ) × (ArePacked bytes ns) × (t ≡ s ++ ns)
unfolding fold_in packed_step
packed_in_found zero [] s t e = ([], ArePacked.none, sym (same_Some s t e) ∙ sym (append-nil s))
packed_in_found (suc bound) [] s t e = ([], ArePacked.none, sym (same_Some s t e) ∙ sym (append-nil s))
packed_in_found zero (byte ∷ bytes) s t e = absurd (cc)
packed_in_found (suc bound) (byte ∷ bytes) s t e =
    let x = bind_some (varint_at max_varint_len (byte ∷ bytes)) _ t e in
    let h = packed_in_found bound x.0.1 (s ++ low_32_bits x.0.0 ∷ []) t x.2 in (
      low_32_bits x.0.0 ∷ h.0,
      ArePacked.next (varint_found max_varint_len (byte ∷ bytes) x.0 x.1) h.1,
      h.2 ∙ append_assoc s (low_32_bits x.0.0 ∷ []) h.0,
    )

packed_exact_on : {bytes ns : List ℕ} → ArePacked bytes ns → (s : List ℕ)
    → fold_at (varint_at max_varint_len) packed_step bytes s ≡ Some (s ++ ns)
unfolding packed_step
packed_exact_on ArePacked.none s = fold_done (varint_at max_varint_len) packed_step s ∙ ap Some (sym (append-nil s))
packed_exact_on (ArePacked.next {bytes = []} v vs) s = absurd (omega (arith, varint_falls v))
packed_exact_on (ArePacked.next {bytes = byte ∷ bytes} {rest = rest} {value = value} {numbers = ns} v vs) s =
    sym (fold_goes_on (varint_at max_varint_len) packed_step varint_shortens byte bytes s (s ++ low_32_bits value ∷ [])
    (value, rest) (varint_exact v) refl)
    ∙ (packed_exact_on vs (s ++ low_32_bits value ∷ []) ∙ ap Some (append_assoc s (low_32_bits value ∷ []) ns))

packed_found : (bytes ns : List ℕ) → packed_at bytes ≡ Some ns → ArePacked bytes ns
unfolding packed_at fold_at
packed_found bytes ns e =
    let h = packed_in_found (length bytes) bytes [] ns e in
    subst (ArePacked bytes) (sym h.2) h.1

packed_exact : (bytes ns : List ℕ) → ArePacked bytes ns → packed_at bytes ≡ Some ns
unfolding packed_at
packed_exact bytes ns h = packed_exact_on h []

numbers_in_found : (payload : Payload) (xs : List ℕ) → numbers_in payload ≡ Some xs → GivesNumbers payload xs
numbers_in_found (Varint value) xs e = subst (GivesNumbers (Varint value)) (same_Some (low_32_bits value ∷ []) xs e) one
numbers_in_found (Delimited bytes) xs e = packed (packed_found bytes xs e)
numbers_in_found (Fixed64 bytes) xs e =
    subst (GivesNumbers (Fixed64 bytes)) (same_Some [] xs e) (GivesNumbers.other_type refl refl)
numbers_in_found (Fixed32 bytes) xs e =
    subst (GivesNumbers (Fixed32 bytes)) (same_Some [] xs e) (GivesNumbers.other_type refl refl)

numbers_in_exact : (payload : Payload) (xs : List ℕ) → GivesNumbers payload xs → numbers_in payload ≡ Some xs
numbers_in_exact (Varint value) xs one = refl
numbers_in_exact (Varint value) xs (GivesNumbers.other_type h k) = absurd (cc)
numbers_in_exact (Delimited bytes) xs (packed h) = packed_exact bytes xs h
numbers_in_exact (Delimited bytes) xs (GivesNumbers.other_type h k) = absurd (cc)
numbers_in_exact (Fixed64 bytes) xs (GivesNumbers.other_type h k) = refl
numbers_in_exact (Fixed32 bytes) xs (GivesNumbers.other_type h k) = refl

-- those of an enclosing range, which is a detail
around_in_found : (payload : Payload) (xs : List ℕ) → detail_in numbers_in payload ≡ Some xs
    → GivesDetail GivesNumbers payload xs
around_in_found = detail_found numbers_in GivesNumbers numbers_in_found numbers_in_exact

around_in_exact : (payload : Payload) (xs : List ℕ) → GivesDetail GivesNumbers payload xs
    → detail_in numbers_in payload ≡ Some xs
around_in_exact = detail_exact numbers_in GivesNumbers numbers_in_found numbers_in_exact

-- ---- occurrences

checked_found : (r x : RangeNumbers) → checked_range r ≡ Some x → (r ≡ x) × IsRange r
unfolding checked_range
checked_found r x e =
    let g = guard_some (fits r) (Some r) x e in (
      same_Some r x g.1,
      grind (
        arith,
        g.0,
        leb-true r.start_line max_range_number,
        leb-true r.start_column max_range_number,
        leb-true r.end_line max_range_number,
        leb-true r.end_column max_range_number,
      ),
    )

checked_exact : (r : RangeNumbers) → IsRange r → checked_range r ≡ Some r
unfolding checked_range
checked_exact r h =
    rw (
      le-leb r.start_line max_range_number h.start_line,
      le-leb r.start_column max_range_number h.start_column,
      le-leb r.end_line max_range_number h.end_line,
      le-leb r.end_column max_range_number h.end_column,
    ) refl

pub range_found : (ns : List ℕ) (r : RangeNumbers) → range_at ns ≡ Some r → (AreRangeNumbers ns r) × (IsRange r)
unfolding range_at
range_found [] r e = absurd (cc)
range_found (a ∷ []) r e = absurd (cc)
range_found (a ∷ (b ∷ [])) r e = absurd (cc)
range_found (a ∷ (b ∷ (c ∷ []))) r e =
    let h = checked_found _ r e in
    subst (λ x. (AreRangeNumbers (a ∷ (b ∷ (c ∷ []))) x) × (IsRange x)) h.0 (on_one_line, h.1)
range_found (a ∷ (b ∷ (c ∷ (d ∷ [])))) r e =
    let h = checked_found _ r e in
    subst (λ x. (AreRangeNumbers (a ∷ (b ∷ (c ∷ (d ∷ [])))) x) × (IsRange x)) h.0 (over_lines, h.1)
range_found (a ∷ (b ∷ (c ∷ (d ∷ (f ∷ fs))))) r e = absurd (cc)

pub range_exact : {ns : List ℕ} {r : RangeNumbers} → AreRangeNumbers ns r → IsRange r → range_at ns ≡ Some r
unfolding range_at
range_exact on_one_line h = checked_exact _ h
range_exact over_lines h = checked_exact _ h

pub parts_found : (bytes : List ℕ) (o : OccurrenceParts) → parts_at bytes ≡ Some o
    → HoldsOccurrence bytes o.numbers o.symbol o.symbol_roles o.around
unfolding parts_at occurrence_step
parts_found bytes o e =
    let f = fields_found occurrence_step bytes no_parts o e in
    let a = both_found _ _ f.0 _ _ (parted_found _ _ _ (λ t. refl) f.0 no_parts o f.2) in
    let b = both_found _ _ f.0 _ _ a.1 in
    let c = both_found _ _ f.0 _ _ b.1 in
    record {
      fields = f.0;
      has_fields = f.1;
      range = repeated_found numbers_in GivesNumbers numbers_in_found numbers_in_exact 1 f.0 o.numbers a.0;
      symbol_text = text_found 2 f.0 o.symbol b.0;
      symbol_roles = number_found 3 f.0 o.symbol_roles c.0;
      enclosing_range = repeated_found (detail_in numbers_in) (GivesDetail GivesNumbers) around_in_found
          around_in_exact 7 f.0 o.around c.1;
    }

pub parts_exact : (bytes ns symbol : List ℕ) (roles : ℤ) (around : List ℕ)
    → HoldsOccurrence bytes ns symbol roles around
    → parts_at bytes ≡ Some (record { numbers = ns; symbol = symbol; symbol_roles = roles; around = around })
unfolding parts_at occurrence_step
parts_exact bytes ns symbol roles around d =
    let o : OccurrenceParts =
    record { numbers = ns; symbol = symbol; symbol_roles = roles; around = around } in
    fields_exact occurrence_step d.has_fields no_parts o (parted_exact _ _ _ (λ t. refl) (λ s. refl) d.fields no_parts o
    (both_exact _ _ d.fields _ _ _ _
    (repeated_exact numbers_in GivesNumbers numbers_in_found numbers_in_exact 1 d.fields ns d.range)
    (both_exact _ _ d.fields _ _ _ _ (text_exact 2 d.fields symbol d.symbol_text)
    (both_exact _ _ d.fields _ _ _ _ (number_exact 3 d.fields roles d.symbol_roles)
    (repeated_exact (detail_in numbers_in) (GivesDetail GivesNumbers) around_in_found around_in_exact 7 d.fields around
    d.enclosing_range)))))

-- no range is made of numbers that aren't those of one
pub no_range_found : (ns : List ℕ) → range_at ns ≡ None → AreNoRange ns
no_range_found ns none range are is = none-some range (sym none ∙ range_exact are is)

no_range_of : (ns : List ℕ) → AreNoRange ns → (o : Option RangeNumbers) → range_at ns ≡ o → o ≡ None
no_range_of ns not_one None e = refl
no_range_of ns not_one (Some r) e =
    let k = range_found ns r e in
    absurd (not_one r k.0 k.1)

pub no_range_exact : (ns : List ℕ) → AreNoRange ns → range_at ns ≡ None
no_range_exact ns not_one = no_range_of ns not_one (range_at ns) refl

enclosing_of : (ns : List ℕ) (o : Option RangeNumbers) → range_at ns ≡ o → AreEnclosing ns o
enclosing_of ns None e = AreEnclosing.absent (no_range_found ns e)
enclosing_of ns (Some r) e =
    let k = range_found ns r e in
    enclosing k.0 k.1

enclosing_exact : {ns : List ℕ} {o : Option RangeNumbers} → AreEnclosing ns o → range_at ns ≡ o
enclosing_exact (AreEnclosing.absent {numbers = ns} not_one) = no_range_exact ns not_one
enclosing_exact (enclosing are h) = range_exact are h

occurrence_found_of : (bytes ns symbol : List ℕ) (roles : ℤ) (around : List ℕ) (os : List Occurrence)
    → HoldsOccurrence bytes ns symbol roles around
    → occurrence_of (record { numbers = ns; symbol = symbol; symbol_roles = roles; around = around }) ≡ Some os
    → GivesOccurrence (Delimited bytes) os
unfolding occurrence_of
occurrence_found_of bytes [] symbol roles around os h e =
    subst (GivesOccurrence (Delimited bytes)) (same_Some [] os e) (without_range h)
occurrence_found_of bytes (n ∷ ns) symbol roles around os h e =
    let r = bind_some (range_at (n ∷ ns)) _ os e in
    let k = range_found (n ∷ ns) r.0 r.1 in
    subst (GivesOccurrence (Delimited bytes)) (same_Some _ os r.2)
    (occurrence
    {occurrence = record { range = r.0; symbol = symbol; symbol_roles = roles; enclosing_range = range_at around }} h
    k.0 k.1 (enclosing_of around (range_at around) refl))

occurrence_in_found : (payload : Payload) (os : List Occurrence) → occurrence_in payload ≡ Some os
    → GivesOccurrence payload os
unfolding occurrence_at
occurrence_in_found (Delimited bytes) os e =
    let p = bind_some (parts_at bytes) occurrence_of os e in
    occurrence_found_of bytes p.0.numbers p.0.symbol p.0.symbol_roles p.0.around os (parts_found bytes p.0 p.1) p.2
occurrence_in_found (Varint value) os e =
    subst (GivesOccurrence (Varint value)) (same_Some [] os e) (GivesOccurrence.other_type refl)
occurrence_in_found (Fixed64 bytes) os e =
    subst (GivesOccurrence (Fixed64 bytes)) (same_Some [] os e) (GivesOccurrence.other_type refl)
occurrence_in_found (Fixed32 bytes) os e =
    subst (GivesOccurrence (Fixed32 bytes)) (same_Some [] os e) (GivesOccurrence.other_type refl)

occurrence_exact_of : {ns around : List ℕ} {range : RangeNumbers} {o : Option RangeNumbers} (symbol : List ℕ)
    (roles : ℤ) → AreRangeNumbers ns range → IsRange range → AreEnclosing around o
    → occurrence_of (record { numbers = ns; symbol = symbol; symbol_roles = roles; around = around })
    ≡ Some (record { range = range; symbol = symbol; symbol_roles = roles; enclosing_range = o } ∷ [])
unfolding occurrence_of
occurrence_exact_of symbol roles on_one_line h a =
    bind_at _ _ _ (range_exact on_one_line h) ∙ rw (enclosing_exact a) refl
occurrence_exact_of symbol roles over_lines h a =
    bind_at _ _ _ (range_exact over_lines h) ∙ rw (enclosing_exact a) refl

occurrence_in_exact : (payload : Payload) (os : List Occurrence) → GivesOccurrence payload os
    → occurrence_in payload ≡ Some os
unfolding occurrence_at occurrence_of
occurrence_in_exact (Delimited bytes) os (occurrence {numbers = ns} {around = around} {occurrence = o} h k r a) =
    bind_at (parts_at bytes) occurrence_of _ (parts_exact bytes ns o.symbol o.symbol_roles around h)
    ∙ occurrence_exact_of o.symbol o.symbol_roles k r a
occurrence_in_exact (Delimited bytes) os (without_range {symbol = symbol} {around = around} {roles = roles} h) =
    bind_at (parts_at bytes) occurrence_of _ (parts_exact bytes [] symbol roles around h)
occurrence_in_exact (Delimited bytes) os (GivesOccurrence.other_type h) = absurd (cc)
occurrence_in_exact (Varint value) os (GivesOccurrence.other_type h) = refl
occurrence_in_exact (Fixed64 bytes) os (GivesOccurrence.other_type h) = refl
occurrence_in_exact (Fixed32 bytes) os (GivesOccurrence.other_type h) = refl

-- ---- documents

pub document_found : (bytes : List ℕ) (d : Document) → document_at bytes ≡ Some d → IsDocument bytes d
unfolding document_at document_step
document_found bytes d e =
    let f = fields_found document_step bytes no_document d e in
    let a = both_found _ _ f.0 _ _ (parted_found _ _ _ (λ t. refl) f.0 no_document d f.2) in
    let b = both_found _ _ f.0 _ _ a.1 in
    let c = both_found _ _ f.0 _ _ b.1 in
    let g = both_found _ _ f.0 _ _ c.1 in
    record {
      fields = f.0;
      has_fields = f.1;
      relative_path = text_found 1 f.0 d.relative_path a.0;
      occurrences = repeated_found occurrence_in GivesOccurrence occurrence_in_found occurrence_in_exact 2 f.0
          d.occurrences b.0;
      symbols = messages_found info_at IsInfo info_found info_exact 3 f.0 d.symbols c.0;
      language = text_found 4 f.0 d.language g.0;
      position_encoding = number_found 6 f.0 d.position_encoding g.1;
    }

pub document_exact : (bytes : List ℕ) (d : Document) → IsDocument bytes d → document_at bytes ≡ Some d
unfolding document_at document_step
document_exact bytes d h =
    fields_exact document_step h.has_fields no_document d
    (parted_exact _ _ _ (λ t. refl) (λ s. refl) h.fields no_document d
    (both_exact _ _ h.fields _ _ _ _ (text_exact 1 h.fields d.relative_path h.relative_path)
    (both_exact _ _ h.fields _ _ _ _
    (repeated_exact occurrence_in GivesOccurrence occurrence_in_found occurrence_in_exact 2 h.fields d.occurrences
    h.occurrences)
    (both_exact _ _ h.fields _ _ _ _
    (messages_exact info_at IsInfo info_found info_exact 3 h.fields d.symbols h.symbols)
    (both_exact _ _ h.fields _ _ _ _ (text_exact 4 h.fields d.language h.language)
    (number_exact 6 h.fields d.position_encoding h.position_encoding))))))

-- ---- the index

pub index_found : (bytes : List ℕ) (i : Index) → index_at bytes ≡ Some i → Decodes bytes i
unfolding index_at index_step
index_found bytes i e =
    let f = fields_found index_step bytes no_index i e in
    let a = both_found _ _ f.0 _ _ (parted_found _ _ _ (λ t. refl) f.0 no_index i f.2) in
    let b = both_found _ _ f.0 _ _ a.1 in
    record {
      fields = f.0;
      has_fields = f.1;
      metadata = one_message_found metadata_at IsMetadata metadata_found metadata_exact 1 f.0 i.metadata a.0;
      documents = messages_found document_at IsDocument document_found document_exact 2 f.0 i.documents b.0;
      external_symbols = messages_found info_at IsInfo info_found info_exact 3 f.0 i.external_symbols b.1;
    }

pub index_exact : {bytes : List ℕ} {i : Index} → Decodes bytes i → index_at bytes ≡ Some i
unfolding index_at index_step
index_exact {bytes} {i} d =
    fields_exact index_step d.has_fields no_index i (parted_exact _ _ _ (λ t. refl) (λ s. refl) d.fields no_index i
    (both_exact _ _ d.fields _ _ _ _
    (one_message_exact metadata_at IsMetadata metadata_found metadata_exact 1 d.fields i.metadata d.metadata)
    (both_exact _ _ d.fields _ _ _ _
    (messages_exact document_at IsDocument document_found document_exact 2 d.fields i.documents d.documents)
    (messages_exact info_at IsInfo info_found info_exact 3 d.fields i.external_symbols d.external_symbols))))

-- bytes decode to at most one index
pub same_index : {bytes : List ℕ} {i j : Index} → Decodes bytes i → Decodes bytes j → i ≡ j
same_index {i = i} {j = j} d e = same_Some i j (sym (index_exact d) ∙ index_exact e)

-- a range that is made exactly where its numbers fit
pub checked_of : (o : Option RangeNumbers) (r : RangeNumbers) → SomeIff o (IsRange r) r → o ≡ checked_range r
unfolding checked_range
checked_of None r h = split (fits r) (λ t. absurd (h (checked_found r r (cond-true (fits r) _ _ t)).1))
    (λ f. sym (cond-false (fits r) _ _ f))
checked_of (Some x) r h = ap Some h.1 ∙ sym (checked_exact r h.0)

-- packed numbers that are added to others
packed_in_after : (bound : ℕ) (bytes s t : List ℕ)
    → fold_in (varint_at max_varint_len) packed_step bound bytes (s ++ t)
    ≡ (fold_in (varint_at max_varint_len) packed_step bound bytes t >>= add_more s)
unfolding fold_in packed_step
packed_in_after zero [] s t = refl
packed_in_after zero (byte ∷ bytes) s t = refl
packed_in_after (suc bound) [] s t = refl
packed_in_after (suc bound) (byte ∷ bytes) s t =
    bind_same (varint_at max_varint_len (byte ∷ bytes)) _ _ (λ x _.
    ap (fold_in (varint_at max_varint_len) packed_step bound x.1) (append_assoc s t (low_32_bits x.0 ∷ []))
    ∙ packed_in_after bound x.1 s (t ++ low_32_bits x.0 ∷ []))
    ∙ sym (bind_assoc (varint_at max_varint_len (byte ∷ bytes)) _ (add_more s))

pub fold_of_packed : (bytes numbers : List ℕ)
    → fold_at (varint_at max_varint_len) packed_step bytes numbers ≡ (packed_at bytes >>= add_more numbers)
unfolding packed_at fold_at
fold_of_packed bytes numbers =
    ap (fold_in (varint_at max_varint_len) packed_step (length bytes) bytes) (sym (append-nil numbers))
    ∙ packed_in_after (length bytes) bytes numbers []

-- ---- what a reader of the index answers

pub found_of : (r : Result Index WireFault) (bytes : List ℕ) → Gives (λ i. i) r (index_at bytes)
    → IfOk r (λ i. Decodes bytes i)
found_of (Ok i) bytes h = index_found bytes i h
found_of (Err e) bytes h = tt

pub only_of : (r : Result Index WireFault) (bytes : List ℕ) → Gives (λ i. i) r (index_at bytes) → (index : Index)
    → Decodes bytes index
    → MatchResult r (λ i. i ≡ index) (λ e. e ≡ Memory)
only_of (Ok i) bytes h index d = same_Some i index (sym h ∙ index_exact d)
only_of (Err e) bytes h index d = is_memory e (index_at bytes) index h (index_exact d)
