-- An index in pieces: its spelling is theirs, and their lengths.
use Rattle.std.proofs.Common.{◌≡◌, ◌++◌, ℕ, ◌+◌, ◌-◌, ◌^◌, ◌<◌, ◌≤◌, min, List, [], ◌∷◌, length, drop}
use Rattle.std.proofs.Common.{map, get_or, refl, ap, ◌∙◌, arith, length-append}
use Rattle.std.proofs.lemmas.List.{at_drop_more, at_drop_all}
use Rattle.std.proofs.lemmas.Grind.{flat_map-append}
use Rattle.std.specs.List.{concat}
use Rattle.scip_records.specs.declared.records.Index.{Index}
use Rattle.scip_records.specs.declared.records.Document.{Document}
use Rattle.scip_wire.specs.Spelling.{field_bytes, bytes_of, optional_message_fields, repeated_message_fields}
use Rattle.scip_wire.specs.Spelling.{metadata_fields, document_fields, info_fields, spelling_of, document_record}
use Rattle.scip_wire.specs.Spelling.{joined_pieces}
use Rattle.scip_wire.specs.Saturated.{saturated}

-- ---- the spelling of an index is that of its pieces

documents_joined : (documents : List Document)
    → bytes_of (repeated_message_fields 2 document_fields documents) ≡ concat (map document_record documents)
documents_joined [] = refl
documents_joined (d ∷ ds) = ap (λ l. document_record d ++ l) (documents_joined ds)

pub spelling_joined : (i : Index)
    → spelling_of i ≡ joined_pieces i.metadata (map document_record i.documents) i.external_symbols
spelling_joined i =
    let front = optional_message_fields 1 metadata_fields i.metadata in
    let middle = repeated_message_fields 2 document_fields i.documents in
    let back = repeated_message_fields 3 info_fields i.external_symbols in
    flat_map-append field_bytes (front ++ middle) back
    ∙ ap (λ l. l ++ bytes_of back)
    (flat_map-append field_bytes front middle ∙ ap (λ l. bytes_of front ++ l) (documents_joined i.documents))

-- ---- steps of the loop that adds up the lengths of records

module _ (records : List (List ℕ)) (i : ℕ) where
  pub len_further : (x : List ℕ) (len next total : ℕ) → i < length records → x ≡ get_or records i x
      → next ≡ min (len + length x) (2 ^ 64 - 1)
      → saturated (len + length (concat (drop i records))) ≡ saturated total
      → saturated (next + length (concat (drop (i + 1) records))) ≡ saturated total
  len_further x len next total inside is added before =
      let rest : length (concat (drop i records)) ≡ length (get_or records i x ++ concat (drop (i + 1) records)) =
      at_drop_more (λ ys. length (concat ys)) records i x inside in
      let split = length-append (get_or records i x) (concat (drop (i + 1) records)) in
      let here : length x ≡ length (get_or records i x) = ap length is in
      omega (arith, rest, split, here)

  pub len_done : (len total : ℕ) → length records ≤ i → len < 2 ^ 64
      → saturated (len + length (concat (drop i records))) ≡ saturated total → len ≡ saturated total
  len_done len total past fits before =
      let none : length (concat (drop i records)) ≡ 0 = at_drop_all (λ ys. length (concat ys)) records i past in
      omega (arith, none)
