-- How the tokens of a declaration are found, and which is the last.
use Rattle.std.proofs.Common.{◌≡◌, ap, subst, sym, refl, ℕ, ◌+◌, ◌<◌, ◌≤◌, ◌⊎◌, inl, inr}
use Rattle.std.proofs.Common.{◌∙◌, List, [], ◌∷◌, ◌++◌, length, get_or, take, arith}
use Rattle.std.specs.List.{All, flat_map}
use Rattle.std.proofs.lemmas.List.{take_more}
use Rattle.std.proofs.lemmas.List.Elements.{All-nil, All-cons}
use Rattle.std.proofs.lemmas.Option.{get_or_from_slice_get, slice_get-get_or, slice_get_within}
use Rattle.proto_lex.specs.declared.span.Span.{Span}
use Rattle.proto_lex.specs.declared.token.Token.{Token}
use Rattle.proto_lex.specs.Lexed.{Lexed}
use Rattle.proto_parse.specs.tree.Head.{Head}
use Rattle.proto_parse.specs.tree.Head.TheVariants as head
use Rattle.proto_parse.specs.tree.File.{File}
use Rattle.proto_parse.specs.Lexeme.{lexemes_of}
use Rattle.proto_parse.specs.Parts.{Part}
use Rattle.proto_parse.specs.Parts.Part.{BlockPart, EnumPart, ValuePart, FieldPart, MapFieldPart, ServicePart}
use Rattle.proto_parse.specs.Parts.Part.{MethodPart}
use Rattle.proto_parse.specs.Walk.{Among, marks_of_items}
use Rattle.proto_parse.proofs.PartLemmas.{items-all}
use Rattle.proto_parse.proofs.SplitLemmas.{all_left, all_right}
use Rattle.proto_decl.specs.Spans.{OfHeading, OfHead, OfPart}
use Rattle.proto_decl.specs.Declares.{declared_by, group_field, in_head, inside_part, outline_at}
use Rattle.proto_decl.specs.Walked.{in_item}
use Rattle.proto_decl.specs.Signatures.{IsTokenAt, HasTokenAt}
use Rattle.proto_decl.specs.declared.declaration.DeclarationKind.TheVariants as kind
use Rattle.proto_decl.specs.declared.declaration.Outline.{Outline}
use Rattle.proto_decl.specs.declared.surrounding.Surrounding.{Surrounding}
use Rattle.proto_decl.proofs.LayoutLemmas.{HaveBegun, TokensInOrder}
use Rattle.proto_decl.proofs.LayoutLineLemmas.{behind_place, ends_before}
use Rattle.proto_decl.proofs.SpanLemmas.{OfToken, parts_hold}

-- a token at a span is one of all, and what holds of each holds of it
pub token_within : (lexed : Lexed) (span : Span) (index : ℕ) → IsTokenAt lexed span index → index < length lexed.tokens
token_within lexed span index at = slice_get_within lexed.tokens index at.token at.listed

pub token_holds : (P : Span → Type 0) (lexed : Lexed) (span : Span) → All (λ (t : Token). P t.span) lexed.tokens
    → HasTokenAt lexed span → P span
token_holds P lexed span all has =
    let here = get_or_from_slice_get lexed.tokens has.0 has.1.token has.1.token has.1.listed in
    subst P has.1.at
    (subst (λ (t : Token). P t.span) here (all has.0 has.1.token (token_within lexed span has.0 has.1)))

-- the token at a span comes behind as many as begin before it
module _ (lexed : Lexed) (span : Span) (ordered : TokensInOrder lexed.tokens) (count : ℕ)
    (parted : HaveBegun lexed.tokens span.start count) where
  no_earlier : (m : ℕ) (t : Token) → m < length lexed.tokens → get_or lexed.tokens m t ≡ t → t.span ≡ span
      → m < count → ⊥
  no_earlier m t within is same less =
      let begins = subst (λ (x : Token). x.span.start < span.start) is (parted.0 m t (omega arith) less) in
      let start = ap (λ (s : Span). s.start) same in
      omega (arith, begins, start)

  no_later : (m : ℕ) (t : Token) → m < length lexed.tokens → get_or lexed.tokens m t ≡ t → t.span ≡ span → count < m
      → ⊥
  no_later m t within is same less =
      let begins = parted.1 count t (omega arith) (omega arith) in
      let whole = (behind_place (λ (x : Token). x.span) 0 count t lexed.tokens ordered (omega arith)).1 in
      let before = subst (λ (x : Token). (get_or lexed.tokens count t).span.end ≤ x.span.start) is
      (ends_before (λ (x : Token). x.span) 0 count m t lexed.tokens ordered less within) in
      let start = ap (λ (s : Span). s.start) same in
      omega (arith, begins, whole, before, start)

  by_order : (m : ℕ) → IsTokenAt lexed span m → (m < count) ⊎ ((m ≡ count) ⊎ (count < m)) → IsTokenAt lexed span count
  by_order m h (inl less) =
      absurd (no_earlier m h.token (token_within lexed span m h)
      (get_or_from_slice_get lexed.tokens m h.token h.token h.listed) h.at less)
  by_order m h (inr (inl same)) = subst (IsTokenAt lexed span) same h
  by_order m h (inr (inr more)) =
      absurd (no_later m h.token (token_within lexed span m h)
      (get_or_from_slice_get lexed.tokens m h.token h.token h.listed) h.at more)

  pub token_at : HasTokenAt lexed span → IsTokenAt lexed span count
  token_at has = by_order has.0 has.1 (grind arith)

-- one item more comes behind those before it
pub one_taken : {X : Type 0} (xs : List X) (i : ℕ) (x : X) → i < length xs → x ≡ get_or xs i x
    → take i xs ++ x ∷ [] ≡ take (i + 1) xs
one_taken xs i x within is = ap (λ y. take i xs ++ y ∷ []) is ∙ sym (take_more xs i x within)

-- what holds of each of several lists, one behind the other, holds of each of one of them
flat-each : {X A : Type 0} (f : X → List A) (P : A → Type 0) (xs : List X) → All P (flat_map f xs)
    → All (λ x. All P (f x)) xs
flat-each f P [] all = All-nil (λ x. All P (f x))
flat-each f P (x ∷ xs) all =
    All-cons (λ y. All P (f y)) x xs (all_left P (f x) (flat_map f xs) all)
    (flat-each f P xs (all_right P (f x) (flat_map f xs) all))

-- there are tokens at the heading of what a part of a tree declares
module _ (lexed : Lexed) where
  abbrev Headed : Outline → Type 0
  Headed outline = OfHeading (HasTokenAt lexed) outline.heading

  one_headed : (outline : Outline) → Headed outline → All Headed (outline ∷ [])
  one_headed outline h = All-cons Headed outline [] h (All-nil Headed)

  head_headed : (s : Surrounding) (head : Head) → OfHead (HasTokenAt lexed) head
      → All Headed (in_head lexed.text s head)
  head_headed s (head.Message heading) h = one_headed (outline_at lexed.text s kind.Message heading) h
  head_headed s (head.Group group) h =
      All-cons Headed (group_field lexed.text s group) (outline_at lexed.text s kind.Message group.heading ∷ [])
      (h.0.0, h.1, h.0.2) (one_headed (outline_at lexed.text s kind.Message group.heading) h.0)
  head_headed s (head.Oneof heading) h = one_headed (outline_at lexed.text s kind.Oneof heading) h
  head_headed s (head.Extend type) h = All-nil Headed

  part_headed : (s : Surrounding) (part : Part) → OfPart (HasTokenAt lexed) part
      → All Headed (declared_by lexed.text s part)
  part_headed s (BlockPart head) h = head_headed s head h
  part_headed s (EnumPart heading) h = one_headed (outline_at lexed.text s kind.Enum heading) h
  part_headed s (ValuePart heading) h = one_headed (outline_at lexed.text s kind.Value heading) h
  part_headed s (FieldPart field) h = one_headed (outline_at lexed.text s kind.Field field.heading) h.0
  part_headed s (MapFieldPart field) h = one_headed (outline_at lexed.text s kind.Field field.heading) h.0
  part_headed s (ServicePart heading) h = one_headed (outline_at lexed.text s kind.Service heading) h
  part_headed s (MethodPart method) h = one_headed (outline_at lexed.text s kind.Method method.heading) h.0

  each_token : All (λ (t : Token). OfToken (HasTokenAt lexed) (λ span. Unit {0}) t.kind t.span) lexed.tokens
  each_token k d h = (
    (k, record { token = get_or lexed.tokens k d; listed = slice_get-get_or lexed.tokens k d h; at = refl }),
    λ literal. tt,
  )

  -- and of what each item of a file declares
  pub items_headed : (file : File) → Among (marks_of_items file) (lexemes_of lexed.text lexed.tokens)
      → (s : Surrounding) → All (λ item. All Headed (in_item lexed.text s item)) file.items
  items_headed file among s =
      flat-each (in_item lexed.text s) Headed file.items
      (items-all (inside_part lexed.text) (declared_by lexed.text) (OfPart (HasTokenAt lexed)) Headed part_headed s
      file.items
      (parts_hold (HasTokenAt lexed) (λ span. Unit {0}) lexed.text lexed.tokens file each_token among))
