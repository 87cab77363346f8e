-- What a reader makes of the parts of a page.
use Rattle.std.proofs.Common.{◌≡◌, ◌∙◌, sym, refl, ap, subst, ℕ, ◌==◌, Bool, false, cond, List, [], ◌∷◌, ◌++◌}
use Rattle.std.proofs.Common.{append_assoc, append-nil, inl, inr}
use Rattle.std.specs.Prelude.{codes}
use Rattle.std.specs.List.{AllByRecursion, Contains, flat_map}
use Rattle.std.proofs.lemmas.Bool.{ne_eqb}
use Rattle.std.proofs.lemmas.Grind.{flat_map-append}
use Rattle.std.proofs.lemmas.List.Elements.{Contains-append_left, Contains-append_right}
use Rattle.scip_pages.specs.Code.{attribute, mark}
use Rattle.scip_pages.specs.Escapes.{escape, pictured}
use Rattle.scip_pages.specs.Plain.{plain}
use Rattle.scip_pages.proofs.EscapeLemmas.{IsNoMark, has_no_marks, shows_the_text}
use Rattle.scip_pages.specs.Marks.{link}
use Rattle.scip_pages.specs.Tags.{Tag, State, Data, TagName, AttributeName, Value, bare, tag_with, next, ended}
use Rattle.scip_pages.specs.Tags.{tags_behind, tags_of, is_id, is_url, values_of, ids_of, urls_of}
use Rattle.scip_pages.proofs.UrlCleanLemmas.{IsClean}
use Rattle.basics.proofs.ElementLemmas.{In}

-- ---- where a reader is behind a text, and the tags in it

abbrev pub state_behind : State → List ℕ → State
state_behind state [] = state
state_behind state (b ∷ bytes) = state_behind (next state b) bytes

pub record Reads (from : State) (text : List ℕ) (to : State) (tags : List Tag) : Type 0 where
  pub ends : state_behind from text ≡ to
  pub are : tags_behind from text ≡ tags

state_append : (s : State) (x y : List ℕ) → state_behind s (x ++ y) ≡ state_behind (state_behind s x) y
state_append s [] y = refl
state_append s (b ∷ x) y = state_append (next s b) x y

tags_append : (s : State) (x y : List ℕ) → tags_behind s (x ++ y) ≡ tags_behind s x ++ tags_behind (state_behind s x) y
tags_append s [] y = refl
tags_append s (b ∷ x) y =
    ap (λ (l : List Tag). ended s b ++ l) (tags_append (next s b) x y)
    ∙ sym (append_assoc (ended s b) (tags_behind (next s b) x) (tags_behind (state_behind (next s b) x) y))

-- one text behind another
pub chain : {s t u : State} {ts bs : List Tag} (x y : List ℕ) → Reads s x t ts → Reads t y u bs
    → Reads s (x ++ y) u (ts ++ bs)
chain {s} {t} {u} {ts} {bs} x y a b = record {
  ends = state_append s x y ∙ ap (λ (r : State). state_behind r y) a.ends ∙ b.ends;
  are = tags_append s x y ∙ ap (λ (l : List Tag). l ++ tags_behind (state_behind s x) y) a.are
      ∙ ap (λ (r : State). ts ++ tags_behind r y) a.ends ∙ ap (λ (l : List Tag). ts ++ l) b.are;
}

-- ---- escaped texts

text_reads : (text : List ℕ) → AllByRecursion IsNoMark text → Reads Data text Data []
text_reads [] all = record { ends = refl; are = refl }
text_reads (b ∷ text) all =
    let others : Reads Data text Data [] = text_reads text all.1 in
    let other : (b == 60) ≡ false = ne_eqb b 60 all.0.0 in
    record {
      ends = ap (λ (c : Bool). state_behind (cond c (TagName []) Data) text) other ∙ others.ends;
      are = ap (λ (c : Bool). tags_behind (cond c (TagName []) Data) text) other ∙ others.are;
    }

-- a text stays one
pub escaped_reads : (text : List ℕ) → Reads Data (escape text) Data []
escaped_reads text = text_reads (escape text) (has_no_marks text)

value_reads : (tag : Tag) (name value text : List ℕ) → AllByRecursion IsNoMark text
    → Reads (Value tag name value) (text ++ codes "\"")
    (AttributeName (tag_with tag name (plain (value ++ text))) []) []
value_reads tag name value [] all = record {
  ends = ap (λ (v : List ℕ). AttributeName (tag_with tag name (plain v)) []) (sym (append-nil value));
  are = refl;
}
value_reads tag name value (b ∷ text) all =
    let others = value_reads tag name (value ++ b ∷ []) text all.1 in
    let other : (b == 34) ≡ false = ne_eqb b 34 all.0.2 in
    let after : Bool → State =
    λ c. cond c (AttributeName (tag_with tag name (plain value)) []) (Value tag name (value ++ b ∷ [])) in
    record {
      ends = ap (λ (c : Bool). state_behind (after c) (text ++ codes "\"")) other ∙ others.ends
          ∙ ap (λ (v : List ℕ). AttributeName (tag_with tag name (plain v)) []) (append_assoc value (b ∷ []) text);
      are = ap (λ (c : Bool). tags_behind (after c) (text ++ codes "\"")) other ∙ others.are;
    }

-- a value ends with its quote, and is what is shown of the text
pub quoted_reads : (tag : Tag) (name text : List ℕ)
    → Reads (Value tag name []) (escape text ++ codes "\"") (AttributeName (tag_with tag name (pictured text)) []) []
quoted_reads tag name text =
    subst (λ (v : List ℕ). Reads (Value tag name []) (escape text ++ codes "\"")
    (AttributeName (tag_with tag name v) []) [])
    (shows_the_text text) (value_reads tag name [] (escape text) (has_no_marks text))

pub quoted_clean : (tag : Tag) (name text : List ℕ) → IsClean text
    → Reads (Value tag name []) (escape text ++ codes "\"") (AttributeName (tag_with tag name text) []) []
quoted_clean tag name text clean =
    subst (λ (v : List ℕ). Reads (Value tag name []) (escape text ++ codes "\"")
    (AttributeName (tag_with tag name v) []) [])
    clean (quoted_reads tag name text)

-- ---- marks

abbrev pub tag_a : (name value : List ℕ) → Tag
tag_a name value = tag_with (bare (codes "a")) name value

abbrev pub end_a : Tag
end_a = bare (codes "/a")

-- a link
pub link_reads : (url text : List ℕ) → IsClean url
    → Reads Data (link url text) Data (tag_a (codes "href") url ∷ (end_a ∷ []))
link_reads url text clean =
    let start : List ℕ = mark (codes "a" ++ attribute (codes "href") url) in
    let begun : Reads Data start Data (tag_a (codes "href") url ∷ []) =
    chain (codes "<a href=\"" ++ (escape url ++ codes "\"")) (codes ">")
    (chain (codes "<a href=\"") (escape url ++ codes "\"") (record { ends = refl; are = refl })
    (quoted_clean (bare (codes "a")) (codes "href") url clean))
    (record { ends = refl; are = refl }) in
    chain (start ++ escape text) (mark (codes "/a")) (chain start (escape text) begun (escaped_reads text))
    (record { ends = refl; are = refl })

-- ---- texts whose URLs are of a kind

pub all_append : {X : Type 0} (P : X → Type 0) (xs ys : List X) → AllByRecursion P xs → AllByRecursion P ys
    → AllByRecursion P (xs ++ ys)
all_append P [] ys a b = b
all_append P (x ∷ xs) ys a b = (a.0, all_append P xs ys a.1 b)

module _ (P : List ℕ → Type 0) where
  pub record Fine (text : List ℕ) : Type 0 where
    pub tags : List Tag
    pub reads : Reads Data text Data tags
    pub urls : AllByRecursion P (flat_map (values_of is_url) tags)

  pub both : (x y : List ℕ) → Fine x → Fine y → Fine (x ++ y)
  both x y a b = record {
    tags = a.tags ++ b.tags;
    reads = chain x y a.reads b.reads;
    urls = subst (AllByRecursion P) (sym (flat_map-append (values_of is_url) a.tags b.tags))
        (all_append P (flat_map (values_of is_url) a.tags) (flat_map (values_of is_url) b.tags) a.urls b.urls);
  }

  -- texts without URLs
  pub no_urls : (text : List ℕ) (tags : List Tag) → Reads Data text Data tags → flat_map (values_of is_url) tags ≡ []
      → Fine text
  no_urls text tags reads none = record { tags = tags; reads = reads; urls = subst (AllByRecursion P) (sym none) tt }

  -- so texts of these pages' own
  pub fine_const : (text : List ℕ) → state_behind Data text ≡ Data → flat_map (values_of is_url) (tags_of text) ≡ []
      → Fine text
  fine_const text ends none = no_urls text (tags_of text) (record { ends = ends; are = refl }) none

  pub fine_escape : (text : List ℕ) → Fine (escape text)
  fine_escape text = no_urls (escape text) [] (escaped_reads text) refl

  pub fine_each : {X : Type 0} (f : X → List ℕ) (xs : List X) → ((x : X) → In x xs → Fine (f x)) → Fine (flat_map f xs)
  fine_each f [] all = fine_const [] refl refl
  fine_each f (x ∷ xs) all =
      both (f x) (flat_map f xs) (all x (inl refl)) (fine_each f xs (λ y is. all y (inr is)))

  pub fine_link : (url text : List ℕ) → IsClean url → P url → Fine (link url text)
  fine_link url text clean p = record {
    tags = tag_a (codes "href") url ∷ (end_a ∷ []);
    reads = link_reads url text clean;
    urls = (p, tt);
  }

  -- so with all that stand in a page
  pub fine_page : (page : List ℕ) → Fine page → AllByRecursion P (urls_of page)
  fine_page page fine =
      subst (λ (tags : List Tag). AllByRecursion P (flat_map (values_of is_url) tags)) (sym fine.reads.are) fine.urls

-- ---- texts that have an id

abbrev pub EndsInText : List ℕ → Type 0
EndsInText text = state_behind Data text ≡ Data

abbrev pub Has : (id text : List ℕ) → Type 0
Has id text = Contains (ids_of text) id

pub ends_both : (x y : List ℕ) → EndsInText x → EndsInText y → EndsInText (x ++ y)
ends_both x y a b = state_append Data x y ∙ ap (λ (s : State). state_behind s y) a ∙ b

module _ (id : List ℕ) where
  -- in the tags of a text
  pub has_in : (text : List ℕ) (tags : List Tag) → Reads Data text Data tags
      → Contains (flat_map (values_of is_id) tags) id → Has id text
  has_in text tags reads has =
      subst (λ (ts : List Tag). Contains (flat_map (values_of is_id) ts) id) (sym reads.are) has

  same_ids : (x y : List ℕ) → EndsInText x → ids_of (x ++ y) ≡ ids_of x ++ ids_of y
  same_ids x y ends =
      ap (flat_map (values_of is_id))
      (tags_append Data x y ∙ ap (λ (s : State). tags_behind Data x ++ tags_behind s y) ends)
      ∙ flat_map-append (values_of is_id) (tags_of x) (tags_of y)

  -- also with a text in front of it
  pub has_behind : (front text : List ℕ) → EndsInText front → Has id text → Has id (front ++ text)
  has_behind front text ends has =
      subst (λ (ids : List (List ℕ)). Contains ids id) (sym (same_ids front text ends))
      (Contains-append_right (ids_of front) (ids_of text) id has)

  -- or behind it
  pub has_before : (text back : List ℕ) → EndsInText text → Has id text → Has id (text ++ back)
  has_before text back ends has =
      subst (λ (ids : List (List ℕ)). Contains ids id) (sym (same_ids text back ends))
      (Contains-append_left (ids_of text) (ids_of back) id has)

  pub has_among : {X : Type 0} (f : X → List ℕ) → ((x : X) → EndsInText (f x)) → (x : X) (xs : List X) → In x xs
      → Has id (f x) → Has id (flat_map f xs)
  has_among f ends x [] is has = absurd is
  has_among f ends x (y ∷ xs) (inl same) has =
      has_before (f y) (flat_map f xs) (ends y) (subst (λ (l : List ℕ). Has id l) (ap f same) has)
  has_among f ends x (y ∷ xs) (inr is) has =
      has_behind (f y) (flat_map f xs) (ends y) (has_among f ends x xs is has)
