-- What is found on a walk is what is found part by part.
use Rattle.std.proofs.Common.{◌≡◌, ◌∙◌, ap, refl, ℕ, List, [], ◌∷◌, ◌++◌}
use Rattle.std.specs.List.{flat_map}
use Rattle.std.proofs.lemmas.Grind.{flat_map-append}
use Rattle.proto_parse.specs.tree.Heading.{Heading}
use Rattle.proto_parse.specs.tree.Enum.{Enum}
use Rattle.proto_parse.specs.tree.Leaf.TheVariants as leaf
use Rattle.proto_parse.specs.tree.FileItem.{FileItem}
use Rattle.proto_parse.specs.Parts.{Placed, placed, placed_parts, of_item}
use Rattle.proto_parse.proofs.PartLemmas.{items-each}
use Rattle.proto_decl.specs.Declares.{inside_part, declared_by, outlines_in}
use Rattle.proto_decl.specs.Uses.{used_by, uses_in}
use Rattle.proto_decl.specs.Walked.{in_item, uses_in_leaf, uses_in_item}
use Rattle.proto_decl.specs.declared.surrounding.Surrounding.{Surrounding}
use Rattle.proto_decl.specs.declared.uses.Use.{Use}

pub outlines_are : (text : List ℕ) (surrounding : Surrounding) (items : List FileItem)
    → flat_map (in_item text surrounding) items ≡ outlines_in text surrounding items
outlines_are text surrounding items =
    items-each (inside_part text) placed (λ (p : Placed Surrounding). declared_by text p.around p.part)
    surrounding items

pub uses_are : (text : List ℕ) (surrounding : Surrounding) (items : List FileItem)
    → flat_map (uses_in_item text surrounding) items ≡ uses_in text surrounding items
uses_are text surrounding items =
    items-each (inside_part text) placed (λ (p : Placed Surrounding). used_by text p.around p.part) surrounding items

-- of two rows of items

module _ {A : Type 0} (text : List ℕ) (surrounding : Surrounding) (f : Placed Surrounding → List A)
    (before behind : List FileItem) where
  abbrev row : List FileItem → List (Placed Surrounding)
  row items = placed_parts (inside_part text) surrounding items

  parts-append : flat_map f (row (before ++ behind)) ≡ flat_map f (row before) ++ flat_map f (row behind)
  parts-append =
      ap (flat_map f)
      (flat_map-append (of_item (inside_part text) (λ around part. placed around part ∷ []) surrounding) before behind)
      ∙ flat_map-append f (row before) (row behind)

pub outlines-append : (text : List ℕ) (surrounding : Surrounding) (before behind : List FileItem)
    → outlines_in text surrounding (before ++ behind)
    ≡ outlines_in text surrounding before ++ outlines_in text surrounding behind
outlines-append text surrounding =
    parts-append text surrounding (λ (p : Placed Surrounding). declared_by text p.around p.part)

pub uses-append : (text : List ℕ) (surrounding : Surrounding) (before behind : List FileItem)
    → uses_in text surrounding (before ++ behind) ≡ uses_in text surrounding before ++ uses_in text surrounding behind
uses-append text surrounding =
    parts-append text surrounding (λ (p : Placed Surrounding). used_by text p.around p.part)

values_use_none : (values : List Heading) → flat_map {A = Use} (λ value. []) values ≡ []
values_use_none [] = refl
values_use_none (value ∷ values) = values_use_none values

-- an enum uses no type
pub enum_uses_none : (text : List ℕ) (surrounding : Surrounding) (enum : Enum)
    → uses_in_leaf text surrounding (leaf.Enum enum) ≡ []
enum_uses_none text surrounding enum = values_use_none enum.values
