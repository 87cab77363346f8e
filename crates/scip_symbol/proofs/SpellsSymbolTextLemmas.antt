-- Just the parts of a symbol have a spelling, and the printed text is one.
use Rattle.std.proofs.Common.{◌≡◌, ◌≢◌, ℕ, true, false, cond, List, [], ◌∷◌, ◌++◌, codes, refl, sym, subst}
use Rattle.std.proofs.Common.{append-nil}
use Rattle.std.specs.Prelude.{All}
use Rattle.std.proofs.lemmas.List.Elements.{All-cons, All-nil, All-head, All-tail}
use Rattle.scip_symbol.specs.Names.{is_simple_identifier, doubled, backtick}
use Rattle.scip_symbol.specs.Parts.{IsScheme, IsPart, IsSuffix, IsDescriptor, IsSymbol}
use Rattle.scip_symbol.specs.SpellsSymbol.{SpellsScheme, scheme, SpellsPart, empty, part, SpellsName, simple, quoted}
use Rattle.scip_symbol.specs.SpellsSymbol.{descriptor, SpellsDescriptor, namespace, type_, term, meta, macro, method}
use Rattle.scip_symbol.specs.SpellsSymbol.{type_parameter, parameter, SpellsDescriptors, last, more, SpellsSymbol}
use Rattle.scip_symbol.specs.SpellsSymbol.{local, global}
use Rattle.scip_symbol.specs.SymbolText.{part_text, name_text, front_text, suffix_text, descriptor_text}
use Rattle.scip_symbol.specs.SymbolText.{descriptors_text, symbol_text}
use Rattle.scip_symbol.specs.declared.symbol.Suffix.{Suffix}
use Rattle.scip_symbol.specs.declared.symbol.Suffix.TheVariants as suffix
use Rattle.scip_symbol.specs.declared.symbol.Descriptor.{Descriptor}
use Rattle.scip_symbol.specs.declared.symbol.SymbolParts.{SymbolParts}
use Rattle.scip_symbol.specs.declared.symbol.SymbolParts.TheVariants.{Local, Global}
use Rattle.scip_symbol.proofs.ReadingDescriptorLemmas.{method-sign}

-- ---- what has a spelling

name-is : (word name : List ℕ) → SpellsName word name → name ≢ []
name-is word name (simple {name = []} h) = absurd cc
name-is word name (simple {name = b ∷ others} h) = λ e. cc
name-is word name (quoted some) = some

descriptor-is : (word : List ℕ) (d : Descriptor) → SpellsDescriptor word d → IsDescriptor d
descriptor-is word d (namespace {word = w} {name = name} n) = record { name = name-is w name n; suffix = tt }
descriptor-is word d (type_ {word = w} {name = name} n) = record { name = name-is w name n; suffix = tt }
descriptor-is word d (term {word = w} {name = name} n) = record { name = name-is w name n; suffix = tt }
descriptor-is word d (meta {word = w} {name = name} n) = record { name = name-is w name n; suffix = tt }
descriptor-is word d (macro {word = w} {name = name} n) = record { name = name-is w name n; suffix = tt }
descriptor-is word d (method {word = w} {name = name} n h) = record { name = name-is w name n; suffix = h }
descriptor-is word d (type_parameter {word = w} {name = name} n) = record { name = name-is w name n; suffix = tt }
descriptor-is word d (parameter {word = w} {name = name} n) = record { name = name-is w name n; suffix = tt }

descriptors-are : (text : List ℕ) (ds : List Descriptor) → SpellsDescriptors text ds → All IsDescriptor ds
descriptors-are text ds (last {word = w} {d = d} p) =
    All-cons IsDescriptor d [] (descriptor-is w d p) (All-nil IsDescriptor)
descriptors-are text ds (more {word = w} {words = ws} {d = d} {others = others} p q) =
    All-cons IsDescriptor d others (descriptor-is w d p) (descriptors-are ws others q)

descriptors-some : (text : List ℕ) (ds : List Descriptor) → SpellsDescriptors text ds → ds ≢ []
descriptors-some text ds (last p) = λ e. cc
descriptors-some text ds (more p q) = λ e. cc

part-is : (text p : List ℕ) → SpellsPart text p → IsPart p
part-is text p empty = record { no_space_first = λ rest e. cc; no_dot = λ e. cc }
part-is text p (part is) = is

scheme-is : (s p : List ℕ) → SpellsScheme s p → IsScheme p
scheme-is s p (scheme is) = is

pub spelled-is : (text : List ℕ) (s : SymbolParts) → SpellsSymbol text s → IsSymbol s
spelled-is text s (local h) = h
spelled-is text s (global {scheme = sc} {manager = m} {name = n} {version = v} {descriptors = ds} {s = symbol} ps pm pn
    pv pd) = record {
      scheme = scheme-is sc symbol.scheme ps;
      manager = part-is m symbol.manager pm;
      name = part-is n symbol.name pn;
      version = part-is v symbol.version pv;
      some = descriptors-some ds symbol.descriptors pd;
      descriptors = descriptors-are ds symbol.descriptors pd;
    }

-- ---- the printed text

name-spelled : (name : List ℕ) → name ≢ [] → SpellsName (name_text name) name
name-spelled name some =
    elim (is_simple_identifier name) as
    (λ t. is_simple_identifier name ≡ t
    → SpellsName (cond t name (codes "`" ++ doubled backtick name ++ codes "`")) name) [
      | true ↦ λ t. simple t
      | false ↦ λ _. quoted some
    ] refl

suffix-spelled : (s : Suffix) (name word : List ℕ) → SpellsName word name → IsSuffix s
    → SpellsDescriptor (front_text s ++ word ++ suffix_text s) (descriptor name s)
suffix-spelled suffix.Namespace name word n is = namespace n
suffix-spelled suffix.«Type» name word n is = type_ n
suffix-spelled suffix.Term name word n is = term n
suffix-spelled suffix.Meta name word n is = meta n
suffix-spelled suffix.Macro name word n is = macro n
suffix-spelled (suffix.Method d) name word n is =
    subst (λ l. SpellsDescriptor l (descriptor name (suffix.Method d))) (method-sign word d) (method n is)
suffix-spelled suffix.TypeParameter name word n is = type_parameter n
suffix-spelled suffix.Parameter name word n is = parameter n

descriptor-spelled : (d : Descriptor) → IsDescriptor d → SpellsDescriptor (descriptor_text d) d
descriptor-spelled d is = suffix-spelled d.suffix d.name (name_text d.name) (name-spelled d.name is.name) is.suffix

descriptors-spelled : (ds : List Descriptor) → ds ≢ [] → All IsDescriptor ds
    → SpellsDescriptors (descriptors_text ds) ds
descriptors-spelled [] some h = absurd (some refl)
descriptors-spelled (d ∷ []) some h =
    subst (λ l. SpellsDescriptors l (d ∷ [])) (sym (append-nil (descriptor_text d)))
    (last (descriptor-spelled d (All-head IsDescriptor d [] h)))
descriptors-spelled (d ∷ (other ∷ others)) some h =
    more (descriptor-spelled d (All-head IsDescriptor d (other ∷ others) h))
    (descriptors-spelled (other ∷ others) (λ e. cc) (All-tail IsDescriptor d (other ∷ others) h))

part-spelled : (p : List ℕ) → IsPart p → SpellsPart (part_text p) p
part-spelled [] is = empty
part-spelled (b ∷ others) is = part is

pub printed : (s : SymbolParts) → IsSymbol s → SpellsSymbol (symbol_text s) s
printed (Local name) h = local h
printed (Global s) is =
    global (scheme is.scheme) (part-spelled s.manager is.manager) (part-spelled s.name is.name)
    (part-spelled s.version is.version)
    (descriptors-spelled s.descriptors is.some is.descriptors)

pub printed-text : (text : List ℕ) (s : SymbolParts) → IsSymbol s → text ≡ symbol_text s → SpellsSymbol text s
printed-text text s is e = subst (λ l. SpellsSymbol l s) (sym e) (printed s is)
