use Rattle.std.proofs.Common.{◌↔◌, List, ℕ, IsTrue, map, subst}
use Rattle.std.specs.String.{string_bytes}
use Rattle.proto_visibility.specs.Knows.{KnowsAs}
use Rattle.option_link.specs.Lookups.{is_field}
use Rattle.option_link.proofs.ExtensionLemmas.{behind_known, behind_unknown, lacks_named}
use Rattle.option_link.proofs.LoopLemmas.{fails, some_of, none_of}
use Rattle.option_link.proofs.TableLemmas.{links_within}
use Rattle.option_link.proofs.WordLemmas.{now}
use Rattle.option_link.proofs.naming.Asked.behind_words.Goals as goal

pub sought_name-requires-clause-file : goal.sought_name-requires-clause-file
sought_name-requires-clause-file c = links_within c.args.self.files.names.now c.args.self.file c.requires.links

pub knows-is_field-requires : goal.knows-is_field-requires
knows-is_field-requires c = links_within c.args.self.files.names.now c.args.self.file c.requires.links

pub returns-then-is_field : goal.returns-then-is_field
returns-then-is_field c =
    let self = c.args.self in
    let files = self.files.names.now in
    let iff = subst (λ (n : List ℕ). IsTrue c.knows-is_field.result ↔ KnowsAs files self.file is_field n)
    c.as_str.ensures.value c.knows-is_field.ensures in
    behind_known files self.files.known.now self.file self.text.now self.option.now c.args.number c.args.name.now
    (map now c.args.words.now) c.requires.words (string_bytes c.in-Some.full_name) c.args.context
    (some_of _ _ _ c.in-Some.is c.in_ok-full_name.ensures) (iff.0 c.if-is_field.true)

pub returns-else-is_field : goal.returns-else-is_field
returns-else-is_field c =
    let self = c.args.self in
    let files = self.files.names.now in
    let iff = subst (λ (n : List ℕ). IsTrue c.knows-is_field.result ↔ KnowsAs files self.file is_field n)
    c.as_str.ensures.value c.knows-is_field.ensures in
    behind_unknown files self.files.known.now self.file self.text.now self.option.now c.args.number c.args.name.now
    (map now c.args.words.now) c.requires.words (string_bytes c.in-Some.full_name) c.args.context
    (some_of _ _ _ c.in-Some.is c.in_ok-full_name.ensures) (fails c.knows-is_field.result _ iff c.if-is_field.false)

pub returns-in-None : goal.returns-in-None
returns-in-None c =
    let self = c.args.self in
    λ at names. absurd (lacks_named self.files.names.now self.files.known.now self.file self.text.now self.option.now
    c.args.number c.args.name.now (map now c.args.words.now) c.requires.words c.args.context
    (none_of _ _ c.in-None.is c.in_ok-full_name.ensures) at names)
