use Rattle.std.proofs.Common.{map, subst, arith}
use Rattle.proto_options.specs.declared.names.OptionRole.TheVariants as role
use Rattle.option_link.specs.Contexts.{HasWords, NamesAs}
use Rattle.option_link.specs.Found.{IsFieldIn}
use Rattle.option_link.specs.declared.place.DeclaredPlace.{DeclaredPlace}
use Rattle.option_link.proofs.LoopLemmas.{found_as}
use Rattle.option_link.proofs.TargetNameLemmas.{plain_from, plain_to, plain_one}
use Rattle.option_link.proofs.WordLemmas.{now, one_of, none_one, many_one}
use Rattle.option_link.proofs.naming.Asked.plain_target.Goals as goal

pub returns-in-empty : goal.returns-in-empty
returns-in-empty c =
    let self = c.args.self in
    plain_one self.files.names.now self.files.known.now self.file self.text.now self.option.now c.args.number
    c.args.name.now c.args.context (map now c.args.words.now) c.requires.words
    (λ word. none_one c.args.words.now word (omega arith))

pub returns-in-len1 : goal.returns-in-len1
returns-in-len1 c =
    let self = c.args.self in
    let files = self.files.names.now in
    let known = self.files.known.now in
    let text = self.text.now in
    let option = self.option.now in
    let name = c.args.name.now in
    let are = one_of c.args.words.now _ (omega arith) in
    let has = subst (HasWords text name) are c.requires.words in
    found_as c.own_field.result ((field : DeclaredPlace) → IsFieldIn files known self.file option c.args.number _ c.args.context
    field → ⊥)
    ((at : DeclaredPlace) → NamesAs files known self.file text option c.args.number name role.Field c.args.context at
    → ⊥) (IsFieldIn files known self.file option c.args.number _ c.args.context)
    (NamesAs files known self.file text option c.args.number name role.Field c.args.context)
    (λ none at names. none at (plain_to files known self.file text option c.args.number name c.args.context _ has at
    names))
    (λ field is. plain_from files known self.file text option c.args.number name c.args.context _ has field is)
    c.own_field.ensures

pub returns-in-len2-up : goal.returns-in-len2-up
returns-in-len2-up c =
    let self = c.args.self in
    plain_one self.files.names.now self.files.known.now self.file self.text.now self.option.now c.args.number
    c.args.name.now c.args.context (map now c.args.words.now) c.requires.words
    (λ word. many_one c.args.words.now word (omega arith))
