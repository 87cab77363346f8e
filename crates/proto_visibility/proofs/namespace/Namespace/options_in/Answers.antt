use Rattle.std.proofs.Common.{◌<◌, List, length, get_or, sym, subst, rules}
use Rattle.std.proofs.lemmas.Option.{slice_get-get_or}
use Rattle.proto_visibility.specs.declared.options.OptionsIn.{OptionsIn}
use Rattle.proto_visibility.specs.declared.options.OptionsIn.TheVariants.{Nowhere}
use Rattle.proto_visibility.specs.Files.{File}
use Rattle.proto_visibility.specs.Reaches.{IsOptionsIn, LinksOptions}
use Rattle.proto_visibility.proofs.namespace.Namespace.options_in.Goals as goal

pub bounds-options-source : goal.bounds-options-source
bounds-options-source c =
    subst (λ (xs : List OptionsIn). c.args.source < length xs) (sym c.as_slice-options.ensures.value)
    (c.self.invariant.checked.options_are.all c.args.source
    (subst (λ (files : List File). LinksOptions files c.args.source) (sym c.self.view_is) c.requires))

pub offset_bounds-options-source : goal.offset_bounds-options-source
offset_bounds-options-source c =
    let within : c.args.source < length c.as_slice-options.result.now =
    subst (λ (xs : List OptionsIn). c.args.source < length xs) (sym c.as_slice-options.ensures.value)
    (c.self.invariant.checked.options_are.all c.args.source
    (subst (λ (files : List File). LinksOptions files c.args.source) (sym c.self.view_is) c.requires)) in
    search (rules, within)

pub returns : goal.returns
returns c =
    let within = c.self.invariant.checked.options_are.all c.args.source
    (subst (λ (files : List File). LinksOptions files c.args.source) (sym c.self.view_is) c.requires) in
    let known = c.self.inside.options.items in
    let answer = get_or known c.args.source Nowhere in
    subst (λ (xs : List OptionsIn). IsOptionsIn c.args.self.now c.args.source (get_or xs c.args.source Nowhere))
    (sym c.as_slice-options.ensures.value)
    (subst (λ (files : List File). IsOptionsIn files c.args.source answer) c.self.view_is
    (c.self.invariant.checked.options_are.each c.args.source answer
    (slice_get-get_or known c.args.source Nowhere within)))
