use Rattle.std.proofs.Common.{◌≡◌, ◌<◌, All, ap, sym, ◌∙◌, subst}
use Rattle.proto_parse.proofs.SplitLemmas.{all_right}
use Rattle.proto_visibility.specs.Tables.Visits.{Found, visit_all}
use Rattle.proto_visibility.proofs.SeeingLemmas.{visits_append}
use Rattle.proto_visibility.proofs.reaching.visit_steps.Goals as goal

pub visit_all-requires-2 : goal.visit_all-requires-2
visit_all-requires-2 c =
    let files = ap (λ (f : Found). f.files) c.in_ok-visit_all.ensures in
    subst (λ n. All (λ number. number < n) c.as_slice-2.result.now) (sym files)
    (subst (All (λ number. number < c.args.search.now.files)) (sym c.as_slice-2.ensures.value)
    (all_right (λ number. number < c.args.search.now.files) c.args.steps.now.plain.items
    c.args.steps.now.public.items c.requires))

pub returns : goal.returns
returns c =
    let plain = c.args.steps.now.plain.items in
    let public = c.args.steps.now.public.items in
    let old = c.args.search.now in
    let first : c.visit_all.new.self ≡ record { files = old.files; numbers = visit_all old.numbers plain } =
    c.in_ok-visit_all.ensures
    ∙ ap (λ xs. record { files = old.files; numbers = visit_all old.numbers xs }) c.as_slice.ensures.value in
    c.in_ok-visit_all-2.ensures
    ∙ (ap (λ xs. record { files = c.visit_all.new.self.files; numbers = visit_all c.visit_all.new.self.numbers xs })
    c.as_slice-2.ensures.value
    ∙ (ap (λ (f : Found). record { files = f.files; numbers = visit_all f.numbers public }) first
    ∙ ap (λ xs. record { files = old.files; numbers = xs }) (sym (visits_append old.numbers plain public))))
