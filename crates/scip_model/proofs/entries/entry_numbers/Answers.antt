use Rattle.std.proofs.Common.{◌≡◌, ◌∙◌, ℕ, List, ap, sym, subst, rules, map}
use Rattle.std.specs.Ordering.{is_lt, nat_cmp}
use Rattle.std.specs.Cmp.Lexicographic.{slice_cmp}
use Rattle.std.proofs.lemmas.Fn.{always_returns_same}
use Rattle.std.proofs.lemmas.List.Sorted.{IsPermutation-map, IsPermutation-trans}
use Rattle.basics.proofs.ListLemmas.{item_at}
use Rattle.scip_model.specs.Packages.{path_at, path_if_there}
use Rattle.scip_model.specs.Named.{home_of_file}
use Rattle.scip_model.specs.Entries.{HasEntry}
use Rattle.scip_model.specs.Indexes.{info_cmp, IsAscendingListOf}
use Rattle.scip_symbol.specs.Path.{IsGoodPath}
use Rattle.scip_model.specs.Tables.EntryLists.{source_entries, choices_for, package_names}
use Rattle.scip_model.specs.Tables.Plans.{arounds_in, text_at, entry_of}
use Rattle.scip_model.proofs.NamedApartLemmas.{AreReachable}
use Rattle.scip_model.proofs.EntryNumberLemmas.{texts_rank, sorted_entries, all_are, are_numbered}
use Rattle.scip_model.proofs.ConditionLinkedLemmas.{source-reachable}
use Rattle.scip_model.proofs.EntrySourceLemmas.{distinct, source-list}
use Rattle.scip_model.proofs.entries.entry_numbers.Goals as goal

pub push_declarations-requires : goal.push_declarations-requires
push_declarations-requires c = λ index within.
    let facts = c.args.facts.now in
    let declared = item_at facts.declarations index within in
    c.requires.choices c.args.maker.now.source index facts declared.0
    (record { has_facts = c.requires.known; numbered = declared.1 })

pub returns : goal.returns
returns c =
    let files = c.args.maker.now.package.now.files in
    let source = c.args.maker.now.source in
    let facts = c.args.facts.now in
    let ids = c.args.maker.now.package.now.ids in
    let home = home_of_file files ids source in
    let file = c.requires.path in
    let known = c.symbols_stand_apart.ensures.known in
    let good = c.symbols_stand_apart.ensures.packages in
    let reachable : AreReachable files source facts =
    record { is_reachable = source-reachable files source c.requires.source; known = c.requires.known } in
    let choices = choices_for c.args.maker.now.choices.now source in
    let texts = c.args.texts.now in
    let named : path_at files source ≡ c.args.path.now = ap path_if_there file.1 ∙ file.2 in
    let arounds = arounds_in home facts in
    let entry = entry_of texts home.path (package_names facts.package_name) facts choices arounds in
    let first = c.in_ok-numbers.numbers.items in
    let listed = c.push_declarations.new.numbers.items in
    let near = c.put_near.new.numbers.items in
    let all : map entry listed ≡ source_entries home ids.run facts choices =
    all_are home ids.run facts choices texts c.requires.texts first listed (c.in_ok-numbers.ensures entry)
    (c.in_ok-push_declarations.ensures home entry
    (are_numbered home ids.run facts choices texts c.requires.texts)) in
    let up = c.sort_unstable_by.ensures.sorted
    (λ (a b : ℕ). is_lt (slice_cmp nat_cmp (text_at texts a) (text_at texts b))) (texts_rank texts)
    (always_returns_same _
    (λ a r. is_lt r ≡ is_lt (slice_cmp nat_cmp (text_at texts a.0.now) (text_at texts a.1.0.now))) _
    (λ a r f' called. search rules)) in
    let sorted = c.sort_unstable_by.new.self.items in
    let good_path = subst IsGoodPath (sym (ap path_if_there file.1)) (c.requires.paths source file.0 file.1) in
    subst (λ (p : List ℕ). IsAscendingListOf info_cmp (HasEntry files c.args.maker.now.choices.now ids source)
    (map (entry_of texts p (package_names facts.package_name) facts choices arounds) sorted)) named
    (source-list files c.args.maker.now.choices.now ids source file.0 facts file.1 reachable
    (distinct files ids known good source facts reachable good_path choices) (map entry listed) _ all
    (IsPermutation-map entry listed _
    (IsPermutation-trans listed near _ c.in_ok-put_near.ensures c.sort_unstable_by.ensures.permutation))
    (sorted_entries texts home.path (package_names facts.package_name) facts choices arounds _ up))
