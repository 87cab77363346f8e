use Rattle.std.proofs.Common.{◌∙◌, List, length, ap, subst}
use Rattle.std.proofs.lemmas.List.{length-map}
use Rattle.proto_visibility.specs.Kept.{Omissions, AreOmissions}
use Rattle.scip_build.specs.declared.omission.Omission.{Omission}
use Rattle.scip_build.specs.Files.{ReadFile}
use Rattle.scip_build.specs.Linking.{linked_file, linked_files}
use Rattle.scip_build.specs.Keeping.{linked_numbers}
use Rattle.scip_build.specs.Telling.{Adds, FromFront, IsLeftIf}
use Rattle.scip_build.proofs.keeping.keep_files.Goals as goal

pub omissions_of-requires : goal.omissions_of-requires
omissions_of-requires c = rw c.as_slice.ensures.value c.requires

pub push_omissions-requires : goal.push_omissions-requires
push_omissions-requires c =
    let Are : List ReadFile → Type 0 =
    λ rs. AreOmissions c.args.duplicates (linked_files rs) c.in_ok-omissions.omissions.items in
    let are : Are c.args.all.items = subst Are c.as_slice.ensures.value c.in_ok-omissions.ensures in
    rw (c.as_slice-2.ensures.value, c.as_slice-3.ensures.value) (c.args.duplicates, are)

pub linked_parsed-requires : goal.linked_parsed-requires
linked_parsed-requires c =
    let Are : List ReadFile → Type 0 =
    λ rs. AreOmissions c.args.duplicates (linked_files rs) c.in_ok-omissions.omissions.items in
    let are : Are c.args.all.items = subst Are c.as_slice.ensures.value c.in_ok-omissions.ensures in
    are.one_each ∙ length-map c.args.all.items linked_file

pub returns : goal.returns
returns c =
    let omissions = c.in_ok-omissions.omissions.items in
    let all = c.args.all.items in
    let Are : List ReadFile → Type 0 = λ rs. AreOmissions c.args.duplicates (linked_files rs) omissions in
    let told = c.push_omissions.new.told.items in
    let From : List ReadFile → Omissions → List Omission → Type 0 =
    λ rs os old. Adds (FromFront (IsLeftIf rs) os (length os)) old told in
    let old = c.new-told.result.items in
    let first : From c.as_slice-2.result.now c.as_slice-3.result.now old = c.in_ok-push_omissions.ensures in
    let second = subst (λ rs. From rs c.as_slice-3.result.now old) c.as_slice-2.ensures.value first in
    let third = subst (λ os. From all os old) c.as_slice-3.ensures.value second in
    record {
      omissions = omissions;
      left_out = subst Are c.as_slice.ensures.value c.in_ok-omissions.ensures;
      kept = c.in_ok-parsed.ensures;
      numbers_are = c.in_ok-numbers.ensures ∙ ap linked_numbers c.as_slice-4.ensures.value;
      left_are = subst (λ list. From all omissions list) c.new-told.ensures.items third;
    }
