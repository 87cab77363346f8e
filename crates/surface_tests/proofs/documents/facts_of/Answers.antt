use Rattle.std.proofs.Common.{rules, refl}
use Rattle.std.proofs.lemmas.Result.{IfOk-weaker}
use Rattle.comment_texts.specs.declared.form.CommentForm.TheVariants.{Raw}
use Rattle.proto_decl.specs.declared.form.FactForm.{FactForm}
use Rattle.proto_decl.specs.Facts.{AreFactsOf}
use Rattle.proto_parse.specs.dialect.CustomOptions.TheVariants.{Refuse}
use Rattle.proto_parse.specs.dialect.Dialect.TheVariants.{Proto3}
use Rattle.scip_model.specs.Conditions.{AreOfText}
use Rattle.surface_tests.proofs.documents.facts_of.Goals as goal

pub returns : goal.returns
returns c =
    let form : FactForm = record { comments = Raw; details = c.args.details } in
    IfOk-weaker c.declare_with.result (AreFactsOf form 0 c.in-Ok.lexed c.in-Ok-parse.tree) (AreOfText c.args.text.now)
    (λ facts of_tree. record {
      origin = record {
        form = form;
        lexed = c.in-Ok.lexed;
        file = c.in-Ok-parse.tree;
        is_lexed = search rules;
        derives = (Proto3 Refuse, c.in-Ok-parse.ensures.found);
        of_file = record {
          numbered = refl;
          package_name = of_tree.package_name;
          imports = of_tree.imports;
          declarations = of_tree.declarations;
          uses = of_tree.uses;
          details = of_tree.details;
        };
      };
      text_is = c.in-Ok.ensures.text;
    })
    c.declare_with.ensures
