use Rattle.proto_decl.proofs.view.NamedDeclaration.new.Goals as goal

pub returns : goal.returns
returns c =
    let d = c.args.declaration.now in
    λ i. record {
      kind = d.kind;
      full_name = c.requires i;
      path = d.path;
      name = d.name;
      leading = d.leading;
      trailing = d.trailing;
    }
