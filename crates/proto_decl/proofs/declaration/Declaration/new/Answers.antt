use Rattle.proto_decl.proofs.declaration.Declaration.new.Goals as goal

pub returns : goal.returns
returns c =
    let is = c.outline.view_is in
    λ i. record {
      kind = (is i).kind;
      full_name = (is i).full_name;
      path = (is i).path;
      name = (is i).heading.name;
      leading = c.args.leading;
      trailing = c.args.trailing;
    }
