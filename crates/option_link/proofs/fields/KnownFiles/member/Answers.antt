use Rattle.option_link.proofs.fields.KnownFiles.member.Goals as goal

pub returns-in-Some : goal.returns-in-Some
returns-in-Some c = c.in-Some.ensures c.args.in_braces
