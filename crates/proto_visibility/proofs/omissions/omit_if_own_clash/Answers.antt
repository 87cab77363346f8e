use Rattle.proto_visibility.specs.Tables.FileItems.{IsItemIn}
use Rattle.proto_visibility.proofs.OmissionOwnLemmas.{own_step}
use Rattle.proto_visibility.proofs.omissions.omit_if_own_clash.Goals as goal

pub returns : goal.returns
returns c = own_step (IsItemIn c.args.number c.args.file.now) c.args.number c.args.omissions.now.items
    c.omit_for.new.omissions.items c.in_ok-clash.clash c.in_ok-clash.ensures c.omit_for.ensures
