use Rattle.std.proofs.Common.{◌≡◌, None, length, ap, refl, arith}
use Rattle.std.proofs.lemmas.List.Elements.{All-same, All-push}
use Rattle.std.proofs.lemmas.List.{length_push}
use Rattle.scip_model.proofs.known_parts.empty_slots.Goals as goal

pub loop-preserved : goal.loop-preserved
loop-preserved c =
    let more = c.push_reserved.ensures.items in record {
      count = (let a = ap length more in let b = length_push c.loop.slots.items None in
          let d = c.loop.invariant.count in omega arith);
      empty = All-same (λ slot. slot ≡ None) _ _ more
          (All-push (λ slot. slot ≡ None) c.loop.slots.items None c.loop.invariant.empty refl);
      room = (let a = c.loop.invariant.room in let b = c.push_reserved.ensures.capacity in omega arith);
    }
