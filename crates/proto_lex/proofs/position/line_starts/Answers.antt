use Rattle.std.proofs.Common.{◌≡◌, ◌∙◌, ◌<◌, ap, subst, ◌∷◌, ℕ, List, All, length}
use Rattle.std.proofs.lemmas.List.Elements.{All-tail}
use Rattle.memchr.specs.Find.{is_byte, places}
use Rattle.memchr.proofs.lemmas.CallerLemmas.{All-places}
use Rattle.proto_lex.proofs.ReadingSearchLemmas.{starts_by_places, one_more}
use Rattle.proto_lex.proofs.position.line_starts.Goals as goal

pub loop-end-init : goal.loop-end-init
loop-end-init c =
    let text = c.args.text.now in
    let all : c.into_iter-end-iterator.result ≡ places (is_byte 10) text =
    c.into_iter-end-iterator.ensures.into_iter_gives ∙ c.memchr_iter-end-items.ensures.value in
    record {
      so_far = rw (all, c.in_ok-push.ensures.items, c.in_ok-starts.ensures.items)
          (ap (λ xs. 0 ∷ xs) (starts_by_places text));
      within = rw all (λ k d h. (All-places (is_byte 10) text k d h).0);
    }

pub loop-end-preserved : goal.loop-end-preserved
loop-end-preserved c =
    let within : All (λ end. end < length c.args.text.now) (c.in-Some.end ∷ c.next.new.self) =
    subst (λ (xs : List ℕ). All (λ end. end < length c.args.text.now) xs) c.in-Some.ensures.steps
    c.loop-end.invariant.within in
    record {
      so_far = rw c.in_ok-push-2.ensures.items
          (one_more c.loop-end.starts.items c.loop-end.end-iterator c.next.new.self _ c.in-Some.end
          c.in-Some.ensures.steps c.loop-end.invariant.so_far);
      within = All-tail (λ end. end < length c.args.text.now) c.in-Some.end c.next.new.self within;
    }
