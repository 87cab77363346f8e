-- The recursion over the workers' threads.
use Rattle.std.proofs.Common.{◌≡◌, ℕ, ◌+◌, ◌≤◌, true, false, List, [], ◌++◌, length, All, Some, option_to_list, sum_by}
use Rattle.std.proofs.Common.{sym, ap, ◌∙◌, subst, arith}
use Rattle.std.specs.List.Sorted.{IsPermutation}
use Rattle.std.proofs.lemmas.List.Sorted.{sum_by-IsPermutation}
use Rattle.std.proofs.lemmas.List.Sums.{sum_by-append, sum_by_push}
use Rattle.std.proofs.lemmas.List.Elements.{All-pop}
use Rattle.index_pool.specs.declared.lanes.ends.LaneOwner.{LaneOwner}
use Rattle.index_pool.specs.declared.lanes.ends.LaneThief.{LaneThief}
use Rattle.index_pool.specs.declared.phase.worker.Post.{Post}
use Rattle.index_pool.specs.declared.phase.worker.Done.{Done}
use Rattle.index_pool.specs.declared.phase.levels.Gathered.{Gathered}
use Rattle.index_pool.specs.declared.phase.worker.Ran.{Ran}
use Rattle.index_pool.specs.declared.phase.fault.Stop.{Stop}
use Rattle.index_pool.specs.declared.phase.fault.Stop.TheVariants.{Memory}
use Rattle.std.proofs.lemmas.List.{length_push}
use Rattle.std.specs.List.{range_with_len}
use Rattle.index_pool.specs.Lane.{lane_numbers, lane_view}
use Rattle.index_pool.specs.LaneEnds.{owner_view, owner_deque, thief_view, thief_deque}
use Rattle.index_pool.specs.Tables.PhaseSteps.{AllBelow, FreshPost, FreshLane, AllGiven, weight, Worked, Gathers}
use Rattle.index_pool.specs.Tables.PhaseSteps.{Settles, RanEach, MayStop}
use Rattle.index_pool.proofs.PhaseStepResultLemmas.{weight_append, each_once}
use Rattle.index_pool.proofs.LaneEndsLemmas.{popped_given, popped_below}

-- what a lane was given is what was popped and stolen, however it is weighed
pub lane_weighs : (h : ℕ → ℕ) (given popped stolen : List ℕ) → IsPermutation given (popped ++ stolen)
    → sum_by h popped + sum_by h stolen ≡ sum_by h given
lane_weighs h given popped stolen all =
    sym (sum_by-append h popped stolen) ∙ sum_by-IsPermutation h given (popped ++ stolen) all

-- both ends of a lane came together, and it was popped until it was empty
pub close_weighs : {A : Type 0} (owner rejoined popped : LaneOwner) (thief : LaneThief) (before after : List (Ran A))
    → owner_view rejoined ≡ lane_view true true (owner_view owner).given (owner_view owner).popped
    (thief_view thief).stolen
    → ((h : ℕ → ℕ) → weight h after + sum_by h (owner_view rejoined).popped
    ≡ weight h before + sum_by h (owner_view popped).popped)
    → ((owner_view rejoined).steals ≡ true
    → IsPermutation (owner_view rejoined).given ((owner_view popped).popped ++ (owner_view rejoined).stolen))
    → (h : ℕ → ℕ) → weight h after + (sum_by h (owner_view owner).popped + sum_by h (thief_view thief).stolen)
    ≡ weight h before + sum_by h (owner_view owner).given
close_weighs owner rejoined popped thief before after view ran whole h =
    let a = ap (λ v. sum_by h v.popped) view in
    let b = ap (λ v. sum_by h v.stolen) view in
    let c = ap (λ v. sum_by h v.given) view in
    let d = ran h in
    let e = lane_weighs h (owner_view rejoined).given (owner_view popped).popped (owner_view rejoined).stolen
    (whole (ap (λ v. v.steals) view)) in omega arith

-- the results of two and those of a lane that was closed
pub settle_weighs : {A : Type 0} (h : ℕ → ℕ) (ours theirs both after : List (Ran A)) (taken given : ℕ)
    → both ≡ ours ++ theirs → weight h after + taken ≡ weight h both + given
    → weight h after + taken ≡ (weight h ours + weight h theirs) + given
settle_weighs h ours theirs both after taken given is closed = let a = weight_append ours theirs both is h in
    omega arith

-- what a phase gathered, and what closing the calling thread's own lane gave
pub run_ends : {A : Type 0} (gives : ℕ → A → Type 0) (n lanes : ℕ) (post : Post)
    (further : List (LaneOwner × LaneThief)) (all : Gathered A) (final : List (Ran A))
    → owner_view post.owner ≡ lane_view true false (lane_numbers n lanes 0) [] []
    → Gathers gives post further all
    → ((h : ℕ → ℕ) → sum_by h (lane_numbers n lanes 0) + sum_by (λ l. sum_by h (owner_view l.0).given) further
    ≡ sum_by h (range_with_len 0 n))
    → (AllGiven gives all.results.items → AllGiven gives final)
    → ((h : ℕ → ℕ) → weight h final
    + (sum_by h (owner_view all.post.owner).popped + sum_by h (thief_view all.post.thief).stolen)
    ≡ weight h all.results.items + sum_by h (owner_view all.post.owner).given)
    → RanEach gives n final
run_ends gives n lanes post further all final view g whole answers closed = (
  answers g.answers,
  each_once n final (λ h. (
      let a = g.weighed h in
      let b = whole h in
      let c = closed h in
      let d = ap (sum_by h) (popped_given post.owner all.post.owner g.owner ∙ ap (λ v. v.given) view) in omega arith)),
)

pub alone_gathers : {A : Type 0} (gives : ℕ → A → Type 0) (post : Post) (done : Done A) → Worked gives post done
    → done.starved ≡ false → Gathers gives post [] (record { post = done.post; results = done.results })
alone_gathers gives post done w fed =
    record {
      owner = w.owner;
      thief = w.thief;
      answers = w.answers;
      weighed = λ h. (let a = w.weighed fed h in omega arith);
    }

-- memory, once all were started
pub memory_stops : (post : Post) (lanes starts : ℕ) → lanes ≤ starts → (stop : Stop) → stop ≡ Memory
    → MayStop post lanes starts stop
memory_stops post lanes starts enough stop is = subst (MayStop post lanes starts) (sym is) enough

pub one_lane_more : (lanes rest : List (LaneOwner × LaneThief)) (last : LaneOwner × LaneThief)
    → lanes ≡ rest ++ option_to_list (Some last) → length lanes ≡ length rest + 1
one_lane_more lanes rest last is = ap length is ∙ length_push rest last

-- the post of the worker that is started, and the calling thread's new post
abbrev pub their_post : Post → LaneOwner × LaneThief → Post
their_post post lane = record { owner = lane.0; thief = post.thief }

abbrev pub our_post : Post → LaneOwner × LaneThief → Post
our_post post lane = record { owner = post.owner; thief = lane.1 }

module _ (n : ℕ) (post : Post) (lanes rest : List (LaneOwner × LaneThief)) (last : LaneOwner × LaneThief)
    (is : lanes ≡ rest ++ option_to_list (Some last)) (fresh : FreshPost n post) (all : All (FreshLane n) lanes) where
  pub last_fresh : FreshLane n last
  last_fresh = (All-pop (FreshLane n) lanes rest (Some last) is all).1

  pub rest_fresh : All (FreshLane n) rest
  rest_fresh = (All-pop (FreshLane n) lanes rest (Some last) is all).0

  pub theirs_fresh : (theirs : Post) → theirs ≡ their_post post last → FreshPost n theirs
  theirs_fresh theirs e = subst (FreshPost n) (sym e) (last_fresh.0, fresh.1)

  pub ours_fresh : (ours : Post) → ours ≡ our_post post last → FreshPost n ours
  ours_fresh ours e = subst (FreshPost n) (sym e) (fresh.0, last_fresh.1)

  pub same_lane : {A : Type 0} (gives : ℕ → A → Type 0) (theirs ours : Post) (done : Done A) (gathered : Gathered A)
      → theirs ≡ their_post post last → ours ≡ our_post post last → Worked gives theirs done
      → Gathers gives ours rest gathered
      → thief_deque gathered.post.thief ≡ owner_deque done.post.owner
  same_lane gives theirs ours done gathered a b w g =
      g.thief.0 ∙ (ap (λ p. thief_deque p.thief) b
      ∙ (last_fresh.2 ∙ (ap (λ p. owner_deque p.owner) (sym a) ∙ sym w.owner.0)))

  pub done_below : {A : Type 0} (gives : ℕ → A → Type 0) (theirs : Post) (done : Done A) → theirs ≡ their_post post last
      → Worked gives theirs done → AllBelow n (owner_view done.post.owner).given
  done_below gives theirs done a w =
      popped_below n theirs.owner done.post.owner w.owner
      (subst (λ (p : Post). AllBelow n (owner_view p.owner).given) (sym a) last_fresh.0.1)

  pub level_gathers : {A : Type 0} (gives : ℕ → A → Type 0) (theirs ours : Post) (done : Done A)
      (gathered all' : Gathered A) → theirs ≡ their_post post last → ours ≡ our_post post last
      → Worked gives theirs done → Gathers gives ours rest gathered → Settles gives done gathered all'
      → Gathers gives post lanes all'
  level_gathers gives theirs ours done gathered all' a b w g s =
      let w' : Worked gives (their_post post last) done = subst (λ p. Worked gives p done) a w in
      let g' : Gathers gives (our_post post last) rest gathered = subst (λ p. Gathers gives p rest gathered) b g in
      record {
        owner = rw s.owner g'.owner;
        thief = rw s.thief w'.thief;
        answers = s.answers w'.answers g'.answers;
        weighed = λ h. (
            let settled = s.weighed h in
            let worked = w'.weighed s.fed h in
            let others = g'.weighed h in
            let popped = ap (λ o. sum_by h (owner_view o).popped) s.owner in
            let stolen = ap (λ t. sum_by h (thief_view t).stolen) s.thief in
            let given = ap (sum_by h) (popped_given last.0 done.post.owner w'.owner) in
            let sums = ap (sum_by (λ l. sum_by h (owner_view l.0).given)) is
            ∙ sum_by_push (λ l. sum_by h (owner_view l.0).given) rest last in omega arith);
      }
