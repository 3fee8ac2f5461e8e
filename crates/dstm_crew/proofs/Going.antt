-- Collecting, as the code sees it: what is left of each share are its worker's jobs left.
use Rattle.std.proofs.Common.{◌≡◌, ℕ, suc, zero, ◌+◌, ◌<◌, ◌≤◌, List, [], ◌∷◌, ◌++◌, length, map, get_or, set, drop, Option, Some, None, refl, ap, sym, subst, ◌∙◌, inl, inr, arith}
use Rattle.std.specs.List.{All, slice_get}
use Rattle.std.specs.Option.{option_map}
use Rattle.std.proofs.lemmas.Bool.{cases_eq}
use Rattle.std.proofs.lemmas.List.{drop_more, get_or-set_same, get_or-set_other, length-set, length-map}
use Rattle.std.proofs.lemmas.Option.{get_or_from_slice_get, slice_get-get_or, slice_get_cases, slice_get_within, slice_get-map, none-some, same_Some}
use Rattle.dstm_words.specs.Seats.{AreApart}
use Rattle.dstm_workload.specs.declared.workload.Job.{Job}
use Rattle.dstm_workload.specs.declared.workload.Workload.{Workload}
use Rattle.dstm_workload.specs.Workload.{IsValidWorkload}
use Rattle.dstm_report.specs.declared.report.Row.{Row}
use Rattle.dstm_report.specs.Lawful.{first_job, jobs_left}
use Rattle.dstm_report.specs.Turns.{Turning, job_at, jobs_of, without_first}
use Rattle.dstm_report.proofs.Rising.{rise_all, turn_ends}
use Rattle.dstm_records.specs.Running.{turns_behind}
use Rattle.dstm_jobs.specs.declared.trying.Finished.{Finished}
use Rattle.dstm_crew.specs.declared.share.Share.{Share}
use Rattle.dstm_crew.specs.Collecting.{AreTaken, CanCollect, IsFit, IsRowOf, head, number_at}
use Rattle.dstm_crew.proofs.Jobs.{first_of_jobs, other_turn, own_turn}
use Rattle.dstm_crew.proofs.Numbers.{apart_places}

-- ---- lists by place

-- a fact of each element, at a place
pub at_place : {X : Type 0} (P : X → Type 0) (xs : List X) (k : ℕ) (x : X) → All P xs → slice_get xs k ≡ Some x → P x
at_place P xs k x all there = subst P (get_or_from_slice_get xs k x x there) (all k x (slice_get_within xs k x there))

-- a fact at each place, of each element
pub each_place : {X : Type 0} (P : X → Type 0) (xs : List X) → ((k : ℕ) (x : X) → slice_get xs k ≡ Some x → P x) → All P xs
each_place P xs each k d within = each k (get_or xs k d) (slice_get-get_or xs k d within)

pub drop_at : {X : Type 0} (xs : List X) (k : ℕ) (x : X) → slice_get xs k ≡ Some x → drop k xs ≡ x ∷ drop (k + 1) xs
drop_at xs k x there =
    drop_more xs k x (slice_get_within xs k x there)
    ∙ ap (λ y. y ∷ drop (k + 1) xs) (get_or_from_slice_get xs k x x there)

pub get_drop : {X : Type 0} (xs : List X) (k : ℕ) → slice_get (drop k xs) 0 ≡ slice_get xs k
get_drop [] zero = refl
get_drop [] (suc k) = refl
get_drop (x ∷ xs) zero = refl
get_drop (x ∷ xs) (suc k) = get_drop xs k

-- ---- the next numbers

pub heads_at : (shares : List Share) (next : List ℕ) (k : ℕ) (share : Share) → slice_get shares k ≡ Some share → k < length next →
    head shares next k ≡ number_at share (get_or next k 0)
heads_at [] next k share there within = absurd (none-some share there)
heads_at (s ∷ shares) [] k share there within = absurd (omega (arith, within))
heads_at (s ∷ shares) (n ∷ next) zero share there within = ap (λ (x : Share). number_at x n) (same_Some s share there)
heads_at (s ∷ shares) (n ∷ next) (suc k) share there within = heads_at shares next k share there (omega (arith, within))

-- a number is found at a place of a share
pub record Found (shares : List Share) (next : List ℕ) (k n : ℕ) : Type 0 where
  pub share : Share
  pub there : slice_get shares k ≡ Some share
  pub inside : k < length next
  pub number : number_at share (get_or next k 0) ≡ Some n

pub found : (shares : List Share) (next : List ℕ) (k n : ℕ) → head shares next k ≡ Some n → Found shares next k n
found [] next k n is = absurd (none-some n is)
found (s ∷ shares) [] k n is = absurd (none-some n is)
found (s ∷ shares) (m ∷ next) zero n is = record { share = s; there = refl; inside = omega arith; number = is }
found (s ∷ shares) (m ∷ next) (suc k) n is =
    let f = found shares next k n is in
    record { share = f.share; there = f.there; inside = (let w = f.inside in omega arith); number = f.number }

-- what was done stands where its number does
pub finished_at : (share : Share) (k n : ℕ) → number_at share k ≡ Some n →
    (f : Finished) × (slice_get share.done.items k ≡ Some f) × (f.number ≡ n)
finished_at share k n is = by (slice_get share.done.items k) refl
  where
    by : (o : Option Finished) → slice_get share.done.items k ≡ o →
        (f : Finished) × (slice_get share.done.items k ≡ Some f) × (f.number ≡ n)
    by None none = absurd (none-some n (sym (ap (option_map (λ (f : Finished). f.number)) none) ∙ is))
    by (Some f) some = (f, some, same_Some f.number n (sym (ap (option_map (λ (x : Finished). x.number)) some) ∙ is))

-- ---- where collecting stands

-- of each share so much was taken as its cursor says, and the rest of its jobs are its worker's jobs left
pub record Going (workload : Workload) (shares : List Share) (rows : List Row) (turns : Turning) (next : List ℕ) : Type 0 where
  pub valid : IsValidWorkload workload
  pub turns_are : turns ≡ turns_behind workload rows
  pub fit : All (IsFit workload) shares
  pub apart : AreApart (map (λ share. share.worker) shares)
  pub size : length next ≡ length shares
  pub cursors : (k : ℕ) (share : Share) → slice_get shares k ≡ Some share → get_or next k 0 ≤ length share.done.items
  pub jobs : (k : ℕ) (share : Share) → slice_get shares k ≡ Some share →
      map (job_at workload.jobs) (drop (get_or next k 0) share.places.items) ≡ jobs_of share.worker turns.left

-- nothing was taken yet
pub going_first : {workload : Workload} {shares : List Share} {rows : List Row} {turns : Turning} (next : List ℕ) →
    CanCollect workload shares rows turns → length next ≡ length shares → ((k : ℕ) → get_or next k 0 ≡ 0) →
    Going workload shares rows turns next
going_first {workload = workload} {shares = shares} {turns = turns} next can size zeros = record {
  valid = can.valid;
  turns_are = can.turns_are;
  fit = can.fit;
  apart = can.apart;
  size = size;
  cursors = λ k share there. let z = zeros k in omega arith;
  jobs = λ k share there.
      subst (λ (n : ℕ). map (job_at workload.jobs) (drop n share.places.items) ≡ jobs_of share.worker turns.left) (sym (zeros k))
      (at_place (λ (s : Share). map (job_at workload.jobs) s.places.items ≡ jobs_of s.worker turns.left) shares k share can.jobs there);
}

-- two shares are of two workers
pub workers_apart : (shares : List Share) → AreApart (map (λ share. share.worker) shares) → (i j : ℕ) (one other : Share) →
    slice_get shares i ≡ Some one → slice_get shares j ≡ Some other → one.worker ≡ other.worker → i ≡ j
workers_apart shares apart i j one other here there same =
    let ws = map (λ (share : Share). share.worker) shares in
    let n = length-map shares (λ (share : Share). share.worker) in
    let inside = slice_get_within shares i one here in
    let within = slice_get_within shares j other there in
    let first : get_or ws i 0 ≡ one.worker = get_or_from_slice_get ws i one.worker 0
    (slice_get-map (λ (share : Share). share.worker) shares i ∙ ap (option_map (λ (share : Share). share.worker)) here) in
    let second : get_or ws j 0 ≡ other.worker = get_or_from_slice_get ws j other.worker 0
    (slice_get-map (λ (share : Share). share.worker) shares j ∙ ap (option_map (λ (share : Share). share.worker)) there) in
    apart_places ws apart i j (omega (arith, inside, n)) (omega (arith, within, n)) (first ∙ same ∙ sym second)

-- the next job of a share is the first one left of its worker
pub record Comes (workload : Workload) (share : Share) (turns : Turning) (k : ℕ) : Type 0 where
  pub place : ℕ
  pub there : slice_get share.places.items k ≡ Some place
  pub first : first_job share.worker turns.left ≡ Some (job_at workload.jobs place)
  pub jobs : jobs_of share.worker turns.left ≡ job_at workload.jobs place ∷ map (job_at workload.jobs) (drop (k + 1) share.places.items)

pub comes : {workload : Workload} {shares : List Share} {rows : List Row} {turns : Turning} {next : List ℕ} (at : ℕ)
    (share : Share) →
    Going workload shares rows turns next → slice_get shares at ≡ Some share →
    get_or next at 0 < length share.done.items → Comes workload share turns (get_or next at 0)
comes {workload = workload} {shares = shares} {turns = turns} {next = next} at share going here some =
    let k = get_or next at 0 in
    let fit = at_place (IsFit workload) shares at share going.fit here in
    let within : k < length share.places.items = (let e = fit.enough in omega arith) in
    let place = get_or share.places.items k 0 in
    let there : slice_get share.places.items k ≡ Some place = slice_get-get_or share.places.items k 0 within in
    let jobs : jobs_of share.worker turns.left ≡ job_at workload.jobs place ∷ map (job_at workload.jobs) (drop (k + 1) share.places.items) =
    sym (going.jobs at share here) ∙ ap (map (job_at workload.jobs)) (drop_at share.places.items k place there) in
    record {
      place = place;
      there = there;
      first = first_of_jobs share.worker turns.left ∙ ap (λ (js : List Job). slice_get js 0) jobs;
      jobs = jobs;
    }

-- the row is of that job
pub same_line : {workload : Workload} {round : ℕ} {share : Share} {row : Row} {turns : Turning} {k : ℕ}
    (c : Comes workload share turns k) →
    IsRowOf workload round share k row → row.line ≡ (job_at workload.jobs c.place).line
same_line {workload = workload} {share = share} {k = k} c is =
    is.line ∙ ap (λ (p : ℕ). (job_at workload.jobs p).line) (get_or_from_slice_get share.places.items k c.place 0 c.there)

pub same_turn : {workload : Workload} {round : ℕ} {share : Share} (rows : List Row) {row : Row} {turns : Turning}
    {k : ℕ}
    (c : Comes workload share turns k) → turns ≡ turns_behind workload rows → IsRowOf workload round share k row →
    first_job row.worker (jobs_left workload.jobs rows) ≡ Some (job_at workload.jobs c.place)
same_turn {workload = workload} rows {row = row} {turns = turns} c turns_are is =
    subst (λ (js : List Job). first_job row.worker js ≡ Some (job_at workload.jobs c.place))
    (ap (λ (t : Turning). t.left) turns_are)
    (subst (λ (w : ℕ). first_job w turns.left ≡ Some (job_at workload.jobs c.place)) (sym is.worker) c.first)

-- one row more: the cursor of its share moves on
pub going_more : {workload : Workload} {shares : List Share} {rows : List Row} {turns : Turning} {next : List ℕ}
    (at : ℕ) {round : ℕ}
    {share : Share} {row : Row} → Going workload shares rows turns next → slice_get shares at ≡ Some share →
    get_or next at 0 < length share.done.items → IsRowOf workload round share (get_or next at 0) row →
    Going workload shares (rows ++ row ∷ []) (record turns { left = without_first share.worker turns.left })
    (set next at (get_or next at 0 + 1))
going_more {workload = workload} {shares = shares} {rows = rows} {turns = turns} {next = next} at {round = round}
    {share = share} {row = row} going here some is =
    let k = get_or next at 0 in
    let c = comes at share going here some in
    let inside : at < length next = (let w = slice_get_within shares at share here in let s = going.size in omega arith) in
    let left_is : turns.left ≡ jobs_left workload.jobs rows = ap (λ (t : Turning). t.left) going.turns_are in
    let job = job_at workload.jobs c.place in
    let ends = turn_ends workload.jobs rows row job (rise_all workload.jobs going.valid.rising)
    (same_turn rows c going.turns_are is) (same_line c is) in
    let left_then : without_first share.worker turns.left ≡ jobs_left workload.jobs (rows ++ row ∷ []) =
    ap (λ (w : ℕ). without_first w turns.left) (sym is.worker) ∙ ap (without_first row.worker) left_is ∙ ends in
    record {
      valid = going.valid;
      turns_are = ap (λ (js : List Job). record { jobs = turns.jobs; left = js }) left_then
          ∙ ap (λ (js : List Job). record { jobs = js; left = jobs_left workload.jobs (rows ++ row ∷ []) })
          (ap (λ (t : Turning). t.jobs) going.turns_are);
      fit = going.fit;
      apart = going.apart;
      size = length-set next at (k + 1) ∙ going.size;
      cursors = λ v other there. elim (cases_eq v at) [
        | inl same ↦
            let mine : share ≡ other = same_Some share other (sym here ∙ ap (slice_get shares) (sym same) ∙ there) in
            subst (λ (n : ℕ). n ≤ length other.done.items)
            (sym (ap (λ (u : ℕ). get_or (set next at (k + 1)) u 0) same ∙ get_or-set_same next at (k + 1) 0 inside))
            (subst (λ (s : Share). k + 1 ≤ length s.done.items) mine (omega (arith, some)))
        | inr differ ↦
            subst (λ (n : ℕ). n ≤ length other.done.items) (sym (get_or-set_other next at v (k + 1) 0 differ))
            (going.cursors v other there)
      ];
      jobs = λ v other there. elim (cases_eq v at) [
        | inl same ↦
            let mine : share ≡ other = same_Some share other (sym here ∙ ap (slice_get shares) (sym same) ∙ there) in
            subst (λ (s : Share). map (job_at workload.jobs) (drop (get_or (set next at (k + 1)) v 0) s.places.items)
            ≡ jobs_of s.worker (without_first share.worker turns.left)) mine
            (ap (λ (n : ℕ). map (job_at workload.jobs) (drop n share.places.items))
            (ap (λ (u : ℕ). get_or (set next at (k + 1)) u 0) same ∙ get_or-set_same next at (k + 1) 0 inside)
            ∙ sym (own_turn share.worker turns.left job (map (job_at workload.jobs) (drop (k + 1) share.places.items)) c.jobs))
        | inr differ ↦
            ap (λ (n : ℕ). map (job_at workload.jobs) (drop n other.places.items)) (get_or-set_other next at v (k + 1) 0 differ)
            ∙ going.jobs v other there
            ∙ sym (other_turn share.worker other.worker turns.left (λ e. differ (workers_apart shares going.apart v at other share there here e)))
      ];
    }

-- where nothing is left, each cursor is at the end
pub at_end : {workload : Workload} {shares : List Share} {rows : List Row} {turns : Turning} {next : List ℕ} (k : ℕ)
    (share : Share) →
    Going workload shares rows turns next → AreTaken shares next → slice_get shares k ≡ Some share →
    get_or next k 0 ≡ length share.done.items
at_end {shares = shares} {next = next} k share going taken here =
    elim (slice_get_cases share.done.items (get_or next k 0)).1 [
      | inl some ↦
          absurd (none-some some.0.number (sym none ∙ ap (option_map (λ (f : Finished). f.number)) some.2))
      | inr past ↦ let few = going.cursors k share here in omega (arith, few, past.0)
    ]
  where
    none : number_at share (get_or next k 0) ≡ None
    none = sym (heads_at shares next k share here
        (let w = slice_get_within shares k share here in let s = going.size in omega arith)) ∙ taken k
