-- Step by step, the rows tell of what was committed: where a worker's next number is the least, its next job is that of the
-- next transaction.
use Rattle.std.proofs.Common.{◌≡◌, ℕ, suc, zero, ◌+◌, ◌<◌, ◌≤◌, Bool, true, false, cond, eqb, List, [], ◌∷◌, ◌++◌, length, map, reverse, get_or, set, drop, replicate, Option, Some, refl, ap, sym, subst, ◌∙◌, inl, arith, append_assoc}
use Rattle.std.specs.Prelude.{IfSome}
use Rattle.std.specs.List.{AllByRecursion, slice_get, zip}
use Rattle.std.specs.Option.{option_map}
use Rattle.std.proofs.lemmas.Bool.{eq-eqb, ne_eqb}
use Rattle.std.proofs.lemmas.List.{append-nil, drop_all, get_or-set_same, get_or-set_other, get_or_default, length-drop, length-map, length-replicate}
use Rattle.std.proofs.lemmas.List.Elements.{recursion_from_All, All-from_recursion, filter-append}
use Rattle.std.proofs.lemmas.Option.{get_or_from_slice_get, slice_get_within, slice_get-map, slice_get_read, none-some, same_Some}
use mathlib.Core.List.{reverse-cons}
use Rattle.dstm_model.specs.declared.reply.Reply.{Reply}
use Rattle.dstm_model.specs.Answers.{Committed, by_caller}
use Rattle.dstm_jobs.specs.Tables.{Round}
use Rattle.dstm_workload.specs.declared.workload.Job.{Job}
use Rattle.dstm_workload.specs.declared.workload.Workload.{Workload}
use Rattle.dstm_report.specs.declared.report.Row.{Row}
use Rattle.dstm_report.specs.Lawful.{first_job, jobs_left}
use Rattle.dstm_report.specs.Turns.{Turning, job_at, jobs_of, without_first}
use Rattle.dstm_options.specs.declared.options.Options.{Options}
use Rattle.dstm_jobs.specs.Answers.{IsAnsweredBy, IsDone, KeepsFew}
use Rattle.dstm_records.specs.Records.{IsReleasing, KeepsFewReads}
use Rattle.dstm_records.specs.Rounds.{has_job, left_by}
use Rattle.dstm_records.specs.Told.{AreTold, IsTold}
use Rattle.dstm_records.proofs.Told.{AreTold-push, Rise, rise_of, turn_names}
use Rattle.dstm_jobs.specs.declared.trying.Finished.{Finished}
use Rattle.dstm_crew.specs.Workers.{AreDone, next_job}
use Rattle.dstm_crew.specs.declared.share.Share.{Share}
use Rattle.dstm_tables.specs.Tells.{lets_go, all_done, callers_of, committed_of, done_of}
use Rattle.dstm_tables.proofs.History.{is_history}
use Rattle.dstm_crew.specs.Collecting.{AreRunBy, AreSpent, AreTaken, CanCollect, HasCollected, IsFit, IsLeast, IsNext, IsRowOf, caller_of, head, heads, number_at}
use Rattle.dstm_crew.specs.Shares.{AreShared, IsShared}
use Rattle.dstm_crew.proofs.Going.{Comes, Going, at_end, at_place, comes, drop_at, each_place, finished_at, found, get_drop, going_first, going_more, heads_at, same_line, same_turn, workers_apart}
use Rattle.dstm_crew.proofs.Jobs.{first_of_jobs, has_some}
use Rattle.dstm_crew.proofs.Merge.{AllMatch, Match, merge_ends, merge_step}
use Rattle.dstm_crew.proofs.Numbers.{all_there, apart_places}
use Rattle.dstm_jobs.specs.Law.{keeps}

-- ---- the transactions of a table are its callers'

all-push : {X : Type 0} (P : X → Type 0) (xs : List X) (x : X) → AllByRecursion P xs → P x → AllByRecursion P (xs ++ x ∷ [])
all-push P [] x all is = (is, tt)
all-push P (y ∷ xs) x all is = (all.0, all-push P xs x all.1 is)

all-reverse : (P : Committed → Type 0) (xs : List Committed) → AllByRecursion P xs → AllByRecursion P (reverse xs)
all-reverse P [] all = tt
all-reverse P (x ∷ xs) all =
    subst (AllByRecursion P) (sym (reverse-cons x xs)) (all-push P (reverse xs) x (all-reverse P xs all.1) all.0)

all-middle : (P : Committed → Type 0) (xs : List Committed) (x : Committed) (ys : List Committed) →
    AllByRecursion P (xs ++ x ∷ ys) → P x
all-middle P [] x ys all = all.0
all-middle P (z ∷ xs) x ys all = all-middle P xs x ys all.1

-- of one caller, the oldest first
by_caller-reverse : (c : ℕ) (xs : List Committed) → by_caller c (reverse xs) ≡ reverse (by_caller c xs)
by_caller-reverse c [] = refl
by_caller-reverse c (x ∷ xs) =
    ap (by_caller c) (reverse-cons x xs)
    ∙ filter-append (λ (a : Committed). eqb a.caller c) (reverse xs) (x ∷ [])
    ∙ ap (λ (front : List Committed). front ++ by_caller c (x ∷ [])) (by_caller-reverse c xs)
    ∙ one (eqb x.caller c)
  where
    one : (b : Bool) → reverse (by_caller c xs) ++ cond b (x ∷ []) [] ≡ reverse (cond b (x ∷ by_caller c xs) (by_caller c xs))
    one true = sym (reverse-cons x (by_caller c xs))
    one false = append-nil (reverse (by_caller c xs))

-- ---- shares and callers by place

pub shared_at : (workload : Workload) (options : Options) (r : Round) (shares : List Share)
    (callers : List ℕ) (k : ℕ) (share : Share) → AreShared workload options r shares callers →
    slice_get shares k ≡ Some share → IsShared workload options r share (get_or callers k 0)
shared_at workload options r [] callers k share shared there = absurd (none-some share there)
shared_at workload options r (s ∷ shares) [] k share shared there = absurd shared
shared_at workload options r (s ∷ shares) (c ∷ callers) zero share shared there =
    subst (λ (x : Share). IsShared workload options r x c) (same_Some s share there) shared.0
shared_at workload options r (s ∷ shares) (c ∷ callers) (suc k) share shared there =
    shared_at workload options r shares callers k share shared.1 there

pub shared_size : (workload : Workload) (options : Options) (r : Round) (shares : List Share)
    (callers : List ℕ) → AreShared workload options r shares callers → length shares ≡ length callers
shared_size workload options r [] [] shared = refl
shared_size workload options r [] (c ∷ callers) shared = absurd shared
shared_size workload options r (s ∷ shares) [] shared = absurd shared
shared_size workload options r (s ∷ shares) (c ∷ callers) shared =
    ap suc (shared_size workload options r shares callers shared.1)

shared_below : (workload : Workload) (options : Options) (r : Round) (shares : List Share)
    (callers : List ℕ) → AreShared workload options r shares callers → AllByRecursion (λ c. c < callers_of r) callers
shared_below workload options r [] [] shared = tt
shared_below workload options r [] (c ∷ callers) shared = absurd shared
shared_below workload options r (s ∷ shares) [] shared = absurd shared
shared_below workload options r (s ∷ shares) (c ∷ callers) shared =
    (shared.0.within, shared_below workload options r shares callers shared.1)

-- the caller of a share's worker is the share's
pub caller_at : (shares : List Share) (callers : List ℕ) (k : ℕ) (share : Share) →
    ((i : ℕ) (other : Share) → slice_get shares i ≡ Some other → other.worker ≡ share.worker → i ≡ k) →
    slice_get shares k ≡ Some share → k < length callers → caller_of shares callers share.worker ≡ get_or callers k 0
caller_at [] callers k share only there within = absurd (none-some share there)
caller_at (s ∷ shares) [] k share only there within = absurd (omega (arith, within))
caller_at (s ∷ shares) (c ∷ callers) zero share only there within =
    rw (eq-eqb s.worker share.worker (ap (λ (x : Share). x.worker) (same_Some s share there))) refl
caller_at (s ∷ shares) (c ∷ callers) (suc k) share only there within =
    rw (ne_eqb s.worker share.worker (λ e. let zeroth = only 0 s refl e in omega arith))
    (caller_at shares callers k share (λ i other here same. let e = only (suc i) other here same in omega arith) there
    (omega (arith, within)))

-- ---- what was done of a share, with where its job stands

slice_get-some : {X : Type 0} (xs : List X) (k : ℕ) → k < length xs → (x : X) × (slice_get xs k ≡ Some x)
slice_get-some [] k within = absurd (omega (arith, within))
slice_get-some (x ∷ xs) zero within = (x, refl)
slice_get-some (x ∷ xs) (suc k) within = slice_get-some xs k (omega (arith, within))

abbrev pub pairs_of : Share → List (ℕ × Finished)
pairs_of share = zip share.places.items share.done.items

abbrev pub pairs_at : List Share → ℕ → List (ℕ × Finished)
pairs_at shares k = get_or (map pairs_of shares) k []

-- what is left of it
abbrev pub pairs_left : List Share → (next : List ℕ) → ℕ → List (ℕ × Finished)
pairs_left shares next k = drop (get_or next k 0) (pairs_at shares k)

pairs_there : (shares : List Share) (k : ℕ) (share : Share) → slice_get shares k ≡ Some share →
    pairs_at shares k ≡ zip share.places.items share.done.items
pairs_there shares k share there =
    get_or_from_slice_get (map pairs_of shares) k (pairs_of share) [] (slice_get-map pairs_of shares k ∙ ap (option_map pairs_of) there)

zip_at : (places : List ℕ) (done : List Finished) (k place : ℕ) (f : Finished) → slice_get places k ≡ Some place →
    slice_get done k ≡ Some f → slice_get (zip places done) k ≡ Some (place, f)
zip_at [] done k place f there here = absurd (none-some place there)
zip_at (p ∷ places) [] k place f there here = absurd (none-some f here)
zip_at (p ∷ places) (g ∷ done) zero place f there here =
    ap (λ (q : ℕ). Some (q, g)) (same_Some p place there) ∙ ap (λ (h : Finished). Some (place, h)) (same_Some g f here)
zip_at (p ∷ places) (g ∷ done) (suc k) place f there here = zip_at places done k place f there here

zip_short : (places : List ℕ) (done : List Finished) → length (zip places done) ≤ length done
zip_short [] done = omega arith
zip_short (p ∷ places) [] = omega arith
zip_short (p ∷ places) (f ∷ done) = let rest = zip_short places done in omega (arith, rest)

abbrev pub number_of : ℕ × Finished → ℕ
number_of pair = pair.1.number

zip_second : (places : List ℕ) (done : List Finished) (k : ℕ) (b : ℕ × Finished) → slice_get (zip places done) k ≡ Some b →
    slice_get done k ≡ Some b.1
zip_second [] done k b is = absurd (none-some b is)
zip_second (p ∷ places) [] k b is = absurd (none-some b is)
zip_second (p ∷ places) (f ∷ done) zero b is = ap (λ (q : ℕ × Finished). Some q.1) (same_Some (p, f) b is)
zip_second (p ∷ places) (f ∷ done) (suc k) b is = zip_second places done k b is

-- what is left of a share begins with its next number
other_head : (shares : List Share) (next : List ℕ) (v : ℕ) (b : ℕ × Finished) (more : List (ℕ × Finished)) → v < length shares →
    length next ≡ length shares → pairs_left shares next v ≡ b ∷ more → head shares next v ≡ Some b.1.number
other_head shares next v b more below size there = by (slice_get-some shares v below)
  where
    by : (share : Share) × (slice_get shares v ≡ Some share) → head shares next v ≡ Some b.1.number
    by at =
        let share = at.0 in
        let first : slice_get (pairs_at shares v) (get_or next v 0) ≡ Some b =
        sym (get_drop (pairs_at shares v) (get_or next v 0)) ∙ ap (λ (ps : List (ℕ × Finished)). slice_get ps 0) there in
        let done = zip_second share.places.items share.done.items (get_or next v 0) b
        (sym (ap (λ (ps : List (ℕ × Finished)). slice_get ps (get_or next v 0)) (pairs_there shares v share at.1)) ∙ first) in
        heads_at shares next v share at.1 (omega (arith, below, size)) ∙ ap (option_map (λ (f : Finished). f.number)) done

-- ---- the state of collecting

module _ (workload : Workload) (options : Options) (r : Round) where
  -- a job was done by a transaction, which keeps few reads where reads are given up
  abbrev pub Does : ℕ × Finished → Committed → Type 0
  Does pair done =
      IsDone workload.layout (job_at workload.jobs pair.0) pair.1 done
      × (IsReleasing options workload.version → lets_go r ≡ true → KeepsFew (job_at workload.jobs pair.0) done)

  match_all : (places : List ℕ) (finished : List Finished) (done : List Committed) →
      AreDone workload.layout workload.jobs places finished done →
      (IsReleasing options workload.version → lets_go r ≡ true →
      AllByRecursion (λ told. KeepsFew (job_at workload.jobs told.0) told.1) (zip places done)) →
      Match Does (zip places finished) done
  match_all [] [] [] are few = tt
  match_all (p ∷ places) [] [] are few = tt
  match_all [] [] (d ∷ done) are few = absurd are
  match_all [] (f ∷ finished) [] are few = absurd are
  match_all [] (f ∷ finished) (d ∷ done) are few = absurd are
  match_all (p ∷ places) [] (d ∷ done) are few = absurd are
  match_all (p ∷ places) (f ∷ finished) [] are few = absurd are
  match_all (p ∷ places) (f ∷ finished) (d ∷ done) are few = (
    (are.0, λ releasing reads. (few releasing reads).0),
    match_all places finished done are.1 (λ releasing reads. (few releasing reads).1),
  )

  module _ (shares : List Share) (callers : List ℕ) where
    -- a row is of the worker whose share the transaction's caller ran, and keeps few reads where reads are given up
    abbrev pub IsOurs : Row → Committed → Type 0
    IsOurs row done =
        (done.caller ≡ caller_of shares callers row.worker)
        × (IsReleasing options workload.version → lets_go r ≡ true → KeepsFewReads workload (row, done))

    abbrev pub AreOurs : List Row → List Committed → Type 0
    AreOurs [] [] = Unit {0}
    AreOurs [] (d ∷ done) = ⊥
    AreOurs (row ∷ rows) [] = ⊥
    AreOurs (row ∷ rows) (d ∷ done) = IsOurs row d × AreOurs rows done

    ours-push : (rows : List Row) (done : List Committed) (row : Row) (next : Committed) → AreOurs rows done → IsOurs row next →
        AreOurs (rows ++ row ∷ []) (done ++ next ∷ [])
    ours-push [] [] row next ours is = (is, tt)
    ours-push [] (d ∷ done) row next ours is = absurd ours
    ours-push (r ∷ rows) [] row next ours is = absurd ours
    ours-push (r ∷ rows) (d ∷ done) row next ours is = (ours.0, ours-push rows done row next ours.1 is)

    ours_all : (P : Row × Committed → Type 0) → ((row : Row) (d : Committed) → IsOurs row d → P (row, d)) →
        (rows : List Row) (done : List Committed) → AreOurs rows done → AllByRecursion P (zip rows done)
    ours_all P each [] [] ours = tt
    ours_all P each [] (d ∷ done) ours = tt
    ours_all P each (row ∷ rows) [] ours = tt
    ours_all P each (row ∷ rows) (d ∷ done) ours = (each row d ours.0, ours_all P each rows done ours.1)

    abbrev pub caller_there : ℕ → ℕ
    caller_there k = get_or callers k 0

    -- The rows so far tell of the transactions so far, and what is left of each share matches what is left of its caller's.
    pub record Merged (round : ℕ) (before rows : List Row) (next : List ℕ) : Type 0 where
      pub now : List Row
      pub done : List Committed
      pub left : List Committed
      pub least : ℕ
      pub rows_are : rows ≡ before ++ now
      pub all_are : committed_of r ≡ done ++ left
      pub told : AreTold workload before now done
      pub ours : AreOurs now done
      pub in_round : AllByRecursion (λ row. row.round ≡ round) now
      pub rise : Rise least left
      pub matched : AllMatch Does (length shares) caller_there (pairs_left shares next) left

    -- at first there are no rows
    pub merged_first : (round : ℕ) (rows : List Row) (next : List ℕ) → AreRunBy workload options r shares callers →
        ((k : ℕ) → get_or next k 0 ≡ 0) → Merged round rows rows next
    merged_first round rows next run zeros = record {
      now = [];
      done = [];
      left = committed_of r;
      least = 0;
      rows_are = sym (append-nil rows);
      all_are = refl;
      told = tt;
      ours = tt;
      in_round = tt;
      rise = rise_of (all_done r)
          ((is_history keeps r run.run).falls);
      matched = λ k below. matches k (slice_get-some shares k below);
    }
      where
        matches : (k : ℕ) → (share : Share) × (slice_get shares k ≡ Some share) →
            Match Does (pairs_left shares next k) (by_caller (caller_there k) (committed_of r))
        matches k at =
            let share = at.0 in
            let is = shared_at workload options r shares callers k share run.shared at.1 in
            let mine : by_caller (caller_there k) (committed_of r)
            ≡ reverse (done_of r (caller_there k)) = by_caller-reverse (caller_there k) (all_done r)
            ∙ ap reverse ((is_history keeps r run.run).parts (caller_there k)) in
            subst (λ (n : ℕ). Match Does (drop n (pairs_at shares k)) (by_caller (caller_there k) (committed_of r)))
            (sym (zeros k))
            (subst (λ (ps : List (ℕ × Finished)). Match Does ps (by_caller (caller_there k) (committed_of r)))
            (sym (pairs_there shares k share at.1))
            (subst (Match Does (zip share.places.items share.done.items)) (sym mine)
            (match_all share.places.items share.done.items (reverse (done_of r (caller_there k))) is.done
            (λ releasing reads. recursion_from_All _ _ (is.few_reads releasing reads)))))

    -- the next transaction is of a caller that ran one of the shares
    there_of : {round : ℕ} {before rows : List Row} {next : List ℕ} (m : Merged round before rows next) (x : Committed)
        (xs : List Committed) → AreRunBy workload options r shares callers → m.left ≡ x ∷ xs →
        (k : ℕ) × (k < length callers) × (get_or callers k 0 ≡ x.caller)
    there_of m x xs run is =
        all_there callers (callers_of r) x.caller run.apart
        (shared_below workload options r shares callers run.shared) run.count
        (all-middle (λ (d : Committed). d.caller < callers_of r) m.done x xs
        (subst (AllByRecursion (λ (d : Committed). d.caller < callers_of r)) (m.all_are ∙ ap (λ (l : List Committed). m.done ++ l) is)
        (all-reverse (λ (d : Committed). d.caller < callers_of r) (all_done r) ((is_history keeps r run.run).within))))

    -- the row of the share whose next number is the least tells of the next transaction
    pub merged_more : {round : ℕ} {before rows : List Row} {turns : Turning} {next : List ℕ} {at : ℕ} {share : Share}
        {row : Row} → AreRunBy workload options r shares callers → Merged round before rows next →
        Going workload shares rows turns next → slice_get shares at ≡ Some share → IsNext shares next at →
        IsRowOf workload round share (get_or next at 0) row →
        Merged round before (rows ++ row ∷ []) (set next at (get_or next at 0 + 1))
    merged_more {round = round} {before = before} {rows = rows} {turns = turns} {next = next} {at = at} {share = share}
        {row = row} run m going here is_next is = go m.left refl
      where
        k : ℕ
        k = get_or next at 0

        at_head : (f : Finished) × (slice_get share.done.items k ≡ Some f) × (f.number ≡ is_next.number)
        at_head =
            let found = found shares next at is_next.number is_next.own in
            finished_at share k is_next.number
            (subst (λ (s : Share). number_at s k ≡ Some is_next.number) (same_Some found.share share (sym found.there ∙ here))
            found.number)

        f : Finished
        f = at_head.0

        inside : at < length next
        inside = let w = slice_get_within shares at share here in let s = going.size in omega arith

        c : Comes workload share turns k
        c = comes at share going here (slice_get_within share.done.items k f at_head.1)

        number_is : row.number ≡ f.number
        number_is = same_Some row.number f.number (is.number ∙ ap (option_map (λ (x : Finished). x.number)) at_head.1)

        replies_are : f.replies ≡ row.replies
        replies_are = same_Some f.replies row.replies (sym (ap (option_map (λ (x : Finished). x.replies)) at_head.1) ∙ is.replies)

        mine : pairs_left shares next at ≡ (c.place, f) ∷ drop (k + 1) (pairs_at shares at)
        mine = drop_at (pairs_at shares at) k (c.place, f)
            (ap (λ (ps : List (ℕ × Finished)). slice_get ps k) (pairs_there shares at share here)
            ∙ zip_at share.places.items share.done.items k c.place f c.there at_head.1)

        sizes : length shares ≡ length callers
        sizes = shared_size workload options r shares callers run.shared

        smallest : (v : ℕ) (b : ℕ × Finished) (more : List (ℕ × Finished)) → v < length shares → pairs_left shares next v ≡ b ∷ more →
            f.number ≤ number_of b
        smallest v b more below there = lesser (is_next.least v) (other_head shares next v b more below going.size there)
          where
            lesser : IfSome (head shares next v) (λ n. is_next.number ≤ n) → head shares next v ≡ Some (number_of b) →
                f.number ≤ number_of b
            lesser less some =
                let le : is_next.number ≤ number_of b = subst (λ (o : Option ℕ). IfSome o (λ n. is_next.number ≤ n)) some less in
                let same = at_head.2 in omega arith

        go : (left : List Committed) → m.left ≡ left → Merged round before (rows ++ row ∷ []) (set next at (k + 1))
        go [] none =
            absurd (subst (λ (ps : List (ℕ × Finished)). Match Does ps []) mine
            (subst (λ (l : List Committed). Match Does (pairs_left shares next at) (by_caller (caller_there at) l)) none
            (m.matched at (slice_get_within shares at share here))))
        go (x ∷ xs) some =
            let other = there_of m x xs run some in
            let rise : Rise m.least (x ∷ xs) = subst (Rise m.least) some m.rise in
            let step = merge_step Does number_of (λ a d does. does.0.number) (length shares) m.least caller_there
            (pairs_left shares next) (pairs_left shares (set next at (k + 1))) at (c.place, f) x xs other.0 rise
            (subst (AllMatch Does (length shares) caller_there (pairs_left shares next)) some m.matched)
            (λ one two first second same. apart_places callers run.apart one two (omega (arith, first, sizes)) (omega (arith, second, sizes)) same)
            (slice_get_within shares at share here) mine smallest (let o = other.1 in omega (arith, sizes)) other.2
            (ap (λ (n : ℕ). drop n (pairs_at shares at)) (get_or-set_same next at (k + 1) 0 inside))
            (λ v differ. ap (λ (n : ℕ). drop n (pairs_at shares v)) (get_or-set_other next at v (k + 1) 0 differ)) in
            record {
              now = m.now ++ row ∷ [];
              done = m.done ++ x ∷ [];
              left = xs;
              least = x.number + 1;
              rows_are = ap (λ (rs : List Row). rs ++ row ∷ []) m.rows_are ∙ append_assoc before m.now (row ∷ []);
              all_are = m.all_are ∙ ap (λ (l : List Committed). m.done ++ l) some ∙ sym (append_assoc m.done (x ∷ []) xs);
              told = AreTold-push workload before m.now row m.done x m.told (told x step.is);
              ours = ours-push m.now m.done row x m.ours (ours x step.own step.is);
              in_round = all-push (λ (r : Row). r.round ≡ round) m.now row m.in_round is.round_is;
              rise = rise.1;
              matched = step.rest;
            }
          where
            told : (x : Committed) → Does (c.place, f) x → IsTold workload (before ++ m.now) row x
            told x does = record {
              job = job_at workload.jobs c.place;
              turn = subst (λ (rs : List Row). first_job row.worker (jobs_left workload.jobs rs) ≡ Some (job_at workload.jobs c.place)) m.rows_are
                  (same_turn rows c going.turns_are is);
              line = same_line c is;
              number = number_is ∙ does.0.number;
              answer = inl (subst (λ (rs : List Reply). IsAnsweredBy workload.layout (job_at workload.jobs c.place).ops rs x.entry)
                  replies_are does.0.answered);
            }

            ours : (x : Committed) → x.caller ≡ caller_there at → Does (c.place, f) x → IsOurs row x
            ours x own does = (
              own ∙ sym (ap (caller_of shares callers) is.worker
                  ∙ caller_at shares callers at share (λ i other there same. workers_apart shares going.apart i at other share there here same)
                  here (let w = slice_get_within shares at share here in omega (arith, sizes))),
              λ releasing reads job named.
                  subst (λ (j : Job). KeepsFew j x)
                  (same_Some (job_at workload.jobs c.place) job (sym (turn_names workload rows row (job_at workload.jobs c.place) going.valid
                  (same_turn rows c going.turns_are is) (same_line c is)) ∙ named)) (does.1 releasing reads),
            )

    -- where nothing is left, the rows tell of all
    pub merged_last : {round : ℕ} {before rows : List Row} {turns : Turning} {next : List ℕ} →
        AreRunBy workload options r shares callers → Merged round before rows next →
        Going workload shares rows turns next → AreTaken shares next →
        HasCollected workload options round r shares callers before rows turns
    merged_last {round = round} {before = before} {rows = rows} {turns = turns} {next = next} run m going taken =
        record {
          now = m.now;
          rows_are = m.rows_are;
          turns_are = going.turns_are;
          in_round = All-from_recursion (λ (row : Row). row.round ≡ round) m.now m.in_round;
          told = subst (AreTold workload before m.now) whole m.told;
          own = All-from_recursion (λ (told : Row × Committed). told.1.caller ≡ caller_of shares callers told.0.worker)
              (zip m.now (committed_of r))
              (ours_all (λ (told : Row × Committed). told.1.caller ≡ caller_of shares callers told.0.worker) (λ row d is. is.0)
              m.now (committed_of r) ours);
          few_reads = λ releasing same. All-from_recursion (KeepsFewReads workload) (zip m.now (committed_of r))
              (ours_all (KeepsFewReads workload) (λ row d is. is.1 releasing same) m.now (committed_of r) ours);
          next = each_place (λ (share : Share). first_job share.worker (left_by workload rows)
              ≡ next_job workload.jobs share.places.items share.done.items) shares (λ k share here.
              first_of_jobs share.worker (left_by workload rows)
              ∙ ap (λ (js : List Job). slice_get js 0) (sym (jobs_then k share here))
              ∙ slice_get-map (job_at workload.jobs) (drop (length share.done.items) share.places.items) 0
              ∙ ap (option_map (job_at workload.jobs)) (get_drop share.places.items (length share.done.items)));
          fewer = each_place (λ (share : Share). has_job (left_by workload rows) share.worker ≡ true
              → length share.done.items < length share.places.items) shares (λ k share here has.
              let some = has_some share.worker (left_by workload rows) has in
              let same = ap length (jobs_then k share here) in
              let n = length-map (drop (length share.done.items) share.places.items) (job_at workload.jobs) in
              let d = length-drop (length share.done.items) share.places.items in
              omega (arith, some, same, n, d));
        }
      where
        jobs_then : (k : ℕ) (share : Share) → slice_get shares k ≡ Some share →
            map (job_at workload.jobs) (drop (length share.done.items) share.places.items) ≡ jobs_of share.worker (left_by workload rows)
        jobs_then k share here =
            ap (λ (n : ℕ). map (job_at workload.jobs) (drop n share.places.items))
            (sym (at_end k share going taken here))
            ∙ going.jobs k share here
            ∙ ap (λ (t : Turning). jobs_of share.worker t.left) going.turns_are

        none_left : (left : List Committed) → m.left ≡ left → left ≡ []
        none_left [] is = refl
        none_left (x ∷ xs) is =
            let other = there_of m x xs run is in
            let sizes = shared_size workload options r shares callers run.shared in
            absurd (merge_ends Does number_of (λ a d does. does.0.number) (length shares) caller_there (pairs_left shares next) x xs other.0
            (subst (AllMatch Does (length shares) caller_there (pairs_left shares next)) is m.matched)
            (λ v below. nothing v (slice_get-some shares v below)) (let o = other.1 in omega (arith, sizes)) other.2)
          where
            nothing : (v : ℕ) → (share : Share) × (slice_get shares v ≡ Some share) → pairs_left shares next v ≡ []
            nothing v at =
                let share = at.0 in
                let end = at_end v share going taken at.1 in
                let few = zip_short share.places.items share.done.items in
                ap (drop (get_or next v 0)) (pairs_there shares v share at.1)
                ∙ drop_all (get_or next v 0) (zip share.places.items share.done.items) (omega (arith, end, few))

        all_done : m.left ≡ []
        all_done = none_left m.left refl

        whole : m.done ≡ committed_of r
        whole = sym (m.all_are ∙ ap (λ (l : List Committed). m.done ++ l) all_done ∙ append-nil m.done)

        ours : AreOurs m.now (committed_of r)
        ours = subst (AreOurs m.now) whole m.ours

-- ---- the loop

-- where collecting stands, for whatever table the shares were run on
pub record Collects (workload : Workload) (round : ℕ) (before : List Row) (shares : List Share) (rows : List Row)
    (turns : Turning) (next : List ℕ) : Type 0 where
  pub going : Going workload shares rows turns next
  pub merged : (options : Options) (r : Round) (callers : List ℕ) →
      AreRunBy workload options r shares callers → Merged workload options r shares callers round before rows next

abbrev pub zeros : ℕ → List ℕ
zeros n = replicate n 0

pub collects_first : {workload : Workload} (round : ℕ) {shares : List Share} {rows : List Row} {turns : Turning}
    {next : List ℕ} → CanCollect workload shares rows turns → next ≡ zeros (length shares) →
    Collects workload round rows shares rows turns next
collects_first {workload = workload} round {shares = shares} {rows = rows} {turns = turns} {next = next} can is =
    record {
      going = going_first next can
          (ap length is ∙ length-replicate (length shares) 0) zero_at;
      merged = λ options r callers run.
          merged_first workload options r shares callers round rows next run zero_at;
    }
  where
    zero_at : (k : ℕ) → get_or next k 0 ≡ 0
    zero_at k = ap (λ (ns : List ℕ). get_or ns k 0) is ∙ zero_in (length shares) k
      where
        zero_in : (n k : ℕ) → get_or (zeros n) k 0 ≡ 0
        zero_in zero k = refl
        zero_in (suc n) zero = refl
        zero_in (suc n) (suc k) = zero_in n k

-- what is known of the share that comes next
pub record Turn (workload : Workload) (shares : List Share) (turns : Turning) (next : List ℕ) (at : ℕ) (share : Share)
    (place : ℕ) : Type 0 where
  pub there : slice_get shares at ≡ Some share
  pub inside : at < length shares
  pub within : at < length next
  pub place_is : place ≡ get_or next at 0
  pub some : place < length share.done.items
  pub fit : IsFit workload share
  pub job : Job
  pub first : first_job share.worker turns.left ≡ Some job

pub its_turn : {workload : Workload} {round : ℕ} {before : List Row} {shares : List Share} {rows : List Row}
    {turns : Turning}
    {next : List ℕ} {numbers : List (Option ℕ)} {at : ℕ} {share : Share} (place : ℕ) →
    Collects workload round before shares rows turns next → numbers ≡ heads shares next → IsLeast numbers at → share ≡ get_or shares at share → place ≡ get_or next at place →
    Turn workload shares turns next at share place
its_turn {workload = workload} {shares = shares} {rows = rows} {turns = turns} {next = next} {at = at} {share = share}
    place c same is_next share_is place_is =
    by (subst (λ (ns : List (Option ℕ)). IsLeast ns at) same is_next)
  where
    by : IsNext shares next at → Turn workload shares turns next at share place
    by is =
        let f = found shares next at is.number is.own in
        let inside = slice_get_within shares at f.share f.there in
        let there : slice_get shares at ≡ Some share =
        slice_get_read shares (length shares) at share refl inside share_is in
        let place_at : place ≡ get_or next at 0 = place_is ∙ get_or_default next at place 0 f.inside in
        let done = finished_at share (get_or next at 0) is.number
        (subst (λ (s : Share). number_at s (get_or next at 0) ≡ Some is.number) (same_Some f.share share (sym f.there ∙ there)) f.number) in
        let some = slice_get_within share.done.items (get_or next at 0) done.0 done.1 in
        let job = comes at share c.going there some in
        record {
          there = there;
          inside = inside;
          within = f.inside;
          place_is = place_at;
          some = omega (arith, some, place_at);
          fit = at_place (IsFit workload) shares at share c.going.fit there;
          job = job_at workload.jobs job.place;
          first = job.first;
        }

pub collects_more : {workload : Workload} {round : ℕ} {before : List Row} {shares : List Share}
    {rows rows_then : List Row}
    {turns turns_then : Turning} {next : List ℕ} {numbers : List (Option ℕ)} {at : ℕ} {share : Share} {place : ℕ}
    {row : Row} →
    Collects workload round before shares rows turns next → numbers ≡ heads shares next → IsLeast numbers at →
    Turn workload shares turns next at share place → rows_then ≡ rows ++ row ∷ [] → IsRowOf workload round share place row →
    turns_then ≡ record turns { left = without_first share.worker turns.left } →
    Collects workload round before shares rows_then turns_then (set next at (place + 1))
collects_more {workload = workload} {round = round} {before = before} {shares = shares} {rows = rows}
    {rows_then = rows_then} {turns = turns} {turns_then = turns_then} {next = next} {at = at} {share = share} {row = row} c
    same is_next t rows_are is turns_are =
    subst (λ (p : ℕ). Collects workload round before shares rows_then turns_then (set next at (p + 1))) (sym t.place_is)
    (subst (λ (rs : List Row). Collects workload round before shares rs turns_then (set next at (get_or next at 0 + 1))) (sym rows_are)
    (subst (λ (ts : Turning). Collects workload round before shares (rows ++ row ∷ []) ts (set next at (get_or next at 0 + 1))) (sym turns_are)
    (record {
      going = going_more at c.going t.there some row_is;
      merged = λ options r callers run.
          merged_more workload options r shares callers run
          (c.merged options r callers run) c.going t.there (subst (λ (ns : List (Option ℕ)). IsLeast ns at) same is_next) row_is;
    })))
  where
    row_is : IsRowOf workload round share (get_or next at 0) row
    row_is = subst (λ (p : ℕ). IsRowOf workload round share p row) t.place_is is

    some : get_or next at 0 < length share.done.items
    some = subst (λ (p : ℕ). p < length share.done.items) t.place_is t.some

pub collects_last : {workload : Workload} {options : Options} {round : ℕ} {r : Round}
    {shares : List Share} {callers : List ℕ} {before rows : List Row} {turns : Turning} {next : List ℕ}
    {numbers : List (Option ℕ)} →
    Collects workload round before shares rows turns next → numbers ≡ heads shares next → AreSpent numbers →
    AreRunBy workload options r shares callers → HasCollected workload options round r shares callers before rows turns
collects_last {workload = workload} {options = options} {r = r} {shares = shares} {callers = callers} c same taken run =
    merged_last workload options r shares callers run (c.merged options r callers run) c.going
    (subst AreSpent same taken)
