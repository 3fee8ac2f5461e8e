-- A text is refused at its first line that has a reason.
use Rattle.std.proofs.Common.{◌≡◌, ℕ, ◌+◌, List, [], ◌∷◌, ◌++◌, length, Option, None, Result, Ok, Err, IsOk, refl, ap}
use Rattle.std.proofs.Common.{inl, inr, ◌⊎◌, ◌↔◌, arith}
use Rattle.std.proofs.lemmas.List.{append_assoc, append-nil}
use Rattle.dstm_workload.specs.{declared.refused.Why.Why, declared.refused.Why.TheVariants.Header}
use Rattle.dstm_workload.specs.declared.{refused.Refused.Refused, workload.Job.Job}
use Rattle.dstm_workload.specs.Entry.{Entry}
use Rattle.dstm_workload.specs.Answers.{refused}
use Rattle.dstm_workload.specs.Reading.{known_of, line_tells, followed_by, jobs_after, made_of, workload_of, AreRead}
use Rattle.dstm_workload.specs.Reading.{IsFirstRefused, HasNoHeader}

-- ---- all lines are read

both_read : (n : ℕ) (told : Result (Option Entry) Why) (more : Result (List Job) Refused) →
    IsOk (followed_by n told more) ↔ (IsOk told × IsOk more)
both_read n told more = grind arith

all_read : (before lines : List (List ℕ)) → IsOk (jobs_after before lines) ↔ AreRead before lines
all_read before [] = (λ ok. tt, λ read. refl)
all_read before (line ∷ lines) =
    let next = before ++ line ∷ [] in
    let both = both_read (length before + 1) (line_tells before line) (jobs_after next lines) in
    let rest = all_read next lines in
    (λ ok. ((both.0 ok).0, rest.0 (both.0 ok).1), λ read. both.1 (read.0, rest.1 read.1))

-- ---- the first line that is refused

further : (before : List (List ℕ)) (line : List ℕ) (lines : List (List ℕ)) (r : Refused) →
    IsOk (line_tells before line) → IsFirstRefused (before ++ line ∷ []) lines r →
    IsFirstRefused before (line ∷ lines) r
further before line lines r ok first =
    let moved = append_assoc before (line ∷ []) first.front in
    record {
      front = line ∷ first.front;
      line = first.line;
      after = first.after;
      are = ap (λ (ls : List (List ℕ)). line ∷ ls) first.are;
      place = rw (← moved) first.place;
      reason = rw (← moved) first.reason;
      earlier = (ok, first.earlier);
    }

here : (before : List (List ℕ)) (line : List ℕ) (lines : List (List ℕ)) (why : Why) →
    line_tells before line ≡ Err why → IsFirstRefused before (line ∷ lines) (refused (length before + 1) why)
here before line lines why is = record {
  front = [];
  line = line;
  after = lines;
  are = refl;
  place = rw (append-nil before);
  reason = rw (append-nil before) is;
  earlier = tt;
}

refused_where : (n : ℕ) (told : Result (Option Entry) Why) (more : Result (List Job) Refused) (r : Refused) →
    followed_by n told more ≡ Err r →
    ((told ≡ Err r.why) × (refused n r.why ≡ r)) ⊎ (IsOk told × (more ≡ Err r))
refused_where n told more r is = grind arith

jobs_refused : (before lines : List (List ℕ)) (r : Refused) → jobs_after before lines ≡ Err r →
    IsFirstRefused before lines r
jobs_refused before [] r is = cc
jobs_refused before (line ∷ lines) r is =
    let next = before ++ line ∷ [] in
    elim (refused_where (length before + 1) (line_tells before line) (jobs_after next lines) r is) [
      | inl this ↦ rw (← this.1) (here before line lines r.why this.0)
      | inr later ↦ further before line lines r later.0 (jobs_refused next lines r later.1)
    ]

-- the first line with a reason refuses its text
stops : (before front : List (List ℕ)) (line : List ℕ) (after : List (List ℕ)) (why : Why) →
    AreRead before front → line_tells (before ++ front) line ≡ Err why →
    jobs_after before (front ++ line ∷ after) ≡ Err (refused (length (before ++ front) + 1) why)
stops before [] line after why read reason = let told = rw (append-nil before) at reason in rw (told, append-nil before)
stops before (first ∷ front) line after why read reason =
    let next = before ++ first ∷ [] in
    let moved = append_assoc before (first ∷ []) front in
    let later = stops next front line after why read.1 (rw moved reason) in
    grind (arith, read.0, later, moved)

-- ---- the law

pub refuses : (lines : List (List ℕ)) (r : Refused) → workload_of lines ≡ Err r →
    IsFirstRefused [] lines r ⊎ HasNoHeader lines r
refuses lines r is = by_jobs (jobs_after [] lines) refl is
  where
    by_jobs : (jobs : Result (List Job) Refused) → jobs_after [] lines ≡ jobs → made_of lines jobs ≡ Err r →
        IsFirstRefused [] lines r ⊎ HasNoHeader lines r
    by_jobs (Err s) read e = let same : s ≡ r = cc in inl (rw (← same) (jobs_refused [] lines s read))
    by_jobs (Ok jobs) read e =
        let bare : ((known_of lines).version ≡ None) × (r ≡ refused (length lines + 1) Header) = grind arith in
        inr (record { read = (all_read [] lines).0 (rw read refl); none = bare.0; is = bare.1 })

pub first_refuses : (lines : List (List ℕ)) (r : Refused) → IsFirstRefused [] lines r → workload_of lines ≡ Err r
first_refuses lines r first =
    let stopped = stops [] first.front first.line first.after r.why first.earlier first.reason in
    grind (arith, stopped, first.are, first.place)

-- a text without a header is refused behind its last line
pub headless_refuses : (lines : List (List ℕ)) (r : Refused) → HasNoHeader lines r → workload_of lines ≡ Err r
headless_refuses lines r bare = let ok = (all_read [] lines).1 bare.read in grind arith
