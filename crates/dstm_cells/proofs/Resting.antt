-- What is said of a wait whose rest may end it.
use Rattle.std.proofs.Common.{◌≤◌, arith, false, inl, inr, refl, subst, Bool, Ok, Err, ℕ, List}
use Rattle.std.specs.Prelude.{IfErr, Result}
use denote.Ref.{MutBor}
use Rattle.std.specs.Fn.{Mut}
use Rattle.dstm_model.specs.declared.value.Val.{Val}
use Rattle.dstm_tables.specs.declared.tables.Caller.{Caller}
use Rattle.dstm_cells.specs.Attempts.{Follows, FollowsAndLeaves, FollowsRetry, WasWoken, WithinLooks}
use Rattle.dstm_cells.specs.Closures.{GaveUpFor, GaveUpResting}
use Rattle.dstm_cells.specs.declared.error.GaveUp.{GaveUp}
use Rattle.dstm_cells.specs.declared.error.Stop.{Stop}
use Rattle.dstm_cells.specs.declared.error.Why.{Why}
use Rattle.dstm_cells.specs.declared.error.Why.TheVariants.{Again, Retry, Foreign, Memory}

-- what holds of as many looks as the thread was told
pub of_all : (tires : Bool) (told : ℕ) (says : ℕ → Type 0) → says told → WithinLooks tires told says
of_all tires told says said = record {
  looks = told;
  most = omega arith;
  some = λ none. none;
  all = λ never. refl;
  said = said;
}

-- what follows of as many looks
pub of_so_many : (tires : Bool) (told : ℕ) (says more : ℕ → Type 0) → ((looks : ℕ) → says looks → more looks) →
    WithinLooks tires told says → WithinLooks tires told more
of_so_many tires told says more next within = record {
  looks = within.looks;
  most = within.most;
  some = within.some;
  all = within.all;
  said = next within.looks within.said;
}

-- where no rest may end a wait
pub all_of : (told : ℕ) (says : ℕ → Type 0) → WithinLooks false told says → says told
all_of told says within = subst says (within.all refl) within.said

module _ {L : Type 0} (holds : L → List Val → Type 0) where
  -- a change was found, behind fewer looks than the thread was told
  woken_within : (looks told : ℕ) → looks ≤ told → (k n : Caller L) → WasWoken holds looks k n → WasWoken holds told k n
  woken_within looks told most k n woken =
      let fewer = woken.fewer in
      record {
        last = woken.last;
        count = woken.count;
        fewer = omega (arith, fewer, most);
        in_turn = woken.in_turn;
        stays = woken.stays;
        live = woken.live;
        once = woken.once;
        changed = woken.changed;
      }

  retries_within : (looks told : ℕ) → looks ≤ told → (k n : Caller L) → FollowsRetry holds looks k n (Ok tt) →
      FollowsRetry holds told k n (Ok tt)
  retries_within looks told most k n (inl looked) = inl (record {
    first = looked.first;
    lets_go = looked.lets_go;
    follows = woken_within looks told most looked.first n looked.follows;
  })
  retries_within looks told most k n (inr held) = inr held

  follows_within : (looks told : ℕ) → looks ≤ told → (why : Why) (k n : Caller L) → Follows holds looks k why n (Ok tt) →
      Follows holds told k why n (Ok tt)
  follows_within looks told most Again k n follows = follows
  follows_within looks told most Retry k n follows = retries_within looks told most k n follows
  follows_within looks told most Foreign k n follows = follows
  follows_within looks told most Memory k n follows = follows

  -- where a further attempt follows, it does behind fewer looks than the thread was told, whatever the rest
  pub goes_on_within : (tires : Bool) (told : ℕ) (why : Why) (k n : Caller L) →
      WithinLooks tires told (λ looks. FollowsAndLeaves holds looks k why n (Ok tt)) → FollowsAndLeaves holds told k why n (Ok tt)
  goes_on_within tires told why k n within =
      let said = within.said in
      record {
        last = said.last;
        follows = follows_within within.looks told within.most why k said.last said.follows;
        leaves = said.leaves;
        keeps = said.keeps;
      }

module _ {X L F R : Type 0} (caller : X → Caller L)
    (g : Mut F (MutBor X × Unit {0}) (Result R Stop × (MutBor X × Unit {0}))) (holds : L → List Val → Type 0) (patience : X → ℕ) where
  untired_why : (k n : Caller L) (f : F) (why : GaveUp) → GaveUpResting caller g holds patience false k f n why →
      GaveUpFor caller g holds patience k f n why
  untired_why k n f why (inl spent) = inl spent
  untired_why k n f why (inr stopped) = inr (record {
    stop = stopped.stop;
    last = stopped.last;
    follows = all_of (patience stopped.last.on.ended)
        (λ looks. FollowsAndLeaves holds looks (caller stopped.last.on.ended) stopped.stop.why n (Err why)) stopped.follows;
    leaves = stopped.leaves;
  })

  -- why a transaction has given up whose rest ends no wait
  pub untired : (k n : Caller L) (f : F) (answer : Result R GaveUp) →
      IfErr answer (GaveUpResting caller g holds patience false k f n) → IfErr answer (GaveUpFor caller g holds patience k f n)
  untired k n f (Ok r) gave_up = tt
  untired k n f (Err why) gave_up = untired_why k n f why gave_up
