-- The numbers under which a caller has committed.
use Rattle.std.proofs.Common.{◌≡◌, ◌∙◌, ◌∷◌, ◌<◌, ◌≤◌, ◌+◌, ◌==◌, [], ℕ, Bool, List, Option, Some, ap, arith, cond, false, refl, subst, sym, true}
use Rattle.std.specs.Prelude.{All}
use Rattle.std.specs.List.{AllByRecursion}
use Rattle.std.proofs.lemmas.List.Elements.{All-from_recursion}
use Rattle.dstm_model.specs.Answers.{AreBelow, Committed, NumbersFall, by_caller}
use Rattle.dstm_model.specs.declared.value.Val.{Val}
use Rattle.dstm_words.specs.Seats as words
use Rattle.dstm_engine.specs.Callers.{Called}
use Rattle.dstm_tl2.specs.Sharing.{IsRunOf}
use Rattle.dstm_tl2_words.specs.Seats as tl2_words
use Rattle.dstm_tl2_engine.specs.Callers.{TlCalled}
use Rattle.dstm_tables.specs.Callers.{done, number_of, round_of}
use Rattle.dstm_tables.specs.Founders.{Enrols, home_there}
use Rattle.dstm_tables.specs.Tells.{IsRun, all_done}
use Rattle.dstm_tables.specs.declared.founding.Founder.{Founder}
use Rattle.dstm_tables.specs.declared.founding.Founder.TheVariants as founder
use Rattle.dstm_tables.specs.declared.tables.Caller.{Caller}
use Rattle.dstm_tables.specs.declared.tables.Caller.TheVariants.{Dstm, Tl2}
use Rattle.dstm_tables.proofs.GivingOut.{dstm_new, tl2_new}
use Rattle.dstm_tables.proofs.History.{is_history}
use Rattle.dstm_attempts.specs.Attempts.{CommitsUpTo, Keeps, TakesUnder, above, newest_of}
use Rattle.dstm_attempts.proofs.UnderWay.{adds_nothing}

-- those of one caller among some that are below a number
part_below : (c n : ℕ) (xs : List Committed) → AreBelow n xs → AreBelow n (by_caller c xs)
part_below c n [] below = tt
part_below c n (x ∷ xs) below = one (x.caller == c) (part_below c n xs below.1)
  where
    one : (b : Bool) → AreBelow n (by_caller c xs) → AreBelow n (cond b (x ∷ by_caller c xs) (by_caller c xs))
    one true rest = (below.0, rest)
    one false rest = rest

-- numbers that fall do so among those of one caller
part_falls : (c : ℕ) (xs : List Committed) → NumbersFall xs → NumbersFall (by_caller c xs)
part_falls c [] falls = tt
part_falls c (x ∷ xs) falls = one (x.caller == c) (part_falls c xs falls.1)
  where
    one : (b : Bool) → NumbersFall (by_caller c xs) → NumbersFall (cond b (x ∷ by_caller c xs) (by_caller c xs))
    one true rest = (part_below c x.number xs falls.0, rest)
    one false rest = rest

-- each that is below a number is below a greater one
each_below : (n m : ℕ) (xs : List Committed) → n ≤ m → AreBelow n xs → AllByRecursion (λ (x : Committed). x.number < m) xs
each_below n m [] less below = tt
each_below n m (x ∷ xs) less below = let first = below.0 in (omega (arith, less, first), each_below n m xs less below.1)

module _ {L : Type 0} where
  -- a caller that has committed nothing more has none of a greater number
  pub up_to_same : (newest : Option ℕ) (k n : Caller L) → Keeps k n → CommitsUpTo newest k → CommitsUpTo newest n
  up_to_same newest k n keeps up_to = record {
    is = up_to.is ∙ ap newest_of (sym (adds_nothing k n keeps).done);
    up_to = subst (All (λ (attempt : Committed). attempt.number < above newest)) (sym (adds_nothing k n keeps).done) up_to.up_to;
  }

  -- so it is of one by DSTM
  pub up_to_left : (newest : Option ℕ) (k : Caller L) (m n : Called L) → k ≡ Dstm m → Keeps (Dstm m) (Dstm n) →
      CommitsUpTo newest k → CommitsUpTo newest (Dstm n)
  up_to_left newest k m n is keeps up_to = up_to_same newest (Dstm m) (Dstm n) keeps (subst (CommitsUpTo newest) is up_to)

  module _ (holds : L → List Val → Type 0) where
    -- the numbers of what a caller has committed fall from the newest on
    falls : (k : Caller L) → IsRun holds (round_of k) → NumbersFall (done k)
    falls k run =
        let history = is_history holds (round_of k) run in
        subst NumbersFall (history.parts (number_of k)) (part_falls (number_of k) (all_done (round_of k)) history.falls)

    newest : (k : Caller L) (first : Committed) (rest : List Committed) → IsRun holds (round_of k) → done k ≡ first ∷ rest →
        CommitsUpTo (Some first.number) k
    newest k first rest run is =
        let fall : NumbersFall (first ∷ rest) = subst NumbersFall is (falls k run) in record {
          is = ap newest_of (sym is);
          up_to =
              subst (All (λ (attempt : Committed). attempt.number < above (Some first.number))) (sym is)
              (All-from_recursion _ (first ∷ rest)
              (omega arith, each_below first.number (first.number + 1) rest (omega arith) fall.0));
        }

    -- one that has taken effect has the greatest number
    pub up_to_taken : (number : ℕ) (k n : Caller L) → TakesUnder holds k n number → CommitsUpTo (Some number) n
    up_to_taken number (Dstm k) (Dstm n) takes =
        newest (Dstm n) _ _ (subst (λ (h : words.Home L). words.IsRunOf holds h.terms n.log) (sym takes.home) takes.run)
        takes.commits.done
    up_to_taken number (Tl2 k) (Tl2 n) takes =
        newest (Tl2 n) _ _ (subst (λ (h : tl2_words.Home L). IsRunOf holds h.terms n.log)
        (sym (ap (λ (c : TlCalled L). c.home) takes.kept)) takes.run) takes.commits.done
    up_to_taken number (Dstm k) (Tl2 n) takes = absurd takes
    up_to_taken number (Tl2 k) (Dstm n) takes = absurd takes

    -- a caller that was just given out has committed nothing
    pub enrolled_none : (f g : Founder L) (seed : ℕ) (k : Caller L) → Enrols holds f g seed k → done k ≡ []
    enrolled_none (founder.Dstm f) (founder.Dstm g) seed (Dstm k) enrols =
        (dstm_new (home_there (founder.Dstm f)) f g seed k refl enrols).none_done
    enrolled_none (founder.Tl2 f) (founder.Tl2 g) seed (Tl2 k) enrols =
        (tl2_new f g k enrols (home_there (founder.Tl2 f)) seed refl).none_done
    enrolled_none f g seed k enrols = absurd enrols
