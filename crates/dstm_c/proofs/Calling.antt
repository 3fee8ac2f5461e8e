-- What follows for a part on whose transaction a structure was called.
use Rattle.std.proofs.Common.{◌≡◌, ◌∙◌, ◌++◌, ◌+◌, ◌*◌, ◌%◌, ◌<◌, arith, ℕ, ◌⊎◌, Bool, Err, List, Ok, [], ap, false, inl, inr, refl, subst, sym, true}
use Rattle.std.proofs.lemmas.List.{append-nil}
use Rattle.std.proofs.lemmas.Nat.{mod-mul-add, mod_below}
use Rattle.std.specs.Prelude.{IfErr, IfOk, None, OnOk, Option, Result, Some}
use denote.Ref.{MutBor}
use Rattle.std.specs.Fn.{FnOnceReturnsAtMut, Once}
use Rattle.dstm_model.specs.declared.value.AnyLaw.{AnyLaw}
use Rattle.dstm_model.specs.declared.value.Law.{Ghosts}
use Rattle.dstm_model.specs.declared.value.Val.{Val}
use Rattle.dstm_tables.specs.declared.tables.Caller.{Caller}
use Rattle.dstm_attempts.specs.Attempts.{MayBegin}
use Rattle.dstm_cells.specs.Alternatives.{HasNoted, IsNoted, Notes, Noting, noting, settings}
use Rattle.dstm_cells.specs.UnderWay.{stop_by}
use Rattle.dstm_cells.specs.declared.error.Stop.{Stop}
use Rattle.dstm_cells.specs.declared.holds.Holds.{Ghosts as Holding}
use Rattle.dstm_cells.specs.declared.under_way.Attempt.{Attempt as Tx}
use Rattle.dstm_structures.specs.Effects.{Does, GoesOn, Stops}
use Rattle.dstm_handles.specs.Held.{OfPart}
use Rattle.dstm_handles.specs.declared.code.Code.{Code}
use Rattle.dstm_handles.specs.declared.code.Code.TheVariants as code
use Rattle.dstm_handles.specs.declared.held.Held.{Held}
use Rattle.dstm_handles.specs.declared.held.Held.TheVariants as held
use Rattle.dstm_handles.specs.declared.thread.Thread.{Thread}
use Rattle.dstm_handles.specs.Threads.{GoesOn as PartGoesOn, CallsOnce, HasCalled, HasStopped, WasRefused, caller_of}
use Rattle.dstm_c.specs.Structures.{CallsNamed, CallsWithin, Ensures, Puts, TellsBy}

module _ (holds : AnyLaw → List Val → Type 0) where
  -- what a transaction has noted is noted
  noted-itself : (k : Noting AnyLaw) → HasNoted holds k k
  noted-itself k = record {
    keeps = refl;
    same = refl;
    noted = λ _. record { added = []; is = sym (append-nil k.undos); narrows = λ map may. may; back = λ map may. refl };
  }

  -- who goes on notes as before
  pub notes-on : (old new : Noting AnyLaw) → Notes holds old new → settings new ≡ settings old
  notes-on old new notes = (notes old (noted-itself old)).same

  -- where nothing was done, the same transaction goes on
  goes_on-same : (old new : Thread) → new ≡ old → PartGoesOn old new × Notes holds (noting old.tx) (noting new.tx)
  goes_on-same old new same =
      subst (λ (t : Thread). PartGoesOn old t × Notes holds (noting old.tx) (noting t.tx)) (sym same)
      (record { keeps = refl; begun = refl; waits = refl; since = refl; notes = refl }, λ first noted. noted)

  module _ {S F T : Type 0} {ghosts : Ghosts AnyLaw} {holding : Holding S AnyLaw} (objects : ℕ)
      (effect : T → List Val → List Val → Type 0)
      (g : Once F (MutBor (Tx AnyLaw S ghosts holding) × Unit {0})
      (Result T Stop × (MutBor (Tx AnyLaw S ghosts holding) × Unit {0}))) (f : F) where
    -- what each call of a closure ensures, by what it was given and what it has left
    pub looks_at : ((p q : MutBor (Tx AnyLaw S ghosts holding)) (told : Result T Stop) → g.post f (p, tt) (told, (q, tt)) →
        Ensures holds objects effect false p.now q.now told) → (old new : Tx AnyLaw S ghosts holding) (told : Result T Stop) →
        FnOnceReturnsAtMut g f old told new → Ensures holds objects effect false old new told
    looks_at each old new told call =
        subst (λ (x : Tx AnyLaw S ghosts holding). Ensures holds objects effect false x new told) call.shows
        (subst (λ (y : Tx AnyLaw S ghosts holding). Ensures holds objects effect false call.shown.now y told) call.leaves
        (each call.shown call.left told call.met))

    pub sets_at : ((p q : MutBor (Tx AnyLaw S ghosts holding)) (told : Result T Stop) → g.post f (p, tt) (told, (q, tt)) →
        Ensures holds objects effect p.now.notes p.now q.now told) → (old new : Tx AnyLaw S ghosts holding) (told : Result T Stop) →
        FnOnceReturnsAtMut g f old told new → Ensures holds objects effect old.notes old new told
    sets_at each old new told call =
        subst (λ (x : Tx AnyLaw S ghosts holding). Ensures holds objects effect x.notes x new told) call.shows
        (subst (λ (y : Tx AnyLaw S ghosts holding). Ensures holds objects effect call.shown.now.notes call.shown.now y told) call.leaves
        (each call.shown call.left told call.met))

  module _ {S F T : Type 0} {ghosts : Ghosts AnyLaw} {holding : Holding S AnyLaw}
      (g : Once F (MutBor (Tx AnyLaw S ghosts holding) × Unit {0})
      (Result T Stop × (MutBor (Tx AnyLaw S ghosts holding) × Unit {0}))) (f : F) where
    -- and what it opens
    abbrev pub OpensAs : (T → Caller AnyLaw → Caller AnyLaw → Type 0) → Tx AnyLaw S ghosts holding → Tx AnyLaw S ghosts holding →
        Result T Stop → Type 0
    OpensAs opens old new told = IfOk told (λ a. opens a old.attempts.caller new.attempts.caller)

    pub opens_at : (opens : T → Caller AnyLaw → Caller AnyLaw → Type 0) →
        ((p q : MutBor (Tx AnyLaw S ghosts holding)) (told : Result T Stop) → g.post f (p, tt) (told, (q, tt)) →
        OpensAs opens p.now q.now told) → (old new : Tx AnyLaw S ghosts holding) (told : Result T Stop) →
        FnOnceReturnsAtMut g f old told new → OpensAs opens old new told
    opens_at opens each old new told call =
        subst (λ (x : Tx AnyLaw S ghosts holding). OpensAs opens x new told) call.shows
        (subst (λ (y : Tx AnyLaw S ghosts holding). OpensAs opens call.shown.now y told) call.leaves
        (each call.shown call.left told call.met))

  module _ {T : Type 0} (objects : ℕ) (effect : T → List Val → List Val → Type 0) (notes : Bool) where
    goes_on-called : (old new : Thread) (told : Result T Stop) → Ensures holds objects effect notes old.tx new.tx told →
        new.begun ≡ old.begun → new.waits ≡ old.waits → new.since ≡ old.since → PartGoesOn old new
    goes_on-called old new told did begun waits since = record {
      keeps = did.goes.keeps;
      begun = begun;
      waits = waits;
      since = since;
      notes = ap (λ (s : Bool × ℕ). s.0) (notes-on (noting old.tx) (noting new.tx) did.goes.notes);
    }

  module _ {F T : Type 0} (objects : ℕ) (effect : T → List Val → List Val → Type 0) (notes : Bool) where
    pub within : (g : Once F (MutBor _ × Unit {0}) (Result T Stop × (MutBor _ × Unit {0}))) (f : F) (old new : Thread)
        (answer : Result T Code) →
        ((told : Result T Stop) → FnOnceReturnsAtMut g f old.tx told new.tx → Ensures holds objects effect notes old.tx new.tx told) →
        CallsOnce (λ t. t.tx) g f old new answer → CallsWithin holds objects effect notes old new answer
    within g f old new (Ok told) ensures calls =
        let call = calls.answers in
        let did = ensures (Ok told) call.called in
        record {
          goes_on = goes_on-called objects effect notes old new (Ok told) did call.begun call.waits call.since;
          noted = did.goes.notes;
          refuses = calls.refuses;
          does = did.does;
          together = did.together;
          may = did.may;
          stops = tt;
          fails = tt;
        }
    within g f old new (Err why) ensures calls = of calls.stops
      where
        of : WasRefused old new ⊎ HasStopped (λ why. HasCalled (λ t. t.tx) g f old new (Err (stop_by why))) why →
            CallsWithin holds objects effect notes old new (Err why)
        of (inl refused) = record {
          goes_on = (goes_on-same old new refused.same).0;
          noted = (goes_on-same old new refused.same).1;
          refuses = calls.refuses;
          does = tt;
          together = tt;
          may = tt;
          stops = inl refused;
          fails = calls.fails;
        }
        of (inr stopped) =
            let call = stopped.stops in
            let did = ensures (Err (stop_by stopped.why)) call.called in
            record {
              goes_on = goes_on-called objects effect notes old new (Err (stop_by stopped.why)) did call.begun call.waits call.since;
              noted = did.goes.notes;
              refuses = calls.refuses;
              does = tt;
              together = tt;
              may = tt;
              stops = inr (record { why = stopped.why; is = stopped.is; stops = did.stops });
              fails = calls.fails;
            }

    -- the same, where it has told besides what it has opened
    pub within_opens : (opens : T → Caller AnyLaw → Caller AnyLaw → Type 0)
        (g : Once F (MutBor _ × Unit {0}) (Result T Stop × (MutBor _ × Unit {0}))) (f : F) (old new : Thread)
        (answer : Result T Code) →
        ((told : Result T Stop) → FnOnceReturnsAtMut g f old.tx told new.tx → Ensures holds objects effect notes old.tx new.tx told
        × IfOk told (λ a. opens a (caller_of old) (caller_of new))) → CallsOnce (λ t. t.tx) g f old new answer →
        CallsWithin holds objects effect notes old new answer × IfOk answer (λ a. opens a (caller_of old) (caller_of new))
    within_opens opens g f old new (Ok told) ensures calls =
        (within g f old new (Ok told) (λ t r. (ensures t r).0) calls, (ensures (Ok told) calls.answers.called).1)
    within_opens opens g f old new (Err why) ensures calls =
        (within g f old new (Err why) (λ t r. (ensures t r).0) calls, tt)

-- what follows of a part's call, follows of a handle's
pub of_part : (goes did : Thread → Thread → Type 0) (closed : Type 0) (old new : Option Held) →
    ((t n : Thread) → goes t n → did t n) → OfPart goes closed old new → OfPart did closed old new
of_part goes did closed (Some (held.Thread t)) (Some (held.Thread n)) follows went = follows t n went
of_part goes did closed (Some (held.Memory m)) (Some (held.Memory n)) follows went = went
of_part goes did closed None None follows went = went
of_part goes did closed (Some (held.Thread t)) (Some (held.Memory n)) follows went = absurd went
of_part goes did closed (Some (held.Memory m)) (Some (held.Thread n)) follows went = absurd went
of_part goes did closed (Some h) None follows went = absurd went
of_part goes did closed None (Some h) follows went = absurd went

module _ {S T P : Type 0} (put : T → P → P) (none : Type 0) (is : S → Type 0)
    (goes : S → Thread → Thread → Result T Code → Type 0) where
  -- no structure has these numbers
  pub names_none : (number : ℕ) (p : P) (h : Option Held) → none → number ≡ 11 →
      TellsBy put number p p (CallsNamed none is goes h h)
  names_none number p h has_none told = record {
    answer = Err code.Range;
    puts = record { is = told; put = tt; still = refl };
    tells = inl (record { none = has_none; is = refl; same = refl });
  }

  -- this structure has them, and a closure was called by a part
  pub names : {F X : Type 0} (tx : Thread → X) (g : Once F (MutBor X × Unit {0}) (Result T Stop × (MutBor X × Unit {0}))) (f : F)
      (structure : S) (answer : Result T Code) (number : ℕ) (p q : P) (h n : Option Held) → is structure →
      OfPart (λ t u. CallsOnce tx g f t u answer) (answer ≡ Err code.Closed) h n →
      ((t u : Thread) → CallsOnce tx g f t u answer → goes structure t u answer) → Puts put answer p q number →
      TellsBy put number p q (CallsNamed none is goes h n)
  names tx g f structure answer number p q h n named called follows puts = record {
    answer = answer;
    puts = puts;
    tells = inr (record {
      structure = structure;
      named = named;
      called = of_part (λ t u. CallsOnce tx g f t u answer) (λ t u. goes structure t u answer) (answer ≡ Err code.Closed) h n
          follows called;
    });
  }

-- a place in a circle of so many, by a number that is told once more by the same circle
pub again_in : (from cells k n : ℕ) → 0 < k → k ≡ cells → n ≡ from % cells → n % k ≡ from % k
again_in from cells k n some is place =
    ap (λ (x : ℕ). x % k) place
    ∙ ap (λ (x : ℕ). from % x % k) (sym is)
    ∙ ap (λ (x : ℕ). x % k) once
    ∙ mod-mul-add 0 k (from % k) (mod_below from k some)
  where
    once : from % k ≡ 0 * k + from % k
    once = omega arith
