-- What a step keeps besides: only a store puts a new value.
use Rattle.std.proofs.Common.{◌≡◌, ℕ, ◌+◌, ◌^◌, ◌<◌, List, ◌∷◌, ◌++◌, [], length, Some, None, sym, subst, arith, lit<, Option}
use Rattle.dstm_model.specs.declared.value.Val.{Val}
use Rattle.dstm_model.specs.Map.{KeepsLaw}
use Rattle.dstm_machines.specs.Traces.Access.{Store, Exchange}
use Rattle.dstm_core.specs.Events.{Event}
use Rattle.dstm_core.specs.declared.event.Kind.{Kind}
use Rattle.dstm_core.specs.Histories.{entry_of}
use Rattle.dstm_core.specs.Rules.{AllowedAs}
use Rattle.dstm_core.specs.Runs.{core, local}
use Rattle.dstm_core.specs.State.{LocalState}
use Rattle.dstm_core.specs.Traces.{events_of}
use Rattle.dstm_core.proofs.Enrolment.{enrols}
use Rattle.dstm_machines.proofs.Own.{local_quiet}
use Rattle.dstm_seats.specs.Seats.{MakesKept}
use Rattle.dstm_words.specs.declared.terms.Terms.{Terms}
use Rattle.dstm_words.specs.Seats.{caller_state, event_by, made, number_or, shared, state_by, MayMake, PutsLawfully, StoresLawfully, View}

module _ {L : Type 0} (holds : L → List Val → Type 0) (terms : Terms L) (v : View L) (kind : Kind) (place : ℕ) where
  -- an exchange keeps what it has to: it expects one number, and a store expects whatever it finds
  pub exchange_keeps : (expected put : ℕ) → MayMake terms v (Exchange expected put) kind place →
      MakesKept (shared holds) terms v (Exchange expected put) kind place
  exchange_keeps expected put may found between run fits quiet is last =
      let at_any : (n : ℕ) → n < 2 ^ 64 → expected ≡ n = λ n l.
      (subst (λ k. AllowedAs k terms.shape (caller_state terms v) (made v (Exchange expected put) kind place n)) is
      (may n l)).1.0 in
      let x = at_any 0 (lit< tt) in let y = at_any 1 (lit< tt) in absurd (omega arith)

  -- a store that puts its caller's last new value keeps the law: the caller's state is what it was
  pub store_keeps : (put : ℕ) → MayMake terms v (Store put) kind place →
      StoresLawfully holds terms v kind place put → MakesKept (shared holds) terms v (Store put) kind place
  store_keeps put may lawful found between run fits quiet is last =
      let e : Event = made v (Store put) kind place found in
      let log : List Event = between ++ v.log in
      let puts : PutsLawfully holds terms v e =
      subst (λ k. PutsLawfully holds terms v (made v (Store put) k place found)) (sym is)
      (subst (λ k. StoresLawfully holds terms v k place put) is lawful found) in
      let Keeps : LocalState → Type 0 = λ l.
      l.written + 1 ≡ length l.writes →
      KeepsLaw (holds terms.law.value) terms.shape.objects
      (entry_of terms.shape terms.start.value.items (e ∷ log) l) in
      subst Keeps (same v.number (may 0 (lit< tt)) quiet) (puts between run fits quiet) last
    where
      same : (o : Option ℕ) →
          AllowedAs kind terms.shape (state_by terms.shape o v.log) (event_by (Store put) (number_or o 0) kind place 0) →
          events_of (number_or o found) between ≡ [] →
          state_by terms.shape o v.log ≡ local terms.shape (between ++ v.log) (number_or o found)
      same (Some c) ok none = sym (local_quiet core terms.shape between v.log c none)
      same None ok none = absurd (let enrol = (enrols terms.shape (event_by (Store put) 0 kind place 0) kind ok).0 in cc)
