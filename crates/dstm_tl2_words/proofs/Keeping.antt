-- What a step keeps besides: only a Draw places an entry, and it is an add.
use Rattle.std.proofs.Common.{◌≡◌, ℕ, ◌+◌, ◌^◌, ◌<◌, List, [], ◌++◌, true, Some, None, sym, subst, arith, lit<, Option}
use Rattle.dstm_model.specs.declared.value.Val.{Val}
use Rattle.dstm_model.specs.Map.{KeepsLaw}
use Rattle.dstm_machines.specs.Traces.{Access, events_of}
use Rattle.dstm_machines.specs.Traces.Access.{Load, Store, Exchange, Add}
use Rattle.dstm_machines.proofs.Own.{local_quiet}
use Rattle.dstm_seats.specs.Seats.{state_by, MakesKept}
use Rattle.dstm_tl2.specs.declared.kind.Kind.{Kind}
use Rattle.dstm_tl2.specs.declared.kind.Kind.TheVariants.{Draw}
use Rattle.dstm_tl2.specs.declared.terms.Terms.{Terms}
use Rattle.dstm_tl2.specs.Histories.{entry_of, is_draw, writes_of}
use Rattle.dstm_tl2.specs.Rules.{AllowedAs, Event}
use Rattle.dstm_tl2.specs.Runs.{local, tl2}
use Rattle.dstm_tl2.specs.Sharing.{shared, table_of}
use Rattle.dstm_tl2.specs.State.{LocalState}
use Rattle.dstm_tl2.specs.Words.{Table, objects}
use Rattle.dstm_tl2.proofs.Enrolment.{enrols}
use Rattle.dstm_tl2_words.specs.Seats.{event_by, made, number_or, DrawsLawfully, MayMake, View}

-- a Draw adds one to what it finds
draw_adds : (t : Table) (l : LocalState) (kind : Kind) (e : Event) → AllowedAs kind t l e → is_draw kind ≡ true →
    (e.expected ≡ e.found) × (e.put ≡ e.found + 1)
draw_adds t l (Draw writes) e a is = a.1
draw_adds t l kind e a is = absurd (cc)

module _ {L : Type 0} (holds : L → List Val → Type 0) (terms : Terms L) (v : View L) (kind : Kind) (place : ℕ) where
  -- what an event of a Draw's kind would do to two words
  adds : (way : Access) → MayMake terms v way kind place → is_draw kind ≡ true → (found : ℕ) → found < 2 ^ 64 →
      ((made v way kind place found).expected ≡ found) × ((made v way kind place found).put ≡ found + 1)
  adds way may is found l = draw_adds (table_of terms) _ kind (made v way kind place found) (may found l) is

  pub load_keeps : MayMake terms v Load kind place → MakesKept (shared holds) terms v Load kind place
  load_keeps may found between run fits quiet is =
      let x = (adds Load may is 0 (lit< tt)).1 in absurd (omega arith)

  pub store_keeps : (put : ℕ) → MayMake terms v (Store put) kind place →
      MakesKept (shared holds) terms v (Store put) kind place
  store_keeps put may found between run fits quiet is =
      let x = (adds (Store put) may is 0 (lit< tt)).1 in
      let y = (adds (Store put) may is 1 (lit< tt)).1 in absurd (omega arith)

  pub exchange_keeps : (expected put : ℕ) → MayMake terms v (Exchange expected put) kind place →
      MakesKept (shared holds) terms v (Exchange expected put) kind place
  exchange_keeps expected put may found between run fits quiet is =
      let x = (adds (Exchange expected put) may is 0 (lit< tt)).0 in
      let y = (adds (Exchange expected put) may is 1 (lit< tt)).0 in absurd (omega arith)

  -- the caller's state at a Draw is what it was at its last step
  pub add_keeps : MayMake terms v Add kind place → DrawsLawfully holds terms v kind →
      MakesKept (shared holds) terms v Add kind place
  add_keeps may lawful found between run fits quiet is =
      subst
      (λ (l : LocalState). KeepsLaw (holds terms.law.value) (objects (table_of terms)) (entry_of l (writes_of kind)))
      (same v.number (may 0 (lit< tt)) quiet) (lawful is)
    where
      same : (o : Option ℕ) →
          AllowedAs kind (table_of terms) (state_by tl2 (table_of terms) o v.log)
          (event_by Add (number_or o 0) kind place 0) → events_of (number_or o found) between ≡ [] →
          state_by tl2 (table_of terms) o v.log ≡ local (table_of terms) (between ++ v.log) (number_or o found)
      same (Some c) ok none = sym (local_quiet tl2 (table_of terms) between v.log c none)
      same None ok none =
          let enrol = (enrols (table_of terms) (event_by Add 0 kind place 0) kind ok).0 in absurd (cc)
