-- A caller that was taken back has begun as many attempts as the record of its table tells.
use Rattle.std.proofs.Common.{◌≡◌, ℕ, sym, ap, subst}
use Rattle.dstm_machines.proofs.Own.{same_local}
use Rattle.dstm_records.proofs.Base.{Dstm, IsPast, Round, SameOwn, Tl2, begun_of, core}
use Rattle.dstm_core.specs.State as core_state
use Rattle.dstm_words.specs.declared.terms.Terms as core_terms
use Rattle.dstm_tl2.specs.Runs.{tl2}
use Rattle.dstm_tl2.specs.Sharing.{table_of}
use Rattle.dstm_tl2.specs.State as tl2_state
use Rattle.dstm_tl2.specs.declared.terms.Terms as tl2_terms
use Rattle.dstm_store.specs.declared.law.StoreLaw.{StoreLaw}

pub begun_at_close : (a b : Round) (c : ℕ) → IsPast a b → SameOwn c a b → begun_of b c ≡ begun_of a c
begun_at_close (Dstm a) (Dstm b) c past own =
    subst (λ (t : core_terms.Terms StoreLaw). begun_of (Dstm (record { terms = t; log = b.log })) c ≡ begun_of (Dstm a) c)
    (sym past.0)
    (ap (λ (l : core_state.LocalState). l.begun) (same_local core a.terms.shape b.log a.log c own))
begun_at_close (Tl2 a) (Tl2 b) c past own =
    subst (λ (t : tl2_terms.Terms StoreLaw). begun_of (Tl2 (record { terms = t; log = b.log })) c ≡ begun_of (Tl2 a) c)
    (sym past.0)
    (ap (λ (l : tl2_state.LocalState). l.begun) (same_local tl2 (table_of a.terms) b.log a.log c own))
begun_at_close (Dstm a) (Tl2 b) c past own = absurd past
begun_at_close (Tl2 a) (Dstm b) c past own = absurd past
