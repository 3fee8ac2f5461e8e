-- Tables that are as the options and the jobs want them.
use Rattle.std.proofs.Common.{◌≡◌, ◌∙◌, ◌&&◌, ◌==◌, ℕ, Bool, true, false, refl, sym, ap, subst, not}
use Rattle.dstm_records.proofs.Base.{Dstm, IsDstmMade, IsMade, IsOf, IsPast, IsReleasing, Options, Round, Shape, Tl2, attempts_of, is_parallel, lets_go}
use Rattle.dstm_words.specs.declared.terms.Terms as core_terms
use Rattle.dstm_tl2.specs.declared.terms.Terms as tl2_terms
use Rattle.dstm_store.specs.declared.law.StoreLaw.{StoreLaw}
use Rattle.dstm_options.specs.declared.options.Engine.{Engine}
use Rattle.dstm_jobs.specs.Founders.{HasShape}

module _ (options : Options) (version number jobs : ℕ) where
  -- a table of such a shape
  pub is_made : (shape : Shape) (r : Round) → IsDstmMade options version number jobs shape → HasShape shape r →
      attempts_of r ≡ shape.attempts → IsMade options version number jobs r
  is_made shape (Dstm r) made is same = subst (IsDstmMade options version number jobs) (sym is) made
  is_made shape (Tl2 r) made is same = same ∙ made.attempts

  -- it stays as it was made
  pub made_past : (a b : Round) → IsPast a b → IsMade options version number jobs a → IsMade options version number jobs b
  made_past (Dstm a) (Dstm b) past made =
      subst (λ (t : core_terms.Terms StoreLaw). IsDstmMade options version number jobs t.shape) (sym past.0) made
  made_past (Tl2 a) (Tl2 b) past made = ap (λ (t : tl2_terms.Terms StoreLaw). t.attempts) past.0 ∙ made
  made_past (Dstm a) (Tl2 b) past made = absurd past
  made_past (Tl2 a) (Dstm b) past made = absurd past

  -- where reads are given up early they are let go
  pub reads_let_go : (r : Round) → IsReleasing options version → IsOf options.engine r →
      IsMade options version number jobs r → lets_go r ≡ true
  reads_let_go (Dstm r) releasing is made = ap not (by (is_parallel number) refl)
    where
      by : (b : Bool) → is_parallel number ≡ b → r.terms.shape.all_write ≡ false
      by true parallel = made.all_write parallel ∙ releasing.reads
      by false alone = made.alone_writes alone ∙ ap (λ (b : Bool). b && not (version == 3)) releasing.reads
  reads_let_go (Tl2 r) releasing is made =
      absurd (subst (λ (e : Engine). IsOf e (Tl2 r)) releasing.engine is)
