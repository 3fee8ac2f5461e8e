-- What contracts see of the founder of a table, which gives out its callers.
use Rattle.std.specs.Prelude.{◌≡◌, ◌+◌, ◌-◌, ℕ, List, [], ◌∷◌, ◌++◌, Contains}
use Rattle.dstm_model.specs.declared.value.Val.{Val}
use Rattle.dstm_model.specs.Map.{Entry}
use Rattle.dstm_core.specs.Histories as core
use Rattle.dstm_engine.specs.Tables as dstm
use Rattle.dstm_words.specs.Seats.{AreApart}
use Rattle.dstm_tl2.specs.Histories as tl2_histories
use Rattle.dstm_tl2.specs.Sharing.{table_of}
use Rattle.dstm_tl2_engine.specs.Tables as tl2
use Rattle.dstm_tables.specs.declared.founding.Founder.{Founder}
use Rattle.dstm_tables.specs.declared.founding.Founder.TheVariants.{Dstm, Tl2}
use Rattle.dstm_tables.specs.declared.tables.Caller.{Caller}
use Rattle.dstm_tables.specs.declared.tables.Caller.TheVariants as caller
use Rattle.dstm_tables.specs.declared.tables.Round.{Round}
use Rattle.dstm_tables.specs.declared.tables.Round.TheVariants as round
use Rattle.dstm_tables.specs.declared.tables.Table.{Table}
use Rattle.dstm_tables.specs.declared.tables.Table.TheVariants as table
use Rattle.dstm_tables.specs.Callers.{AtRest, CameByCalls, HasSeed, begun, done, home_of, let_go, number_of, round_of}
use Rattle.dstm_tables.specs.Tells.{IsPast, SameOwn, used_by}

module _ {L : Type 0} where
  -- its table
  abbrev pub home_there : Founder L → Table L
  home_there (Dstm f) = table.Dstm f.home
  home_there (Tl2 f) = table.Tl2 f.home

  -- what it has seen
  abbrev pub seen_by : Founder L → Round L
  seen_by (Dstm f) = round.Dstm (record { terms = f.home.terms; log = f.view.log })
  seen_by (Tl2 f) = round.Tl2 (record { terms = f.home.terms; log = f.view.log })

  -- how many callers it has made
  abbrev pub made_of : Founder L → ℕ
  made_of (Dstm f) = f.made
  made_of (Tl2 f) = f.made

  -- how many of these it has not taken back
  abbrev pub out_of : Founder L → ℕ
  out_of (Dstm f) = f.view.out
  out_of (Tl2 f) = f.view.out

  -- how many of them are guests, which DSTM alone has
  abbrev pub guests_of : Founder L → ℕ
  guests_of (Dstm f) = f.guests
  guests_of (Tl2 f) = 0

  -- the numbers of the callers that it has taken back
  abbrev pub numbers_of : Founder L → List ℕ
  numbers_of (Dstm f) = f.view.numbers
  numbers_of (Tl2 f) = f.view.numbers

  -- what took effect on its table, as its log tells, the oldest first
  abbrev pub history_by : Founder L → List Entry
  history_by (Dstm f) = core.history_of f.home.terms.shape f.home.terms.start.value.items f.view.log
  history_by (Tl2 f) = tl2_histories.history_of (table_of f.home.terms) f.view.log

  -- the founder of a new table
  abbrev pub founded : Table L → Founder L
  founded (table.Dstm h) = Dstm (dstm.founded h)
  founded (table.Tl2 h) = Tl2 (tl2.founded h)

  -- what is known of a table before anything happened on it
  abbrev pub first_of : Table L → Round L
  first_of (table.Dstm h) = round.Dstm (record { terms = h.terms; log = [] })
  first_of (table.Tl2 h) = round.Tl2 (record { terms = h.terms; log = [] })

  -- it is the founder of a table, and has given out no caller yet
  pub record HasGivenNone (t : Table L) (f : Founder L) : Type 0 where
    pub home : home_there f ≡ t
    pub none_made : made_of f ≡ 0
    pub none_out : out_of f ≡ 0
    pub none_guests : guests_of f ≡ 0
    pub none_back : numbers_of f ≡ []

  -- The founder has taken a caller back. What was seen of it, and of those that were taken back before, is all that they have done.
  pub record TakesBack (f g : Founder L) (k : Caller L) : Type 0 where
    pub home : home_there g ≡ home_there f
    pub made : made_of g ≡ made_of f
    pub out : out_of g ≡ out_of f - 1
    pub guests : guests_of g ≡ guests_of f
    pub back : numbers_of g ≡ numbers_of f ++ number_of k ∷ []
    pub apart : AreApart (numbers_of g)
    pub past : IsPast (seen_by f) (seen_by g)
    pub kept : (n : ℕ) → Contains (numbers_of f) n → SameOwn n (seen_by f) (seen_by g)
    pub other_past : IsPast (round_of k) (seen_by g)
    pub other_kept : SameOwn (number_of k) (round_of k) (seen_by g)

  module _ (holds : L → List Val → Type 0) where
    -- it has made a new caller, by DSTM of this seed
    abbrev pub Enrols : (f g : Founder L) → (seed : ℕ) → Caller L → Type 0
    Enrols (Dstm f) (Dstm g) seed (caller.Dstm k) = dstm.Enrols holds f g seed k
    Enrols (Tl2 f) (Tl2 g) seed (caller.Tl2 k) = tl2.Enrols holds f g k
    Enrols f g seed k = ⊥

    -- it has taken a caller back
    abbrev pub Retires : (f g : Founder L) → Caller L → Type 0
    Retires (Dstm f) (Dstm g) (caller.Dstm k) = dstm.Retires holds f g k
    Retires (Tl2 f) (Tl2 g) (caller.Tl2 k) = tl2.Retires holds f g k
    Retires f g k = ⊥

    -- the founder of the table has given out a new caller, which has come by calls from the generator of this seed on
    pub record GivesOut (t : Table L) (f g : Founder L) (seed : ℕ) (k : Caller L) : Type 0 where
      pub home : home_of k ≡ t
      pub seeded : HasSeed seed k
      pub came : CameByCalls seed k
      pub rest : AtRest holds k
      pub none_begun : begun k ≡ 0
      pub none_used : used_by (round_of k) (number_of k) ≡ 0
      pub none_let_go : let_go k ≡ 0
      pub none_done : done k ≡ []
      pub home_then : home_there g ≡ home_there f
      pub seen_then : seen_by g ≡ seen_by f
      pub made : made_of g ≡ made_of f + 1
      pub out : out_of g ≡ out_of f + 1
      pub guests : guests_of g ≡ guests_of f
      pub back : numbers_of g ≡ numbers_of f
