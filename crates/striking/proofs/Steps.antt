-- The search's steps, a law for each way that a pair's turn goes and one for what follows a round. Each is the definition read
-- off at the answers of its tests. Assumes nothing.
use mathlib.Core.Path.{◌≡◌, refl, ap, ◌∙◌}
use mathlib.Core.Bool.{Bool, true, false}
use mathlib.Core.List.{List}
use Prim.Native.Nat.{ℕ, suc, ◌+◌, ◌<◌, ◌≤◌}
use borrow.Author.Tests.{lt-ltb, le-ltb, ltb-true, ltb-false}
use lib.Dec.{ltb}
use lib.ListN.{set}
use Rattle.striking.specs.System.{System, crossed, due}
use Rattle.striking.specs.Status.{remaining}
use Rattle.striking.specs.Search.{Outcome, done, paused, answer8, Final, State, going, over, examine, visit, visits, rounds}

-- the end of a search, in short
abbrev pub final : Outcome → ℕ → List ℕ → Final
final o e st = record { outcome = o; examinations = e; rest = st }

-- ---- a pair's turn
module _ (y : System) (budget i : ℕ) (struck : Bool) (e : ℕ) (st : List ℕ) where
  -- a pair that is no inner edge that remains is passed over, at no cost
  pub visit_pass : due y (remaining st) i ≡ false → visit y budget i (going struck e st) ≡ going struck e st
  unfolding visit
  visit_pass d = rw (visit, d)

  module _ (d : due y (remaining st) i ≡ true) where
    -- an examination that is due, by whether the budget is unspent
    abbrev unspent : Bool → State
    unspent t = elim t [ true ↦ examine y struck e st i | false ↦ over (final paused e st) ]

    visit_due : visit y budget i (going struck e st) ≡ unspent (ltb e budget)
    unfolding visit
    visit_due = rw (visit, d)

    -- with the budget spent it is a pause
    pub visit_pause : budget ≤ e → visit y budget i (going struck e st) ≡ over (final paused e st)
    visit_pause l = visit_due ∙ ap unspent (le-ltb e budget l)

    module _ (l : e < budget) where
      -- before that it is made
      pub visit_examines : visit y budget i (going struck e st) ≡ examine y struck e st i
      visit_examines = visit_due ∙ ap unspent (lt-ltb e budget l)

      -- an edge with a certificate stays, and its examination costs one
      pub visit_keep : y.vouched (remaining st) i ≡ true → visit y budget i (going struck e st) ≡ going struck (e + 1) st
      unfolding examine
      visit_keep v = visit_examines ∙ rw (examine, v)

      module _ (v : y.vouched (remaining st) i ≡ false) where
        -- one without, and crossed, is struck, and its examination costs one
        pub visit_strike :
            crossed y (remaining st) i ≡ true → visit y budget i (going struck e st) ≡ going true (e + 1) (set st i 0)
        unfolding examine
        visit_strike c = visit_examines ∙ rw (examine, v, c)

        -- one without, and not crossed, ends the search with answer 8, and its examination costs one
        pub visit_answer8 :
            crossed y (remaining st) i ≡ false → visit y budget i (going struck e st) ≡ over (final (answer8 i) (e + 1) st)
        unfolding examine
        visit_answer8 c = visit_examines ∙ rw (examine, v, c)

-- a search that is over stays so
pub visit_over : (y : System) (budget i : ℕ) (h : Final) → visit y budget i (over h) ≡ over h
unfolding visit
visit_over y budget i h = refl

-- a turn that goes in one of these five ways; and every turn does
pub data Turn (y : System) (budget i : ℕ) (struck : Bool) (e : ℕ) (st : List ℕ) : State → Type 0 where
  passes : due y (remaining st) i ≡ false → Turn y budget i struck e st (going struck e st)
  pauses : due y (remaining st) i ≡ true → budget ≤ e → Turn y budget i struck e st (over (final paused e st))
  keeps :
      due y (remaining st) i ≡ true → e < budget → y.vouched (remaining st) i ≡ true →
      Turn y budget i struck e st (going struck (e + 1) st)
  strikes :
      due y (remaining st) i ≡ true → e < budget → y.vouched (remaining st) i ≡ false → crossed y (remaining st) i ≡ true →
      Turn y budget i struck e st (going true (e + 1) (set st i 0))
  answers8 :
      due y (remaining st) i ≡ true → e < budget → y.vouched (remaining st) i ≡ false → crossed y (remaining st) i ≡ false →
      Turn y budget i struck e st (over (final (answer8 i) (e + 1) st))

pub turn :
    (y : System) (budget i : ℕ) (struck : Bool) (e : ℕ) (st : List ℕ) →
    Turn y budget i struck e st (visit y budget i (going struck e st))
turn y budget i struck e st =
    go (due y (remaining st) i) (ltb e budget) (y.vouched (remaining st) i) (crossed y (remaining st) i) refl refl refl refl
  where
    go :
        (d t v c : Bool) → due y (remaining st) i ≡ d → ltb e budget ≡ t → y.vouched (remaining st) i ≡ v →
        crossed y (remaining st) i ≡ c → Turn y budget i struck e st (visit y budget i (going struck e st))
    go false t v c pd pt pv pc = rw (visit_pass y budget i struck e st pd) (passes pd)
    go true false v c pd pt pv pc =
        let l = ltb-false e budget pt in
        rw (visit_pause y budget i struck e st pd l) (pauses pd l)
    go true true true c pd pt pv pc =
        let l = ltb-true e budget pt in
        rw (visit_keep y budget i struck e st pd l pv) (keeps pd l pv)
    go true true false true pd pt pv pc =
        let l = ltb-true e budget pt in
        rw (visit_strike y budget i struck e st pd l pv pc) (strikes pd l pv pc)
    go true true false false pd pt pv pc =
        let l = ltb-true e budget pt in
        rw (visit_answer8 y budget i struck e st pd l pv pc) (answers8 pd l pv pc)

-- ---- what follows a round: nothing where the search is over, the end where it struck nothing, another round where it did
unfoldable pub after : System → ℕ → ℕ → State → Final
after y budget fuel (over h) = h
after y budget fuel (going false e st) = final done e st
after y budget fuel (going true e st) = rounds y budget fuel e st

-- a round, and what follows it
pub rounds_more :
    (y : System) (budget fuel e : ℕ) (st : List ℕ) →
    rounds y budget (suc fuel) e st ≡ after y budget fuel (visits y budget y.size (going false e st))
unfolding rounds after
rounds_more y budget fuel e st = go (visits y budget y.size (going false e st))
  where
    go :
        (s : State) →
        elim s as (λ x. Final) [
          | over h ↦ h
          | going struck e' st' ↦
              elim struck as (λ x. Final) [ true ↦ rounds y budget fuel e' st' | false ↦ final done e' st' ]
        ] ≡ after y budget fuel s
    go (over h) = refl
    go (going false e' st') = refl
    go (going true e' st') = refl
