-- A search that goes on, as its methods change it.
--   Place      where it goes on: the marks, and the loans of the status bytes and of the rows
--   place s    the place of the search s
--   marks s    its marks
--   remains s  the status bytes; those that are not 0 remain
--   near s     the rows
--   IsReady s  its rows agree with them
use Rattle.std.specs.Prelude.{List, ℕ, ℤ}
use Rattle.sets.specs.declared.Set.{Set}
use Rattle.rounds.specs.declared.search.Search.{Search}
use Rattle.rounds.specs.Run.{Ready}

pub record Place : Type 0 where
  pub marks : List ℤ
  pub loan : ℕ
  pub rows_loan : ℕ

abbrev pub place : Search → Place
place s = record { marks = s.lefts.now; loan = s.statuses.ghost_name; rows_loan = s.rows.ghost_name }

abbrev pub marks : Search → List ℤ
marks s = s.lefts.now

abbrev pub remains : Search → List ℕ
remains s = s.statuses.now

abbrev pub near : Search → List Set
near s = s.rows.now

abbrev pub IsReady : Search → Type 0
IsReady s = Ready s.lefts.now s.statuses.now s.rows.now
