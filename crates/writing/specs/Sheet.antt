-- A page, a lent buffer that is filled from its start, as what its methods put on it.
--   Sheet             what a page comes to: the name of the loan, what is written so far, and the bytes behind it
--   blank name bytes  a sheet of these bytes, on which nothing is written
--   put s text        s with the text behind what is written
--   Fits s text       s has room for the text
--   sheet p           what the page p comes to
use Rattle.std.specs.Prelude.{List, [], ◌++◌, ℕ, ◌≤◌, length, take, drop}
use Rattle.writing.specs.declared.page.Page.{Page}

pub record Sheet : Type 0 where
  pub name : ℕ
  pub written : List ℕ
  pub rest : List ℕ

abbrev pub blank : ℕ → List ℕ → Sheet
blank name bytes = record { name = name; written = []; rest = bytes }

unfoldable pub put : Sheet → List ℕ → Sheet
put s text = record { name = s.name; written = s.written ++ text; rest = drop (length text) s.rest }

abbrev pub Fits : Sheet → List ℕ → Type 0
Fits s text = length text ≤ length s.rest

unfoldable pub sheet : Page → Sheet
sheet p = record { name = p.out.ghost_name; written = take p.at p.out.now; rest = drop p.at p.out.now }
