-- What a set of edges is to a reader.
--   EdgeSet        the marks of a plate, and the status bytes of its pairs
--   belongs e a b  the edge (a, b) belongs to the set e: its byte is not 0, and it is an empty edge
use Rattle.std.specs.Prelude.{Bool, List, ℕ, ℤ}
use Rattle.striking.specs.Status.{remaining}
use Rattle.certificates.specs.Plate.{edges_of}

pub record EdgeSet : Type 0 where
  pub marks : List ℤ
  pub statuses : List ℕ

abbrev pub belongs : EdgeSet → ℕ → ℕ → Bool
belongs e = edges_of e.marks (remaining e.statuses)
