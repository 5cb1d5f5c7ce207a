-- A system of edges: all that striking knows of a plate. The numbers below `size` are the pairs, in pair order. A set of pairs
-- is a test, true of its members.
use Rattle.std.specs.Prelude.{◌≡◌, Bool, true, false, cond, ℕ, ◌<◌}
use Rattle.striking.specs.Below.{any_below, count_below}

pub record System : Type 0 where
  -- how many pairs there are
  pub size : ℕ
  -- the pair is an empty edge
  pub edge : ℕ → Bool
  -- it is an inner edge; every other edge is a hull edge
  pub inner : ℕ → Bool
  -- two edges cross
  pub cross : ℕ → ℕ → Bool
  -- `vouched S i`: the inner edge i has a certificate in the set S
  pub vouched : (ℕ → Bool) → ℕ → Bool

-- every member of S is one of S'
abbrev pub Within : (ℕ → Bool) → (ℕ → Bool) → Type 0
Within S S' = (i : ℕ) → S i ≡ true → S' i ≡ true

-- What is asked of a system: its edges are pairs, its inner edges are edges, crossing is symmetric and no edge crosses itself, and
-- a certificate in a set is one in every larger set.
pub record Lawful (y : System) : Type 0 where
  pub edges_below : (i : ℕ) → y.edge i ≡ true → i < y.size
  pub inner_are_edges : Within y.inner y.edge
  pub cross_symmetric : (i j : ℕ) → y.cross i j ≡ true → y.cross j i ≡ true
  pub cross_not_itself : (i : ℕ) → y.cross i i ≡ false
  pub vouched_grows : (S S' : ℕ → Bool) → Within S S' → Within (y.vouched S) (y.vouched S')

-- some edge of S crosses i. That it is another edge needs no test, since none crosses itself
unfoldable pub crossed : System → (ℕ → Bool) → ℕ → Bool
crossed y S i = any_below y.size (λ j. cond (S j) (y.cross i j) false)

-- i is an inner edge of S: a round where S remains has to examine it
unfoldable pub due : System → (ℕ → Bool) → ℕ → Bool
due y S i = cond (S i) (y.inner i) false

-- m, the number of inner edges
abbrev pub inner_edges : System → ℕ
inner_edges y = count_below y.size y.inner
