-- The numbers below n: whether some have a property, how many have it, and a value for each.
use Rattle.std.specs.Prelude.{Bool, true, false, List, [], ◌∷◌, ◌++◌, ℕ, zero, suc}

-- some number below n has f
unfoldable pub any_below : ℕ → (ℕ → Bool) → Bool
any_below zero f = false
any_below (suc k) f = elim (any_below k f) [ true ↦ true | false ↦ f k ]

-- how many numbers below n have f
unfoldable pub count_below : ℕ → (ℕ → Bool) → ℕ
count_below zero f = 0
count_below (suc k) f = elim (f k) [ true ↦ suc (count_below k f) | false ↦ count_below k f ]

-- f 0, f 1, .. f (n - 1)
unfoldable pub list_below : ℕ → (ℕ → ℕ) → List ℕ
list_below zero f = []
list_below (suc k) f = list_below k f ++ f k ∷ []
