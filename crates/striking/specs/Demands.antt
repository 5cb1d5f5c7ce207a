-- Rule 9, and the sets and the number of which demands 2 and 3 speak.
use Rattle.std.specs.Prelude.{◌≡◌, Bool, true, false, ℕ, ◌+◌, ◌*◌, ◌/◌}
use Rattle.striking.specs.System.{System, Within, inner_edges}

-- a set of edges in which each inner edge has a certificate
pub record Supported (y : System) (S : ℕ → Bool) : Type 0 where
  pub edges : Within S y.edge
  pub vouched : (i : ℕ) → S i ≡ true → y.inner i ≡ true → y.vouched S i ≡ true

-- demand 2: "the largest set that holds the hull edges and in which each inner edge has a certificate"
pub record Largest (y : System) (S : ℕ → Bool) : Type 0 where
  pub supported : Supported y S
  pub hull : (i : ℕ) → y.edge i ≡ true → y.inner i ≡ false → S i ≡ true
  pub largest : (S' : ℕ → Bool) → Supported y S' → Within S' S

-- rule 9: "a set of empty edges, no two of which cross, such that each empty edge left out crosses one kept"
pub record Triangulation (y : System) (T : ℕ → Bool) : Type 0 where
  pub edges : Within T y.edge
  pub apart : (i j : ℕ) → T i ≡ true → T j ≡ true → y.cross i j ≡ false
  pub full : (i : ℕ) → y.edge i ≡ true → T i ≡ false → (j : ℕ) × (T j ≡ true) × (y.cross i j ≡ true)

-- rule 9: "It is locally minimal if each kept inner edge has a certificate in the kept set."
pub record LocallyMinimal (y : System) (T : ℕ → Bool) : Type 0 where
  pub triangulation : Triangulation y T
  pub vouched : (i : ℕ) → T i ≡ true → y.inner i ≡ true → y.vouched T i ≡ true

-- demand 3: m(m+1)/2 examinations, where m is the number of inner edges
abbrev pub ample : System → ℕ
ample y = inner_edges y * (inner_edges y + 1) / 2
