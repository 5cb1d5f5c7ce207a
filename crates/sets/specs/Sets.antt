-- Sets of numbers below 128, as the code keeps them: two words of 64 digits, the lowest digit first.
--   word f k j     the numbers k to k + j - 1 that have f, as a word: its lowest digit stands for k
--   set_of f       the set of the numbers below 128 that have f
--   in_word w k i  i is in the word w, whose lowest digit stands for k
--   has s i        i is in the set s
--   none s         s is empty
--   first s, rest s  the first member of s, or none; s without it, or s where it is empty
--   PopsFirst s r t  r is the first of s, and t its rest
--   members_rest x   the set of those that the iterator x has left
--   members_left s   how many numbers below 128 are not before the first of s, so that the members end
--   both f g, either f g, including f k, without f k  f and g; f or g; f, and k too; f, and k no more
use Rattle.std.specs.Prelude.{◌≡◌, Bool, true, false, not, cond, Option, None, Some, ℕ, zero, suc, ◌+◌, ◌*◌, ◌-◌, ◌/◌, ◌%◌, ◌^◌, eqb, ltb}
use Rattle.plane.specs.Numbers.{all_to, first_to}
use Rattle.sets.specs.declared.Set.{Set}
use Rattle.sets.specs.declared.Members.{Members}

abbrev pub bit : Bool → ℕ
bit true = 1
bit false = 0

unfoldable pub word : (ℕ → Bool) → ℕ → ℕ → ℕ
word f k zero = 0
word f k (suc j) = word f (suc k) j * 2 + bit (f k)

unfoldable pub set_of : (ℕ → Bool) → Set
set_of f = record { low = word f 0 64; high = word f 64 64 }

unfoldable pub in_word : ℕ → ℕ → ℕ → Bool
in_word w k i = eqb (w / 2 ^ (i - k) % 2) 1

unfoldable pub has : Set → ℕ → Bool
has s i = cond (ltb i 64) (in_word s.low 0 i) (in_word s.high 64 i)

unfoldable pub lacks : (ℕ → Bool) → ℕ → Bool
lacks f i = not (f i)

unfoldable pub none : Set → Bool
none s = all_to 128 (lacks (has s))

unfoldable pub both : (ℕ → Bool) → (ℕ → Bool) → ℕ → Bool
both f g i = cond (f i) (g i) false

unfoldable pub either : (ℕ → Bool) → (ℕ → Bool) → ℕ → Bool
either f g i = cond (f i) true (g i)

unfoldable pub including : (ℕ → Bool) → ℕ → ℕ → Bool
including f k i = cond (eqb i k) true (f i)

unfoldable pub without : (ℕ → Bool) → ℕ → ℕ → Bool
without f k i = cond (eqb i k) false (f i)

unfoldable pub first : Set → Option ℕ
first s = cond (none s) None (Some (first_to 128 (has s)))

unfoldable pub rest : Set → Set
rest s = cond (none s) s (set_of (without (has s) (first_to 128 (has s))))

pub record PopsFirst (s : Set) (r : Option ℕ) (t : Set) : Type 0 where
  pub first : r ≡ first s
  pub rest : t ≡ rest s

abbrev pub members_left : Set → ℕ
members_left s = 128 - first_to 128 (has s)

abbrev pub members_rest : Members → Set
members_rest x = x.rest
