-- The code's buffers stay ready: where the same pairs remain, and where one is struck. Assumes nothing.
use mathlib.Core.Path.{◌≡◌, refl, sym, ap, ◌∙◌, subst, fun_ext}
use mathlib.Core.Bool.{Bool, true, false, not, cond}
use mathlib.Core.List.{List}
use Prim.Native.Nat.{ℕ, ◌+◌, ◌<◌}
use native.Mathlib.Decide.{dec_lt}
use native.Mathlib.Omega.{arith}
use lib.Dec.{eqb}
use lib.IntN.{ℤ}
use lib.ListN.{length, get_or, set, length-set}
use Rattle.pairs.specs.declared.Pair.{Pair}
use Rattle.sets.specs.declared.Set.{Set}
use Rattle.plane.specs.Marks.{count}
use Rattle.pairs.specs.Pairs.{pair_number}
use Rattle.plane.specs.Edge.{empty_edge}
use Rattle.plane.specs.Hull.{one_sided, kind_of}
use Rattle.plane.specs.declared.hull.Kind.TheVariants.{Blocked, Hull, Inner}
use Rattle.pairs.proofs.Laws.{pair_below}
use Rattle.masks.specs.Table.{Filled}
use Rattle.striking.specs.System.{System, crossed, due}
use Rattle.striking.specs.Status.{remaining, all_edges, status_byte}
use Rattle.striking.proofs.Remaining.{struck_within, all_edges_lem}
use Rattle.certificates.specs.Plate.{edges_of, plate}
use Rattle.certificates.specs.Rows.{Rows, Clean}
use Rattle.certificates.specs.Rule9.{IsPair}
use Rattle.rounds.specs.Run.{edge_byte, Ready}
use Rattle.certificates.proofs.Lawful.{lawful}
use Rattle.certificates.proofs.Pairs.{edge_at}
use Rattle.certificates.proofs.Places.{Place}
use Rattle.rounds.proofs.Filling.{Filling}

-- the byte with which a pair starts
pub edge_byte_lem : {m : List ℤ} {i : ℕ} {p : Pair} → Place m i p → edge_byte (kind_of m p.a p.b) ≡ cond ((plate m).edge i) 1 0
unfolding kind_of edge_byte
edge_byte_lem {m} {i} {p} h =
    go (empty_edge m p.a p.b) (one_sided m p.a p.b)
    ∙ sym (ap (λ (t : Bool). cond t 1 0) (ap (plate m).edge h.number ∙ edge_at m p.a p.b (record { up = h.up; marks = h.mark })))
  where
    go : (x y : Bool) → edge_byte (cond x (cond y Hull Inner) Blocked) ≡ cond x 1 0
    go true true = refl
    go true false = refl
    go false y = refl

pub filled_next : {m : List ℤ} {t : List Set} {i n : ℕ} → i ≡ n → Filled m t (n + 1) → Filled m t (i + 1)
filled_next {m} {t} e h = subst (λ (x : ℕ). Filled m t (x + 1)) (sym e) h

-- ---- clean bytes
pub clean_same : {m : List ℤ} {st st' : List ℕ} → remaining st' ≡ remaining st → Clean m st → Clean m st'
clean_same e h = record { edges = λ a b l k r. h.edges a b l k (ap (λ (S : ℕ → Bool). S (pair_number a b)) (sym e) ∙ r) }

pub clean_struck : {m : List ℤ} {st : List ℕ} (i : ℕ) → Clean m st → Clean m (set st i 0)
clean_struck {m} {st} i h = record { edges = λ a b l k r. h.edges a b l k (struck_within st i (pair_number a b) r) }

pub clean_start : (m : List ℤ) → Clean m (all_edges (plate m))
clean_start m =
    record { edges = λ a b l k r. sym (edge_at m a b (record { up = l; marks = k })) ∙ sym (all_edges_lem (plate m) (lawful m) (pair_number a b)) ∙ r }

-- ---- ready buffers
pub ready_same : {m : List ℤ} {st st' : List ℕ} {d : List Set} → length st' ≡ length st → remaining st' ≡ remaining st → Ready m st d → Ready m st' d
ready_same {m} {st} {st'} {d} n e h =
    record {
      accepted = h.accepted;
      long = n ∙ h.long;
      clean = clean_same e h.clean;
      rows = subst (λ (S : ℕ → Bool). Rows m (edges_of m S) d) (sym e) h.rows;
    }

pub ready_struck :
    {m : List ℤ} {st : List ℕ} {d d' : List Set} (i : ℕ) → Ready m st d → Rows m (edges_of m (remaining (set st i 0))) d' →
    Ready m (set st i 0) d'
ready_struck {m} {st} {d} {d'} i h r =
    record { accepted = h.accepted; long = length-set st i 0 ∙ h.long; clean = clean_struck i h.clean; rows = r }

-- the number of a pair is a place of the status buffer
pub ready_place : {m : List ℤ} {st : List ℕ} {d : List Set} {a b : ℕ} → Ready m st d → IsPair m a b → pair_number a b < length st
ready_place {m} {st} {d} {a} {b} h p = rw h.long (pair_below a b (count m) p.up p.marks)

-- a pair that remains is an empty edge
pub kept_edge :
    {m : List ℤ} {st : List ℕ} {d : List Set} {a b : ℕ} → Ready m st d → IsPair m a b →
    remaining st (pair_number a b) ≡ true → empty_edge m a b ≡ true
kept_edge {m} {st} {d} {a} {b} h p q = h.clean.edges a b p.up p.marks q

-- a pair that has to be examined is an empty edge
pub due_edge :
    {m : List ℤ} {st : List ℕ} {d : List Set} {a b : ℕ} → Ready m st d → IsPair m a b →
    due (plate m) (remaining st) (pair_number a b) ≡ true → empty_edge m a b ≡ true
unfolding due
due_edge {m} {st} {d} {a} {b} h p q =
    kept_edge h p (first (remaining st (pair_number a b)) ((plate m).inner (pair_number a b)) q)
  where
    first : (x y : Bool) → cond x y false ≡ true → x ≡ true
    first true y z = refl
    first false y z = z

-- ---- statuses written over what remains leave the same pairs remaining
pub status_remaining :
    (y : System) {i : ℕ} {st₀ st : List ℕ} → Filling (status_byte y (remaining st₀)) i st₀ st → remaining st ≡ remaining st₀
unfolding remaining status_byte
status_remaining y {i} {st₀} {st} h = fun_ext (λ j. go j (dec_lt j i))
  where
    bit : (s c : Bool) → not (eqb (cond s (cond c 1 2) 0) 0) ≡ s
    bit true true = refl
    bit true false = refl
    bit false c = refl

    byte : (j : ℕ) → not (eqb (status_byte y (remaining st₀) j) 0) ≡ remaining st₀ j
    byte j = bit (remaining st₀ j) (crossed y (remaining st₀) j)

    go : (j : ℕ) → Dec (j < i) → not (eqb (get_or st j 0) 0) ≡ not (eqb (get_or st₀ j 0) 0)
    go j (yes l) = ap (λ (b : ℕ). not (eqb b 0)) (h.done j l) ∙ byte j
    go j (no d) = ap (λ (b : ℕ). not (eqb b 0)) (h.rest j (omega arith))
