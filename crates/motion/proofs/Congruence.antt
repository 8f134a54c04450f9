-- Laws of numbers that differ by a multiple, and of remainders. Assumes nothing.
use Prim.Native.Nat.{ℕ, suc, ◌-◌, ◌/◌, ◌%◌, ◌<◌}
use native.Mathlib.Nat.{mod-lt, div-add-mod}
use native.Mathlib.Omega.{arith}
use lib.IntN.{ℤ, pos, negsuc, neg_ℤ, ◌+ℤ◌}
use Rattle.laws.proofs.Ints.{v, lit, neg, ◌⊕◌, ◌⊖◌, ◌⊛◌, eq-by, eq_of}
use Rattle.motion.specs.Congruence.{Congruent, remainder}

pub congruent_refl : (m : ℕ) (x : ℤ) → Congruent m x x
congruent_refl m x = record { times = pos 0; is = eq-by (v x ⊖ v x) (m ⊛ lit 0) (omega arith) }

pub congruent_sym : {m : ℕ} {x y : ℤ} → Congruent m x y → Congruent m y x
congruent_sym {m} {x} {y} c =
    record {
      times = neg_ℤ c.times;
      is = eq-by (v y ⊖ v x) (m ⊛ neg (v c.times)) (omega (arith, eq_of (v x ⊖ v y) (m ⊛ v c.times) c.is));
    }

pub congruent_trans : {m : ℕ} {x y z : ℤ} → Congruent m x y → Congruent m y z → Congruent m x z
congruent_trans {m} {x} {y} {z} c d =
    record {
      times = c.times +ℤ d.times;
      is = eq-by (v x ⊖ v z) (m ⊛ (v c.times ⊕ v d.times))
          (omega (arith, eq_of (v x ⊖ v y) (m ⊛ v c.times) c.is, eq_of (v y ⊖ v z) (m ⊛ v d.times) d.is));
    }

-- the same number added to both
pub congruent-plus : {m : ℕ} {x y : ℤ} (z : ℤ) → Congruent m x y → Congruent m (x +ℤ z) (y +ℤ z)
congruent-plus {m} {x} {y} z c =
    record {
      times = c.times;
      is = eq-by ((v x ⊕ v z) ⊖ (v y ⊕ v z)) (m ⊛ v c.times) (omega (arith, eq_of (v x ⊖ v y) (m ⊛ v c.times) c.is));
    }

-- a remainder is from 0 to m - 1, and differs from the number by a multiple of m
pub remainder-below : (x : ℤ) (m : ℕ) → 0 < m → remainder x m < m
unfolding remainder
remainder-below (pos n) m h = mod-lt n h
remainder-below (negsuc n) m h = omega arith

pub remainder-congruent : (x : ℤ) (m : ℕ) → 0 < m → Congruent m (pos (remainder x m)) x
unfolding remainder
remainder-congruent (pos n) m h =
    record { times = neg_ℤ (pos (n / m)); is = eq-by (lit (n % m) ⊖ lit n) (m ⊛ neg (lit (n / m))) (omega (arith, div-add-mod n m)) }
remainder-congruent (negsuc n) m h =
    record {
      times = pos (suc (n / m));
      is = eq-by (lit (m - 1 - n % m) ⊖ v (negsuc n)) (m ⊛ lit (suc (n / m))) (omega (arith, div-add-mod n m, mod-lt n h));
    }
