-- Eight numbers by their places.
use mathlib.Core.Path.{◌≡◌, refl}
use Prim.Native.Nat.{ℕ, zero, suc, ◌<◌}
use native.Mathlib.Omega.{arith}
use lib.Dec.{lit<}
use lib.IntN.{ℤ}
use Rattle.transform.specs.Butterfly.{eight, nth}

pub nth-eight : (f : ℕ → ℤ) (k : ℕ) → k < 8 → nth (eight f) k ≡ f k
nth-eight f zero h = refl
nth-eight f (suc zero) h = refl
nth-eight f (suc (suc zero)) h = refl
nth-eight f (suc (suc (suc zero))) h = refl
nth-eight f (suc (suc (suc (suc zero)))) h = refl
nth-eight f (suc (suc (suc (suc (suc zero))))) h = refl
nth-eight f (suc (suc (suc (suc (suc (suc zero)))))) h = refl
nth-eight f (suc (suc (suc (suc (suc (suc (suc zero))))))) h = refl
nth-eight f (suc (suc (suc (suc (suc (suc (suc (suc k)))))))) h = let z : ⊥ = omega arith in absurd z

pub eight-same : (f g : ℕ → ℤ) → ((k : ℕ) → k < 8 → f k ≡ g k) → eight f ≡ eight g
eight-same f g h =
    λ i. record {
      v0 = h 0 (lit< tt) i;
      v1 = h 1 (lit< tt) i;
      v2 = h 2 (lit< tt) i;
      v3 = h 3 (lit< tt) i;
      v4 = h 4 (lit< tt) i;
      v5 = h 5 (lit< tt) i;
      v6 = h 6 (lit< tt) i;
      v7 = h 7 (lit< tt) i;
    }
