-- The answers of `prediction_source`, by the numbers that the code finds, and what is known of a block that is copied.
use mathlib.Core.Path.{◌≡◌, refl, ap, ap₂, ◌∙◌}
use mathlib.Core.Bool.{Bool, true, false, cond, ◌||◌}
use Prim.Native.Nat.{ℕ, ◌+◌, ◌≤◌, ◌<◌}
use native.Mathlib.Omega.{arith}
use borrow.Author.Rules.{sfits_of}
use borrow.Author.Tests.{lt-ltb, le-ltb, ltb-false}
use lib.Dec.{ltb}
use lib.IntN.{ℤ, pos, negsuc, nat_abs}
use lib.Signed.{lt_z, mag}
use mir.Facts.{to_z-of_z}
use mir.Syntax.{w32}
use Rattle.std.specs.Int.{FitsUnsignedBits}
use Rattle.std.specs.Prelude.{Some, None, Ok, Err}
use Rattle.laws.proofs.Ints.{reread}
use Rattle.laws.proofs.Nums.{num, rd}
use Rattle.prediction.specs.declared.position.BlockPosition.{BlockPosition}
use Rattle.prediction.specs.Predict.{PredictionSource, half_sample_outside, start, max_address, reach, prediction_source}

-- the three answers
abbrev outside : PredictionSource
outside = Ok None

abbrev refused : PredictionSource
refused = Err half_sample_outside

abbrev pub source_at : ℕ → PredictionSource
source_at a = Ok (Some a)

-- a number of 32 bits that is no natural number of 64 is negative
no-natural : (z : ℤ) → mag z < 2147483648 → (FitsUnsignedBits 64 z → ⊥) → lt_z z (pos 0) ≡ true
no-natural (pos n) most outside = absurd (outside (omega arith))
no-natural (negsuc n) most outside = refl

natural : (z : ℤ) {a : ℕ} → FitsUnsignedBits 64 z × (a ≡ nat_abs z) → pos a ≡ z
natural (pos n) fits = ap pos fits.1
natural (negsuc n) fits = absurd fits.0

-- a component, as the code reads it
vector_read : {z : ℤ} → nat_abs z ≤ 2048 → reread w32 z ≡ z
vector_read most = (rd w32 (num most) tt).is

module _ (p : BlockPosition) (h v : ℤ) where
  -- a start that was found, and is read back from 32 bits
  module _ {z : ℤ} (most : mag z < 2147483648) (is : z ≡ start p h v) where
    read_back : reread w32 z ≡ z
    read_back = to_z-of_z (sfits_of {w = w32} most)

    pub below : (FitsUnsignedBits 64 (reread w32 z) → ⊥) → outside ≡ prediction_source p h v
    unfolding prediction_source
    below h = rw (← is, no-natural z most (rw read_back at h))

    pub starts_at : {a : ℕ} → FitsUnsignedBits 64 (reread w32 z) × (a ≡ nat_abs (reread w32 z)) → pos a ≡ start p h v
    starts_at h = natural z (rw read_back at h) ∙ is

  pub reach_read : {n : ℕ} → (nat_abs h ≤ 2048) × (nat_abs v ≤ 2048) → n ≡ reach p (reread w32 h) (reread w32 v) → n ≡ reach p h v
  reach_read near e = e ∙ ap₂ (reach p) (vector_read near.0) (vector_read near.1)

  module _ {a most : ℕ} (starts : pos a ≡ start p h v) (most_is : most ≡ max_address p) where
    pub beyond : most < a → outside ≡ prediction_source p h v
    unfolding prediction_source
    beyond g = rw (← starts, ← most_is, le-ltb a 0 (omega arith), lt-ltb most a g)

    module _ {far : ℕ} (far_is : far ≡ reach p h v) (g : a ≤ most) where
      pub past : most < a + far → refused ≡ prediction_source p h v
      unfolding prediction_source
      past q = rw (← starts, ← most_is, ← far_is, le-ltb a 0 (omega arith), le-ltb most a g, lt-ltb most (a + far) q)

      pub inside : a + far ≤ most → source_at a ≡ prediction_source p h v
      unfolding prediction_source
      inside q = rw (← starts, ← most_is, ← far_is, le-ltb a 0 (omega arith), le-ltb most a g, le-ltb most (a + far) q)

-- a block that is copied reaches no further than the last
pub copied_in : (p : BlockPosition) (h v : ℤ) (a : ℕ) → source_at a ≡ prediction_source p h v → a + reach p h v ≤ max_address p
unfolding prediction_source
copied_in p h v a = go (lt_z (start p h v) (pos 0) || lt_z (pos (max_address p)) (start p h v)) (ltb (max_address p) (nat_abs (start p h v) + reach p h v)) refl
  where
    go : (s t : Bool) → ltb (max_address p) (nat_abs (start p h v) + reach p h v) ≡ t
        → source_at a ≡ cond s outside (cond t refused (source_at (nat_abs (start p h v))))
        → a + reach p h v ≤ max_address p
    go true t r q = let z : ◌≡◌ {A = ℕ} 0 1 = cc in omega arith
    go false true r q = let z : ◌≡◌ {A = ℕ} 0 1 = cc in omega arith
    go false false r q = let n : a ≡ nat_abs (start p h v) = cc in omega (arith, ltb-false (max_address p) (nat_abs (start p h v) + reach p h v) r)
