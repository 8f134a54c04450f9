-- A block that is made row by row, from one part of the store into another that is apart from it: what the rows ask, and what they make.
use Rattle.std.specs.Prelude.{Bool, true, cond, List, ◌⊎◌, ℕ, ◌+◌, ◌*◌, ◌-◌, ◌≤◌, get_or}
use Rattle.laws.specs.Stores.{store_rows}
use Rattle.prediction.specs.Samples.{average2, sample, stored_sample}

-- b rows of b, the first at `from` or `to` and each next one dw further, lie in n bytes; those at `from` are read e further, and the two are apart
pub record Disjoint (n from to dw b e : ℕ) : Type 0 where
  pub wide : b ≤ dw
  pub source : from + (b - 1) * dw + b + e ≤ n
  pub target : to + (b - 1) * dw + b ≤ n
  pub beside : (from + (b - 1) * dw + b + e ≤ to) ⊎ (to + (b - 1) * dw + b ≤ from)

-- RULES 6.7: the sample at i, averaged with the one that stands `other` further
abbrev pub averaged_pair : ℕ → List ℕ → ℕ → ℕ
averaged_pair other s i = average2 (get_or s i 0) (get_or s (i + other) 0)

-- RULES 6.7: the same by half samples
abbrev pub sampled : ℕ → Bool → Bool → List ℕ → ℕ → ℕ
sampled dw across down s i = sample s dw across down i

-- RULES 6.7: the average of four, or of two
abbrev pub averaged_four_or_two : ℕ → ℕ → Bool → List ℕ → ℕ → ℕ
averaged_four_or_two dw other four s i = cond four (sampled dw true true s i) (averaged_pair other s i)

-- RULES 6.8: what f makes of the store at i, in place of what stands at o or averaged with it
abbrev pub stored_sample_at : Bool → (List ℕ → ℕ → ℕ) → List ℕ → ℕ → ℕ → ℕ
stored_sample_at interpolate f s i o = stored_sample interpolate (get_or s o 0) (f s i)

-- RULES 6.7, 6.8: the store with b rows of b at `to`, made so of those at `from`
abbrev pub stored_rows : Bool → (List ℕ → ℕ → ℕ) → List ℕ → ℕ → ℕ → ℕ → ℕ → List ℕ
stored_rows interpolate f s from to dw b = store_rows s to dw b (λ y x. stored_sample_at interpolate f s (from + y * dw + x) (to + y * dw + x)) b
