-- A pass of the transform: the step on one lane after the other, each read and written back. Lane i starts at start i; its numbers are step apart.
use mathlib.Core.Path.{◌≡◌, refl, sym, ap, ◌∙◌, subst}
use mathlib.Core.List.{List}
use mathlib.Core.Logic.{◌⊎◌, inl, inr}
use Prim.Native.Nat.{ℕ, ◌+◌, ◌*◌, ◌≤◌, ◌<◌}
use native.Mathlib.Decide.{dec_lt}
use native.Mathlib.Nat.{add_comm}
use native.Mathlib.Omega.{arith}
use lib.IntN.{ℤ, pos}
use lib.ListN.{length}
use Rattle.laws.specs.Stores.{store_rows}
use Rattle.laws.proofs.Lists.{rows_in, rows_out, length-rows}
use Rattle.transform.specs.declared.butterfly.Eight.{Eight}
use Rattle.transform.specs.Butterfly.{eight, nth, butterfly}
use Rattle.transform.specs.Steps.{over256}
use Rattle.transform.specs.Idct.{at, lane, columns, rows}
use Rattle.transform.proofs.Blocks.{block-is}
use Rattle.transform.proofs.Eights.{eight-same, nth-eight}

-- two different numbers, of which the second is not below the first
above : (x y : ℕ) → (x ≡ y → ⊥) → (y < x → ⊥) → x < y
above x y d u = omega arith

-- eight lanes of eight numbers lie in the block, and no place is in two of them
pub record Lanes (start : ℕ → ℕ) (step : ℕ) : Type 0 where
  pub some : 1 ≤ step
  pub inside : (i : ℕ) → i < 8 → start i + 7 * step + 1 ≤ 64
  pub apart : (i j k n : ℕ) → i < 8 → j < 8 → k < 8 → n < 8 → (i ≡ j → ⊥) → start i + k * step ≡ start j + n * step → ⊥

module _ {start : ℕ → ℕ} {step : ℕ} (L : Lanes start step) (f : Eight → Eight) (l : List ℤ) where
  -- the block a after i lanes of l went through f
  pub record After (a : List ℤ) (i : ℕ) : Type 0 where
    pub most : i ≤ 8
    pub size : length a ≡ 64
    pub done : (j k : ℕ) → j < i → k < 8 → at a (start j + k * step) ≡ nth (f (lane l (start j) step)) k
    pub left : (j k : ℕ) → i ≤ j → j < 8 → k < 8 → at a (start j + k * step) ≡ at l (start j + k * step)

  pub start_pass : length l ≡ 64 → After l 0
  start_pass e = record { most = omega arith; size = e; done = λ j k h q. absurd (omega arith); left = λ j k h p q. refl }

  module _ {a : List ℤ} {i : ℕ} (inv : After a i) (h : i < 8) where
    -- the lane that is read is as it was
    fresh : lane a (start i) step ≡ lane l (start i) step
    fresh = eight-same (λ k. at a (start i + k * step)) (λ k. at l (start i + k * step)) (λ k q. inv.left i k (omega arith) h q)

    -- so what holds of it holds of what is read
    pub kept : (P : Eight → Type 0) {e : Eight} → e ≡ lane a (start i) step → P (lane l (start i) step) → P e
    kept P r = subst P (sym (r ∙ fresh))

    -- the block with the lane written back
    abbrev put : Eight → List ℤ
    put e = store_rows a (start i) step 1 (λ k x. nth e k) 8

    put_same : (e : Eight) (k : ℕ) → k < 8 → at (put e) (start i + k * step) ≡ nth e k
    put_same e k q =
        rows_in a (start i) step 1 (λ k x. nth e k) 8 k 0 (start i + k * step) (pos 0)
        L.some (omega (arith, L.inside i h, inv.size)) q (omega arith) (omega arith)

    put_other : (e : Eight) (j k : ℕ) → j < 8 → k < 8 → (i ≡ j → ⊥) → at (put e) (start j + k * step) ≡ at a (start j + k * step)
    put_other e j k p q g =
        rows_out a (start i) step 1 (λ k x. nth e k) 8 (start j + k * step) (pos 0)
        (λ n r. beside n (L.apart i j n k h p r q g) (dec_lt (start j + k * step) (start i + n * step)))
      where
        beside : (n : ℕ) → (start i + n * step ≡ start j + k * step → ⊥) → Dec (start j + k * step < start i + n * step)
            → (start j + k * step < start i + n * step) ⊎ (start i + n * step + 1 ≤ start j + k * step)
        beside n d (yes u) = inl u
        beside n d (no u) = inr (let v : start i + n * step < start j + k * step = above (start i + n * step) (start j + k * step) d u in omega arith)

    pub step_pass : (e : Eight) (b : List ℤ) → e ≡ f (lane a (start i) step) → b ≡ put e → After b (i + 1)
    step_pass e b p w =
        record {
          most = omega arith;
          size = ap length w ∙ length-rows a (start i) step 1 (λ k x. nth e k) 8 ∙ inv.size;
          done = λ j k r q. ap (λ (x : List ℤ). at x (start j + k * step)) w ∙ done_at j k r q (dec_lt j i);
          left = λ j k r s q.
              ap (λ (x : List ℤ). at x (start j + k * step)) w ∙ put_other e j k s q (λ z. omega arith) ∙ inv.left j k (omega arith) s q;
        }
      where
        done_at : (j k : ℕ) → j < i + 1 → k < 8 → Dec (j < i) → at (put e) (start j + k * step) ≡ nth (f (lane l (start j) step)) k
        done_at j k r q (yes u) = put_other e j k (omega arith) q (λ z. omega arith) ∙ inv.done j k u q
        done_at j k r q (no u) =
            let s : j ≡ i = omega arith in
            ap (λ (n : ℕ). at (put e) (start n + k * step)) s
            ∙ put_same e k q
            ∙ ap (λ (x : Eight). nth x k) (p ∙ ap f fresh)
            ∙ ap (λ (n : ℕ). nth (f (lane l (start n) step)) k) (sym s)

-- ---- the two passes

pub by-columns : Lanes (λ i. i) 8
by-columns = record { some = omega arith; inside = λ i h. omega arith; apart = λ i j k n h p q r g e. g (omega arith) }

pub by_rows : Lanes (λ i. i * 8) 1
by_rows = record { some = omega arith; inside = λ i h. omega arith; apart = λ i j k n h p q r g e. g (omega arith) }

-- the step on a row, rounded
abbrev pub row_step : Eight → Eight
row_step a = eight (λ k. over256 (nth (butterfly a) k))

module _ (l a : List ℤ) {i : ℕ} (h : 8 ≤ i) where
  pub end-columns : After by-columns butterfly l a i → a ≡ columns l
  unfolding columns
  end-columns w =
      block-is (λ y x. nth (butterfly (lane l x 8)) y) a w.size
      (λ y x p q. ap (at a) (add_comm (y * 8) x) ∙ w.done x y (omega arith) p)

  pub end-rows : After by_rows row_step l a i → a ≡ rows l
  unfolding rows
  end-rows w =
      block-is (λ y x. over256 (nth (butterfly (lane l (y * 8) 1)) x)) a w.size
      (λ y x p q.
      let e : y * 8 + x ≡ y * 8 + x * 1 = omega arith in
      ap (at a) e ∙ w.done y x (omega arith) q ∙ nth-eight (λ k. over256 (nth (butterfly (lane l (y * 8) 1)) k)) x q)
