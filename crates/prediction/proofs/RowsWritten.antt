-- Stores as the code makes them: a row at once, a block by rows. What is stored at a place is made of what stood there before.
use mathlib.Core.Path.{◌≡◌, refl, ap, ◌∙◌}
use mathlib.Core.List.{List}
use Prim.Native.Nat.{ℕ, ◌+◌, ◌*◌, ◌-◌, ◌≤◌, ◌<◌}
use native.Mathlib.Omega.{arith}
use lib.ListN.{length, get_or, replicate, length-replicate}
use Rattle.laws.specs.Stores.{store_row, store_rows}
use Rattle.laws.proofs.Lists.{Stored, all-stored, row-alike, row_in, length-rows, rows_on, rows-fresh}

-- a row that was made in an array, and is put in its place
pub made_row : (l : List ℕ) (at : ℕ) {f : ℕ → ℕ} {b x : ℕ} {row now : List ℕ} → Stored (replicate b 0) 0 f b row x → b ≤ x
    → now ≡ store_row l at (λ x. get_or row x 0) b → now ≡ store_row l at f b
made_row l at {f} {b} made all put =
    put
    ∙ row-alike l at _ _ b
    (λ x r.
    ap (λ (z : List ℕ). get_or z x 0) (all-stored made all)
    ∙ row_in (replicate b 0) 0 f b x x 0 (omega (arith, length-replicate {A = ℕ} b 0)) r (omega arith))

-- ---- a block by rows

-- y rows of a block of n rows of b are written, which begins at di in rows of dw; g makes each number of what stood at its place, and of its row and column
pub record RowsWritten (d : List ℕ) (di dw b n : ℕ) (g : ℕ → ℕ → ℕ → ℕ) (now : List ℕ) (y : ℕ) : Type 0 where
  pub wide : b ≤ dw
  pub fit : di + (n - 1) * dw + b ≤ length d
  pub most : y ≤ n
  pub long : length now ≡ length d
  pub is : now ≡ store_rows d di dw b (λ y x. g (get_or d (di + y * dw + x) 0) y x) y

module _ {d : List ℕ} {di dw b n : ℕ} {g : ℕ → ℕ → ℕ → ℕ} where
  pub no_line : b ≤ dw → di + (n - 1) * dw + b ≤ length d → RowsWritten d di dw b n g d 0
  unfolding store_rows
  no_line h f = record { wide = h; fit = f; most = omega arith; long = refl; is = refl }

  -- the loop's turn
  pub line_on : {before now : List ℕ} {y : ℕ} → RowsWritten d di dw b n g before y → y < n
      → now ≡ store_row before (di + y * dw) (λ x. g (get_or before (di + y * dw + x) 0) y x) b → RowsWritten d di dw b n g now (y + 1)
  line_on {before} {now} {y} l q p =
      let e : now ≡ store_rows d di dw b (λ y x. g (get_or d (di + y * dw + x) 0) y x) (y + 1) =
      rows_on d di dw b (λ y x. g (get_or d (di + y * dw + x) 0) y x) y l.is
      (p
      ∙ row-alike before (di + y * dw) (λ x. g (get_or before (di + y * dw + x) 0) y x) (λ x. g (get_or d (di + y * dw + x) 0) y x) b
      (λ x q.
      ap (λ (n : ℕ). g n y x)
      (ap (λ (z : List ℕ). get_or z (di + y * dw + x) 0) l.is
      ∙ rows-fresh d di dw b (λ y x. g (get_or d (di + y * dw + x) 0) y x) y (di + y * dw + x) 0 l.wide (omega arith)))) in
      record {
        wide = l.wide;
        fit = l.fit;
        most = omega arith;
        long = ap length e ∙ length-rows d di dw b (λ y x. g (get_or d (di + y * dw + x) 0) y x) (y + 1);
        is = e;
      }

  pub lines-all : {now : List ℕ} {y : ℕ} → RowsWritten d di dw b n g now y → n ≤ y → now ≡ store_rows d di dw b (λ y x. g (get_or d (di + y * dw + x) 0) y x) n
  lines-all {now} {y} l h = let e : y ≡ n = omega arith in l.is ∙ ap (store_rows d di dw b (λ y x. g (get_or d (di + y * dw + x) 0) y x)) e
