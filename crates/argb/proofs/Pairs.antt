-- A row of colours, two for each place of Cr and Cb.
use mathlib.Core.Path.{◌≡◌, sym, ap, subst}
use mathlib.Core.List.{List}
use Prim.Native.Nat.{ℕ, ◌+◌, ◌*◌, ◌/◌, ◌<◌}
use native.Mathlib.Omega.{arith}
use lib.ListN.{get_or, set}
use Rattle.laws.proofs.Lists.{Stored, stored-first}
use Rattle.argb.specs.Pixel.{argb}
use Rattle.argb.specs.Scaled.{Picture, sample_pixel}

-- the pixel at column x, whose place in Cr and Cb is k
pub at_pair : (p : Picture) (sy x k : ℕ) → x / 2 ≡ k → let c = sy / 2 * (p.luma_width / 2) + k in
    argb (get_or p.y (sy * p.luma_width + x) 0) (get_or p.cr c 0) (get_or p.cb c 0) ≡ sample_pixel p x sy
unfolding sample_pixel
at_pair p sy x k e =
    ap (λ (n : ℕ). let c = sy / 2 * (p.luma_width / 2) + n in argb (get_or p.y (sy * p.luma_width + x) 0) (get_or p.cr c 0) (get_or p.cb c 0)) (sym e)

-- the loop's turn: two more of n
pub pair-on : {l : List ℕ} {f : ℕ → ℕ} {n : ℕ} (k : ℕ) {now : List ℕ} {v u : ℕ} → Stored l 0 f n now (2 * k) → 2 * k + 1 < n
    → v ≡ f (2 * k) → u ≡ f (2 * k + 1)
    → Stored l 0 f n (set (set now (2 * k) v) (2 * k + 1) u) (2 * (k + 1))
pair-on {l} {f} {n} k {now} {v} {u} r h p q =
    let e : 2 * k + 1 + 1 ≡ 2 * (k + 1) = omega arith in
    subst (Stored l 0 f n (set (set now (2 * k) v) (2 * k + 1) u)) e (stored-first (stored-first r (omega arith) p) h q)
