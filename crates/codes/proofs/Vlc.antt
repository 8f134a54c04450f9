-- What holds of every run of the walk, whatever the table. Assumes nothing.
use mathlib.Core.Path.{sym, subst}
use mathlib.Core.Bool.{Bool}
use mathlib.Core.List.{List}
use Prim.Native.Nat.{ℕ, ◌*◌, ◌<◌}
use native.Mathlib.Decide.{dec_lt}
use native.Mathlib.Omega.{arith}
use lib.Dec.{T}
use lib.ListN.{length, get_or, get_or-eq_default}
use lib.IntN.{ℤ}
use Rattle.laws.proofs.Tables.{every, at}
use Rattle.bits.specs.Bits.{bits_at}
use Rattle.bits.specs.Runs.{RunsAt}
use Rattle.bits.proofs.Rules.{at_same}
use Rattle.codes.specs.TableRule.{ValidIndices}
use Rattle.codes.specs.Walk.{vlc}
use Rattle.codes.proofs.Follow.{follow-some, end, vlc-end}

module _ {A : Type 0} (ix : List ℤ) (vs : List A) (d : A) {s : List ℕ} {a : ℕ} {v : A} {e : ℕ} (r : RunsAt (vlc ix vs d) s a v e) where
  -- before the end of the stream it takes a bit
  pub vlc-takes : ValidIndices ix → a < length s * 8 → a < e
  vlc-takes g h = omega (arith, at_same r (vlc-end ix s a vs d), follow-some ix (bits_at s a) (length ix) 0 0 (omega (arith, g.two)))

  -- its value passes a test that d and all values of the table pass
  pub vlc-passes : (p : A → Bool) → T (p d) → T (every (λ k. p) 0 vs) → T (p v)
  vlc-passes p t u = subst (λ (x : A). T (p x)) (sym (at_same r (vlc-end ix s a vs d)).0) (go (dec_lt k (length vs)))
    where
      k : ℕ
      k = (end ix s a).position

      go : Dec (k < length vs) → T (p (get_or vs k d))
      go (yes h) = at (λ j. p) vs d u k h
      go (no h) = subst (λ (x : A). T (p x)) (sym (get_or-eq_default vs d {n = k} (omega arith))) t
