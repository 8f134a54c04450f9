-- The loop of a program is a loop with fuel over its state and place, so more fuel than its turns need changes nothing. Assumes nothing.
use mathlib.Core.Path.{◌≡◌, refl, ap, sym, subst, ◌∙◌}
use mathlib.Core.Bool.{true}
use mathlib.Core.List.{List}
use Prim.Native.Nat.{ℕ, zero, suc, ◌≤◌, ◌<◌}
use native.Mathlib.Omega.{arith}
use Rattle.laws.specs.Loops.{Step, continue, finish, iterate, finishes}
use Rattle.laws.proofs.Loops.{more-fuel, enough-fuel}
use Rattle.bits.specs.Programs.{Prog, RunResult, run, continue_with, loop}
use Rattle.bits.specs.Runs.{RunsAt}
use Rattle.bits.proofs.Programs.{run_bind}

-- what a turn of the program did, on its state and place
abbrev turned : {S A : Type 0} → Step S A → ℕ → Step (RunResult S) (RunResult A)
turned (continue x) e = continue (record { value = x; at = e })
turned (finish v) e = finish (record { value = v; at = e })

module _ {S A : Type 0} (f : S → Prog (Step S A)) (s : List ℕ) where
  abbrev step : RunResult S → Step (RunResult S) (RunResult A)
  step w = turned (run (f w.value) s w.at).value (run (f w.value) s w.at).at

  run-loop : (n : ℕ) (d : A) (x : S) (a : ℕ) → run (loop n f d x) s a ≡ iterate n step (λ w. record { value = d; at = w.at })
      (record { value = x; at = a })
  unfolding run loop iterate
  run-loop zero d x a = refl
  run-loop (suc n) d x a = run_bind (f x) (continue_with (loop n f d)) s a ∙ go (run (f x) s a).value (run (f x) s a).at (λ y e. run-loop n d y e)
    where
      go : (t : Step S A) (e : ℕ)
          → ((y : S) (e : ℕ) → run (loop n f d y) s e ≡ iterate n step (λ w. record { value = d; at = w.at }) (record { value = y; at = e }))
          → run (continue_with (loop n f d) t) s e ≡ elim (turned t e) [ continue y ↦ iterate n step (λ w. record { value = d; at = w.at }) y | finish v ↦ v ]
      go (continue y) e k = k y e
      go (finish v) e k = refl

  -- a loop one of whose first n turns stops gives the same with more fuel
  pub loop-more-fuel : (n m : ℕ) (d e : A) (x : S) (a : ℕ) → n ≤ m → finishes n step (record { value = x; at = a }) ≡ true
      → run (loop n f d x) s a ≡ run (loop m f e x) s a
  loop-more-fuel n m d e x a h p = run-loop n d x a ∙ more-fuel step n m _ _ (record { value = x; at = a }) h p ∙ sym (run-loop m e x a)

  -- a measure of state and place that each turn that goes on brings down: any fuel above it gives the same
  pub loop-enough-fuel : (μ : S → ℕ → ℕ) → ((x y : S) (a e : ℕ) → RunsAt (f x) s a (continue y) e → μ y e < μ x a)
      → (n m : ℕ) (d e : A) (x : S) (a : ℕ) → μ x a < n → μ x a < m → run (loop n f d x) s a ≡ run (loop m f e x) s a
  loop-enough-fuel μ falls n m d e x a h k =
      run-loop n d x a
      ∙ enough-fuel step (λ w. Unit {0}) (λ w. μ w.value w.at) (λ w u p q. (tt, less w u (run (f w.value) s w.at).value refl q)) n m _ _
      (record { value = x; at = a }) tt h k
      ∙ sym (run-loop m e x a)
    where
      state : RunResult S → Step (RunResult S) (RunResult A) → RunResult S
      state w (continue u) = u
      state w (finish v) = w

      less : (w u : RunResult S) (t : Step S A) → (run (f w.value) s w.at).value ≡ t → turned t (run (f w.value) s w.at).at ≡ continue u
          → μ u.value u.at < μ w.value w.at
      less w u (continue y) r q =
          subst (λ (o : RunResult S). μ o.value o.at < μ w.value w.at) (ap (state w) q)
          (falls w.value y w.at (run (f w.value) s w.at).at (record { is = λ i. record { value = r i; at = (run (f w.value) s w.at).at } }))
      less w u (finish v) r q =
          let z : ◌≡◌ {A = ℕ} 0 1 = cc q in
          let no : ⊥ = omega arith in
          absurd no
