-- The run of a program that may leave early, from those of its parts. Assumes nothing.
use mathlib.Core.Path.{◌≡◌, refl, ap, ◌∙◌}
use mathlib.Core.List.{List}
use Prim.Native.Nat.{ℕ}
use Rattle.laws.specs.Loops.{Step, continue, finish}
use Rattle.bits.specs.Programs.{Prog, RunResult, done, run, bind}
use Rattle.bits.proofs.Programs.{run_bind}
use Rattle.picture_state.specs.Result.{Result, ok, if_ok, bind_result, lift, from_result}

module _ {E A B : Type 0} where
  -- behind a part that has no errors
  pub run_lift : (p : Prog A) (f : A → Prog (Result E B)) (s : List ℕ) (a : ℕ) → run (bind_result (lift p) f) s a ≡ run (f (run p s a).value) s (run p s a).at
  unfolding bind_result lift if_ok run
  run_lift p f s a =
      run_bind (bind p (λ v. done (ok v))) (if_ok f) s a
      ∙ ap (λ (o : RunResult (Result E A)). run (if_ok f o.value) s o.at) (run_bind p (λ v. done (ok v)) s a)

  -- behind a result
  pub run-result : (w : Result E A) (f : A → Prog (Result E B)) (s : List ℕ) (a : ℕ) → run (bind_result (from_result w) f) s a ≡ run (if_ok f w) s a
  unfolding bind_result bind
  run-result w f s a = refl

module _ {S A : Type 0} where
  abbrev value_of : A → Step S A → A
  value_of d (continue x) = d
  value_of d (finish v) = v

  pub finish_injective : {v w : A} → ◌≡◌ {A = Step S A} (finish v) (finish w) → v ≡ w
  finish_injective {v} h = ap (value_of v) h
