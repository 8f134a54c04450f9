-- 2.4.2.2: the search for a picture start code finds the one that the standard's run goes on to. Assumes nothing.
use mathlib.Core.Path.{◌≡◌, refl, sym, ap, ◌∙◌, subst}
use mathlib.Core.Bool.{Bool, true, false, cond, ◌||◌, true≢false, false≢true}
use mathlib.Core.List.{List}
use Prim.Native.Nat.{ℕ, zero, suc, ◌*◌, ◌<◌}
use native.Mathlib.Omega.{arith}
use borrow.Author.Tests.{eqb-true}
use lib.IntN.{ℤ, pos, negsuc}
use lib.ListN.{length}
use Rattle.laws.specs.Loops.{continue, finish, iterate}
use Rattle.bits.specs.Bits.{Found, boundary, found}
use Rattle.bits.specs.Programs.{RunResult, done, run, bind, eq_z, loop, continue_with, stream_fuel, find_step}
use Rattle.bits.proofs.Start.{Searched, first, none, found-is-first}
use Rattle.picture_state.specs.declared.types.Matrices.{Matrices}
use Rattle.picture_state.specs.Result.{Result, ok, error}
use Rattle.standard.specs.Standard.Prelude.{Forbidden}
use Rattle.standard.specs.Standard.Prelude.{forbidden, conforms}
use Rattle.sequence.specs.Sequence.{is_skipped, follow_step, following}

abbrev turned : List ℕ → ℕ → Found → RunResult ℤ
turned s n f =
    run (bind (cond (eq_z f.code (pos 0) || eq_z f.code (negsuc 0)) (done (finish f.code)) (done (continue tt)))
    (continue_with (loop n (find_step (pos 0)) (negsuc 0)))) s f.at

-- f is a picture start code with a byte behind it, and what our search from a on finds
pub record Next (s : List ℕ) (n a : ℕ) (f : Found) : Type 0 where
  pub inside : f.at < length s * 8
  pub runs : run (loop n (find_step (pos 0)) (negsuc 0) tt) s a ≡ record { value = pos 0; at = f.at }

abbrev found_in : Found → Result Forbidden Found → Found
found_in d (ok f) = f
found_in d (error e) = d

is_zero : (c : ℤ) → eq_z c (pos 0) ≡ true → c ≡ pos 0
is_zero (pos n) e = ap pos (eqb-true n 0 e)
is_zero (negsuc n) e = absurd (false≢true e)

-- what is passed over is a start code
passed-code : (m : Matrices) (s : List ℕ) (c : ℤ) (e : ℕ) → is_skipped m s (record { code = c; at = e }) ≡ true → eq_z c (negsuc 0) ≡ false
passed-code m s (pos n) e h = refl
passed-code m s (negsuc n) e h = absurd (false≢true h)

-- a byte follows a code that is found
code_inside : {s : List ℕ} {b : ℕ} (f : Found) → Searched s b f → f.code ≡ pos 0 → f.at < length s * 8
code_inside f (first p w q) z = omega (arith, w.five, ap (λ (f : Found). f.at) q)
code_inside f (none w q) z = absurd (true≢false (ap (λ (k : ℤ). eq_z k (pos 0)) (sym z ∙ ap (λ (f : Found). f.code) q)))

abbrev follows : Matrices → List ℕ → ℕ → ℕ → Result Forbidden Found
follows m s n a = iterate n (follow_step (pos 0) m s) (λ a. forbidden) a

follows-finds : (m : Matrices) (s : List ℕ) (n a : ℕ) (f : Found) → follows m s n a ≡ ok f → Next s n a f
unfolding iterate loop find_step run bind
follows-finds m s zero a f h = absurd (false≢true (ap conforms h))
follows-finds m s (suc n) a f h =
    go (found s a) refl (eq_z (found s a).code (pos 0)) refl (is_skipped m s (found s a)) refl h (λ b i. follows-finds m s n b f i)
  where
    go : (g : Found) → found s a ≡ g → (t : Bool) → eq_z g.code (pos 0) ≡ t → (u : Bool) → is_skipped m s g ≡ u
        → ◌≡◌ {A = Result Forbidden Found}
        (elim (cond t (finish (ok g)) (cond u (continue g.at) (finish forbidden))) [ continue y ↦ follows m s n y | finish v ↦ v ])
        (ok f)
        → ((b : ℕ) → follows m s n b ≡ ok f → Next s n b f) → Next s (suc n) a f
    go g q true t u p h r =
        let same : g ≡ f = ap (found_in g) h in
        let z : f.code ≡ pos 0 = is_zero f.code (subst (λ (k : Found). eq_z k.code (pos 0) ≡ true) same t) in
        record {
          inside = code_inside f (subst (Searched s (boundary a)) (q ∙ same) (found-is-first s a)) z;
          runs = ap (turned s n) (q ∙ same) ∙ ap (λ (k : ℤ). turned s n (record { code = k; at = f.at })) z;
        }
    go g q false t true p h r =
        let i = r g.at h in
        let no : (eq_z g.code (pos 0) || eq_z g.code (negsuc 0)) ≡ false = rw (t, passed-code m s g.code g.at p) in
        record {
          inside = i.inside;
          runs = ap (turned s n) q
              ∙ ap (λ (b : Bool). run (bind (cond b (done (finish g.code)) (done (continue tt))) (continue_with (loop n (find_step (pos 0)) (negsuc 0)))) s
              g.at) no
              ∙ i.runs;
        }
    go g q false t false p h r = absurd (false≢true (ap conforms h))

pub following-finds : (m : Matrices) (s : List ℕ) (a : ℕ) (f : Found) → following (pos 0) m s a ≡ ok f → Next s stream_fuel a f
unfolding following
following-finds m s a f h = follows-finds m s stream_fuel a f h
