-- RULES 7.7: how large an address increment can be. An escape adds 33 and takes 11 bits, or those that the stream still has, so that a stream of n bytes
-- makes no increment above 24 n + 33. Assumes nothing.
use mathlib.Core.Path.{◌≡◌, sym, ap, ◌∙◌, subst}
use mathlib.Core.Bool.{Bool, true, cond, ◌&&◌}
use mathlib.Core.List.Memᴰ
use mathlib.Core.List.{List, [], ◌∷◌}
use mathlib.Core.Logic.{⊎_elim}
use Prim.Native.Nat.{ℕ, suc, ◌+◌, ◌*◌, ◌≤◌, ◌<◌}
use native.Mathlib.Decide.{dec_lt}
use native.Mathlib.Omega.{arith}
use borrow.Author.Tests.{eqb-true, eq-eqb}
use lib.Dec.{T, eqb, eqb→eq}
use lib.IntN.{pos}
use lib.ListN.{length, get_or, get_or-eq_default}
use mir.Facts.{and_yes}
use Rattle.laws.specs.Loops.{Step}
use Rattle.laws.proofs.Tables.{every, at}
use Rattle.bits.specs.Programs.{RunResult, Prog, done, run, stream_fuel}
use Rattle.bits.proofs.Rules.{at-run}
use Rattle.bits.proofs.Programs.{run_bind}
use Rattle.bits.proofs.Gives.{Gives, Leaves, loop-value}
use Rattle.laws.proofs.Tests.{by-case}
use Rattle.codes.specs.Codes.{macroblock_address_increment}
use Rattle.codes.specs.Standard.{Code, ◌∈◌, taken, macroblock_address_increment_codes}
use Rattle.codes.specs.Tables.{macroblock_address_increment_index, macroblock_address_increment_value}
use Rattle.codes.specs.Walk.{walk, vlc}
use Rattle.codes.proofs.Standard.{agrees-macroblock-address-increment}
use Rattle.codes.proofs.Values.{increment-most as code-most}
use Rattle.macroblock_head.specs.Increments.{increment_step, increment}

-- the escape is one code, of 11 bits
rows_pass : (p : Code ℕ → Bool) (codes : List (Code ℕ)) → T (every (λ k. p) 0 codes) → (c : Code ℕ) → c ∈ codes → T (p c)
rows_pass p codes = go 0 codes
  where
    go : (i : ℕ) (codes : List (Code ℕ)) → T (every (λ k. p) i codes) → (c : Code ℕ) → c ∈ codes → T (p c)
    go i [] t c m = absurd (Memᴰ.not-nil m)
    go i (x ∷ codes) t c m =
        let u = and_yes (p x) (every (λ k. p) (suc i) codes) t in
        ⊎_elim (λ (e : c ≡ x). subst (λ (y : Code ℕ). T (p y)) (sym e) u.0) (λ r. go (suc i) codes u.1 c r) (Memᴰ.cases_cons m)

escape-bits : (c : Code ℕ) → c ∈ macroblock_address_increment_codes → c.value ≡ 35 → c.bits ≡ 11
unfolding macroblock_address_increment_codes
escape-bits c m e =
    let t = rows_pass (λ c. cond (eqb c.value 35) (eqb c.bits 11) true) macroblock_address_increment_codes tt c m in
    eqb→eq c.bits 11 (rw (eq-eqb c.value 35 e) at t)

-- and has one entry of the table
escape-position : (k : ℕ) → get_or macroblock_address_increment_value k 0 ≡ 35 → k ≡ 64
unfolding macroblock_address_increment_value
escape-position k e = go (dec_lt k (length macroblock_address_increment_value))
  where
    go : Dec (k < length macroblock_address_increment_value) → k ≡ 64
    go (yes h) =
        let t = at (λ k z. cond (eqb z 35) (eqb k 64) true) macroblock_address_increment_value 0 tt k h in
        eqb→eq k 64 (rw (eq-eqb (get_or macroblock_address_increment_value k 0) 35 e) at t)
    go (no h) =
        let d = get_or-eq_default macroblock_address_increment_value 0 {n = k} (omega arith) in
        let z : ◌≡◌ {A = ℕ} 0 35 = sym d ∙ e in
        let n : ⊥ = omega arith in
        absurd n

escape-ends : (k : ℕ) → k ≡ 64 → get_or macroblock_address_increment_index k (pos 0) ≡ pos 0
unfolding macroblock_address_increment_index
escape-ends k e = rw e

module _ (s : List ℕ) (a : ℕ) where
  abbrev pub code : RunResult ℕ
  code = run macroblock_address_increment s a

  code-small : code.value ≤ 35
  code-small = code-most.value a

  -- past the end the code is 0
  code-idle : length s * 8 ≤ a → code.value ≡ 0
  unfolding macroblock_address_increment
  code-idle h = ap (λ (o : RunResult ℕ). o.value) (agrees-macroblock-address-increment.past_end s a h).is

  -- so that any other is of bits in the stream
  pub code-served : (code.value ≡ 0 → ⊥) → a < length s * 8
  code-served g = go (dec_lt a (length s * 8))
    where
      go : Dec (a < length s * 8) → a < length s * 8
      go (yes h) = h
      go (no h) = absurd (g (code-idle (omega arith)))

  escape-inside : code.value ≡ 35 → a < length s * 8
  escape-inside e = code-served (λ z. let w : ◌≡◌ {A = ℕ} 0 35 = sym z ∙ e in omega arith)

  escape-takes : code.value ≡ 35 → code.at ≡ taken s a 11
  unfolding macroblock_address_increment vlc run
  escape-takes e =
      let k = (run (walk macroblock_address_increment_index) s a).value in
      let r = run_bind (walk macroblock_address_increment_index) (λ k. done (get_or macroblock_address_increment_value k 0)) s a in
      let v : get_or macroblock_address_increment_value k 0 ≡ 35 = sym (ap (λ (o : RunResult ℕ). o.value) r) ∙ e in
      let o = agrees-macroblock-address-increment.only s a k (run (walk macroblock_address_increment_index) s a).at at-run
      (escape-ends k (escape-position k v)) in
      ap (λ (o : RunResult ℕ). o.at) r ∙ sym o.4 ∙ ap (taken s a) (escape-bits o.0 o.1 (o.3 ∙ v))

-- the sum so far, at the place a
pub record Sum (s : List ℕ) (sum a : ℕ) : Type 0 where
  pub before : a < length s * 8 → sum ≤ 3 * a
  pub most : sum ≤ 24 * length s + 33

module _ (s : List ℕ) (sum a : ℕ) (i : Sum s sum a) where
  escape-on : (code s a).value ≡ 35 → Sum s (sum + 33) (code s a).at
  escape-on e =
      let b = i.before (escape-inside s a e) in
      record { before = λ h. omega (arith, escape-takes s a e); most = omega (arith, escape-inside s a e) }

  last-most : sum + (code s a).value ≤ 24 * length s + 33
  last-most = go (dec_lt a (length s * 8))
    where
      go : Dec (a < length s * 8) → sum + (code s a).value ≤ 24 * length s + 33
      go (yes h) = omega (arith, i.before h, code-small s a)
      go (no h) = omega (arith, i.most, code-idle s a (omega arith))

pub step_sum : (s : List ℕ) (sum a : ℕ) → Sum s sum a → Leaves (Sum s) (λ n. n ≤ 24 * length s + 33) (run (increment_step sum) s a).value
    (run (increment_step sum) s a).at
unfolding increment_step run
step_sum s sum a i =
    let c = (run macroblock_address_increment s a).value in
    let e = (run macroblock_address_increment s a).at in
    let Ends : Prog (Step ℕ ℕ) → Type 0 = λ p. Leaves (Sum s) (λ n. n ≤ 24 * length s + 33) (run p s e).value (run p s e).at in
    rw (run_bind macroblock_address_increment _ s a)
    (by-case Ends (eqb c 34 && eqb sum 0) (λ q. record { before = λ h. omega arith; most = omega arith }) (λ q.
    by-case Ends (eqb c 35) (λ q. escape-on s sum a i (eqb-true c 35 q)) (λ q. last-most s sum a i)))

pub increment-most : (s : List ℕ) → Gives s (λ n. n ≤ 24 * length s + 33) increment
unfolding increment
increment-most s =
    record {
      value = λ a. loop-value s (Sum s) (λ n. n ≤ 24 * length s + 33) increment_step 0 (step_sum s) (omega arith) stream_fuel 0 a
          (record { before = λ h. omega arith; most = omega arith });
    }
