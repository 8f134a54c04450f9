-- RULES 7.7: the fuel `stream_fuel` of an address increment is enough: each code that goes on takes a bit of the stream. Assumes nothing.
use mathlib.Core.Path.{◌≡◌, refl, ap, sym, ◌∙◌}
use mathlib.Core.Bool.{true, false, ◌&&◌, false≢true}
use mathlib.Core.List.{List}
use Prim.Native.Nat.{ℕ, ◌*◌, ◌≤◌, ◌<◌}
use native.Mathlib.Nat.{le_trans, lt_of_lt_of_le}
use lib.Dec.{eqb}
use lib.ListN.{length}
use Rattle.laws.specs.Loops.{Step}
use Rattle.bits.specs.Bounds.{longest_stream, last_position}
use Rattle.bits.specs.Programs.{Prog, loop, stream_fuel, run}
use Rattle.laws.proofs.Tests.{by-case, both}
use Rattle.bits.proofs.Programs.{run_bind, bind-on}
use Rattle.bits.proofs.Rules.{Takes, at-run}
use Rattle.codes.specs.Codes.{macroblock_address_increment}
use Rattle.codes.specs.Tables.{macroblock_address_increment_index, macroblock_address_increment_value}
use Rattle.codes.proofs.Good.{good-macroblock-address-increment}
use Rattle.codes.proofs.Vlc.{vlc-takes}
use Rattle.macroblock_head.specs.Increments.{increment_step, increment}
use Rattle.macroblock_head.proofs.IncrementBound.{code-served}
use Rattle.bits.proofs.EnoughFuel.{enough, loop-past}

code-takes : (s : List ℕ) (a : ℕ) → a < length s * 8 → a < (run macroblock_address_increment s a).at
unfolding macroblock_address_increment
code-takes s a h = vlc-takes macroblock_address_increment_index macroblock_address_increment_value 0 {s = s} {a = a}
    at-run good-macroblock-address-increment h

pub increment-takes : (s : List ℕ) (sum a : ℕ) → Takes (length s * 8) a (run (increment_step sum) s a).value (run (increment_step sum) s a).at
unfolding increment_step run
increment-takes s sum a =
    let c = (run macroblock_address_increment s a).value in
    let e = (run macroblock_address_increment s a).at in
    let Ends : Prog (Step ℕ ℕ) → Type 0 = λ p. Takes (length s * 8) a (run p s e).value (run p s e).at in
    let served : (k : ℕ) → eqb 0 k ≡ false → eqb c k ≡ true → (a < e) × (a < length s * 8) =
    λ k z q. let l = code-served s a (λ i. false≢true (sym z ∙ sym (ap (λ (x : ℕ). eqb x k) i) ∙ q)) in (code-takes s a l, l) in
    rw (run_bind macroblock_address_increment _ s a)
    (by-case Ends (eqb c 34 && eqb sum 0) (λ q. served 34 refl (both _ _ q).0) (λ q. by-case Ends (eqb c 35) (λ q. served 35 refl q) (λ q. tt)))

-- RULES 7.7
pub increment-fuel : (s : List ℕ) → length s ≤ longest_stream → (n : ℕ) → stream_fuel ≤ n → (d a : ℕ)
    → run (loop n increment_step d 0) s a ≡ run increment s a
unfolding increment
increment-fuel s l n m d a = enough s increment_step (increment-takes s) l n m d 0 0 a

pub first-takes : (s : List ℕ) (a : ℕ) → a < length s * 8 → a < (run increment s a).at
unfolding increment increment_step
first-takes s a h =
    lt_of_lt_of_le (code-takes s a h) (le_trans (bind-on macroblock_address_increment _ s a) (loop-past increment_step 0 0 s a stream_fuel last_position refl))
