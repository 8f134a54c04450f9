-- A loop each of whose turns that go on takes a bit of the stream: its fuel `stream_fuel` is enough. Assumes nothing.
use mathlib.Core.Path.{◌≡◌}
use mathlib.Core.List.{List}
use Prim.Native.Nat.{ℕ, suc, ◌-◌, ◌*◌, ◌≤◌, ◌<◌}
use native.Mathlib.Omega.{arith}
use lib.ListN.{length}
use Rattle.laws.specs.Loops.{Step, continue, finish}
use Rattle.bits.specs.Bounds.{longest_stream}
use Rattle.bits.specs.Programs.{Prog, loop, stream_fuel, run, continue_with}
use Rattle.bits.proofs.Fuel.{loop-enough-fuel}
use Rattle.bits.proofs.Programs.{run_on}
use Rattle.bits.proofs.Rules.{Takes, loop_suc}

pub takes : {S A : Type 0} (m a : ℕ) (t : Step S A) (e : ℕ) → a < e → a < m → Takes m a t e
takes m a (continue y) e h l = (h, l)
takes m a (finish v) e h l = tt

-- the law: such a loop ends within the bits of the stream and one turn more
pub enough : {S A : Type 0} (s : List ℕ) (f : S → Prog (Step S A))
    → ((x : S) (a : ℕ) → Takes (length s * 8) a (run (f x) s a).value (run (f x) s a).at) → length s ≤ longest_stream
    → (n : ℕ) → stream_fuel ≤ n → (d e : A) (x : S) (a : ℕ) → run (loop n f d x) s a ≡ run (loop stream_fuel f e x) s a
enough s f h l n m d e x a =
    loop-enough-fuel f s (λ x a. length s * 8 - a) (λ x y a e r. let t = rw r.is at (h x a) in omega arith) n stream_fuel d e x a (omega arith) (omega arith)

-- a loop ends no earlier than its first turn
pub loop-past : {S A : Type 0} (f : S → Prog (Step S A)) (d : A) (x : S) (s : List ℕ) (a n m : ℕ) → n ≡ suc m
    → (run (f x) s a).at ≤ (run (loop n f d x) s a).at
loop-past f d x s a n m h = rw (loop_suc n m f d x s a h) (run_on (continue_with (loop m f d) (run (f x) s a).value) s (run (f x) s a).at)
