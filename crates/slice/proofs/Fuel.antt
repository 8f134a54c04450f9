-- RULES 7.5, 7.6: the fuel `stream_fuel` of a slice's loops is enough: each turn that goes on takes a bit of the stream. Assumes nothing.
use mathlib.Core.Path.{◌≡◌}
use mathlib.Core.Bool.{Bool, not, ◌&&◌}
use mathlib.Core.List.{List}
use Prim.Native.Nat.{ℕ, ◌-◌, ◌*◌, ◌≤◌, ◌<◌}
use native.Mathlib.Nat.{le_trans, lt_of_lt_of_le}
use native.Mathlib.Omega.{arith}
use borrow.Author.Tests.{leb-true, eqb-false}
use lib.Dec.{eqb}
use lib.ListN.{length}
use Rattle.laws.specs.Loops.{Step}
use Rattle.bits.specs.Bounds.{longest_stream}
use Rattle.bits.specs.Bits.{has, read_at, after_read}
use Rattle.bits.specs.Programs.{Prog, bind, loop, stream_fuel, run}
use Rattle.laws.proofs.Tests.{by-case, both}
use Rattle.bits.proofs.Programs.{run_bind, run_on, bind-on, next_le, got-served}
use Rattle.bits.proofs.Rules.{Takes}
use Rattle.picture_state.specs.declared.types.{Context.Context, Matrices.Matrices}
use Rattle.picture_state.specs.State.{SliceState}
use Rattle.picture_state.specs.Result.{Result, ok, error, bind_result, lift}
use Rattle.picture_state.specs.Stop.{Stop}
use Rattle.macroblock_head.specs.Increments.{increment}
use Rattle.macroblock.specs.Macroblocks.{macroblock}
use Rattle.slice.specs.Slices.{SliceLoopState, is_last, extra_step, extra, after_macroblock, slice_step}
use Rattle.bits.proofs.EnoughFuel.{enough}
use Rattle.macroblock_head.proofs.Fuel.{first-takes}

pub extra-takes : (s : List ℕ) (x : Unit {0}) (a : ℕ) → Takes (length s * 8) a (run (extra_step x) s a).value (run (extra_step x) s a).at
unfolding extra_step run bind
extra-takes s x a =
    by-case (λ (p : Prog (Step (Unit {0}) (Unit {0}))). Takes (length s * 8) a (run p s (after_read s a 1)).value (run p s (after_read s a 1)).at)
    (eqb (read_at s a 1) 0) (λ e. tt) (λ e.
    let g = got-served s a 1 (eqb-false _ _ e) in
    (omega (arith, next_le s (after_read s a 1) 8), omega arith))

-- RULES 7.5
pub extra-fuel : (s : List ℕ) → length s ≤ longest_stream → (n : ℕ) → stream_fuel ≤ n → (a : ℕ) → run (loop n extra_step tt tt) s a ≡ run extra s a
unfolding extra
extra-fuel s l n m a = enough s extra_step (extra-takes s) l n m tt tt tt a

macroblock-takes : (g : Context) (m : Matrices) (first : Bool) (w : SliceState) (s : List ℕ) (a : ℕ) → a < length s * 8
    → a < (run (macroblock g m first w) s a).at
unfolding macroblock bind_result lift
macroblock-takes g m begins w s a h = lt_of_lt_of_le (first-takes s a h) (le_trans (bind-on increment _ s a) (bind-on (bind increment _) _ s a))

past-takes : (g : Context) (s : List ℕ) (a : ℕ) (w : Result Stop SliceState) (e : ℕ) → a ≤ e → (a < length s * 8 → a < e)
    → Takes (length s * 8) a (run (after_macroblock g w) s e).value (run (after_macroblock g w) s e).at
unfolding after_macroblock run bind
past-takes g s a (error q) e h k = tt
past-takes g s a (ok w) e h k =
    let Ends : Prog (Step SliceLoopState (Result Stop SliceState)) → Type 0 = λ p. Takes (length s * 8) a (run p s e).value (run p s e).at in
    by-case Ends (is_last g w) (λ q. tt) (λ q.
    by-case Ends (has s e 23 && not (eqb (read_at s e 23) 0)) (λ q. let i = leb-true 23 (length s * 8 - e) (both _ _ q).0 in (k (omega arith), omega arith))
    (λ q. tt))

pub slice_takes : (g : Context) (m : Matrices) (s : List ℕ) (x : SliceLoopState) (a : ℕ)
    → Takes (length s * 8) a (run (slice_step g m x) s a).value (run (slice_step g m x) s a).at
unfolding slice_step
slice_takes g m s x a =
    rw (run_bind (macroblock g m x.first x.slice_state) (after_macroblock g) s a)
    (past-takes g s a _ _ (run_on (macroblock g m x.first x.slice_state) s a) (macroblock-takes g m x.first x.slice_state s a))

-- RULES 7.6
pub slice-fuel : (g : Context) (m : Matrices) (s : List ℕ) → length s ≤ longest_stream → (n : ℕ) → stream_fuel ≤ n
    → (d e : Result Stop SliceState) (x : SliceLoopState) (a : ℕ)
    → run (loop n (slice_step g m) d x) s a ≡ run (loop stream_fuel (slice_step g m) e x) s a
slice-fuel g m s l n h d e x a = enough s (slice_step g m) (slice_takes g m s) l n h d e x a
