-- RULES 7.3: the fuel `stream_fuel` of the slices of a picture is enough: each start code that goes on takes a bit of the stream. Assumes nothing.
use mathlib.Core.Path.{◌≡◌, ap, sym, ◌∙◌}
use mathlib.Core.Bool.{false, not, ◌&&◌, false≢true}
use mathlib.Core.List.{List}
use Prim.Native.Nat.{ℕ, ◌*◌, ◌≤◌, ◌<◌}
use native.Mathlib.Nat.{lt_of_lt_of_le}
use native.Mathlib.Omega.{arith}
use lib.IntN.{negsuc, nat_abs}
use lib.ListN.{length}
use Rattle.laws.specs.Loops.{Step}
use Rattle.bits.specs.Bounds.{longest_stream}
use Rattle.bits.specs.Bits.{Found, boundary, found}
use Rattle.bits.specs.Programs.{Prog, bind, loop, stream_fuel, run}
use Rattle.laws.proofs.Tests.{by-case, both}
use Rattle.bits.proofs.Programs.{run_on}
use Rattle.bits.proofs.Rules.{Takes}
use Rattle.bits.proofs.Start.{Searched, first, none, found-is-first}
use Rattle.picture_state.specs.declared.types.{Context.Context, Matrices.Matrices}
use Rattle.picture_state.specs.State.{slice_state, with_start_code}
use Rattle.picture_state.specs.Result.{Result, ok}
use Rattle.picture_state.specs.Stop.{Stop}
use Rattle.slice.specs.Slices.{slice}
use Rattle.picture.specs.Pictures as P
use Rattle.bits.proofs.EnoughFuel.{takes, enough}

found-takes : (s : List ℕ) (a : ℕ) → ((found s a).code ≡ negsuc 0 → ⊥) → (a < (found s a).at) × (a < length s * 8)
found-takes s a g = go (found s a) (found-is-first s a) g
  where
    go : (f : Found) → Searched s (boundary a) f → (f.code ≡ negsuc 0 → ⊥) → (a < f.at) × (a < length s * 8)
    go f (first p w q) k = (omega (arith, w.from, ap (λ (f : Found). f.at) q), omega (arith, w.from, w.five))
    go f (none w q) k = absurd (k (ap (λ (f : Found). f.code) q))

pub slices-take : (g : Context) (m : Matrices) (s : List ℕ) (x : P.SlicesLoopState) (a : ℕ) → Takes (length s * 8) a (run (P.slices_step g m x) s a).value
    (run (P.slices_step g m x) s a).at
unfolding P.slices_step run bind
slices-take g m s x a =
    let c = (found s a).code in
    let e = (found s a).at in
    let Ends : Prog (Step P.SlicesLoopState (Result Stop P.PictureState)) → Type 0 = λ p. Takes (length s * 8) a (run p s e).value (run p s e).at in
    by-case Ends (P.is_slice c) (λ q.
    let f = found-takes s a (λ z. false≢true (sym (ap P.is_slice z) ∙ q)) in
    let p = with_start_code c x.picture_state.picture in
    let rest = bind (slice g m (nat_abs c) (slice_state p.slice x.picture_state.block_data x.picture_state.store)) (P.after_slice g p) in
    let o = run rest s e in
    takes (length s * 8) a o.value o.at
    (lt_of_lt_of_le f.0 (run_on rest s e)) f.1) (λ q.
    by-case Ends (P.is_extra c && not x.begun) (λ q. found-takes s a (λ z. false≢true (sym (ap P.is_extra z) ∙ (both _ _ q).0))) (λ q. tt))

-- RULES 7.3
pub slices-fuel : (g : Context) (m : Matrices) (s : List ℕ) → length s ≤ longest_stream → (n : ℕ) → stream_fuel ≤ n
    → (d : Result Stop P.PictureState) (f : P.PictureState) (a : ℕ)
    → run (loop n (P.slices_step g m) d (P.slices_loop_state false f)) s a ≡ run (P.slices g m f) s a
unfolding P.slices
slices-fuel g m s l n h d f a = enough s (P.slices_step g m) (slices-take g m s) l n h d (ok f) (P.slices_loop_state false f) a
