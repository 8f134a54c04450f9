-- Where a state fits: the changes of a turn keep it. Assumes nothing.
use mathlib.Core.Path.{◌≡◌, refl, subst}
use mathlib.Core.Bool.{true}
use mathlib.Core.List.{List}
use Prim.Native.Nat.{ℕ, ◌≤◌, ◌<◌}
use lib.IntN.{ℤ, pos, neg_ℤ}
use lib.ListN.{length, get_or}
use Rattle.laws.specs.Loops.{Step, continue, finish}
use Rattle.laws.proofs.Tests.{by-case}
use Rattle.bits.specs.Bounds.{longest_stream, last_position}
use Rattle.bits.specs.Programs.{RunResult, eq_z, find_start_code}
use Rattle.bits.proofs.Programs.{run-most}
use Rattle.picture_state.specs.declared.types.{Matrices.Matrices, Sizes.Sizes}
use Rattle.picture_state.specs.Possible.{between}
use Rattle.picture_state.specs.Result.{Result}
use Rattle.picture_state.specs.Stop.{Stop}
use Rattle.picture.specs.Pictures.{PictureState, picture}
use Rattle.picture_state.proofs.Possible.{picture-of, picture-by}
use Rattle.picture.proofs.Kept.{Ends, StaysPossible, picture-kept}
use Rattle.playback.specs.declared.state.State.{State}
use Rattle.playback.specs.State.{position, start_code, with_search_result}
use Rattle.playback.specs.Search.{ensure_start_code}
use Rattle.playback.specs.Steps.{DecodingState, LoopEnd, picture_state_of, after_picture_search, picture_step}
use Rattle.playback.specs.Fit.{FitState}
use Rattle.playback.specs.Cases.{StepCase, outputs, keeps-reference, aborts, no-picture}
use Rattle.playback.proofs.Displays.{held-possible}
use Rattle.playback.proofs.Searches.{Sought, hit, miss, sought}
use Rattle.playback.proofs.Cases.{picture-step-is}

-- ---- a search

module _ {z : Sizes} (x : State) {c : List ℤ} (f : FitState z x c) where
  placed : {k : ℤ} {e : ℕ} → e ≤ last_position → between (neg_ℤ (pos 1)) (pos 255) k ≡ true → FitState z (with_search_result k e x) c
  placed e q = record {
    position = e;
    across = f.across;
    down = f.down;
    size = f.size;
    picture = record { type = f.picture.type; code = q; stores = f.picture.stores; slice = f.picture.slice };
    block = f.block;
    display = f.display;
  }

  -- RULES 1.11: a start code that was searched, or -1
  found : (k : ℤ) → between (neg_ℤ (pos 1)) (pos 255) k ≡ true → {s : List ℕ} {o : RunResult ℤ} → Sought k s (position x) o → o.at ≤ last_position
      → FitState z (with_search_result o.value o.at x) c
  found k b (hit v y w) h = placed h (rw v b)
  found k b (miss v y) h = placed h (rw v refl)

  pub next_fits : (k : ℤ) → between (neg_ℤ (pos 1)) (pos 255) k ≡ true → (s : List ℕ) → length s ≤ longest_stream → (y : State) → y ≡ ensure_start_code k s x
      → FitState z y c
  unfolding ensure_start_code
  next_fits k b s short y e =
      rw e (by-case (λ (y : State). FitState z y c) (eq_z (start_code x) k) (λ e. f)
      (λ e. found k b (sought k s (position x) short) (run-most (find_start_code k) s (position x) longest_stream f.position short)))

-- ---- where another turn follows, the state fits again

abbrev Goes : Sizes → Step DecodingState LoopEnd → Type 0
Goes z (continue y) = FitState z y.state y.block_data
Goes z (finish e) = Unit {0}

module _ (s : List ℕ) (z : Sizes) (m : Matrices) (short : length s ≤ longest_stream) (bytes : (k : ℕ) → get_or s k 0 < 256) where
  step-goes : (x : DecodingState) {t : Step DecodingState LoopEnd} → FitState z x.state x.block_data → StepCase s z m x t → Goes z t
  step-goes x k (outputs h) = tt
  step-goes x k (keeps-reference {f} {a} i r b h) =
      let kept = picture-kept z m (picture_state_of x) s (position x.state) k.across k.down k.size (picture-by k.picture) k.block short bytes in
      let j = subst (λ (o : RunResult (Result Stop PictureState)). Ends (length x.store) (StaysPossible x.store) o.value) r kept in
      let inside = run-most (picture z m (picture_state_of x)) s (position x.state) longest_stream k.position short in
      record {
        position = subst (λ (o : RunResult (Result Stop PictureState)). o.at ≤ last_position) r inside;
        across = k.across;
        down = k.down;
        size = k.size;
        picture = picture-of f.picture j.picture;
        block = j.block;
        display = held-possible x.state k.display true;
      }
  step-goes x k (aborts i r) = tt
  step-goes x k (no-picture i u) = tt

  pub turn-fits : (x : DecodingState) {y : DecodingState} → FitState z x.state x.block_data → picture_step s z m x ≡ continue y
      → FitState z y.state y.block_data
  turn-fits x k e = subst (Goes z) e (step-goes (after_picture_search s x) (next_fits x.state k (pos 0) refl s short _ refl) (picture-step-is s z m x))
