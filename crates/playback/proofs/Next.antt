-- RULES 8.2: the state behind the search for the next picture.
use mathlib.Core.Path.{◌≡◌, refl, sym, ap, ◌∙◌}
use mathlib.Core.Bool.{Bool, true, false, cond}
use mathlib.Core.List.{List}
use Prim.Native.Nat.{ℕ, ◌+◌, ◌*◌, ◌≤◌}
use native.Mathlib.Omega.{arith}
use lib.IntN.{ℤ, pos, negsuc}
use lib.ListN.{length}
use Rattle.laws.proofs.Tests.{by-case}
use Rattle.bits.specs.Bounds.{longest_stream}
use Rattle.bits.specs.Programs.{RunResult, run, eq_z, find_start_code}
use Rattle.bits.proofs.Programs.{run_on, run-most}
use Rattle.playback.specs.declared.state.State.{State}
use Rattle.playback.specs.State.{position, start_code, frames, with_search_result}
use Rattle.playback.specs.Search.{ensure_start_code, next_picture}
use Rattle.playback.proofs.Searches.{Barren, Sought, hit, miss, sought, still_barren, eq_z-is}

-- what it leaves alone
pub next-stores : (s : List ℕ) (x : State) → (next_picture s x).picture.stores ≡ x.picture.stores
unfolding ensure_start_code
next-stores s x = by-case (λ (y : State). y.picture.stores ≡ x.picture.stores) (eq_z (start_code x) (pos 0)) (λ e. refl) (λ e. refl)

pub next-frames : (s : List ℕ) (x : State) → frames (next_picture s x) ≡ frames x
unfolding ensure_start_code
next-frames s x = by-case (λ (y : State). frames y ≡ frames x) (eq_z (start_code x) (pos 0)) (λ e. refl) (λ e. refl)

-- a state that has the code, or from which on nothing is found
pub next-has : (s : List ℕ) (x : State) → start_code x ≡ pos 0 → next_picture s x ≡ x
unfolding ensure_start_code
next-has s x c = ap (λ (k : ℤ). cond (eq_z k (pos 0)) x (let o = run (find_start_code (pos 0)) s (position x) in with_search_result o.value o.at x)) c

pub next_barren : (s : List ℕ) (x : State) → start_code x ≡ negsuc 0 → Barren s (position x) → next_picture s x ≡ x
unfolding ensure_start_code
next_barren s x c b =
    ap (λ (k : ℤ). cond (eq_z k (pos 0)) x (let o = run (find_start_code (pos 0)) s (position x) in with_search_result o.value o.at x)) c
    ∙ ap (λ (o : RunResult ℤ). with_search_result o.value o.at x) (still_barren (pos 0) s (position x) b).is
    ∙ ap (λ (k : ℤ). with_search_result k (position x) x) (sym c)

-- all ways in which a search ends
pub data Next (s : List ℕ) (x : State) : State → Type 0 where
  has : start_code x ≡ pos 0 → Next s x x
  finds : (e : ℕ) → position x ≤ e → e + 8 ≤ length s * 8 → Next s x (with_search_result (pos 0) e x)
  fails : (e : ℕ) → position x ≤ e → e ≤ length s * 8 → Barren s e → Next s x (with_search_result (negsuc 0) e x)

pub next-is : (s : List ℕ) (x : State) → length s ≤ longest_stream → position x ≤ length s * 8 → Next s x (next_picture s x)
unfolding ensure_start_code
next-is s x h i =
    go (eq_z (start_code x) (pos 0)) refl (run (find_start_code (pos 0)) s (position x)) (sought (pos 0) s (position x) h)
    (run_on (find_start_code (pos 0)) s (position x))
    (run-most (find_start_code (pos 0)) s (position x) (length s) i (omega arith))
  where
    go : (b : Bool) → eq_z (start_code x) (pos 0) ≡ b → (o : RunResult ℤ) → Sought (pos 0) s (position x) o → position x ≤ o.at → o.at ≤ length s * 8
        → Next s x (cond b x (with_search_result o.value o.at x))
    go true e o k f m = has (eq_z-is (start_code x) (pos 0) e)
    go false e o (hit v y w) f m = rw v (finds o.at f w)
    go false e o (miss v y) f m = rw v (fails o.at f m y)
