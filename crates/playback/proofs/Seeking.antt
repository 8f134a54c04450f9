-- A search for a start code that the state may spare. Assumes nothing.
use mathlib.Core.Path.{◌≡◌}
use mathlib.Core.Bool.{Bool, true, false, not, ◌||◌}
use mathlib.Core.List.{List}
use Prim.Native.Nat.{ℕ}
use lib.IntN.{ℤ, negsuc}
use Rattle.bits.specs.declared.reader.Reader.{Reader}
use Rattle.bits.specs.Programs.{eq_z, find_start_code}
use Rattle.bits.specs.Runs.{Runs, position_of, reader_at}
use Rattle.bits.proofs.Codes.{eq_z-yes, eq_z-no}
use Rattle.playback.specs.declared.state.State.{State}
use Rattle.playback.specs.State.{position, start_code, with_search_result}
use Rattle.playback.specs.Search.{ensure_start_code}

-- RULES Q3, 8.2
module _ (c : ℤ) (s : List ℕ) (x : State) where
  pub seek-has : eq_z (start_code x) c ≡ true → x ≡ ensure_start_code c s x
  unfolding ensure_start_code
  seek-has e = rw e

  pub seek_finds : {k : ℤ} {to : Reader} → eq_z (start_code x) c ≡ false → Runs (find_start_code c) s (reader_at (position x)) k to
      → with_search_result k (position_of to) x ≡ ensure_start_code c s x
  unfolding ensure_start_code
  seek_finds g r = rw (g, r.is)

-- RULES 8.3
module _ {k v : ℤ} (b : Bool) (e : k ≡ v) where
  pub follow-yes : (k ≡ negsuc 0 → ⊥) → true ≡ (not (eq_z v (negsuc 0)) || b)
  follow-yes g = rw (← e, eq_z-no k (negsuc 0) g)

  pub follow-no : {x : Bool} → k ≡ negsuc 0 → x ≡ b → x ≡ (not (eq_z v (negsuc 0)) || b)
  follow-no g h = rw (← e, eq_z-yes k (negsuc 0) g) h
