-- What it means that a code table and a list of printed codes are the same code. Everything holds for every stream s and every place a; bits past the end
-- of the stream count as 0.
use mathlib.Core.Path.{◌≡◌}
use mathlib.Core.List.{List}
use Prim.Native.Nat.{ℕ, ◌+◌, ◌*◌, ◌≤◌}
use lib.ListN.{length, get_or}
use lib.IntN.{ℤ, pos}
use Rattle.bits.specs.Bits.{bits_at}
use Rattle.bits.specs.Runs.{RunsAt}
use Rattle.codes.specs.Walk.{walk, vlc}
use Rattle.codes.specs.Standard.{Code, ◌∈◌, CodeWordAt, Begins, IsCodePrefix, taken}

-- ix and vs are the table's indices and values, d the value of what is no code, idle the value at the end of the stream
pub record Agrees {A : Type 0} (ix : List ℤ) (vs : List A) (d idle : A) (codes : List (Code A)) : Type 0 where
  -- RULES 2.13: where a printed code stands, the walk gives its value and takes its bits
  pub reads : (c : Code A) → c ∈ codes → (s : List ℕ) (a : ℕ) → CodeWordAt c s a → RunsAt (vlc ix vs d) s a c.value (taken s a c.bits)
  -- RULES 2.13: there are no other codes. Where the walk ends at an entry with index 0, a printed code stands: its value is that of the entry, and the walk
  -- took its bits
  pub only : (s : List ℕ) (a k e : ℕ) → RunsAt (walk ix) s a k e → get_or ix k (pos 0) ≡ pos 0
      → (c : Code A) × (c ∈ codes) × CodeWordAt c s a × (c.value ≡ get_or vs k d) × (taken s a c.bits ≡ e)
  -- RULES 2.4, 2.5: where no printed code stands, the walk gives d and takes n + 1 bits: after n of them a code is still possible, after n + 1 none is
  pub none : (s : List ℕ) (a : ℕ) → ((c : Code A) → c ∈ codes → CodeWordAt c s a → ⊥)
      → (n : ℕ) × IsCodePrefix codes n (bits_at s a n) × (IsCodePrefix codes (n + 1) (bits_at s a (n + 1)) → ⊥) × RunsAt (vlc ix vs d) s a d (taken s a (n + 1))
  -- no printed code is the beginning of another
  pub prefix_free : (c e : Code A) → c ∈ codes → e ∈ codes → Begins e c.bits c.word → c ≡ e
  -- RULES 2.6: at the end of the stream and past it the walk gives idle and stays
  pub past_end : (s : List ℕ) (a : ℕ) → length s * 8 ≤ a → RunsAt (vlc ix vs d) s a idle a
