-- RULES D1.5, D2.1: what the library's calls leave in a host's memory. A float is a value, of which NaN is one: nothing is said of the bits of a NaN.
use Rattle.std.specs.Prelude.{◌≡◌, List, ℕ, Float, drop}
use Rattle.playback.specs.declared.outcome.Shown.{Shown}
use Rattle.decoder.specs.declared.record.Decoder.{Decoder}
use Rattle.demands.specs.Outputs.{DecodeOutputs}
use Rattle.memory.specs.Fields.{number_count, integer_count, matrix_count, clock_count}
use Rattle.memory.specs.Memory.{Memory, over, written, record_of, HoldsRecord}
use Rattle.mpeg1.specs.Calls.{host_result, HostOutput, host_output, picture_numbers}

-- a call was given the memory x and left z: a record of which P holds, written over the beginning of x, and z holds it
pub record Leaves (P : Decoder → Type 0) (x z : Memory) : Type 0 where
  pub decoder : Decoder
  pub is : P decoder
  pub wrote : z ≡ written decoder x
  pub holds : HoldsRecord z decoder

-- what lies behind a record is the same, in each of the four parts
pub record SameBehind (x z : Memory) : Type 0 where
  pub numbers : drop number_count z.numbers ≡ drop number_count x.numbers
  pub integers : drop integer_count z.integers ≡ drop integer_count x.integers
  pub matrices : drop matrix_count z.matrices ≡ drop matrix_count x.matrices
  pub clock : drop clock_count z.clock ≡ drop clock_count x.clock

-- a hand-out answered n and left all as it was: the store l, the memory x, and k and t, where it tells of a picture
abbrev pub unchanged : ℕ → List ℕ → Memory → List ℕ → Float → HostOutput
unchanged n l x k t = host_output (host_result n l x) k t

-- it told nothing of a picture
abbrev pub Untold : List ℕ → Float → HostOutput → Type 0
Untold k t y = (y.picture ≡ k) × (y.time ≡ t)

-- RULES 8.3 to 8.11: with the stream s and the store l it told of a picture, over the beginning of k, and of its time
pub record Tells (s l : List ℕ) (x : Memory) (k : List ℕ) (y : HostOutput) : Type 0 where
  pub shown : Shown
  pub memory : Leaves (λ d. DecodeOutputs (record_of x) s l shown d y.kept.store) x y.kept.memory
  pub picture : y.picture ≡ over (picture_numbers shown) k
  pub time : y.time ≡ shown.time
