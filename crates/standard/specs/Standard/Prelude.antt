-- What the text is written in: beside tests, numbers and lists, programs over reads of the other crates; and what a stream shall be.
use Rattle.std.specs.Prelude.{Bool, true, false, ℕ, eqb}
pub use borrow.Rule.Slice.PartMut.{mid_of, put_mid}
pub use lib.{Signed.lt_z, Signed.le_z}
pub use Rattle.laws.specs.Loops.{Step, continue, finish}
pub use Rattle.bits.specs.Programs.{Prog, done, peek_bits, skip, bind, bits, next_start_code, loop, stream_fuel, eq_z, when◌then◌else◌}
pub use Rattle.prediction.specs.{Predict.macroblock_at, Planes.plane_start}
pub use Rattle.picture_state.specs.Result.{Result, ok, error, and_then, lift, from_result, pure, for_below, ◌>>=◌, ◌>>◌}
pub use Rattle.picture_state.specs.{declared.types.Context.Context, declared.types.Matrices.Matrices, Flags.flag}

-- the stream breaks a rule that a decoder relies on: nothing more is said of it
pub data Forbidden : Type 0 where
  not_allowed : Forbidden

abbrev pub forbidden : {A : Type 0} → Result Forbidden A
forbidden = error not_allowed

-- a run that was not ended so: as far as it has read, the stream conforms
abbrev pub conforms : {E A : Type 0} → Result E A → Bool
conforms (ok x) = true
conforms (error e) = false

-- "shall"
abbrev pub shall : Bool → Prog (Result Forbidden (Unit {0}))
shall b = when b then pure tt else done forbidden

-- 2.3, nextbits(): the next n bits, which are there
abbrev pub nextbits : ℕ → Prog (Result Forbidden ℕ)
nextbits n = peek_bits n (λ h v. when h then pure v else done forbidden)

-- a code of a table, read by p: of the next n bits t says whether such a code begins with them
abbrev pub table_code : {A : Type 0} → ℕ → (ℕ → Bool) → Prog A → Prog (Result Forbidden A)
table_code n t p = nextbits n >>= λ x. shall (t x) >> lift p

-- 2.2, a field of n bits, which are there
unfoldable pub field : ℕ → Prog (Result Forbidden ℕ)
field n = peek_bits n (λ h v. when h then skip n (pure v) else done forbidden)

-- while (nextbits() == word, of n bits): they are passed over, and x becomes f x
unfoldable pub while_step : ℕ → ℕ → (ℕ → ℕ) → ℕ → Prog (Step ℕ (Result Forbidden ℕ))
while_step n word f x =
    peek_bits n (λ h v. when h then (when eqb v word then skip n (done (continue (f x))) else done (finish (ok x))) else done (finish forbidden))

unfoldable pub while : ℕ → ℕ → (ℕ → ℕ) → ℕ → Prog (Result Forbidden ℕ)
while n word f x = loop stream_fuel (while_step n word f) forbidden x
