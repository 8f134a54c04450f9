-- What a contract says of a run that is computed.
use mathlib.Core.Path.{◌≡◌, ap, sym, ◌∙◌}
use mathlib.Core.List.{List}
use Prim.Native.Nat.{ℕ}
use lib.IntN.{ℤ}
use mir.Syntax.{w32}
use mir.Val.{of_z, to_z}
use Rattle.bits.specs.Programs.{Prog, RunResult, run}
use Rattle.bits.specs.Runs.{RunsInBounds, reader_at}
use Rattle.bits.proofs.Rules.{r-value}
use Rattle.bits.specs.declared.reader.Reader.{Reader}

-- what a reader at the beginning of a stream reads there
module _ {s : List ℕ} {from : Reader} (begins : from ≡ reader_at 0) where
  pub value-at : {A : Type 0} {p : Prog A} {v : A} {to : Reader} → RunsInBounds p s from v to → v ≡ (run p s 0).value
  value-at h = sym (r-value (rw begins at h.runs))

-- a run that is computed
pub computed : {A : Type 0} {v x : A} {o : RunResult A} {e : ℕ} → v ≡ o.value → o ≡ record { value = x; at = e } → v ≡ x
computed h k = h ∙ ap (λ (o : RunResult _). o.value) k

-- a signed number that is put into a struct
pub told : {z x : ℤ} → z ≡ x → to_z w32 (of_z w32 z) ≡ to_z w32 (of_z w32 x)
told e = ap (λ (z : ℤ). to_z w32 (of_z w32 z)) e
