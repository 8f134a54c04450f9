-- A block of the pattern, and the loop over the six: its invariant, as a record, and its turns. Assumes nothing.
use mathlib.Core.Path.{◌≡◌, refl, ◌∙◌}
use mathlib.Core.Bool.{true, false}
use mathlib.Core.List.{List}
use Prim.Native.Nat.{ℕ, ◌+◌, ◌-◌, ◌^◌, ◌≤◌, ◌<◌}
use native.Mathlib.Omega.{arith}
use Rattle.std.specs.Prelude.{None}
use lib.IntN.{ℤ}
use lib.ListN.{length}
use Rattle.bits.specs.declared.reader.Reader.{Reader}
use Rattle.bits.specs.Programs.{Prog}
use Rattle.bits.proofs.Rules.{r-for}
use Rattle.picture_state.specs.State.{SliceState, slice_state}
use Rattle.picture_state.specs.Result.{Result, ok, if_ok, for_below}
use Rattle.picture_state.specs.Stop.{Stop, stop_number}
use Rattle.picture_state.specs.Flags.{flag}
use Rattle.blocks.specs.Blocks.{one_block, pattern_block, blocks}
use Rattle.picture_state.specs.declared.types.{Slice.Slice, Progress.Progress}
use Rattle.picture_state.specs.Promises.{RunsNumbered, matrices_in, MacroblockInvariant, RefinesAtMacroblock}
use Rattle.picture_state.proofs.Results.{t-done, t-yes, t-no, r-for-bind, r-for_if-ok, nonzero-is-error}
use Rattle.blocks.specs.declared.blocks.CodedBlocks.{CodedBlocks}

-- a macroblock's blocks, and the one with this number
abbrev all : CodedBlocks → List ℕ → SliceState → Prog (Result Stop SliceState)
all c t w = blocks c.context (matrices_in t) c.intra c.pattern w

abbrev numbered : CodedBlocks → List ℕ → ℕ → SliceState → Prog (Result Stop SliceState)
numbered c t number w = pattern_block c.context (matrices_in t) c.intra c.pattern number w

-- a block whose bit is not in the pattern, and one whose bit is
module _ (c : CodedBlocks) (t : List ℕ) (number : ℕ) (x : Slice) (left : List ℤ) (store : List ℕ) {s : List ℕ} {from : Reader} where
  pub bit-no : flag c.pattern (2 ^ (5 - number)) ≡ false → MacroblockInvariant c.context s from x left store
      → RefinesAtMacroblock (numbered c t number (slice_state x left store)) c.context s from (record { reader = from; state = x; stop = None }) left store
  bit-no h k = record { runs = t-no _ h (t-done refl); ready = k }

  pub bit-yes : {r : Progress} {left₁ : List ℤ} {store₁ : List ℕ} → flag c.pattern (2 ^ (5 - number)) ≡ true
      → RefinesAtMacroblock (one_block c.context (matrices_in t) c.intra number (slice_state x left store)) c.context s from r left₁ store₁
      → RefinesAtMacroblock (numbered c t number (slice_state x left store)) c.context s from r left₁ store₁
  bit-yes h w = record { runs = t-yes _ h w.runs; ready = w.ready }

-- before the block with this number, in the state x, `left`, `store` at `from`; the loop began in w₀ at from₀
pub record AtBlock (c : CodedBlocks) (t : List ℕ) (s : List ℕ) (from₀ : Reader) (w₀ : SliceState)
    (from : Reader) (x : Slice) (left : List ℤ) (store : List ℕ) (number : ℕ) : Type 0 where
  pub few : number ≤ 6
  pub ready : MacroblockInvariant c.context s from x left store
  pub long : length store ≡ length w₀.store
  pub runs : RunsNumbered (for_below number (numbered c t) w₀) s from₀ (ok (slice_state x left store)) from

pub at_first : {c : CodedBlocks} {t : List ℕ} {s : List ℕ} {from : Reader} {x : Slice} {left : List ℤ} {store : List ℕ}
    → MacroblockInvariant c.context s from x left store → AtBlock c t s from (slice_state x left store) from x left store 0
at_first {c} {t} {x = x} {left} {store} k = record {
  few = omega arith;
  ready = k;
  long = refl;
  runs = record { value = ok (slice_state x left store); runs = r-for (λ i. if_ok (numbered c t i)); is = refl };
}

module _ {c : CodedBlocks} {t : List ℕ} {s : List ℕ} {from₀ : Reader} {w₀ : SliceState} {from : Reader} {x : Slice} {left : List ℤ}
    {store : List ℕ} {number : ℕ} (i : AtBlock c t s from₀ w₀ from x left store number) where
  module _ (h : number < 6) {r : Progress} {left₁ : List ℤ} {store₁ : List ℕ}
      (w : RefinesAtMacroblock (numbered c t number (slice_state x left store)) c.context s from r left₁ store₁) where
    -- a turn that goes on
    pub at_next : stop_number r.stop ≡ 0 → length store₁ ≡ length store → AtBlock c t s from₀ w₀ r.reader r.state left₁ store₁ (number + 1)
    at_next z e =
        record { few = omega arith; ready = w.ready; long = e ∙ i.long; runs = r-for-bind number (numbered c t) w₀ i.runs (rw z at w.runs) }

    -- one that leaves
    pub at-stop : (stop_number r.stop ≡ 0 → ⊥) → RefinesAtMacroblock (all c t w₀) c.context s from₀ r left₁ store₁
    unfolding blocks
    at-stop z =
        let e = nonzero-is-error (slice_state r.state left₁ store₁) store₁ z in
        let o = r-for-bind number (numbered c t) w₀ i.runs (rw e at w.runs) in
        record { runs = rw e (r-for_if-ok (number + 1) (numbered c t) w₀ (5 - number) 6 (omega arith) o); ready = w.ready }

  -- and the end
  pub at-end : 6 ≤ number → RunsNumbered (all c t w₀) s from₀ (ok (slice_state x left store)) from
  unfolding blocks
  at-end h = let e : number ≡ 6 = omega (arith, i.few) in rw e at i.runs
