-- What a step keeps of what the functions ask. Assumes nothing.
use mathlib.Core.Path.{◌≡◌}
use mathlib.Core.List.{List}
use Prim.Native.Nat.{ℕ, ◌≤◌}
use native.Mathlib.Nat.{mul-le-mul}
use native.Mathlib.Omega.{arith}
use lib.IntN.{ℤ}
use lib.ListN.{length}
use Rattle.bits.specs.declared.reader.Reader.{Reader}
use Rattle.bits.specs.Runs.{ReaderInBounds}
use Rattle.codes.specs.Matrices.{Bounded}
use Rattle.picture_state.specs.Possible.{PossibleSlice}
use Rattle.picture_state.specs.declared.types.{Context.Context, Slice.Slice}
use Rattle.picture_state.specs.Promises.{StoreFits, MacroblockInvariant}

pub held_on : {g : Context} {store store₁ : List ℕ} → StoreFits g store → length store₁ ≡ length store → StoreFits g store₁
held_on k e = record { across = k.across; down = k.down; size = k.size; stores = k.stores; whole = rw e k.whole }

-- a picture has at most 65536 macroblocks
pub size-most : {g : Context} {store : List ℕ} → StoreFits g store → g.sizes.mb_size ≤ 65536
size-most k = omega (arith, k.size, mul-le-mul k.across k.down)

module _ {g : Context} {s : List ℕ} {reader : Reader} {x : Slice} {left : List ℤ} {store : List ℕ} (k : MacroblockInvariant g s reader x left store) where
  pub ready_on : {reader₁ : Reader} {x₁ : Slice} {left₁ : List ℤ} {store₁ : List ℕ} → ReaderInBounds s reader₁
      → PossibleSlice x₁ → Bounded left₁ → x₁.macroblock_address ≡ x.macroblock_address → length store₁ ≡ length store
      → MacroblockInvariant g s reader₁ x₁ left₁ store₁
  ready_on p i b a e = record { reads = record { inside = p; slice = i; block = b }; store_fits = held_on k.store_fits e; here = rw a k.here }
