-- What the functions of a macroblock ask and say.
use Rattle.std.specs.Prelude.{◌≡◌, Bool, true, false, List, ℕ, ℤ, pos, neg_ℤ, ◌+ℤ◌}
use Rattle.std.specs.Int.Signed.{le_z}
use Rattle.bits.specs.declared.reader.Reader.{Reader}
use Rattle.picture_state.specs.declared.types.{Context.Context, Slice.Slice}
use Rattle.macroblock.specs.Macroblocks.{advance}
use Rattle.picture_state.specs.State.{slice_state}
use Rattle.picture_state.specs.Possible.{PossibleSlice}
use Rattle.picture_state.specs.Promises.{numbered, result_of, StoreFits, AddressInPicture, ReadInvariant}

-- the address can go on by n: RULES Q2
pub record AddressAfterBound (address : ℤ) (n : ℕ) : Type 0 where
  pub from : le_z (neg_ℤ (pos 1)) address ≡ true
  pub to : le_z (address +ℤ pos n) (pos 402700000) ≡ true

-- the address and n can be added: no bound of RULES, the sum need not be kept
pub record AddressSumBound (address : ℤ) (n : ℕ) : Type 0 where
  pub from : le_z (neg_ℤ (pos 1)) address ≡ true
  pub to : le_z (address +ℤ pos n) (pos 402800000) ≡ true

-- between two macroblocks, with n to go on by: no macroblock need have the address
pub record AdvanceInvariant (g : Context) (s : List ℕ) (reader : Reader) (x : Slice) (n : ℕ) (left : List ℤ) (store : List ℕ) : Type 0 where
  pub reads : ReadInvariant s reader x left
  pub store_fits : StoreFits g store
  pub reaches : AddressAfterBound x.macroblock_address n

-- before a later macroblock, n from here: the address is not that of the last one
pub record LaterInvariant (g : Context) (s : List ℕ) (reader : Reader) (x : Slice) (n : ℕ) (left : List ℤ) (store : List ℕ) : Type 0 where
  pub reads : ReadInvariant s reader x left
  pub store_fits : StoreFits g store
  pub adds : AddressSumBound x.macroblock_address n
  pub more : le_z (pos g.sizes.mb_size) (x.macroblock_address +ℤ pos 1) ≡ false

-- before the increment: the first of slices 1 to 175, or a later one
pub record IncrementInvariant (g : Context) (s : List ℕ) (reader : Reader) (first : Bool) (x : Slice) (left : List ℤ) (store : List ℕ) : Type 0 where
  pub reads : ReadInvariant s reader x left
  pub store_fits : StoreFits g store
  pub begins : first ≡ true → le_z x.macroblock_address (pos 44543) ≡ true
  pub later : first ≡ false → le_z (pos g.sizes.mb_size) (x.macroblock_address +ℤ pos 1) ≡ false

-- the macroblock after the next n leaves, or goes on, as the state and the number say, whatever coefficients are left over
pub record RefinesAdvance (g : Context) (n : ℕ) (x : Slice) (store : List ℕ) (y : Slice) (stop : ℕ) (store₁ : List ℕ) : Type 0 where
  pub is : (left : List ℤ) → numbered (advance g n (slice_state x left store)) ≡ result_of stop (slice_state y left store₁) store₁
  pub possible : PossibleSlice x → PossibleSlice y
  pub here : stop ≡ 0 → le_z (pos g.sizes.mb_size) (x.macroblock_address +ℤ pos 1) ≡ false → AddressInPicture g y.macroblock_address
