-- What the functions of a picture ask and say, from a macroblock to a slice.
use Rattle.std.specs.Prelude.{◌≡◌, true, false, List, ℕ, zero, suc, ◌*◌, ◌≤◌, ◌<◌, T, ℤ, nat_abs, length}
use Rattle.std.specs.Int.Signed.{non_neg}
use Rattle.laws.specs.Loops.{Step, continue, finish}
use Rattle.bits.specs.declared.reader.Reader.{Reader}
use Rattle.bits.specs.Programs.{Prog}
use Rattle.bits.specs.Runs.{Runs, ReaderInBounds}
use Rattle.codes.specs.DecodingTables.{matrix_of}
use Rattle.codes.specs.Matrices.{Bounded}
use Rattle.prediction.specs.Planes.{stores_bytes}
use Rattle.picture_state.specs.declared.types.{Context.Context, Matrices.Matrices, Progress.Progress, Slice.Slice, Stores.Stores}
use Rattle.picture_state.specs.State.{SliceState, slice_state}
use Rattle.picture_state.specs.Possible.{PossibleSlice}
use Rattle.picture_state.specs.Result.{Result, ok, error}
use Rattle.picture_state.specs.Stop.{Stop, error_code, stop_number}

-- the two matrices, lent one by one
abbrev pub matrices : List ℕ → List ℕ → Matrices
matrices intra other = record { intra_quant_matrix = intra; non_intra_quant_matrix = other }

-- those among the tables t
abbrev pub matrices_in : List ℕ → Matrices
matrices_in t = matrices (matrix_of t true) (matrix_of t false)

-- what the code tells of a stop: its number, and the store
pub record Exit : Type 0 where
  pub number : ℕ
  pub store : List ℕ

abbrev pub exit : ℕ → List ℕ → Exit
exit n l = record { number = n; store = l }

-- 0 is a value, and any other number an error with the store
abbrev pub result_of : {A : Type 0} → ℕ → A → List ℕ → Result Exit A
result_of zero x l = ok x
result_of (suc n) x l = error (exit (suc n) l)

-- a result as the code tells it: the number in the place of the cause
abbrev pub numbered : {A : Type 0} → Result Stop A → Result Exit A
numbered (ok x) = ok x
numbered (error e) = error (exit (error_code e.cause) e.store)

-- and a step of a loop
abbrev pub numbered_step : {S A : Type 0} → Step S (Result Stop A) → Step S (Result Exit A)
numbered_step (continue x) = continue x
numbered_step (finish v) = finish (numbered v)

-- p, run on s from the reader `from` on, gives a value that is w as it is told, and `to` is the reader behind it
pub record RunsAs {A B : Type 0} (told : A → B) (p : Prog A) (s : List ℕ) (from : Reader) (w : B) (to : Reader) : Type 0 where
  pub value : A
  pub runs : Runs p s from value to
  pub is : told value ≡ w

abbrev pub RunsNumbered : {A : Type 0} → Prog (Result Stop A) → List ℕ → Reader → Result Exit A → Reader → Type 0
RunsNumbered = RunsAs numbered

-- the numbers of the stores. None is predicted from itself; RULES 7.2 lets fwd and bwd be the same while an I or P picture is read
pub record DistinctStores (t : Stores) : Type 0 where
  pub cur : t.cur ≤ 2
  pub fwd : t.fwd ≤ 2
  pub bwd : t.bwd ≤ 2
  pub cur-fwd : t.cur ≡ t.fwd → ⊥
  pub cur-bwd : t.cur ≡ t.bwd → ⊥

-- sizes and stores, and memory for the three
pub record StoreFits (g : Context) (store : List ℕ) : Type 0 where
  pub across : g.sizes.mb_width ≤ 256
  pub down : g.sizes.mb_height ≤ 256
  pub size : g.sizes.mb_size ≡ g.sizes.mb_width * g.sizes.mb_height
  pub stores : DistinctStores g.stores
  pub whole : stores_bytes g.sizes.mb_size ≤ length store

-- the address is that of a macroblock
pub record AddressInPicture (g : Context) (address : ℤ) : Type 0 where
  pub natural : T (non_neg address)
  pub below : nat_abs address < g.sizes.mb_width * g.sizes.mb_height

-- what reads a part of a macroblock
pub record ReadInvariant (s : List ℕ) (reader : Reader) (x : Slice) (left : List ℤ) : Type 0 where
  pub inside : ReaderInBounds s reader
  pub slice : PossibleSlice x
  pub block : Bounded left

-- all of it, for what works at a macroblock
pub record MacroblockInvariant (g : Context) (s : List ℕ) (reader : Reader) (x : Slice) (left : List ℤ) (store : List ℕ) : Type 0 where
  pub reads : ReadInvariant s reader x left
  pub store_fits : StoreFits g store
  pub here : AddressInPicture g x.macroblock_address

-- p, from the reader on, goes where r says, with these coefficients left over and this store; and what works at a macroblock can go on from there
pub record RefinesAtMacroblock (p : Prog (Result Stop SliceState)) (g : Context) (s : List ℕ) (reader : Reader) (r : Progress) (left : List ℤ)
    (store : List ℕ) : Type 0 where
  pub runs : RunsNumbered p s reader (result_of (stop_number r.stop) (slice_state r.state left store) store) r.reader
  pub ready : MacroblockInvariant g s r.reader r.state left store

-- the same where no macroblock need have the address in the end
pub record RefinesInSlice (p : Prog (Result Stop SliceState)) (g : Context) (s : List ℕ) (reader : Reader) (r : Progress) (left : List ℤ)
    (store : List ℕ) : Type 0 where
  pub runs : RunsNumbered p s reader (result_of (stop_number r.stop) (slice_state r.state left store) store) r.reader
  pub reads : ReadInvariant s r.reader r.state left
  pub store_fits : StoreFits g store
