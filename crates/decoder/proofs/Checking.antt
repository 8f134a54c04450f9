-- The questions 3 to 6: each answer, from what the functions give. Assumes nothing.
use mathlib.Core.Path.{◌≡◌, refl, sym}
use mathlib.Core.Bool.{true, false, ◌||◌, false≢true}
use mathlib.Core.List.{List}
use Prim.Native.Nat.{ℕ, ◌≤◌, ◌<◌}
use Rattle.std.specs.Prelude.{Option, Some, None, is_some}
use lib.IntN.{negsuc}
use lib.Dec.{eqb}
use lib.ListN.{length}
use borrow.Author.Tests.{le-leb, lt-leb}
use Rattle.bits.specs.Bits.{has}
use Rattle.bits.specs.Programs.{RunResult, eq_z}
use Rattle.bits.specs.Runs.{Runs, position_of, reader_at}
use Rattle.bits.specs.declared.reader.Reader.{Reader}
use Rattle.header.specs.declared.sequences.Size.{Size}
use Rattle.header.specs.declared.sequences.Rest.{Rest}
use Rattle.header.specs.Sequences.{size, rest}
use Rattle.decoder.specs.declared.record.Decoder.{Decoder}
use Rattle.decoder.specs.Record.{position, start_code, store_bytes}
use Rattle.decoder.specs.Headers.{refused, passed, with_size_read, accepted, find_sequence, check_size, check_header, check_store}
use Rattle.decoder.specs.declared.headers.CheckResult as Code
use Rattle.decoder.specs.declared.headers.HeaderRefusal.{HeaderRefusal}
use Rattle.decoder.specs.declared.headers.HeaderRefusal.TheVariants.{SmallStore}
use Rattle.decoder.specs.Fit.{Fit}
use Rattle.decoder.specs.Checking.{refusal_number, RefinesCheckStore}

abbrev pub ending : {A : Type 0} → A → ℕ → RunResult A
ending v e = record { value = v; at = e }

-- RULES Q5
module _ {s : List ℕ} (d : Decoder) {z : Size} {from : Reader} (r : Runs size s (reader_at (position d)) z from) where
  pub size-no : (eqb z.width 0 || eqb z.height 0) ≡ true → refused 5 (with_size_read (ending z (position_of from)) d) ≡ check_size s d
  unfolding check_size
  size-no h = rw (r.is, h)

  pub size-yes : {v : Rest} {to : Reader} → (eqb z.width 0 || eqb z.height 0) ≡ false → Runs rest s from v to
      → passed (accepted (ending v (position_of to)) (with_size_read (ending z (position_of from)) d)) ≡ check_size s d
  unfolding check_size
  size-yes h q = rw (r.is, h, q.is)

-- RULES Q3, Q4
module _ (s : List ℕ) (d : Decoder) {x : Decoder} (e : x ≡ find_sequence s d) where
  pub header-3 : eq_z (start_code x) (negsuc 0) ≡ true → refused 3 x ≡ check_header s d
  unfolding check_header
  header-3 h = rw (← e, h)

  module _ (g : eq_z (start_code x) (negsuc 0) ≡ false) where
    pub header-4 : has s (position x) 1088 ≡ false → refused 4 x ≡ check_header s d
    unfolding check_header
    header-4 h = rw (← e, g, h)

    pub header-5 : has s (position x) 1088 ≡ true → check_size s x ≡ check_header s d
    unfolding check_header
    header-5 h = rw (← e, g, h)

-- RULES Q6
module _ (d : Decoder) (l : List ℕ) (x : Decoder) where
  pub room-told : (n : ℕ) → refused n x ≡ check_store d l (refused n x)
  unfolding check_store
  room-told n = refl

  pub room-yes : store_bytes x ≤ length l → passed x ≡ check_store d l (passed x)
  unfolding check_store
  room-yes h = rw (le-leb _ _ h)

  pub room-no : length l < store_bytes x → refused 6 d ≡ check_store d l (passed x)
  unfolding check_store
  room-no h = rw (lt-leb _ _ h)

-- the question, as the code asks it
module _ (d : Decoder) {room : ℕ} where
  pub store-told : (b : Code.CheckResult) → is_some b.refusal ≡ true → RefinesCheckStore d room b b
  store-told b h = go b.refusal h
    where
      go : (r : Option HeaderRefusal) → is_some r ≡ true → RefinesCheckStore d room (record b { refusal = r }) (record b { refusal = r })
      go None h = absurd (false≢true h)
      go (Some r) h = record { is = λ l e. room-told d l b.decoder (refusal_number r); fit = λ e. absurd (cc); enough = λ e. absurd (cc) }

  pub store-asked : (b : Code.CheckResult) → Fit b.decoder → is_some b.refusal ≡ false → store_bytes b.decoder ≤ room → RefinesCheckStore d room b b
  store-asked b k h m = go b.refusal h
    where
      go : (r : Option HeaderRefusal) → is_some r ≡ false → RefinesCheckStore d room (record b { refusal = r }) (record b { refusal = r })
      go None h = record { is = λ l e. room-yes d l b.decoder (rw e m); fit = λ e. k; enough = λ e. m }
      go (Some r) h = absurd (false≢true (sym h))

  pub store-refused : (b : Code.CheckResult) → is_some b.refusal ≡ false → room < store_bytes b.decoder
      → RefinesCheckStore d room b (record { decoder = d; refusal = Some SmallStore })
  store-refused b h m = go b.refusal h
    where
      go : (r : Option HeaderRefusal) → is_some r ≡ false
          → RefinesCheckStore d room (record b { refusal = r }) (record { decoder = d; refusal = Some SmallStore })
      go None h = record { is = λ l e. room-no d l b.decoder (rw e m); fit = λ e. absurd (cc); enough = λ e. absurd (cc) }
      go (Some r) h = absurd (false≢true (sym h))
