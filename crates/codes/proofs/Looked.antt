-- Coefficient and increment codes by look-up: one computed test for each table, that its entries are what the walk does with eight bits; what its entry
-- says of a code at every place; and the reading. Assumes nothing.
use mathlib.Core.Path.{◌≡◌, refl}
use mathlib.Core.Bool.{Bool, true, false, true≢false, ◌||◌}
use mathlib.Core.List.{List, map}
use Prim.Native.Nat.{ℕ, zero, suc, ◌+◌, ◌*◌, ◌/◌, ◌%◌, ◌<◌, ◌≤◌}
use native.Mathlib.Omega.{arith}
use borrow.Author.Tests.{le-ltb, ltb-true}
use lib.Dec.{T, eqb, ltb, eqb→eq}
use lib.ListN.{length, get_or, take, drop}
use lib.IntN.{ℤ, pos}
use Rattle.bits.proofs.Bits.{bits_lt}
use Rattle.bits.proofs.Rules.{r-done, f-on, f-end, reading}
use Rattle.bits.specs.Runs.{ReaderInBounds, RunsInBounds, position_of, advanced_by}
use Rattle.bits.specs.declared.reader.Reader.{Reader}
use Rattle.codes.specs.Codes.{macroblock_address_increment, dct_coeff}
use Rattle.codes.specs.DecodingTables.{DecodingTables, IsMergedTable}
use Rattle.codes.proofs.Led.{Same, led-ends, look-agrees, look-further}
use Rattle.codes.proofs.Parts.{Natural, places, natural-here}
use Rattle.code_lookup.specs.ByteTables.{dct_coeff_lookup, macroblock_address_increment_lookup}
use Rattle.laws.proofs.Tables.{every, at}
use Rattle.bits.specs.Bits.{bit_at, bits_at, read_at, after_read}
use Rattle.bits.specs.Programs.{Prog, done, run, bind}
use Rattle.codes.specs.ByteLookup.{ByteWalk, ends, unfinished, walked_from, walk_byte, lookup_entry, looked_up}
use Rattle.codes.specs.Tables.{macroblock_address_increment_index, macroblock_address_increment_value, dct_coeff_index, dct_coeff_value}
use Rattle.codes.specs.Walk.{walk_step, vlc_from}

-- ---- the tests

module _ (ix : List ℤ) (vs : List ℕ) where
  abbrev is : ℕ → ℕ → Bool
  is x e = eqb e (looked_up ix vs x)

  of_test : (l : List ℕ) → T (every is 0 l) → (x : ℕ) → x < length l → get_or l x 0 ≡ looked_up ix vs x
  of_test l t x h = eqb→eq (get_or l x 0) (looked_up ix vs x) (at is l 0 t x h)

pub coefficient-looked : (x : ℕ) → x < 256 → get_or dct_coeff_lookup x 0 ≡ looked_up dct_coeff_index dct_coeff_value x
unfolding dct_coeff_lookup dct_coeff_index dct_coeff_value looked_up walk_byte walked_from walk_step run bind read_at after_read bits_at bit_at
coefficient-looked x h = of_test dct_coeff_index dct_coeff_value dct_coeff_lookup tt x h

pub increment-looked : (x : ℕ) → x < 256
    → get_or macroblock_address_increment_lookup x 0 ≡ looked_up macroblock_address_increment_index macroblock_address_increment_value x
unfolding macroblock_address_increment_lookup macroblock_address_increment_index macroblock_address_increment_value looked_up walk_byte walked_from
    walk_step run bind
    read_at
    after_read bits_at bit_at
increment-looked x h = of_test macroblock_address_increment_index macroblock_address_increment_value macroblock_address_increment_lookup tt x h

-- ---- what an entry says

-- at the place a, where the next eight bits are x and their entry is e
pub record Agrees (index : List ℤ) (value : List ℕ) (code : Prog ℕ) (s : List ℕ) (a x e : ℕ) : Type 0 where
  -- they end the code: value, end, and that no bit was refused, are what e says
  pub ends : 0 < e → Same s code a (done (e / 16)) (a + e % 16)
  -- or they lead to a pair of entries, and the code is the walk from there on, behind them
  pub leads : e ≡ 0 → (i : ℕ) × (walk_byte index x ≡ unfinished i)
  pub longer : (i : ℕ) → walk_byte index x ≡ unfinished i → Same s code a (vlc_from index value 0 i) (a + 8)

-- in every table whose entries are what the walk does
module _ {b n : ℕ} {index : List ℤ} {value : List ℕ} {code : Prog ℕ} (p : Natural b n index value code) (eight : List ℕ)
    (entries : (x : ℕ) → x < 256 → get_or eight x 0 ≡ looked_up index value x) where
  agrees : (s : List ℕ) (a : ℕ) → a / 8 + 2 ≤ length s → {x e : ℕ} → x ≡ bits_at s a 8 → e ≡ get_or eight x 0 → Agrees index value code s a x e
  unfolding looked_up
  agrees s a two ax ae =
      let there : a + 8 ≤ length s * 8 = omega arith in
      rw (ae, ax, entries (bits_at s a 8) (bits_lt s a 8), ← p.walks) (record {
        ends = look-agrees index p.good s a there value;
        leads = go (walk_byte index (bits_at s a 8)) (λ k m q. (led-ends index p.good s a there k m q).1);
        longer = look-further index p.good s a there value;
      })
    where
      go : (w : ByteWalk) → ((k m : ℕ) → w ≡ ends k m → 0 < m) → lookup_entry value w ≡ 0 → (i : ℕ) × (w ≡ unfinished i)
      go (ends k m) h e = let no : ⊥ = omega (arith, h k m refl) in absurd no
      go (unfinished i) h e = (i, refl)

-- the two tables
pub coefficient-agrees : (s : List ℕ) (a : ℕ) → a / 8 + 2 ≤ length s → {x e : ℕ} → x ≡ bits_at s a 8 → e ≡ get_or dct_coeff_lookup x 0
    → Agrees dct_coeff_index dct_coeff_value dct_coeff s a x e
coefficient-agrees = agrees places.coefficient dct_coeff_lookup coefficient-looked

pub increment-agrees : (s : List ℕ) (a : ℕ) → a / 8 + 2 ≤ length s → {x e : ℕ} → x ≡ bits_at s a 8 → e ≡ get_or macroblock_address_increment_lookup x 0
    → Agrees macroblock_address_increment_index macroblock_address_increment_value macroblock_address_increment s a x e
increment-agrees = agrees places.increment macroblock_address_increment_lookup increment-looked

-- ---- longer codes: the pairs from which the walk goes on, and that every other number ends it

-- from m on no entry is 0
module _ (m : ℕ) where
  abbrev ended : ℕ → ℕ → Bool
  ended x e = ltb x m || ltb 0 e

  no_zero : (l : List ℕ) → T (every ended 0 l) → (x : ℕ) → x < length l → m ≤ x → 0 < get_or l x 0
  no_zero l t x h k = ltb-true _ _ (by (ltb x m) (ltb 0 (get_or l x 0)) (le-ltb x m k) (at ended l 0 t x h))
    where
      by : (b c : Bool) → b ≡ false → T (b || c) → c ≡ true
      by true c e u = absurd (true≢false e)
      by false true e u = refl
      by false false e u = elim u [ ]

pub coefficient-further : (x : ℕ) → x < 4 → walk_byte dct_coeff_index x ≡ unfinished (54 + 2 * x)
unfolding dct_coeff_index walk_byte walked_from walk_step run bind read_at after_read bits_at bit_at
coefficient-further zero h = refl
coefficient-further (suc zero) h = refl
coefficient-further (suc (suc zero)) h = refl
coefficient-further (suc (suc (suc zero))) h = refl
coefficient-further (suc (suc (suc (suc x)))) h = absurd (omega arith)

pub coefficient-ends : (x : ℕ) → x < 256 → 4 ≤ x → 0 < get_or dct_coeff_lookup x 0
unfolding dct_coeff_lookup
coefficient-ends x l h = no_zero 4 dct_coeff_lookup tt x l h

pub increment-one : walk_byte macroblock_address_increment_index 1 ≡ unfinished 40
unfolding macroblock_address_increment_index walk_byte walked_from walk_step run bind read_at after_read bits_at bit_at
increment-one = refl

pub increment-further : (x : ℕ) → 2 < x → x < 6 → walk_byte macroblock_address_increment_index x ≡ unfinished (36 + 2 * x)
unfolding macroblock_address_increment_index walk_byte walked_from walk_step run bind read_at after_read bits_at bit_at
increment-further zero h k = absurd (omega arith)
increment-further (suc zero) h k = absurd (omega arith)
increment-further (suc (suc zero)) h k = absurd (omega arith)
increment-further (suc (suc (suc zero))) h k = refl
increment-further (suc (suc (suc (suc zero)))) h k = refl
increment-further (suc (suc (suc (suc (suc zero))))) h k = refl
increment-further (suc (suc (suc (suc (suc (suc x)))))) h k = absurd (omega arith)

pub increment-ends : (x : ℕ) → x < 256 → (x ≡ 1 → ⊥) → (2 < x → 6 ≤ x) → 0 < get_or macroblock_address_increment_lookup x 0
unfolding macroblock_address_increment_lookup
increment-ends zero l h k = omega arith
increment-ends (suc zero) l h k = absurd (h refl)
increment-ends (suc (suc zero)) l h k = omega arith
increment-ends (suc (suc (suc x))) l h k = no_zero 6 macroblock_address_increment_lookup tt (suc (suc (suc x))) l (k (omega arith))

-- ---- a code read by look-up

pub below : (s : List ℕ) (a : ℕ) {x : ℕ} → x ≡ bits_at s a 8 → x < 256
below s a e = omega (arith, bits_lt s a 8)

module _ {index : List ℤ} {value : List ℕ} {code : Prog ℕ} {s : List ℕ} {from : Reader} {x e : ℕ} (i : ReaderInBounds s from)
    (g : Agrees index value code s (position_of from) x e) where
  -- out of the table
  pub looked-code : {v : ℕ} {to : Reader} → 0 < e → v ≡ e / 16 → to ≡ advanced_by (e % 16) from → RunsInBounds code s from v to
  looked-code h q r = reading i (rw q (f-end (f-on (e % 16) r (g.ends h).runs) r-done))

  module _ {a n : ℕ} (p : Natural a n index value code) {t : List ℕ} (l : DecodingTables t) where
    -- longer than eight bits: walked on from the pair to which these lead
    pub further-code : {k v : ℕ} {mid to : Reader} → mid ≡ advanced_by 8 from
        → ((ix : List ℤ) (vs : List ℕ) → IsMergedTable ix (map pos vs) (take n (drop a t)) → RunsInBounds (vlc_from ix vs 0 k) s mid v to) → walk_byte index x
        ≡ unfinished k
        → RunsInBounds code s from v to
    further-code {k} m r q = reading i (f-end (f-on 8 m (g.longer k q).runs) (r index value (natural-here l p)).runs)
