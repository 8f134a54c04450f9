-- The parts of the tables that are lent. Assumes nothing.
use mathlib.Core.Path.{◌≡◌, refl, ap, sym, ◌∙◌}
use mathlib.Core.Bool.{Bool, cond}
use mathlib.Core.List.{List, [], ◌∷◌, map}
use Prim.Native.Nat.{ℕ, zero, suc, ◌+◌, ◌%◌, ◌≤◌, ◌<◌}
use native.Mathlib.Omega.{arith}
use lib.Dec.{T, leb, leb→le}
use lib.IntN.{ℤ, pos, nat_abs}
use lib.ListN.{length, get_or, take, drop}
use lib.Seq.{take-take, get_or-take, get_or-drop}
use Rattle.bits.specs.Programs.{Prog}
use Rattle.bits.specs.Runs.{Runs, RunsInBounds}
use Rattle.bits.proofs.Rules.{r-call, r-done}
use Rattle.bits.specs.declared.reader.Reader.{Reader}
use Rattle.codes.specs.Codes.{macroblock_address_increment, macroblock_type_intra, macroblock_type_predictive, macroblock_type_b}
use Rattle.codes.specs.Codes.{code_block_pattern, dct_size_luminance, dct_size_chrominance, dct_coeff}
use Rattle.codes.specs.DecodingTables.{DecodingTables, IsMergedTable, ValidMergedTable, biased_value, merged_table, indices, all, abs_below256, is_table_value}
use Rattle.codes.specs.DecodingTables.{macroblock_codes, block_codes, fixed_tables, matrix_of}
use Rattle.codes.specs.Matrices.{zig_zag, down_from, diagonals, premultiplier_matrix}
use Rattle.codes.specs.Tables.{macroblock_address_increment_index, macroblock_address_increment_value, macroblock_type_intra_index, macroblock_type_intra_value}
use Rattle.codes.specs.Tables.{macroblock_type_predictive_index, macroblock_type_predictive_value, macroblock_type_b_index, macroblock_type_b_value}
use Rattle.codes.specs.Tables.{code_block_pattern_index, code_block_pattern_value, motion_index, motion_value}
use Rattle.codes.specs.Tables.{dct_size_luminance_index, dct_size_luminance_value, dct_size_chrominance_index, dct_size_chrominance_value, dct_coeff_index}
use Rattle.codes.specs.Tables.{dct_coeff_value}
use Rattle.codes.specs.TableRule.{ValidIndices}
use Rattle.codes.proofs.Good.{good-macroblock-address-increment, good-macroblock-type_intra, good-macroblock-type_predictive, good-macroblock-type-b}
use Rattle.codes.proofs.Good.{good-code-block-pattern, good_dct-size-luminance, good_dct-size-chrominance, good_dct_coeff}
use Rattle.codes.proofs.Joined.{short-at, natural-back, walk-joined, ends-joined, joined_leading}
use Rattle.codes.proofs.Lists.{map_at}
use Rattle.codes.specs.Walk.{walk_from, vlc_from, vlc}
use Rattle.codes.specs.DecodingTables.{intra_matrix_at, non_intra_matrix_at, tables_length}

-- ---- lists

-- a part that ends before the place m
part-front : {A : Type 0} (a n m : ℕ) (l : List A) → a + n ≤ m → take n (drop a (take m l)) ≡ take n (drop a l)
part-front zero n m l h = take-take n m l (omega arith)
part-front (suc a) n zero l h = let no : ⊥ = omega arith in absurd no
part-front (suc a) n (suc m) [] h = refl
part-front (suc a) n (suc m) (x ∷ l) h = part-front a n m l (omega arith)

pub part_at : {A : Type 0} (a n i : ℕ) (l : List A) (d : A) → i < n → get_or (take n (drop a l)) i d ≡ get_or l (a + i) d
part_at a n i l d h = get_or-take n (drop a l) i d h ∙ get_or-drop a l i d

-- ---- natural numbers

-- at the end of the walk from the pair i on a natural value is read
pub natural-runs : {ix : List ℤ} (vs : List ℕ) {t : List ℕ} → IsMergedTable ix (map pos vs) t → (i : ℕ) {s : List ℕ} {from to : Reader} {k : ℕ}
    → Runs (walk_from (indices t) i) s from k to
    → k < length t → 256 ≤ get_or t k 0 → Runs (vlc_from ix vs 0 i) s from ((get_or t k 0 + 64512) % 65536) to
natural-runs vs j i {k = k} r h l =
    let n = get_or vs k 0 in
    let is : get_or (map pos vs) k (pos 0) ≡ pos n = map_at pos vs 0 k in
    let most = rw is at (short-at (map pos vs) j.values k).most in
    rw (ap (λ (m : ℕ). (m + 64512) % 65536) (ends-joined j k h l ∙ ap biased_value is) ∙ natural-back n (omega arith))
    (r-call _ (rw (walk-joined j i) at r) r-done)

-- ---- parts of the tables

-- a code whose table, of n entries at the place a, has natural values
pub record Natural (a n : ℕ) (index : List ℤ) (value : List ℕ) (code : Prog ℕ) : Type 0 where
  pub inside : T (leb (a + n) intra_matrix_at)
  pub part : take n (drop a fixed_tables) ≡ merged_table index (map pos value)
  pub places : T (all abs_below256 index)
  pub values : T (all is_table_value (map pos value))
  pub good : ValidIndices index
  pub walks : vlc index value 0 ≡ code

-- where each table stands
pub record Places : Type 0 where
  pub increment : Natural 0 80 macroblock_address_increment_index macroblock_address_increment_value macroblock_address_increment
  pub type_intra : Natural 80 4 macroblock_type_intra_index macroblock_type_intra_value macroblock_type_intra
  pub type_predictive : Natural 84 14 macroblock_type_predictive_index macroblock_type_predictive_value macroblock_type_predictive
  pub type-b : Natural 98 22 macroblock_type_b_index macroblock_type_b_value macroblock_type_b
  pub pattern : Natural 120 126 code_block_pattern_index code_block_pattern_value code_block_pattern
  pub vector : take 68 (drop 246 fixed_tables) ≡ merged_table motion_index motion_value
  pub luminance : Natural 314 18 dct_size_luminance_index dct_size_luminance_value dct_size_luminance
  pub chrominance : Natural 332 18 dct_size_chrominance_index dct_size_chrominance_value dct_size_chrominance
  pub coefficient : Natural 350 224 dct_coeff_index dct_coeff_value dct_coeff
  pub order : take 64 (drop 574 fixed_tables) ≡ zig_zag
  pub premultipliers : take 64 (drop 638 fixed_tables) ≡ map nat_abs premultiplier_matrix

pub places : Places
unfolding fixed_tables macroblock_codes block_codes
    macroblock_address_increment_index macroblock_address_increment_value macroblock_type_intra_index macroblock_type_intra_value
    macroblock_type_predictive_index macroblock_type_predictive_value macroblock_type_b_index macroblock_type_b_value code_block_pattern_index
    code_block_pattern_value
    motion_index motion_value dct_size_luminance_index dct_size_luminance_value dct_size_chrominance_index dct_size_chrominance_value dct_coeff_index
    dct_coeff_value
    zig_zag down_from diagonals premultiplier_matrix macroblock_address_increment macroblock_type_intra macroblock_type_predictive macroblock_type_b
    code_block_pattern
    dct_size_luminance dct_size_chrominance dct_coeff
places =
    record {
      increment = record { inside = tt; part = refl; places = tt; values = tt; good = good-macroblock-address-increment; walks = refl };
      type_intra = record { inside = tt; part = refl; places = tt; values = tt; good = good-macroblock-type_intra; walks = refl };
      type_predictive = record { inside = tt; part = refl; places = tt; values = tt; good = good-macroblock-type_predictive; walks = refl };
      type-b = record { inside = tt; part = refl; places = tt; values = tt; good = good-macroblock-type-b; walks = refl };
      pattern = record { inside = tt; part = refl; places = tt; values = tt; good = good-code-block-pattern; walks = refl };
      vector = refl;
      luminance = record { inside = tt; part = refl; places = tt; values = tt; good = good_dct-size-luminance; walks = refl };
      chrominance = record { inside = tt; part = refl; places = tt; values = tt; good = good_dct-size-chrominance; walks = refl };
      coefficient = record { inside = tt; part = refl; places = tt; values = tt; good = good_dct_coeff; walks = refl };
      order = refl;
      premultipliers = refl;
    }

module _ {t : List ℕ} (l : DecodingTables t) where
  -- a part of the fixed tables, xs
  pub lent-part : (a n : ℕ) {xs : List ℕ} → a + n ≤ intra_matrix_at → take n (drop a fixed_tables) ≡ xs → take n (drop a t) ≡ xs
  lent-part a n h e = sym (part-front a n intra_matrix_at t h) ∙ ap (λ (x : List ℕ). take n (drop a x)) l.fixed ∙ e

  pub lent_at : (a n i : ℕ) {xs : List ℕ} → a + n ≤ intra_matrix_at → i < n → take n (drop a fixed_tables) ≡ xs → get_or t (a + i) 0 ≡ get_or xs i 0
  lent_at a n i h k e = sym (part_at a n i t 0 k) ∙ ap (λ (x : List ℕ). get_or x i 0) (lent-part a n h e)

  module _ {a n : ℕ} {index : List ℤ} {value : List ℕ} {code : Prog ℕ} (p : Natural a n index value code) where
    pub natural-here : IsMergedTable index (map pos value) (take n (drop a t))
    natural-here = record { is = lent-part a n (leb→le (a + n) intra_matrix_at p.inside) p.part; places = p.places; values = p.values }

    -- its code, by the part and by the definition
    pub natural-code : {s : List ℕ} {from to : Reader} {v : ℕ}
        → ((ix : List ℤ) (vs : List ℕ) → IsMergedTable ix (map pos vs) (take n (drop a t)) → RunsInBounds (vlc ix vs 0) s from v to)
        → RunsInBounds code s from v to
    natural-code r = rw p.walks at (r index value natural-here)

    -- what `read_natural` asks of its places and of the part there
    pub natural-table : ((a ≤ a + n) × (a + n ≤ tables_length)) × ValidMergedTable (take n (drop a t))
    natural-table =
        let most = leb→le (a + n) intra_matrix_at p.inside in
        ((omega arith, omega arith), joined_leading natural-here p.good)

-- an entry of the matrices
pub matrix-at : (t : List ℕ) (intra : Bool) (i : ℕ) → i < 64 → get_or (matrix_of t intra) i 0 ≡ get_or t (cond intra intra_matrix_at non_intra_matrix_at + i) 0
unfolding matrix_of
matrix-at t intra i h = part_at (cond intra intra_matrix_at non_intra_matrix_at) 64 i t 0 h

-- the zig-zag order and the premultipliers
pub position_at : {t : List ℕ} → DecodingTables t → (n : ℕ) → n < 64 → get_or t (574 + n) 0 ≡ get_or zig_zag n 0
position_at l n h = lent_at l 574 64 n (omega arith) h places.order

pub premultiplier-at : {t : List ℕ} → DecodingTables t → (n : ℕ) → n < 64 → get_or t (638 + n) 0 ≡ nat_abs (get_or premultiplier_matrix n (pos 0))
premultiplier-at l n h = lent_at l 638 64 n (omega arith) h places.premultipliers ∙ map_at nat_abs premultiplier_matrix (pos 0) n
