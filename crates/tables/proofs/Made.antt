-- The tables that are made of the constant arrays, and that they are what is lent. Assumes nothing.
use mathlib.Core.Path.{◌≡◌, refl, ap, ap₂, sym, ◌∙◌}
use mathlib.Core.Bool.{Bool, true, false, cond}
use mathlib.Core.List.{List, [], ◌∷◌, ◌++◌, append_assoc, append-nil}
use Prim.Native.Nat.{ℕ, zero, suc, ◌+◌, ◌-◌, ◌%◌, ◌≤◌, ◌<◌}
use native.Mathlib.Numerals.{add-one}
use native.Mathlib.Omega.{arith}
use lib.Dec.{T, ltb, ltb→lt, leb, leb→le}
use lib.IntN.{ℤ, pos, nat_abs, ◌+ℤ◌}
use lib.ListN.{length, get_or, set, take, drop, length-append, length-take, length-drop, drop_of_length-le}
use lib.Seq.{take-append-add, drop-drop, drop-paste, take_at, drop_at}
use lib.Seq.{get_or-append-add, get_or-drop, take_all, take-paste, length-paste, paste-zero, paste-suc, paste}
use lib.Signed.{le_z, non_neg}
use mir.Syntax.{w32}
use mir.Val.{SFits, Fits}
use Rattle.laws.proofs.Ints.{up, dn, v, lit, ◌⊕◌, Dif, back, reread, fits_by, cast-by, cast_is}
use Rattle.laws.proofs.Bytes.{cast_unsigned}
use Rattle.laws.proofs.Nums.{Num, num, rd}
use Rattle.laws.proofs.Tables.{anywhere}
use Rattle.codes.specs.DecodingTables.{biased_value, merged_entry, DecodingTables, macroblock_codes, block_codes, fixed_tables, tables_with, matrix_of}
use Rattle.codes.specs.Matrices.{zig_zag, down_from, diagonals, intra_quant_matrix, non_intra_quant_matrix, premultiplier_matrix}
use Rattle.codes.specs.Tables.{macroblock_address_increment_index, macroblock_address_increment_value, macroblock_type_intra_index, macroblock_type_intra_value}
use Rattle.codes.specs.Tables.{macroblock_type_predictive_index, macroblock_type_predictive_value, macroblock_type_b_index, macroblock_type_b_value}
use Rattle.codes.specs.Tables.{code_block_pattern_index, code_block_pattern_value, motion_index, motion_value}
use Rattle.codes.specs.Tables.{dct_size_luminance_index, dct_size_luminance_value, dct_size_chrominance_index}
use Rattle.codes.specs.Tables.{dct_size_chrominance_value, dct_coeff_index, dct_coeff_value}
use Rattle.codes.proofs.Entries.{above}
use Rattle.codes.proofs.Joined.{Short}
use Rattle.codes.specs.DecodingTables.{intra_matrix_at, non_intra_matrix_at, tables_length}

-- ---- entries as they are laid

-- an index above 0, as the code casts it
module _ (i : ℤ) (h : nat_abs i ≤ 255) where
  pub index_read : Num (reread w32 i) i 255
  index_read = rd w32 (num h) tt

  pub index_is : nat_abs (reread w32 i) ≡ nat_abs i
  index_is = ap nat_abs index_read.is

  pub index_cast : le_z (reread w32 i) (pos 0) ≡ false → let y = reread w32 i in T (non_neg y) × Fits w32 (nat_abs y)
  index_cast e = cast_unsigned (above (reread w32 i) e).0 (omega (arith, index_is))

-- a value, as the code computes what is lent of it
module _ (x : ℤ) (s : Short x) where
  read : Dif (reread w32 x) (up x) (dn x)
  read = back {w = w32} (fits_by (v x) (omega (arith, s.most)) (omega (arith, s.least))) (v x)

  pub raised-fits : SFits w32 (reread w32 x +ℤ pos 1024)
  raised-fits = fits_by (read ⊕ lit 1024) (omega (arith, s.most)) (omega (arith, s.least))

  pub raised_cast : let y = reread w32 (reread w32 x +ℤ pos 1024) in T (non_neg y) × Fits w32 (nat_abs y)
  raised_cast = cast-by (back raised-fits (read ⊕ lit 1024)) (omega (arith, s.least)) (omega (arith, s.most))

  pub raised_is : nat_abs (reread w32 (reread w32 x +ℤ pos 1024)) % 65536 ≡ biased_value x
  raised_is =
      ap (λ (n : ℕ). n % 65536)
      (cast_is (back raised-fits (read ⊕ lit 1024)) (omega (arith, s.least)) ∙ sym (cast_is (v x ⊕ lit 1024) (omega (arith, s.least))))

-- an entry has room in 16 bits
pub entry-most : (i x : ℤ) → nat_abs i ≤ 255 → merged_entry i x ≤ 65535
entry-most i x h = go (le_z i (pos 0))
  where
    go : (b : Bool) → cond b (biased_value x) (nat_abs i) ≤ 65535
    go true = omega arith
    go false = omega arith

-- ---- the tables as they are made

-- n entries of `part` stand at `at`, in a list that was `before`
pub record Pasted (before : List ℕ) (at : ℕ) (part : List ℕ) (n : ℕ) (now : List ℕ) : Type 0 where
  pub most : n ≤ length part
  pub inside : at + length part ≤ length before
  pub long : length now ≡ length before
  pub is : now ≡ paste before at part n

module _ {before : List ℕ} {at : ℕ} {part : List ℕ} where
  pub pasted : {n : ℕ} {now : List ℕ} → n ≤ length part → at + length part ≤ length before → now ≡ paste before at part n → Pasted before at part n now
  pasted {n} l h e = record { most = l; inside = h; long = ap length e ∙ length-paste before at part n (omega arith) l; is = e }

  pub none-pasted : at + length part ≤ length before → Pasted before at part 0 before
  none-pasted h = pasted (omega arith) h (paste-zero before at part)

  -- a loop's turn: one entry more
  pub pasted-on : {n : ℕ} {now : List ℕ} {x : ℕ} → Pasted before at part n now → n < length part → x ≡ get_or part n 0
      → Pasted before at part (n + 1) (set now (at + n) x)
  pasted-on {n} {now} {x} p l e =
      pasted (omega arith) p.inside
      (ap₂ (λ (t : List ℕ) (v : ℕ). set t (at + n) v) p.is e ∙ paste-suc before at part n 0 (omega (arith, p.inside)) l
      ∙ ap (paste before at part) (sym (add-one n)))

-- a loop's turn over the entries of a table from `first` on: entry k
pub pasted-from : {before now : List ℕ} (table : List ℕ) (at first k : ℕ) {x : ℕ} → Pasted before (at + first) (drop first table) (k - first) now → first ≤ k
    → k < length table → x ≡ get_or table k 0 → Pasted before (at + first) (drop first table) (k + 1 - first) (set now (at + k) x)
pasted-from table at first k p f l e =
    let rest = length-drop first table in
    let place : at + first + (k - first) ≡ at + k = omega arith in
    let count : k - first + 1 ≡ k + 1 - first = omega arith in
    let entry : first + (k - first) ≡ k = omega arith in
    rw (place, count) at (pasted-on p (omega arith) (e ∙ rw (get_or-drop first table (k - first) 0, entry)))

-- a table behind another
paste-on : (t a b : List ℕ) (at n m : ℕ) → length a ≡ n → m ≤ length b → at + n + m ≤ length t
    → paste (paste t at a n) (at + n) b m ≡ paste t at (a ++ b) (n + m)
paste-on t a b at n m l k h =
    let front : take n a ≡ a = take_all n a (omega arith) in
    let both : take (n + m) (a ++ b) ≡ a ++ take m b = ap (λ (i : ℕ). take (i + m) (a ++ b)) (sym l) ∙ take-append-add a b m in
    let behind : drop (at + n + m) (paste t at a n) ≡ drop (at + n + m) t =
    sym (drop-drop m (at + n) (paste t at a n)) ∙ ap (drop m) (drop-paste t at a n (omega arith) (omega arith)) ∙ drop-drop m (at + n) t in
    let sum : at + n + m ≡ at + (n + m) = omega arith in
    ap (λ (x : List ℕ). x ++ take m b ++ drop (at + n + m) (paste t at a n)) (take-paste t at a n (omega arith) (omega arith))
    ∙ ap (λ (x : List ℕ). take at t ++ x ++ take m b ++ drop (at + n + m) (paste t at a n)) front
    ∙ ap (λ (x : List ℕ). take at t ++ a ++ take m b ++ x) (behind ∙ ap (λ (i : ℕ). drop i t) sum)
    ∙ ap (λ (x : List ℕ). x ++ drop (at + (n + m)) t) (append_assoc (take at t) a (take m b))
    ∙ ap (λ (x : List ℕ). take at t ++ x ++ drop (at + (n + m)) t) (sym both)

-- all the n entries of `laid` stand at `at`
abbrev pub Laid : List ℕ → ℕ → List ℕ → ℕ → List ℕ → Type 0
Laid before at laid n now = Pasted before at laid n now × (length laid ≡ n)

pub none-laid : (before : List ℕ) (at : ℕ) → at ≤ length before → Laid before at [] 0 before
none-laid before at h = (none-pasted (omega arith), refl)

-- one table more, of m entries, which are k
pub laid_on : {before now after laid : List ℕ} {at n : ℕ} (table : List ℕ) (k : ℕ) {m : ℕ} → length before ≡ tables_length → Laid before at laid n now
    → length table ≡ k → T (leb (at + n + k) tables_length) → m ≡ k
    → after ≡ paste now (at + n) table m → Laid before at (laid ++ table) (n + k) after
laid_on {before} {now} {after} {laid} {at} {n} table k l (p, f) w h q r =
    let most = leb→le (at + n + k) tables_length h in
    let long : length (laid ++ table) ≡ n + k = length-append laid table ∙ rw (f, w) refl in (
      pasted (omega arith) (omega (arith, l, most))
          (r ∙ ap (paste now (at + n) table) q
          ∙ ap (λ (x : List ℕ). paste x (at + n) table k) p.is
          ∙ paste-on before laid table at n k f (omega arith) (omega (arith, l, most))),
      long,
    )

-- a part of a code table more: k entries of it, from `first` on
pub laid-codes : {before now after laid : List ℕ} {at n : ℕ} (table : List ℕ) (first k : ℕ) → length before ≡ tables_length → Laid before at laid n now
    → T (leb (first + k) (length table)) → T (leb (at + n + k) tables_length)
    → after ≡ paste now (at + n) (drop first table) k → Laid before at (laid ++ take k (drop first table)) (n + k) after
laid-codes {now = now} {at = at} {n = n} table first k l f w h r =
    let part = take k (drop first table) in
    let long : length part ≡ k = omega (arith, length-take k (drop first table), length-drop first table, leb→le (first + k) (length table) w) in
    laid_on part k l f long h refl
    (r ∙ ap (λ (x : List ℕ). take (at + n) now ++ x ++ drop (at + n + k) now) (sym (take_all k part (omega arith))))

-- from the first place to the last
pub all_laid : {before now laid : List ℕ} {n : ℕ} → Laid before 0 laid n now → length before ≡ n → now ≡ laid
all_laid {before} {now} {laid} {n} (p, f) h =
    p.is ∙ ap₂ (λ (x : List ℕ) (y : List ℕ). x ++ y) (take_all n laid (omega arith)) (drop_of_length-le before {i = 0 + n} (omega arith)) ∙ append-nil laid

-- ---- what has been made is what is lent

-- matrices of 64 bytes each
pub record Bytes64 (m : List ℕ) : Type 0 where
  pub long : length m ≡ 64
  pub bytes : (k : ℕ) → get_or m k 0 < 256

pub macroblock-codes-length : length macroblock_codes ≡ 246
unfolding macroblock_codes macroblock_address_increment_index macroblock_address_increment_value macroblock_type_intra_index macroblock_type_intra_value
    macroblock_type_predictive_index macroblock_type_predictive_value macroblock_type_b_index macroblock_type_b_value code_block_pattern_index
    code_block_pattern_value
macroblock-codes-length = refl

pub block-codes-length : length block_codes ≡ 456
unfolding block_codes motion_index motion_value dct_size_luminance_index dct_size_luminance_value dct_size_chrominance_index dct_size_chrominance_value
    dct_coeff_index dct_coeff_value zig_zag down_from diagonals premultiplier_matrix
block-codes-length = refl

fixed-length : length fixed_tables ≡ intra_matrix_at
unfolding fixed_tables
fixed-length =
    length-append macroblock_codes block_codes ∙ ap (λ (n : ℕ). n + length block_codes) macroblock-codes-length
    ∙ ap (λ (n : ℕ). 246 + n) block-codes-length

-- bytes, as they stand in the tables
bytes_in : (l m : List ℕ) → ((k : ℕ) → get_or l k 0 < 256) → ((k : ℕ) → get_or m k 0 < 256) → (j : ℕ) → get_or (l ++ m) j 0 < 256
bytes_in [] m f g j = g j
bytes_in (x ∷ l) m f g zero = f 0
bytes_in (x ∷ l) m f g (suc j) = bytes_in l m (λ k. f (suc k)) g j

module _ (intra other : List ℕ) where
  split : tables_with intra other ≡ fixed_tables ++ (intra ++ other)
  split = append_assoc fixed_tables intra other

  behind : (k : ℕ) → intra_matrix_at ≤ k → get_or (fixed_tables ++ (intra ++ other)) k 0 ≡ get_or (intra ++ other) (k - intra_matrix_at) 0
  behind k h =
      let e : k ≡ length fixed_tables + (k - intra_matrix_at) = omega (arith, fixed-length) in
      ap (λ (n : ℕ). get_or (fixed_tables ++ (intra ++ other)) n 0) e ∙ get_or-append-add fixed_tables (intra ++ other) (k - intra_matrix_at) 0

  pub lent_with : Bytes64 intra → Bytes64 other → DecodingTables (tables_with intra other)
  lent_with i o =
      rw split
      (record {
        fixed = take_at fixed_tables (intra ++ other) intra_matrix_at fixed-length;
        bytes = λ k h. rw (behind k h) (bytes_in intra other i.bytes o.bytes (k - intra_matrix_at));
      })

  pub matrix_with : length intra ≡ 64 → length other ≡ 64 → (b : Bool) → matrix_of (tables_with intra other) b ≡ cond b intra other
  unfolding matrix_of
  matrix_with i o true =
      ap (λ (l : List ℕ). take 64 (drop intra_matrix_at l)) split
      ∙ ap (take 64) (drop_at fixed_tables (intra ++ other) intra_matrix_at fixed-length)
      ∙ take_at intra other 64 i
  matrix_with i o false =
      let front : length (fixed_tables ++ intra) ≡ non_intra_matrix_at = omega (arith, length-append fixed_tables intra, fixed-length, i) in
      ap (take 64) (drop_at (fixed_tables ++ intra) other non_intra_matrix_at front) ∙ take_all 64 other (omega (arith, o))

-- RULES 2.7: the default matrices, and the tables with them
pub intra-bytes : Bytes64 intra_quant_matrix
unfolding intra_quant_matrix
intra-bytes = record { long = refl; bytes = λ k. ltb→lt _ 256 (anywhere (λ x. ltb x 256) intra_quant_matrix 0 tt tt k) }

pub non_intra-bytes : Bytes64 non_intra_quant_matrix
unfolding non_intra_quant_matrix
non_intra-bytes = record { long = refl; bytes = λ k. ltb→lt _ 256 (anywhere (λ x. ltb x 256) non_intra_quant_matrix 0 tt tt k) }

pub lent_default : DecodingTables (tables_with intra_quant_matrix non_intra_quant_matrix)
lent_default = lent_with intra_quant_matrix non_intra_quant_matrix intra-bytes non_intra-bytes
