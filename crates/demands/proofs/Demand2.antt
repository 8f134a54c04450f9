-- RULES D2.1 to D2.4: demand 2, of what the calls gave. Each theorem is of any call: by its contract it gave r, and nothing else is assumed.
-- That the definitions are the Rust's is tested, not proved.
use mathlib.Core.Path.{◌≡◌, refl, sym, ap, ap₂, subst, ◌∙◌}
use mathlib.Core.Bool.{Bool, true, false, ◌&&◌}
use mathlib.Core.List.{List, [], ◌∷◌}
use mathlib.Core.Logic.{◌⊎◌, ⊎_elim}
use Prim.Native.Nat.{ℕ, ◌+◌, ◌*◌, ◌/◌, ◌<◌, ◌≤◌}
use native.Mathlib.Nat.{zero-mul, mul-zero}
use native.Mathlib.Omega.{arith}
use lib.Dec.{leb}
use lib.ListN.{length, get_or}
use borrow.Author.Tests.{leb-true, le-leb, lt-leb}
use Rattle.argb.specs.Pixel.{argb}
use Rattle.argb.specs.Scaled.{pixel_at, scaled}
use Rattle.argb.proofs.Pointwise.{scaled-inside, scaled-outside, scaled-none}
use Rattle.laws.proofs.Lists.{length-row}
use Rattle.laws.proofs.Tests.{each}
use Rattle.conversion.specs.Pictures.{picture_in, fits}
use Rattle.decoder.specs.declared.record.Decoder.{Decoder}
use Rattle.decoder.specs.declared.answers.{Opening.Opening, DecodeResult.DecodeResult, Converted.Converted}
use Rattle.decoder.specs.declared.answers.Opening.TheVariants as O
use Rattle.decoder.specs.declared.answers.Opened as D
use Rattle.playback.specs.declared.outcome.{Shown.Shown, Outcome.Outcome}
use Rattle.playback.specs.declared.outcome.Outcome.TheVariants as H
use Rattle.decoder.specs.declared.answers.Converted.TheVariants as C
use Rattle.decoder.specs.Record.{CallResult, call_result, fresh, store_bytes}
use Rattle.decoder.specs.Possible.{possible}
use Rattle.decoder.specs.Opening.{opening}
use Rattle.decoder.specs.Decode.{decode}
use Rattle.decoder.specs.Conversion.{ConversionOutput}
use Rattle.decoder.specs.Answers.{opening_error_code, decode_error_code, conversion_error_code}
use Rattle.decoder.specs.Calls.{Opens, Decodes, Converts}
use Rattle.demands.specs.Checks.{check, first_failing, this-one, with_header, with_header_if_missing, opening_checks, decode_checks, conversion_checks}
use Rattle.demands.specs.Stores.{SameFrom}
use Rattle.demands.specs.Outputs.{OpeningLeaves, DecodeOutputs}
use Rattle.demands.proofs.After.{opening-ready, decode-outputs, decode-keeps-rest, cleared-same}
use Rattle.demands.proofs.ErrorCodes.{opening-positive, positive, conversion-positive, conversion-written}
use Rattle.demands.proofs.OneResult.{ready-one, output-one}
use Rattle.demands.proofs.Demand1 as D1
use Rattle.demands.proofs.Reached.{same_from}
use Rattle.bits.specs.Bounds.{longest_stream}

-- ---- open

module _ (s l : List ℕ) (r : D.Opened) (m : List ℕ) (gave : Opens s l r m) where
  -- D2.1: ready exactly where no question is answered "no"; the record with the header, the store cleared
  pub open-ready : first_failing (opening_checks s l) ≡ 0 → r.answer ≡ O.Ready
  open-ready e = go r.answer refl (D1.open-number s l r m gave ∙ e)
    where
      go : (o : Opening) → r.answer ≡ o → opening_error_code o ≡ 0 → o ≡ O.Ready
      go O.Ready q z = refl
      go (O.Refused n) q z = let p = opening-positive n (D1.open_named s l r m gave n q) in let no : ⊥ = omega arith in absurd no

  pub open-no-question : r.answer ≡ O.Ready → first_failing (opening_checks s l) ≡ 0
  open-no-question e = sym (D1.open-number s l r m gave) ∙ ap opening_error_code e

  pub open-opened : r.answer ≡ O.Ready → OpeningLeaves s l r.decoder m
  open-opened e = subst (λ (x : CallResult Opening). x.answer ≡ O.Ready → OpeningLeaves s l x.decoder x.store) (sym gave) (opening-ready s l) e

  -- D2.3: bytes beyond 1,152 × macroblocks stay, whatever the answer
  pub open-same : SameFrom (store_bytes (with_header s fresh)) l m
  open-same = go r.answer refl
    where
      go : (o : Opening) → r.answer ≡ o → SameFrom (store_bytes (with_header s fresh)) l m
      go O.Ready q =
          let k = open-opened q in
          subst (λ (x : Decoder). SameFrom (store_bytes x) l m) k.decoder
          (subst (SameFrom (store_bytes r.decoder) l) (sym k.store) (cleared-same fresh s l (store_bytes r.decoder) k.long))
      go (O.Refused n) q = subst (SameFrom (store_bytes (with_header s fresh)) l) (sym (D1.open-store s l r m gave n q)) same_from

  -- D2.4
  pub open_too-long : longest_stream < length s → r.answer ≡ O.Refused 1
  open_too-long h = D1.open-says s l r m gave 1 (omega arith) (this-one refl (lt-leb (length s) longest_stream h))

-- D2.1, the other way: what is stated of an opening that is ready is what `open` gives
pub open-ready-only : (s l : List ℕ) (x : Decoder) (m : List ℕ) → first_failing (opening_checks s l) ≡ 0 → OpeningLeaves s l x m
    → Opens s l (record { decoder = x; answer = O.Ready }) m
open-ready-only s l x m p a =
    let o = opening s l in
    let e : o.answer ≡ O.Ready = open-ready s l (record { decoder = o.decoder; answer = o.answer }) o.store refl p in
    let k = ready-one a (opening-ready s l e) in
    ap₂ (λ (y : Decoder) (k : List ℕ). call_result O.Ready y k) k.0 k.1 ∙ ap (λ (v : Opening). call_result v o.decoder o.store) (sym e)

-- ---- decode

module _ (d : Decoder) (s l : List ℕ) (r : DecodeResult) (m : List ℕ) (gave : Decodes d s l r m) where
  -- D2.1: a picture exactly where no question is answered "no"; its store and time, the record and the stores
  pub decode-no-question : (i : Shown) → r.outcome ≡ H.Picture i → first_failing (decode_checks d s l) ≡ 0
  decode-no-question i e = sym (D1.decode-number d s l r m gave) ∙ ap decode_error_code e

  pub decode-picture : first_failing (decode_checks d s l) ≡ 0 → (n : ℕ) → r.outcome ≡ H.Refused n → ⊥
  decode-picture e n q =
      let p = positive n (D1.decode_named d s l r m gave n q) in
      let z : n ≡ 0 = ap decode_error_code (sym q) ∙ D1.decode-number d s l r m gave ∙ e in omega arith

  pub decode-hands-out : (i : Shown) → r.outcome ≡ H.Picture i → DecodeOutputs d s l i r.decoder m
  decode-hands-out i e = subst (λ (x : CallResult Outcome). x.answer ≡ H.Picture i → DecodeOutputs d s l i x.decoder x.store) (sym gave)
      (decode-outputs d s l i) e

  -- D2.3: bytes beyond 1,152 × macroblocks of the header, accepted in this call or earlier, stay, whatever the answer
  pub decode-same : SameFrom (store_bytes (with_header_if_missing s d)) l m
  decode-same = subst (λ (x : CallResult Outcome). SameFrom (store_bytes (with_header_if_missing s d)) l x.store) (sym gave) (decode-keeps-rest d s l)

  -- D2.4: for 8 and 9 see `decode-says`, `decode-8`, `decode-9` in Demand1.antt
  pub decode_too-long : longest_stream < length s → r.outcome ≡ H.Refused 1
  unfolding decode_checks
  decode_too-long h = D1.decode-says d s l r m gave 1 (omega arith) (this-one refl (lt-leb (length s) longest_stream h))

-- D2.1, the other way: what is stated of a picture is what `decode` gives
pub decode-picture-only : (d : Decoder) (s l : List ℕ) (i : Shown) (x : Decoder) (m : List ℕ) → first_failing (decode_checks d s l) ≡ 0
    → DecodeOutputs d s l i x m → Decodes d s l (record { decoder = x; outcome = H.Picture i }) m
decode-picture-only d s l i x m p a = go o.answer refl
  where
    o : CallResult Outcome
    o = decode d s l

    go : (v : Outcome) → o.answer ≡ v → call_result (H.Picture i) x m ≡ decode d s l
    go (H.Picture j) e =
        let k = output-one a (decode-outputs d s l j e) in
        ap (λ (u : Shown). call_result (H.Picture u) x m) k.0
        ∙ ap₂ (λ (y : Decoder) (k : List ℕ). call_result (H.Picture j) y k) k.1 k.2
        ∙ ap (λ (v : Outcome). call_result v o.decoder o.store) (sym e)
    go (H.Refused n) e = absurd (decode-picture d s l (record { decoder = o.decoder; outcome = o.answer }) o.store refl p n e)

-- ---- write_rgb_scaled

-- no question of the conversion is answered "no": the last is answered "yes"
all_yes : (p q t f : Bool) → first_failing (check 2 p ∷ check 6 q ∷ check 10 t ∷ check 11 f ∷ []) ≡ 0 → f ≡ true
unfolding first_failing
all_yes true true true true e = refl
all_yes true true true false e = let no : ⊥ = omega arith in absurd no
all_yes true true false f e = let no : ⊥ = omega arith in absurd no
all_yes true false t f e = let no : ⊥ = omega arith in absurd no
all_yes false q t f e = let no : ⊥ = omega arith in absurd no

module _ (d : Decoder) (l : List ℕ) (k : ℕ) (a : List ℕ) (w h : ℕ) (r : Converted) (b : List ℕ) (gave : Converts d l k a w h r b) where
  -- D2.2: written exactly where no question is answered "no"
  pub convert-written : first_failing (conversion_checks d l k a w h) ≡ 0 → r ≡ C.Written
  convert-written e = go r refl (D1.convert_number d l k a w h r b gave ∙ e)
    where
      go : (o : Converted) → r ≡ o → conversion_error_code o ≡ 0 → o ≡ C.Written
      go C.Written q z = refl
      go (C.Refused n) q z = let p = conversion-positive n (D1.convert-left d l k a w h r b gave n q).0 in let no : ⊥ = omega arith in absurd no

  pub convert-no-question : r ≡ C.Written → first_failing (conversion_checks d l k a w h) ≡ 0
  convert-no-question e = sym (D1.convert_number d l k a w h r b gave) ∙ ap conversion_error_code e

  pub convert-area : r ≡ C.Written → b ≡ scaled (picture_in d.sequence l k) w h a
  convert-area e =
      subst (λ (x : ConversionOutput). x.answer ≡ C.Written → x.area ≡ scaled (picture_in d.sequence l k) w h a) (sym gave)
      (conversion-written d l k a w h) e

  -- D2.3: numbers from w × h on stay, whatever the answer
  pub convert-same : SameFrom (w * h) a b
  unfolding scaled
  convert-same = go r refl
    where
      go : (o : Converted) → r ≡ o → SameFrom (w * h) a b
      go C.Written q =
          subst (SameFrom (w * h) a) (sym (convert-area q))
          (record { long = length-row a 0 (pixel_at (picture_in d.sequence l k) w h) (w * h); same = scaled-outside (picture_in d.sequence l k) w h a })
      go (C.Refused n) q = subst (SameFrom (w * h) a) (sym (D1.convert-left d l k a w h r b gave n q).1) same_from

  -- D2.2, pixel by pixel: RULES 9.1 to 9.3
  pub convert-pixel : r ≡ C.Written → (x y : ℕ) → x < w → y < h
      → let p = picture_in d.sequence l k in
      let sx = x * p.width / w in
      let sy = y * p.height / h in
      let c = sy / 2 * (p.luma_width / 2) + sx / 2 in
      get_or b (y * w + x) 0 ≡ argb (get_or p.y (sy * p.luma_width + sx) 0) (get_or p.cr c 0) (get_or p.cb c 0)
  convert-pixel e x y p q =
      let f = each (leb w 4096) (leb h 4096 ∷ leb (w * h) (length a) ∷ [])
      (all_yes (possible d) (leb (store_bytes d) (length l)) (d.sequence.has_sequence_header && leb k 2) (fits w h a) (convert-no-question e)) 2 in
      ap (λ (z : List ℕ). get_or z (y * w + x) 0) (convert-area e)
      ∙ scaled-inside (picture_in d.sequence l k) w h a (leb-true (w * h) (length a) f) x y p q

  -- QE: a size of 0 succeeds and writes nothing, whatever the area's length
  pub convert-nothing : possible d ≡ true → store_bytes d ≤ length l → d.sequence.has_sequence_header ≡ true → k ≤ 2 → w ≤ 4096 → h ≤ 4096
      → (w ≡ 0) ⊎ (h ≡ 0) → (r ≡ C.Written) × (b ≡ a)
  unfolding first_failing
  convert-nothing p q e f u v z =
      let none : w * h ≡ 0 = ⊎_elim (λ g. ap (λ (n : ℕ). n * h) g ∙ zero-mul h) (λ g. ap (λ (n : ℕ). w * n) g ∙ mul-zero w) z in
      let fit : leb (w * h) (length a) ≡ true = le-leb (w * h) (length a) (omega arith) in
      let i = convert-written (rw (p, le-leb (store_bytes d) (length l) q, e, le-leb k 2 f, le-leb w 4096 u, le-leb h 4096 v, fit)) in
      (i, convert-area i ∙ scaled-none (picture_in d.sequence l k) w h a z)
