-- The answers of the conversion. Assumes nothing.
use mathlib.Core.Path.{◌≡◌}
use mathlib.Core.Bool.{true, false, ◌&&◌}
use mathlib.Core.List.{List}
use Prim.Native.Nat.{ℕ, ◌≤◌, ◌<◌}
use borrow.Author.Tests.{le-leb, lt-leb}
use lib.Dec.{leb}
use lib.ListN.{length}
use Rattle.argb.specs.Scaled.{scaled}
use Rattle.conversion.specs.HasHeader.{HasHeader}
use Rattle.conversion.specs.Pictures.{picture_in, fits}
use Rattle.conversion.proofs.Planes.{headed-by}
use Rattle.decoder.specs.declared.record.Decoder.{Decoder}
use Rattle.decoder.specs.declared.answers.Converted.TheVariants.{Written, Refused}
use Rattle.decoder.specs.Record.{store_bytes}
use Rattle.decoder.specs.Possible.{possible}
use Rattle.decoder.specs.Conversion.{area, converted}
use Rattle.decoder.proofs.Fits.{possible-parts}

pub headed : (d : Decoder) → possible d ≡ true → d.sequence.has_sequence_header ≡ true → HasHeader d.sequence
headed d e t = headed-by d.sequence (possible-parts d e).sequence t

-- RULES Q: the answers, in the order of the questions
module _ (d : Decoder) (l : List ℕ) (k : ℕ) (a : List ℕ) (w h : ℕ) where
  pub convert-2 : possible d ≡ false → area (Refused 2) a ≡ converted d l k a w h
  unfolding converted
  convert-2 e = rw e

  module _ (p : possible d ≡ true) where
    pub convert-6 : length l < store_bytes d → area (Refused 6) a ≡ converted d l k a w h
    unfolding converted
    convert-6 e = rw (p, lt-leb _ _ e)

    module _ (q : store_bytes d ≤ length l) where
      pub convert-10 : (d.sequence.has_sequence_header && leb k 2) ≡ false → area (Refused 10) a ≡ converted d l k a w h
      unfolding converted
      convert-10 e = rw (p, le-leb _ _ q, e)

      module _ (r : (d.sequence.has_sequence_header && leb k 2) ≡ true) where
        pub convert-11 : fits w h a ≡ false → area (Refused 11) a ≡ converted d l k a w h
        unfolding converted
        convert-11 e = rw (p, le-leb _ _ q, r, e)

        pub convert-yes : fits w h a ≡ true → {m : List ℕ} → m ≡ scaled (picture_in d.sequence l k) w h a → area Written m ≡ converted d l k a w h
        unfolding converted
        convert-yes e x = rw (p, le-leb _ _ q, r, e, x)
