-- 2.4.1, 2.4.4: the pictures that a conforming sequence shows are those of the order of display that demands states of coded pictures. Assumes nothing.
use mathlib.Core.Path.{◌≡◌, refl, sym, ap, ◌∙◌}
use mathlib.Core.Bool.{Bool, true, false, cond, ◌||◌}
use mathlib.Core.List.{List, [], ◌∷◌, ◌++◌, map}
use Prim.Native.Nat.{ℕ}
use borrow.Author.Tests.{eqb-true}
use lib.Dec.{eqb}
use Rattle.picture_state.specs.declared.types.{Sizes.Sizes, Matrices.Matrices}
use Rattle.picture_state.specs.Result.{ok}
use Rattle.standard.specs.Standard.{Decoded}
use Rattle.standard.proofs.Related.{Rule}
use Rattle.demands.specs.Display as R
use Rattle.demands.specs.Display.{CodedPicture, samples_of}
use Rattle.sequence.specs.Sequence.{SequenceState, pictures}
use Rattle.sequence.specs.Display.{displayed, all_but_last, shown, store_of}
use Rattle.sequence.proofs.Pictures.{inverted}

-- the samples of a picture of n macroblocks
abbrev pub samples : ℕ → Decoded → List ℕ
samples n d = samples_of n (store_of d) d.pels

abbrev pub coded : ℕ → Decoded → CodedPicture
coded n d = record { is_b = eqb d.header.picture_coding_type 3; decoded = true; samples = samples n d }

abbrev behind : ℕ → Decoded → List Decoded → List (List ℕ)
behind n w ds = R.displayed (samples n w ∷ []) (map (coded n) ds)

-- while w waits
waits-same : (n : ℕ) (w : Decoded) (ds : List Decoded) → behind n w ds ≡ map (samples n) (displayed w ds)
unfolding R.displayed
waits-same n w [] = refl
waits-same n w (d ∷ ds) = go (eqb d.header.picture_coding_type 3) (waits-same n w ds) (waits-same n d ds)
  where
    go : (t : Bool) → behind n w ds ≡ map (samples n) (displayed w ds) → behind n d ds ≡ map (samples n) (displayed d ds)
        → cond t (samples n d ∷ behind n w ds) ((samples n w ∷ []) ++ behind n d ds) ≡ map (samples n) (cond t (d ∷ displayed w ds) (w ∷ displayed d ds))
    go true p q = ap (λ (z : List (List ℕ)). samples n d ∷ z) p
    go false p q = ap (λ (z : List (List ℕ)). samples n w ∷ z) q

module _ (rule : Rule) (s : List ℕ) (z : Sizes) (m : Matrices) where
  -- from the first on, which is an I picture
  pub shown-same : (n : ℕ) (x : SequenceState) (a : ℕ) (ds : List Decoded) → x.has_reference_frame ≡ false → pictures rule.rules z m s n x a ≡ ok ds
      → R.displayed [] (map (coded z.mb_size) (all_but_last ds)) ≡ map (samples z.mb_size) (shown (all_but_last ds))
  unfolding R.displayed
  shown-same n x a [] held h = refl
  shown-same n x a (c ∷ []) held h = refl
  shown-same n x a (c ∷ c' ∷ cs) held h =
      let q = inverted rule s z m n x a c (c' ∷ cs) h in
      let type : c.header.picture_coding_type ≡ 1 = eqb-true c.header.picture_coding_type 1
      (ap (λ (t : Bool). t || eqb c.header.picture_coding_type 1) (sym held) ∙ q.may) in
      let rest = behind z.mb_size c (all_but_last (c' ∷ cs)) in
      let first : List (List ℕ) = samples z.mb_size c ∷ R.displayed [] (map (coded z.mb_size) (all_but_last (c' ∷ cs))) in
      ap (λ (k : ℕ). cond (eqb k 3) first rest) type ∙ waits-same z.mb_size c (all_but_last (c' ∷ cs))
