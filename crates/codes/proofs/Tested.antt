-- A code table that passes the test agrees with the printed codes: one law for all tables. Assumes nothing.
use mathlib.Core.Path.{◌≡◌, refl, ap, sym, ◌∙◌, fun_ext}
use mathlib.Core.Bool.{Bool, ◌&&◌}
use mathlib.Core.List.{List}
use mathlib.Core.Logic.{⊎_elim}
use Prim.Native.Nat.{ℕ, ◌+◌, ◌*◌, ◌≤◌}
use native.Mathlib.Numerals.{add-one}
use native.Mathlib.Omega.{arith}
use lib.Dec.{T}
use lib.ListN.{length, get_or}
use lib.IntN.{ℤ, pos}
use mir.Facts.{and_yes}
use Rattle.bits.specs.Bits.{bits_at}
use Rattle.bits.specs.Runs.{RunsAt}
use Rattle.bits.proofs.Rules.{at_same, at_as}
use Rattle.codes.specs.Walk.{walk, vlc}
use Rattle.codes.specs.Standard.{Code, ◌∈◌, CodeWordAt, Begins, IsCodePrefix, taken}
use Rattle.codes.proofs.Agreement.{Agrees}
use Rattle.codes.proofs.Begins.{begins-whole, padded-bits, padded-front}
use Rattle.codes.proofs.Follow.{Bits, follow, stream_bits, past-bits, end, walk_end, vlc-end}
use Rattle.codes.proofs.Tree.{narrow, narrow-word, matches, zeros, passes, Fits, fits}

module _ {A : Type 0} (eq : A → A → Bool) (eq_yes : (x y : A) → T (eq x y) → x ≡ y) (ix : List ℤ) (vs : List A) (d idle : A) (codes : List (Code A))
    (t : T (passes eq ix vs d idle codes)) where
  record Passed : Type 0 where
    words : T (narrow codes)
    tree : T (matches eq ix vs d codes)
    stream_end : zeros ix vs d ≡ idle

  passed : Passed
  passed =
      let u = and_yes (narrow codes) (matches eq ix vs d codes && eq (zeros ix vs d) idle) t in
      let v = and_yes (matches eq ix vs d codes) (eq (zeros ix vs d) idle) u.1 in
      record { words = u.0; tree = v.0; stream_end = eq_yes (zeros ix vs d) idle v.1 }

  along : {f : ℕ → ℕ} → Bits f → Fits ix vs d f codes (follow ix f (length ix) 0 0)
  along b = fits eq ix vs d eq_yes b codes passed.words passed.tree

  module _ (s : List ℕ) (a : ℕ) where
    here : Fits ix vs d (bits_at s a) codes (end ix s a)
    here = along (stream_bits s a)

    reads : (c : Code A) → c ∈ codes → CodeWordAt c s a → RunsAt (vlc ix vs d) s a c.value (taken s a c.bits)
    reads c m h =
        ⊎_elim
        (λ v.
        let e : v.code ≡ c = sym (v.single c m h) in
        at_as (vlc-end ix s a vs d) (sym v.value ∙ ap (λ (x : Code A). x.value) e)
        (ap (taken s a) (sym v.bits ∙ ap (λ (x : Code A). x.bits) e)))
        (λ v. absurd (v.no_code c m h))
        here

    only : (k e : ℕ) → RunsAt (walk ix) s a k e → get_or ix k (pos 0) ≡ pos 0
        → (c : Code A) × (c ∈ codes) × CodeWordAt c s a × (c.value ≡ get_or vs k d) × (taken s a c.bits ≡ e)
    only k e r z =
        let same = at_same r (walk_end ix s a) in
        ⊎_elim
        (λ v. (
          v.code,
          v.printed,
          ap (bits_at s a) v.bits ∙ v.word,
          v.value ∙ ap (λ (j : ℕ). get_or vs j d) (sym same.0),
          ap (taken s a) v.bits ∙ sym same.1,
        ))
        (λ v. absurd (v.index (ap (λ (j : ℕ). get_or ix j (pos 0)) (sym same.0) ∙ z)))
        here

    none : ((c : Code A) → c ∈ codes → CodeWordAt c s a → ⊥)
        → (n : ℕ) × IsCodePrefix codes n (bits_at s a n) × (IsCodePrefix codes (n + 1) (bits_at s a (n + 1)) → ⊥)
        × RunsAt (vlc ix vs d) s a d (taken s a (n + 1))
    none h =
        ⊎_elim
        (λ v. absurd (h v.code v.printed (ap (bits_at s a) v.bits ∙ v.word)))
        (λ v. (
          v.before,
          v.possible,
          λ p. v.impossible (rw add-one at p),
          at_as (vlc-end ix s a vs d) v.value (ap (taken s a) (v.bits ∙ sym (add-one v.before))),
        ))
        here

    past_end : length s * 8 ≤ a → RunsAt (vlc ix vs d) s a idle a
    past_end h =
        let e = ap (λ (f : ℕ → ℕ). get_or vs (follow ix f (length ix) 0 0).position d) (fun_ext (λ n. past-bits s a n h)) in
        at_as (vlc-end ix s a vs d) (e ∙ passed.stream_end) (omega arith)

  -- both codes lead to where the longer one does
  prefix_free : (c e : Code A) → c ∈ codes → e ∈ codes → Begins e c.bits c.word → c ≡ e
  prefix_free c e m l b =
      ⊎_elim
      (λ v. v.single c m (padded-front e b) ∙ sym (v.single e l (padded-front e (begins-whole e refl))))
      (λ v. absurd (v.no_code c m (padded-front e b)))
      (along (padded-bits e (narrow-word codes passed.words e l)))

  pub agrees-of : Agrees ix vs d idle codes
  agrees-of = record { reads = λ c m s a h. reads s a c m h; only = only; none = none; prefix_free = prefix_free; past_end = past_end }
