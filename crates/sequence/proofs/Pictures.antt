-- 2.4.2.2: the standard's run, taken apart at its first picture. Assumes nothing.
use mathlib.Core.Path.{◌≡◌, refl, sym, ap, ◌∙◌, subst}
use mathlib.Core.Bool.{Bool, true, false, cond, ◌||◌, true≢false, false≢true}
use mathlib.Core.List.{List, [], ◌∷◌}
use Prim.Native.Nat.{ℕ, zero, suc}
use lib.Dec.{eqb}
use lib.IntN.{pos}
use Rattle.bits.specs.Bits.{Found}
use Rattle.bits.specs.Programs.{RunResult, run}
use Rattle.picture_state.specs.declared.types.{Sizes.Sizes, Matrices.Matrices}
use Rattle.picture_state.specs.Result.{Result, ok, error, and_then}
use Rattle.standard.specs.Standard.Prelude.{Forbidden}
use Rattle.standard.specs.Standard.Prelude.{conforms, forbidden}
use Rattle.standard.specs.Standard as S
use Rattle.standard.proofs.Related.{Rule}
use Rattle.sequence.specs.Sequence.{following, SequenceState, state_after_decoded, state_after_picture, is_last, ended, at_end, pictures}

also-on : {A B : Type 0} (w : Result Forbidden A) (k : A → Result Forbidden B) {y : B} → and_then w k ≡ ok y → (x : A) × (w ≡ ok x) × (k x ≡ ok y)
unfolding and_then
also-on (ok x) k e = (x, refl, e)
also-on (error d) k e = absurd (false≢true (ap conforms e))

abbrev list_of : Result Forbidden (List S.Decoded) → List S.Decoded
list_of (ok ds) = ds
list_of (error d) = []

abbrev head_of : S.Decoded → List S.Decoded → S.Decoded
head_of d [] = d
head_of d (c ∷ cs) = c

abbrev tail_of : List S.Decoded → List S.Decoded
tail_of [] = []
tail_of (c ∷ cs) = cs

abbrev is_empty : List S.Decoded → Bool
is_empty [] = true
is_empty (c ∷ cs) = false

same_head : {d c : S.Decoded} {ds cs : List S.Decoded} → ◌≡◌ {A = Result Forbidden (List S.Decoded)} (ok (d ∷ ds)) (ok (c ∷ cs)) → d ≡ c
same_head {d} h = ap (λ (w : Result Forbidden (List S.Decoded)). head_of d (list_of w)) h

same_tail : {d c : S.Decoded} {ds cs : List S.Decoded} → ◌≡◌ {A = Result Forbidden (List S.Decoded)} (ok (d ∷ ds)) (ok (c ∷ cs)) → ds ≡ cs
same_tail h = ap (λ (w : Result Forbidden (List S.Decoded)). tail_of (list_of w)) h

some : {X : Type 0} {d : S.Decoded} {ds : List S.Decoded} → ◌≡◌ {A = Result Forbidden (List S.Decoded)} (ok (d ∷ ds)) (ok []) → X
some h = absurd (false≢true (ap (λ (w : Result Forbidden (List S.Decoded)). is_empty (list_of w)) h))

abbrev pub coded : Rule → List ℕ → Sizes → Matrices → SequenceState → ℕ → RunResult (Result Forbidden S.Decoded)
coded rule s z m x a = run (S.picture rule.rules z m x.stores x.forward x.backward x.pels) s a

-- what a picture is read in that has these behind it
abbrev pub stream_before : List ℕ → List S.Decoded → List ℕ
stream_before s [] = ended s
stream_before s (c ∷ cs) = s

module _ (rule : Rule) (s : List ℕ) (z : Sizes) (m : Matrices) where
  -- the run goes on to the pictures behind, if there are any
  abbrev GoesOn : ℕ → SequenceState → ℕ → List S.Decoded → Type 0
  GoesOn n x a [] = Unit {0}
  GoesOn n x a (c ∷ cs) = pictures rule.rules z m s n x a ≡ ok (c ∷ cs)

  -- a picture c, and those behind it
  pub record Begun (x : SequenceState) (a : ℕ) (c : S.Decoded) (cs : List S.Decoded) : Type 0 where
    pub fuel : ℕ
    pub f : Found
    pub following : following (pos 0) m s a ≡ ok f
    pub last : is_last s f.at ≡ is_empty cs
    pub value : (coded rule (stream_before s cs) z m x f.at).value ≡ ok c
    pub may : (x.has_reference_frame || eqb c.header.picture_coding_type 1) ≡ true
    pub rest : GoesOn fuel (state_after_decoded x c) (coded rule s z m x f.at).at cs

  -- from the picture's start code on
  abbrev from : ℕ → SequenceState → Found → Bool → Result Forbidden (List S.Decoded)
  from n x f last =
      let t = cond last (ended s) s in
      let o = coded rule t z m x f.at in
      and_then o.value
      (λ d. and_then (state_after_picture x d)
      (λ y. cond last (at_end m t o.at d) (and_then (pictures rule.rules z m s n y o.at) (λ ds. ok (d ∷ ds)))))

  may_be : (x : SequenceState) (d : S.Decoded) {y : SequenceState} → state_after_picture x d ≡ ok y
      → ((x.has_reference_frame || eqb d.header.picture_coding_type 1) ≡ true) × (y ≡ state_after_decoded x d)
  may_be x d h = go (x.has_reference_frame || eqb d.header.picture_coding_type 1) h
    where
      state_of : Result Forbidden SequenceState → SequenceState
      state_of (ok y) = y
      state_of (error e) = x

      go : {y : SequenceState} (t : Bool) → cond t (ok (state_after_decoded x d)) forbidden ≡ ok y → (t ≡ true) × (y ≡ state_after_decoded x d)
      go true h = (refl, sym (ap state_of h))
      go false h = absurd (false≢true (ap conforms h))

  -- there is a picture
  from_some : {X : Type 0} (n : ℕ) (x : SequenceState) (f : Found) (last : Bool) → from n x f last ≡ ok [] → X
  from_some n x f last h =
      let u = also-on (coded rule (cond last (ended s) s) z m x f.at).value _ h in
      let v = also-on (state_after_picture x u.0) _ u.2 in
      go last u.0 v.0 v.2
    where
      go : {X : Type 0} (t : Bool) (d : S.Decoded) (y : SequenceState)
          → cond t (at_end m (cond last (ended s) s) (coded rule (cond last (ended s) s) z m x f.at).at d)
          (and_then (pictures rule.rules z m s n y (coded rule (cond last (ended s) s) z m x f.at).at) (λ ds. ok (d ∷ ds))) ≡ ok [] → X
      go true d y h = some (also-on (following (pos 0xb7) m (cond last (ended s) s) (coded rule (cond last (ended s) s) z m x f.at).at) _ h).2
      go false d y h = some (also-on (pictures rule.rules z m s n y (coded rule (cond last (ended s) s) z m x f.at).at) _ h).2

  pub no-pictures : {X : Type 0} (n : ℕ) (x : SequenceState) (a : ℕ) → pictures rule.rules z m s n x a ≡ ok [] → X
  unfolding pictures
  no-pictures zero x a h = absurd (false≢true (ap conforms h))
  no-pictures (suc n) x a h =
      let p = also-on (following (pos 0) m s a) _ h in
      from_some n x p.0 (is_last s p.0.at) p.2

  pub inverted : (n : ℕ) (x : SequenceState) (a : ℕ) (c : S.Decoded) (cs : List S.Decoded) → pictures rule.rules z m s n x a ≡ ok (c ∷ cs) → Begun x a c cs
  unfolding pictures
  inverted zero x a c cs h = absurd (false≢true (ap conforms h))
  inverted (suc n) x a c cs h =
      let p = also-on (following (pos 0) m s a) _ h in
      go p.0 p.1 (is_last s p.0.at) refl p.2
    where
      -- where the pictures cs were read behind d
      more : (f : Found) → following (pos 0) m s a ≡ ok f → is_last s f.at ≡ false → (d : S.Decoded) → (coded rule s z m x f.at).value ≡ ok d
          → (x.has_reference_frame || eqb d.header.picture_coding_type 1) ≡ true → (ds : List S.Decoded)
          → pictures rule.rules z m s n (state_after_decoded x d) (coded rule s z m x f.at).at ≡ ok ds → Begun x a d ds
      more f q l d v t [] r = no-pictures n (state_after_decoded x d) (coded rule s z m x f.at).at r
      more f q l d v t (e ∷ es) r = record { fuel = n; f = f; following = q; last = l; value = v; may = t; rest = r }

      go : (f : Found) → following (pos 0) m s a ≡ ok f → (t : Bool) → is_last s f.at ≡ t → from n x f t ≡ ok (c ∷ cs) → Begun x a c cs
      go f q true l h =
          let u = also-on (coded rule (ended s) z m x f.at).value _ h in
          let v = also-on (state_after_picture x u.0) _ u.2 in
          let w = also-on (following (pos 0xb7) m (ended s) (coded rule (ended s) z m x f.at).at) _ v.2 in
          subst (λ (c : S.Decoded). Begun x a c cs) (same_head w.2) (subst (Begun x a u.0) (same_tail w.2) (
          record { fuel = n; f = f; following = q; last = l; value = u.1; may = (may_be x u.0 v.1).0; rest = tt }))
      go f q false l h =
          let u = also-on (coded rule s z m x f.at).value _ h in
          let v = also-on (state_after_picture x u.0) _ u.2 in
          let w = also-on (pictures rule.rules z m s n v.0 (coded rule s z m x f.at).at) _ v.2 in
          let b = may_be x u.0 v.1 in
          subst (λ (c : S.Decoded). Begun x a c cs) (same_head w.2) (subst (Begun x a u.0) (same_tail w.2) (
          more f q l u.0 u.1 b.0 w.0
          (ap (λ (y : SequenceState). pictures rule.rules z m s n y (coded rule s z m x f.at).at) (sym b.1) ∙ w.1)))
