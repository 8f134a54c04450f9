-- A turn on a picture of a conforming sequence: the last one, one that is held, one that hands out. Assumes RULES Q1.
use mathlib.Core.Path.{◌≡◌, refl, sym, ap, ◌∙◌}
use mathlib.Core.Bool.{Bool, true, false, cond, not, ◌||◌}
use mathlib.Core.List.{List, [], ◌∷◌}
use Prim.Native.Nat.{ℕ, ◌*◌, ◌≤◌}
use native.Mathlib.Omega.{arith}
use borrow.Author.Tests.{eqb-true, lt-leb}
use lib.Dec.{eqb}
use lib.IntN.{ℤ, negsuc}
use lib.ListN.{length}
use Rattle.laws.specs.Loops.{Step, continue, finish}
use Rattle.bits.specs.Bounds.{longest_stream}
use Rattle.bits.specs.Programs.{eq_z, stream_fuel}
use Rattle.bits.proofs.Programs.{run_on}
use Rattle.picture_state.specs.declared.types.{Stores.Stores, Sizes.Sizes, Matrices.Matrices}
use Rattle.standard.specs.Standard as S
use Rattle.standard.proofs.Related.{Rule}
use Rattle.standard.proofs.Picture.{RefinesDecoded}
use Rattle.playback.specs.declared.outcome.Outcome.TheVariants as H
use Rattle.playback.specs.declared.state.State.{State}
use Rattle.playback.specs.State as States
use Rattle.playback.specs.State.{shown_picture, state_after_picture, has_reference_frame_as}
use Rattle.playback.specs.Search.{has_ended, is_followed}
use Rattle.playback.specs.Display.{counted}
use Rattle.playback.specs.Steps.{DecodingState, with_state, LoopEnd, finished, picture_step}
use Rattle.playback.specs.Cases.{is_b, state_left_by}
use Rattle.playback.proofs.Cases.{step-b, step-held, step-holds}
use Rattle.sequence.specs.Sequence.{SequenceState, state_after_decoded}
use Rattle.sequence.specs.Display as D
use Rattle.sequence.proofs.Searches.{Next, following-finds}
use Rattle.sequence.proofs.Steps.{Waiting, found, next-is, last, Picture, read}
use Rattle.sequence.proofs.Pictures.{coded, Begun}
use Rattle.sequence.proofs.Stores.{Sound, Waits, store-next, still-holds, waits-on, waits_now}

module _ (rule : Rule) (s : List ℕ) (long : length s ≤ longest_stream) (z : Sizes) (m : Matrices) where
  -- RULES 8.3: another picture follows
  followed : (x : SequenceState) (a : ℕ) (c e : S.Decoded) (es : List S.Decoded) (q : Begun rule s z m x a c (e ∷ es)) → is_followed s q.f.at ≡ true
  unfolding is_followed
  followed x a c e es q = ap (λ (b : Bool). not b || has_ended s q.f.at) q.last

  -- and none behind the last
  not-followed : (x : SequenceState) (a : ℕ) (c : S.Decoded) (q : Begun rule s z m x a c []) → is_followed s q.f.at ≡ false
  unfolding is_followed
  not-followed x a c q = rw q.last (lt-leb (length s * 8) q.f.at (following-finds m s a q.f q.following).inside)

  pub last_step : (x : SequenceState) (a : ℕ) (y : DecodingState) (w : Waiting x a y) (c : S.Decoded) (q : Begun rule s z m x a c [])
      → picture_step s z m y
      ≡ finish (finished (H.Refused 7) (with_state (found rule s long z m x a y w q.f (following-finds m s a q.f q.following)) y))
  last_step x a y w c q = last rule s long z m x a y w q.f (following-finds m s a q.f q.following) (not-followed x a c q)

  module _ (x : SequenceState) (a : ℕ) (y : DecodingState) (w : Waiting x a y) (c e' : S.Decoded) (es : List S.Decoded)
      (q : Begun rule s z m x a c (e' ∷ es)) (area : z.mb_size ≡ z.mb_width * z.mb_height) (sound : Sound z.mb_size x) where
    abbrev pub after : ℕ
    after = (coded rule s z m x q.f.at).at

    abbrev next : Next s stream_fuel a q.f
    next = following-finds m s a q.f q.following

    -- the state behind the search, and the picture as ours reads it
    abbrev here : State
    here = found rule s long z m x a y w q.f next

    abbrev ours : Picture rule s long z m x a y w q.f next c q.value
    ours = read rule s long z m x a y w q.f next c q.value

    abbrev r : RefinesDecoded c ours.picture_state
    r = ours.result

    -- the state behind the picture
    abbrev past : State
    past = state_after_picture ours.picture_state after here

    abbrev is_bthere : Bool
    is_bthere = eqb c.header.picture_coding_type 3

    is-b : {t : Bool} → is_bthere ≡ t → is_b ours.picture_state ≡ t
    is-b e = ap (λ (k : ℕ). eqb k 3) r.type ∙ e

    -- what a turn leaves that has read it
    waiting-after : (h : Bool) → (state_after_decoded x c).has_reference_frame ≡ h → (v : State) → States.position v ≡ after → v.picture
        ≡ ours.picture_state.picture → States.has_reference_frame v ≡ h
        → Waiting (state_after_decoded x c) after (state_left_by ours.picture_state v)
    waiting-after h e v at p k = record {
      position = at;
      code = rw p r.code;
      stores = rw p r.stores;
      begun = rw p r.begun;
      left = r.left;
      has_reference_frame = k ∙ sym e;
      pels = r.pels;
    }

    -- it hands out a picture: where `old` waits, a B picture itself, else `old`
    pub record Handing (old : S.Decoded) : Type 0 where
      pub picture : S.Decoded
      pub next : S.Decoded
      pub left : DecodingState
      pub step : picture_step s z m y ≡ finish (finished (H.Picture (shown_picture (D.store_of picture) left.state)) left)
      pub pels : left.store ≡ c.pels
      pub holds : D.StoreHolds z.mb_size c.pels picture
      pub order : (ds : List S.Decoded) → D.displayed old (c ∷ ds) ≡ picture ∷ D.displayed next ds
      pub waits : Waits z.mb_size next (state_after_decoded x c)
      pub waiting : Waiting (state_after_decoded x c) after left
      pub has_reference_frame : (state_after_decoded x c).has_reference_frame ≡ true

    pub handing : x.has_reference_frame ≡ true → (old : S.Decoded) → Waits z.mb_size old x → Handing old
    unfolding counted
    handing h old k = go is_bthere refl
      where
        v : State
        v = counted past

        hand : ℕ → Step DecodingState LoopEnd
        hand k = finish (finished (H.Picture (shown_picture k v)) (state_left_by ours.picture_state v))

        go : (t : Bool) → is_bthere ≡ t → Handing old
        go true e =
            let kept : (state_after_decoded x c).has_reference_frame ≡ true = ap (λ (t : Bool). cond t x.has_reference_frame true) e ∙ h in
            let store : ours.picture_state.picture.stores.cur ≡ D.store_of c = ap (λ (t : Stores). t.cur) r.stores
            ∙ ap (λ (t : Bool). cond t c.stores.cur c.stores.bwd) (sym e) in
            record {
              picture = c;
              next = old;
              left = state_left_by ours.picture_state v;
              step = step-b s z m y here (next-is rule s long z m x a y w q.f next) (followed x a c e' es q) ours.reads (is-b e) ∙ ap hand store;
              pels = r.pels;
              holds = λ i j. refl;
              order = λ ds. ap (λ (t : Bool). cond t (c ∷ D.displayed old ds) (old ∷ D.displayed c ds)) e;
              waits = waits-on rule s z m area x a c (e' ∷ es) q sound old k e;
              waiting = waiting-after true kept v refl refl (w.has_reference_frame ∙ h);
              has_reference_frame = kept;
            }
        go false e =
            let kept : (state_after_decoded x c).has_reference_frame ≡ true = ap (λ (t : Bool). cond t x.has_reference_frame true) e in
            let store : ours.picture_state.picture.stores.fwd ≡ D.store_of old = ap (λ (t : Stores). t.fwd) r.stores
            ∙ store-next rule s z m area x a c (e' ∷ es) q sound old k e in
            record {
              picture = old;
              next = c;
              left = state_left_by ours.picture_state v;
              step = step-held s z m y here (next-is rule s long z m x a y w q.f next) (followed x a c e' es q) ours.reads (is-b e)
                  (w.has_reference_frame ∙ h)
                  ∙ ap hand store;
              pels = r.pels;
              holds = still-holds rule s z m area x a c (e' ∷ es) q sound old k;
              order = λ ds. ap (λ (t : Bool). cond t (c ∷ D.displayed old ds) (old ∷ D.displayed c ds)) e;
              waits = waits_now rule s z m area x a c (e' ∷ es) q sound e;
              waiting = waiting-after true kept v refl refl (w.has_reference_frame ∙ h);
              has_reference_frame = kept;
            }

    -- the first one is held
    pub record Holding : Type 0 where
      pub left : DecodingState
      pub step : picture_step s z m y ≡ continue left
      pub waits : Waits z.mb_size c (state_after_decoded x c)
      pub waiting : Waiting (state_after_decoded x c) after left
      pub has_reference_frame : (state_after_decoded x c).has_reference_frame ≡ true

    pub holding : x.has_reference_frame ≡ false → Holding
    holding h = record {
      left = state_left_by ours.picture_state (has_reference_frame_as true past);
      step = step-holds s z m y here (next-is rule s long z m x a y w q.f next) (followed x a c e' es q) ours.reads (is-b no) (w.has_reference_frame ∙ h);
      waits = waits_now rule s z m area x a c (e' ∷ es) q sound no;
      waiting = waiting-after true held (has_reference_frame_as true past) refl refl refl;
      has_reference_frame = held;
    }
      where
        -- it is an I picture
        no : is_bthere ≡ false
        no =
            ap (λ (k : ℕ). eqb k 3)
            (eqb-true c.header.picture_coding_type 1 (ap (λ (t : Bool). t || eqb c.header.picture_coding_type 1) (sym h) ∙ q.may))

        held : (state_after_decoded x c).has_reference_frame ≡ true
        held = ap (λ (t : Bool). cond t x.has_reference_frame true) no
